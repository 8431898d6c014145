-- The answers of a query's calls as the model has them.
--     answers a q                 the answer a, and the state q that the call leaves
--     event_told r                the answer r to an event
--     closing_told r places       the answer r of a closing, with the lines in the first of the places that it leaves
--     lines_told r                how many lines it handed out
use Rattle.std.specs.Prelude.{ℕ, List, take, Ok, Err, Result}
use Rattle.refusals.specs.declared.fault.Fault.{Fault}
use Rattle.receipts.specs.declared.line.Line.{Line}
use Rattle.receipts.specs.declared.window.Window.{Window}
use Rattle.receipts.specs.Queries.{QueryState, Answer, accepted, closed, refused, Called}

abbrev pub answers : Answer → QueryState → Called
answers a q = record { answer = a; after = q }

abbrev pub event_told : Result (Unit {0}) Fault → Answer
event_told (Ok x) = accepted
event_told (Err f) = refused f

abbrev pub closing_told : Result Window Fault → List Line → Answer
closing_told (Ok w) places = closed w (take w.lines places)
closing_told (Err f) places = refused f

abbrev pub lines_told : Result Window Fault → ℕ
lines_told (Ok w) = w.lines
lines_told (Err f) = 0
