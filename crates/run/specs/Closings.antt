-- What closings write, and how a run goes on after them.
--     Fits w ls ws                    the places that are written, as w tells, are there in the slices ls and ws
--     Later n old new                 n places are there, and those behind them keep their content
--     Kept w ls ls' ws ws'            so it is with both slices, behind what w tells
--     closing_told_from n r places    the answer r of a closing that wrote its lines from the place n on
--     Grows v w                       what was written stays: no fewer lines and records in w than in v
--     Onward q v ls ws q' w ls' ws'   so a run goes on: the setup of the query q stays, what was written stays, and the places
--                                     behind it keep their content
--     Counts v w r                    a closing wrote one window record, or was refused
--     closed_turn s p blame n x r     the turn after one closing that left the state x, with places for n more window records: it
--                                     closes on, or stops for the refusal
--     all_closed_turn blame x r       the turn after the last closing: it goes on, or stops for the refusal
use Rattle.std.specs.Prelude.{◌≡◌, ℕ, ◌+◌, ◌≤◌, List, length, take, drop, Ok, Err, Result}
use Rattle.refusals.specs.declared.fault.Fault.{Fault}
use Rattle.refusals.specs.declared.refusal.Refusal.{Refusal}
use Rattle.receipts.specs.declared.line.Line.{Line}
use Rattle.receipts.specs.declared.window.Window.{Window}
use Rattle.receipts.specs.Queries.{Setup, Answer, closed, refused}
use Rattle.rows.specs.declared.payload.Payload
use Rattle.stores.specs.declared.store.Store
use Rattle.query.specs.declared.engine.Query.{Query}
use Rattle.query.specs.Queries.{setup}
use Rattle.run_laws.specs.Runs.{Places, RunState, Turn, goes_on, stops, closings}
use Rattle.run.specs.declared.closing.Written.{Written}

abbrev pub Fits : Written → List Line → List Window → Type 0
Fits w ls ws = (w.lines ≤ length ls) × (w.windows ≤ length ws)

abbrev pub Later : {X : Type 0} → ℕ → List X → List X → Type 0
Later n old new = (n ≤ length old) × (drop n new ≡ drop n old)

abbrev pub Kept : Written → List Line → List Line → List Window → List Window → Type 0
Kept w ls ls' ws ws' = Later w.lines ls ls' × Later w.windows ws ws'

abbrev pub closing_told_from : ℕ → Result Window Fault → List Line → Answer
closing_told_from from (Ok w) places = closed w (take w.lines (drop from places))
closing_told_from from (Err f) places = refused f

abbrev pub Grows : Written → Written → Type 0
Grows v w = (v.lines ≤ w.lines) × (v.windows ≤ w.windows)

abbrev pub Onward : {L R S T : Type 0} {l : Payload.Ghosts L} {r : Payload.Ghosts R} {s : Store.Ghosts S} {t : Store.Ghosts T} →
    Query L R S T l r s t → Written → List Line → List Window → Query L R S T l r s t → Written → List Line → List Window → Type 0
Onward q v ls ws q' w ls' ws' = (setup q' ≡ setup q) × Grows v w × Kept w ls ls' ws ws'

abbrev pub Counts : Written → Written → Result (Unit {0}) Refusal → Type 0
Counts v w (Ok x) = w.windows ≡ v.windows + 1
Counts v w (Err why) = Unit {0}

abbrev pub closed_turn : Setup → Places → (Refusal → Fault) → ℕ → RunState → Result (Unit {0}) Refusal → Turn
closed_turn s p blame n x (Ok u) = closings s p blame n x
closed_turn s p blame n x (Err why) = stops x (blame why)

abbrev pub all_closed_turn : (Refusal → Fault) → RunState → Result (Unit {0}) Refusal → Turn
all_closed_turn blame x (Ok u) = goes_on x
all_closed_turn blame x (Err why) = stops x (blame why)
