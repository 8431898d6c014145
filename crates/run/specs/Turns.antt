-- A turn of a run, as the model has it.
--     sides over                      which sources have ended, side for side
--     nothing_left q over             the state with the query q, where nothing is left or written
--     stands x srcs ls ws             the state of the run x, with the streams srcs left
--     shallows srcs                   both streams, each with a depth of at most 65,535
--     tails srcs                      both streams without their events
--     turned x r                      the run goes on, or stops for the fault, as the answer r of a turn tells
--     Spends r m n                    of n turns that were left m are left, one fewer, unless there was a fault
use Rattle.std.specs.Prelude.{◌≡◌, ℕ, ◌+◌, Bool, List, [], Ok, Err}
use Rattle.refusals.specs.Faults.{Ending}
use Rattle.receipts.specs.declared.line.Line.{Line}
use Rattle.receipts.specs.declared.window.Window.{Window}
use Rattle.receipts.specs.Histories.{Entry}
use Rattle.receipts.specs.Queries.{QueryState}
use Rattle.receipts.specs.Sides.{Both, twice, mapped}
use Rattle.rewriting.specs.Streams.{Stream}
use Rattle.rows.specs.declared.payload.Payload
use Rattle.stores.specs.declared.store.Store
use Rattle.joining.specs.Guards.{both}
use Rattle.query.specs.Queries.{state}
use Rattle.run_laws.specs.Runs.{RunState, Turn, goes_on, stops}
use Rattle.run.specs.declared.turning.Over.{Over}
use Rattle.run.specs.declared.turning.Run.{Run}
use Rattle.run.specs.States.{standing}
use Rattle.run.specs.Steps.{shallow}

abbrev pub sides : Over → Both Bool
sides over = both over.left over.right

abbrev pub nothing_left : QueryState → Both Bool → RunState
nothing_left q over = record { query = q; rest = twice []; over = over; lines = []; windows = [] }

abbrev pub entries_of : Both Stream → Both (List Entry)
entries_of srcs = mapped (λ src. src.entries) srcs

abbrev pub stands : {L R S T : Type 0} {l : Payload.Ghosts L} {r : Payload.Ghosts R} {s : Store.Ghosts S} {t : Store.Ghosts T} →
    Run L R S T l r s t → Both Stream → List Line → List Window → RunState
stands x srcs ls ws = standing (state x.query) (entries_of srcs) (sides x.over) ls ws x.written

abbrev pub shallows : Both Stream → Both Stream
shallows srcs = mapped shallow srcs

abbrev pub tail : Stream → Stream
tail src = record { entries = []; ending = src.ending; depth = src.depth }

abbrev pub tails : Both Stream → Both Stream
tails srcs = mapped tail srcs

abbrev pub turned : RunState → Ending → Turn
turned x (Ok u) = goes_on x
turned x (Err f) = stops x f

abbrev pub Spends : Ending → ℕ → ℕ → Type 0
Spends (Ok u) m n = m + 1 ≡ n
Spends (Err f) m n = Unit {0}
