-- Where a run of the code stands, as the model has it.
--     places ls ws                    as many places as the slices ls of lines and ws of window records have
--     standing q rest over ls ws w    the state with the query q, where rest is left of both sources and over tells which have
--                                     ended, and w tells how many of the slices' first places are written
use Rattle.std.specs.Prelude.{Bool, List, length, take}
use Rattle.receipts.specs.declared.line.Line.{Line}
use Rattle.receipts.specs.declared.window.Window.{Window}
use Rattle.receipts.specs.Histories.{Entry}
use Rattle.receipts.specs.Queries.{QueryState}
use Rattle.receipts.specs.Sides.{Both}
use Rattle.run_laws.specs.Runs.{Places, RunState}
use Rattle.run.specs.declared.closing.Written.{Written}

abbrev pub places : List Line → List Window → Places
places ls ws = record { lines = length ls; windows = length ws }

abbrev pub standing : QueryState → Both (List Entry) → Both Bool → List Line → List Window → Written → RunState
standing q rest over ls ws w =
    record { query = q; rest = rest; over = over; lines = take w.lines ls; windows = take w.windows ws }
