-- The report of a run, as the model has it.
--     reported r ls ws                the report r, with the lines and window records that stand in the first places of the
--                                     slices ls and ws
--     report_of q w e                 the report of a run that ends as e with the query q, where w is written
--     lawful_width n                  a width is from 1 to 604,800
--     refused_report f                nothing was done but to tell the fault f
--     run_or_refused s p srcs         the report of a run over two streams, BadWidth where the width is not lawful
use Rattle.std.specs.Prelude.{ℕ, Bool, cond, ◌&&◌, List, [], length, take, nat_le, Err}
use Rattle.refusals.specs.declared.fault.Fault.{Fault}
use Rattle.refusals.specs.declared.refusal.Refusal.TheVariants.{BadWidth}
use Rattle.refusals.specs.Faults.{bare_fault, Ending}
use Rattle.receipts.specs.declared.line.Line.{Line}
use Rattle.receipts.specs.declared.window.Window.{Window}
use Rattle.receipts.specs.Queries.{Setup, QueryState}
use Rattle.receipts.specs.Sides.{Both, twice}
use Rattle.rewriting.specs.Streams.{Stream}
use Rattle.joining.specs.Guards.{both}
use Rattle.run_laws.specs.Runs.{Places, Report, run}
use Rattle.run.specs.declared.closing.Written.{Written}
use Rattle.run.specs.declared.report.RunReport.{RunReport}

abbrev pub reported : RunReport → List Line → List Window → Report
reported r ls ws = record {
  lines = take r.lines ls;
  windows = take r.windows ws;
  closed = r.closed;
  held = both r.held_left r.held_right;
  ending = r.ending;
}

abbrev pub report_of : QueryState → Written → Ending → RunReport
report_of q w e = record {
  lines = w.lines;
  windows = w.windows;
  closed = q.closed;
  held_left = length q.halves.left.held;
  held_right = length q.halves.right.held;
  ending = e;
}

abbrev pub lawful_width : ℕ → Bool
lawful_width n = nat_le 1 n && nat_le n 604800

abbrev pub refused_report : Fault → Report
refused_report f = record { lines = []; windows = []; closed = 0; held = twice 0; ending = Err f }

abbrev pub run_or_refused : Setup → Places → Both Stream → Report
run_or_refused s p srcs = cond (lawful_width s.width) (run s p srcs) (refused_report (bare_fault BadWidth))
