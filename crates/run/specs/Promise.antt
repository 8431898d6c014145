-- The receipt promise: what every query owes for its lines and counts, and what a run without fault owes for its sources.
-- k and m are the payload kinds of the left and of the right side, c and d the capacities of their stores.
--     Balanced s cs               after the calls cs on a new query: on each side inserts = rows taken away whole + rows purged +
--                                 rows held; the closed time is the width times the closings; the windows lie end to end from
--                                 0 on; and their records count all lines
--     Receipts k m c d width      whatever calls are made on a new query, in whatever order, accepted or refused:
--         exact                       the lines handed out are exactly the lines of both canonical histories' join that end
--                                     before the closed time, each once
--         determined                  a query of the same kinds and width, with stores of any capacity, that comes to the same
--                                     closed time after calls of its own: where side for side their histories up to it have the
--                                     same rows, lines and counts are equal, each in order
--         counted                     each window's count is that of both canonical histories' join
--         balanced                    the accounts balance
--         sound                       every row of a history has lawful times, and a payload in its kind's range
--     RunKept k m s fs feet a     the report a of a run over sources with the streams feet at their feet, under the rules fs:
--         exact                       its lines are exactly the lines of the rewritten histories' join that end before its
--                                     closed time, each once
--         counted                     its window counts are those of the rewritten histories' join
--         accounted                   its inserts are accounted for, and all that may be closed is closed
--         made                        it comes of calls on a new query, which accepted both lists whole, each in its order, and
--                                     it can close no more
--     Promise k m c d width fs feet a     both: of every query so made, and of a run that ends without fault over legal lists
use Rattle.std.specs.Prelude.{◌≡◌, ℕ, ◌+◌, ◌*◌, true, List, length, Ok}
use Rattle.refusals.specs.declared.fault.Side.{Side}
use Rattle.rows.specs.Kinds.{Kind}
use Rattle.rows.specs.Rows.{Plain, standing, in_kind}
use Rattle.receipts.specs.declared.window.Window.{Window}
use Rattle.receipts.specs.Histories.{up_to, Legal}
use Rattle.receipts.specs.Joins.{count_in, Exactly}
use Rattle.receipts.specs.Laws.{record_of, left_by, closed_time_of, counts, grid, bounds, inserts, takes_whole, purged_on}
use Rattle.receipts.specs.Lists.{In, SameMembers, total, tally, each}
use Rattle.receipts.specs.Queries.{Setup, Call}
use Rattle.receipts.specs.Sides.{Both, pick}
use Rattle.receipts.specs.Transcripts.{events_on, histories, lines_in, windows_in}
use Rattle.rewriting.specs.Rules.{Rule}
use Rattle.rewriting.specs.Streams.{Stream}
use Rattle.joining.specs.Guards.{both}
use Rattle.query.specs.Queries.{setting}
use Rattle.run_laws.specs.Laws.{events_of, Made, piled, rewritten_histories, Counted, Accounted}
use Rattle.run_laws.specs.Runs.{Report}

pub record Balanced (s : Setup) (cs : List Call) : Type 0 where
  pub rows : (x : Side) →
      tally inserts (events_on x (record_of s cs))
      ≡ tally takes_whole (events_on x (record_of s cs)) + total (purged_on x) (windows_in (record_of s cs)) + length (pick x (left_by s cs).halves).held
  pub closed : closed_time_of s cs ≡ s.width * length (windows_in (record_of s cs))
  pub windows : each bounds (windows_in (record_of s cs)) ≡ grid s.width (length (windows_in (record_of s cs)))
  pub lines : total (λ w. w.lines) (windows_in (record_of s cs)) ≡ length (lines_in (record_of s cs))

pub record Receipts (k m : Kind) (c d width : ℕ) : Type 0 where
  pub exact : (cs : List Call) →
      Exactly (both k m) (closed_time_of (setting k m c d width) cs) (histories (record_of (setting k m c d width) cs)) (lines_in (record_of (setting k m c d width) cs))
  pub determined : (e f : ℕ) (cs ds : List Call) →
      closed_time_of (setting k m c d width) cs ≡ closed_time_of (setting k m e f width) ds →
      ((x : Side) → SameMembers
      (up_to (closed_time_of (setting k m c d width) cs) (pick x (histories (record_of (setting k m c d width) cs))))
      (up_to (closed_time_of (setting k m c d width) cs) (pick x (histories (record_of (setting k m e f width) ds))))) →
      (lines_in (record_of (setting k m c d width) cs) ≡ lines_in (record_of (setting k m e f width) ds))
      × (counts (record_of (setting k m c d width) cs) ≡ counts (record_of (setting k m e f width) ds))
  pub counted : (cs : List Call) (w : Window) → In w (windows_in (record_of (setting k m c d width) cs)) →
      w.count ≡ count_in w.start w.end (histories (record_of (setting k m c d width) cs))
  pub balanced : (cs : List Call) → Balanced (setting k m c d width) cs
  pub sound : (cs : List Call) (x : Side) (r : Plain) → In r (pick x (histories (record_of (setting k m c d width) cs))) →
      (standing r ≡ true) × (in_kind (pick x (both k m)) r ≡ true)

pub record RunKept (k m : Kind) (s : Setup) (fs : Both (List Rule)) (feet : Both Stream) (a : Report) : Type 0 where
  pub exact : Exactly (both k m) a.closed (rewritten_histories fs feet) a.lines
  pub counted : Counted (rewritten_histories fs feet) a.windows
  pub accounted : Accounted s (piled fs feet) a
  pub made : Made s (piled fs feet) a

pub record Promise (k m : Kind) (c d width : ℕ) (fs : Both (List Rule)) (feet : Both Stream) (a : Report) : Type 0 where
  pub receipts : Receipts k m c d width
  pub run : ((x : Side) → Legal (events_of x feet)) → a.ending ≡ Ok tt → RunKept k m (setting k m c d width) fs feet a
