-- A report without fault over any streams: its inserts are accounted for, and it has closed all that it may.
use Rattle.std.proofs.Common.{◌≡◌, ◌+◌, ◌*◌, ◌≤◌, min, List, length, sym, ap, ◌∙◌, arith}
use Rattle.std.proofs.lemmas.Bool.{leb-false}
use Rattle.refusals.specs.declared.fault.Side.{Side}
use Rattle.refusals.specs.declared.fault.Side.TheVariants.{Left, Right}
use Rattle.receipts.specs.Laws.{record_of, left_by, inserts, takes_whole, purged_on}
use Rattle.receipts.specs.Lists.{total, tally}
use Rattle.receipts.specs.Queries.{QueryState, Call, window_end}
use Rattle.receipts.specs.Sides.{pick}
use Rattle.receipts.specs.Transcripts.{events_on}
use Rattle.receipts.proofs.Accounts.{accounts_balance}
use Rattle.run_laws.specs.Laws.{events_of, last_cti, last_ctis, RunsAccounted}
use Rattle.run_laws.proofs.LastCtis.{cti_last, closed_below}
use Rattle.run_laws.proofs.Whole.{all_events}

pub runs_accounted : RunsAccounted
runs_accounted s srcs a m ends =
    let cs : List Call = m.calls in
    let q : QueryState = left_by s cs in
    let balance = accounts_balance s cs in
    let all : (x : Side) → events_on x (record_of s cs) ≡ events_of x srcs = all_events s srcs a m ends in
    let last : (x : Side) → (pick x q.halves).cti ≡ last_cti 0 (events_of x srcs) = λ x. cti_last s cs x ∙ ap (last_cti 0) (all x) in
    let lower : min q.halves.left.cti q.halves.right.cti ≡ last_ctis srcs = λ i. min (last Left i) (last Right i) in
    let left : q.closed ≤ q.halves.left.cti = closed_below s cs Left in
    let right : q.closed ≤ q.halves.right.cti = closed_below s cs Right in
    record {
      balance = λ x.
          sym (ap (tally inserts) (all x)) ∙ balance.0 x ∙ (λ i. tally takes_whole (all x i) + total (purged_on x) (m.windows i) + m.held x i);
      windows = sym m.closed ∙ balance.1 ∙ ap (λ ws. s.width * length ws) m.windows;
      reached = omega (arith, m.closed, lower, left, right);
      no_more = omega (arith, m.closed, lower, leb-false (window_end s q) (min q.halves.left.cti q.halves.right.cti) (m.whole ends).1);
    }
