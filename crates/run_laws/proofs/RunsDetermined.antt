-- Two reports without fault whose rewritten histories have the same rows up to one closed time: equal lines and counts.
use Rattle.std.proofs.Common.{ℕ, List, sym, ap, ◌∙◌, subst}
use Rattle.rows.specs.Rows.{Plain}
use Rattle.receipts.specs.declared.window.Window.{Window}
use Rattle.receipts.specs.Histories.{up_to}
use Rattle.receipts.specs.Laws.{record_of, closed_time_of}
use Rattle.receipts.specs.Lists.{SameMembers, each}
use Rattle.receipts.specs.Queries.{Call}
use Rattle.receipts.specs.Sides.{Both, pick}
use Rattle.receipts.specs.Transcripts.{histories}
use Rattle.receipts.proofs.Receipts.{receipts_determined}
use Rattle.run_laws.specs.Laws.{rewritten_histories, RunsDetermined}
use Rattle.run_laws.proofs.SameRows.{same_back, same_then, up_to_same}
use Rattle.run_laws.proofs.Whole.{histories_same}

-- from the rewritten histories to those that they come of
up_to_between : (t : ℕ) (xs xs' ys ys' : List Plain) → SameMembers xs xs' → SameMembers ys ys' →
    SameMembers (up_to t xs') (up_to t ys') → SameMembers (up_to t xs) (up_to t ys)
up_to_between t xs xs' ys ys' here there same =
    same_then (up_to t xs) (up_to t xs') (up_to t ys) (up_to_same t xs xs' here)
    (same_then (up_to t xs') (up_to t ys') (up_to t ys) same (same_back (up_to t ys) (up_to t ys') (up_to_same t ys ys' there)))

pub runs_determined : RunsDetermined
runs_determined s t fs gs srcs others a b wide widths kinds lawful lawful' m n ends ends' closed same =
    let cs : List Call = m.calls in
    let ds : List Call = n.calls in
    let rows : Both (List Plain) = rewritten_histories fs srcs in
    let rows' : Both (List Plain) = rewritten_histories gs others in
    let fixed = receipts_determined s t cs ds wide widths kinds (m.closed ∙ closed ∙ sym n.closed)
    (λ x. up_to_between (closed_time_of s cs)
    (pick x (histories (record_of s cs))) (pick x rows) (pick x (histories (record_of t ds))) (pick x rows')
    (histories_same fs srcs s a lawful m ends x) (histories_same gs others t b lawful' n ends' x)
    (subst (λ g. SameMembers (up_to g (pick x rows)) (up_to g (pick x rows'))) (sym m.closed) (same x))) in
    let counts : List Window → List ℕ = each (λ w. w.count) in
    (sym m.lines ∙ fixed.0 ∙ n.lines, sym (ap counts m.windows) ∙ fixed.1 ∙ ap counts n.windows)
