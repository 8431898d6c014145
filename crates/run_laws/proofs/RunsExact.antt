-- A report without fault over legal streams under piles: its lines are exactly those of the rewritten histories' join that
-- end before its closed time, and its counts are that join's.
use Rattle.std.proofs.Common.{List, sym, ◌∙◌, subst}
use Rattle.rows.specs.Rows.{Plain}
use Rattle.receipts.specs.Joins.{Exactly}
use Rattle.receipts.specs.Laws.{record_of, closed_time_of}
use Rattle.receipts.specs.Lists.{In}
use Rattle.receipts.specs.Queries.{Call}
use Rattle.receipts.specs.Sides.{Both, pick}
use Rattle.receipts.specs.Transcripts.{histories, lines_in}
use Rattle.receipts.proofs.Counts.{count_same}
use Rattle.receipts.proofs.Receipts.{receipts_exact, counts_true}
use Rattle.rewriting.proofs.Held.{distinct_once}
use Rattle.run_laws.specs.Laws.{rewritten_histories, RunsExact, RunsCounted}
use Rattle.run_laws.proofs.SameRows.{exactly_same}
use Rattle.run_laws.proofs.Whole.{rewritten_distinct, histories_same, histories_once}

pub runs_exact : RunsExact
runs_exact s fs srcs a wide lawful m ends =
    let cs : List Call = m.calls in
    let hs : Both (List Plain) = histories (record_of s cs) in
    subst (λ t. Exactly s.kinds t (rewritten_histories fs srcs) a.lines) m.closed
    (subst (λ xs. Exactly s.kinds (closed_time_of s cs) (rewritten_histories fs srcs) xs) m.lines
    (exactly_same s.kinds (closed_time_of s cs) hs (rewritten_histories fs srcs) (lines_in (record_of s cs))
    (histories_same fs srcs s a lawful m ends) (rewritten_distinct fs srcs lawful) (receipts_exact s cs wide)))

pub runs_counted : RunsCounted
runs_counted s fs srcs a wide lawful m ends w told =
    let hs : Both (List Plain) = histories (record_of s m.calls) in
    let gs : Both (List Plain) = rewritten_histories fs srcs in
    counts_true s m.calls wide w (subst (λ ws. In w ws) (sym m.windows) told)
    ∙ count_same w.start w.end hs gs (histories_once fs srcs s a lawful m ends)
    (λ x. distinct_once (pick x gs) (rewritten_distinct fs srcs lawful x)) (histories_same fs srcs s a lawful m ends)
