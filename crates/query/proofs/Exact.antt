-- The guards on a query's payload kinds never show: its receipts are exact at the kinds themselves.
use Rattle.std.proofs.Common.{ℕ, ◌<◌, List}
use Rattle.refusals.specs.declared.fault.Side.TheVariants.{Left, Right}
use Rattle.rows.specs.Kinds.{Kind}
use Rattle.receipts.specs.Joins.{Exactly}
use Rattle.receipts.specs.Laws.{record_of, closed_time_of}
use Rattle.receipts.specs.Queries.{Setup, Call}
use Rattle.receipts.specs.Transcripts.{histories, lines_in}
use Rattle.receipts.proofs.Queries.{rows_sound}
use Rattle.receipts.proofs.Receipts.{receipts_exact}
use Rattle.joining.specs.Guards.{both}
use Rattle.joining.proofs.Guards.{exactly_guarded}
use Rattle.query.specs.Queries.{setting}

module _ (k m : Kind) (c d width : ℕ) (cs : List Call) where
  pub exact_at_kinds : 0 < width →
      Exactly (both k m) (closed_time_of (setting k m c d width) cs)
      (histories (record_of (setting k m c d width) cs)) (lines_in (record_of (setting k m c d width) cs))
  exact_at_kinds some =
      let s : Setup = setting k m c d width in
      exactly_guarded k m (histories (record_of s cs)) (λ r i. (rows_sound s cs Left r i).1) (λ r i. (rows_sound s cs Right r i).1)
      (closed_time_of s cs) (lines_in (record_of s cs)) (receipts_exact s cs some)
