-- Counts: a window's count depends on the members of both histories alone, and on none that ends before the window.
use Rattle.std.proofs.Common.{◌≡◌, ℕ, ◌≤◌, false, ltb, List, ap, ◌∙◌, arith}
use Rattle.std.proofs.lemmas.Bool.{le-ltb, and_left, and_right}
use Rattle.refusals.specs.declared.fault.Side.{Side}
use Rattle.refusals.specs.declared.fault.Side.TheVariants.{Left, Right}
use Rattle.rows.specs.Rows.{Plain}
use Rattle.receipts.specs.Lists.{Once, SameMembers, one, tally}
use Rattle.receipts.specs.Sides.{Both, pick, mapped}
use Rattle.receipts.specs.Stores.{kept}
use Rattle.receipts.specs.Joins.{join_start, join_end, joins, in_window, count_in}
use Rattle.receipts.proofs.Lists.{total_same, total_ext, total_zero}
use Rattle.receipts.proofs.Stores.{kept_total}

pub window_late : (low high : ℕ) (l r : Plain) → high ≤ join_start l r → in_window low high l r ≡ false
window_late low high l r h = and_right (joins l r) _ (and_left (ltb (join_start l r) high) (ltb low (join_end l r)) (le-ltb _ _ h))

window_early : (low high : ℕ) (l r : Plain) → join_end l r ≤ low → in_window low high l r ≡ false
window_early low high l r h = and_right (joins l r) _ (and_right (ltb (join_start l r) high) (ltb low (join_end l r)) (le-ltb _ _ h))

module _ (low high : ℕ) (hs : Both (List Plain)) where
  -- how many rows of a list fall with l into the window
  abbrev row_count : List Plain → Plain → ℕ
  row_count rs l = tally (λ r. in_window low high l r) rs

  pub count_kept : count_in low high (mapped (kept low) hs) ≡ count_in low high hs
  count_kept =
      total_ext (row_count (kept low hs.right)) (row_count hs.right) (kept low hs.left)
      (λ l. kept_total low (λ r. one (in_window low high l r)) hs.right (λ r k. ap one (window_early low high l r (omega (arith, k)))))
      ∙ kept_total low (row_count hs.right) hs.left
      (λ l k. total_zero (λ r. one (in_window low high l r)) hs.right (λ r. ap one (window_early low high l r (omega (arith, k)))))

  pub count_same : (gs : Both (List Plain)) → ((x : Side) → Once (pick x hs)) → ((x : Side) → Once (pick x gs)) → ((x : Side) → SameMembers (pick x hs) (pick x gs)) →
      count_in low high hs ≡ count_in low high gs
  count_same gs o p m =
      total_same (row_count hs.right) hs.left gs.left (o Left) (p Left) (m Left)
      ∙ total_ext (row_count hs.right) (row_count gs.right) gs.left
      (λ l. total_same (λ r. one (in_window low high l r)) hs.right gs.right (o Right) (p Right) (m Right))
