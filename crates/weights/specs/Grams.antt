-- What the counts of the shelf weigh.
--     weight_by rise r        the weight of the count r: 0 at 0, and rise r more at r + 1 than at r
--     rise r                  12 grams, or 13 where r is 1,536 to 3,071
--     grams r                 the weight of the count r in grams
--     grams_told r            the weight of r, or none where r is above 4,095
--     follows rise i x xs     the numbers xs are x, x + rise i, and so on by the rises at i + 1, i + 2, ..
use Rattle.std.specs.Prelude.{ℕ, zero, suc, ◌+◌, Bool, true, cond, ◌&&◌, List, [], ◌∷◌, Some, None, Option, ◌==◌, nat_le}

unfoldable pub weight_by : (ℕ → ℕ) → ℕ → ℕ
weight_by rise zero = 0
weight_by rise (suc r) = weight_by rise r + rise r

abbrev pub rise : ℕ → ℕ
rise r = cond (nat_le 1536 r && nat_le r 3071) 13 12

unfoldable pub grams : ℕ → ℕ
grams r = weight_by rise r

abbrev pub grams_told : ℕ → Option ℕ
grams_told r = cond (nat_le r 4095) (Some (grams r)) None

unfoldable pub follows : (ℕ → ℕ) → ℕ → ℕ → List ℕ → Bool
follows rise i x [] = true
follows rise i x (y ∷ ys) = y == x && follows rise (suc i) (x + rise i) ys
