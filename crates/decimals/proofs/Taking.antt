-- What `taken` does with the first byte. Assumes nothing.
use Rattle.std.proofs.Common.{◌≡◌, ℕ, ◌≤◌, true, false, List, [], ◌∷◌, refl}
use Rattle.std.proofs.lemmas.Bool.{cond-true, cond-false, and_from, and_left, le-leb}
use Rattle.decimals.specs.Decimals.{digit, digit_first, push, taken}

pub taken_more : (v b : ℕ) (rest : List ℕ) → digit b ≡ true → push v b ≤ 4294967295 → taken v (b ∷ rest) ≡ taken (push v b) rest
taken_more v b rest d h = cond-true _ _ _ (and_from _ _ d (le-leb _ _ h))

pub taken_none : (v : ℕ) (bs : List ℕ) → digit_first bs ≡ false → taken v bs ≡ (v, bs)
taken_none v [] d = refl
taken_none v (b ∷ bs) d = cond-false _ _ _ (and_left _ _ d)
