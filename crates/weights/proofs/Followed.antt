-- A table that follows a rise has at each place the weight by that rise.
use Rattle.std.proofs.Common.{◌≡◌, ℕ, zero, suc, ◌+◌, ◌<◌, true, List, [], ◌∷◌, length, get_or, sym, refl, ap, ◌∙◌, le_of_suc-le-suc, not-suc-le-zero, add-zero, add-suc, suc-add, zero-add, eqb-true}
use Rattle.std.proofs.lemmas.Bool.{and_parts}
use Rattle.weights.specs.Grams.{weight_by, follows}

followed_from : (rise : ℕ → ℕ) (xs : List ℕ) (i x : ℕ) → x ≡ weight_by rise i → follows rise i x xs ≡ true
    → (k : ℕ) → k < length xs → get_or xs k 0 ≡ weight_by rise (i + k)
unfolding weight_by follows
followed_from rise [] i x e t k h = absurd (not-suc-le-zero h)
followed_from rise (y ∷ ys) i x e t zero h =
    eqb-true y x (and_parts _ _ t).0 ∙ e ∙ ap (weight_by rise) (sym (add-zero i))
followed_from rise (y ∷ ys) i x e t (suc k) h =
    followed_from rise ys (suc i) (x + rise i) (ap (λ n. n + rise i) e)
    (and_parts _ _ t).1 k (le_of_suc-le-suc h)
    ∙ ap (weight_by rise) (suc-add i k ∙ sym (add-suc i k))

pub followed : (rise : ℕ → ℕ) (xs : List ℕ) → follows rise 0 0 xs ≡ true → (k : ℕ) → k < length xs → get_or xs k 0 ≡ weight_by rise k
unfolding weight_by
followed rise xs t k h = followed_from rise xs 0 0 refl t k h ∙ ap (weight_by rise) (zero-add k)
