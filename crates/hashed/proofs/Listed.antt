-- Listed slots, with one put in or taken out.
use Rattle.std.specs.Prelude.{◌≡◌, ℕ, zero, suc, ◌<◌, Bool, true, false, ◌||◌, List, [], ◌∷◌, length, ◌==◌, ◌≢◌, slice_index_or, refl}
use Rattle.std.proofs.Common.{arith, sym, ap, ◌∙◌}
use Rattle.std.proofs.lemmas.Bool.{ne_eqb, eq-eqb, or_left, or_right}
use Rattle.std.specs.List.{insert, remove}
use Rattle.hashed.specs.Listing.{listed}

or_swap : (a b c : Bool) → (a || (b || c)) ≡ (b || (a || c))
or_swap true true c = refl
or_swap true false c = refl
or_swap false true c = refl
or_swap false false c = refl

pub listed_inserted : (i : ℕ) (xs : List ℕ) (k x : ℕ) → listed i (insert xs k x) ≡ (x == i || listed i xs)
listed_inserted i xs zero x = refl
listed_inserted i [] (suc k) x = refl
listed_inserted i (y ∷ xs) (suc k) x = ap (λ z. (y == i) || z) (listed_inserted i xs k x) ∙ or_swap (y == i) (x == i) (listed i xs)

pub listed_removed : (i : ℕ) (xs : List ℕ) (k : ℕ) → (slice_index_or xs k i ≢ i) → listed i (remove xs k) ≡ listed i xs
listed_removed i [] zero other = refl
listed_removed i [] (suc k) other = refl
listed_removed i (x ∷ xs) zero other = sym (ap (λ z. z || listed i xs) (ne_eqb x i other))
listed_removed i (x ∷ xs) (suc k) other = ap (λ z. (x == i) || z) (listed_removed i xs k other)

pub listed_at : (xs : List ℕ) (k d : ℕ) → k < length xs → listed (slice_index_or xs k d) xs ≡ true
listed_at [] k d h = absurd (omega arith)
listed_at (x ∷ xs) zero d h = or_left (x == x) (listed x xs) (eq-eqb x x refl)
listed_at (x ∷ xs) (suc k) d h = or_right (x == slice_index_or xs k d) (listed (slice_index_or xs k d) xs) (listed_at xs k d (omega arith))
