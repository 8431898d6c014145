-- What is parted by an id: in front the numbers are below it, behind they are not.
use Rattle.std.proofs.Common.{◌≡◌, ℕ, zero, suc, ◌<◌, ◌≤◌, true, false, ltb, List, [], ◌∷◌, length, get_or, sym, ap, ◌∙◌, arith}
use Rattle.std.proofs.lemmas.Bool.{cond-true, cond-false, ltb-true, ltb-false, lt-ltb, le-ltb}
use Rattle.std.specs.List.Sorted.{IsPartitionPoint}
use Rattle.stores.specs.Places.{below}

pub below_split : {X : Type 0} (number : X → ℕ) (id k : ℕ) (xs : List X) → k ≤ length xs
    → ((j : ℕ) (d : X) → j < k → number (get_or xs j d) < id) → ((j : ℕ) (d : X) → k ≤ j → j < length xs → id ≤ number (get_or xs j d)) → k ≡ below number id xs
below_split number id k [] h front back = omega arith
below_split number id zero (x ∷ xs) h front back = sym (cond-false _ _ _ (le-ltb _ _ (back 0 x (omega arith) (omega arith))))
below_split number id (suc k) (x ∷ xs) h front back =
    ap suc (below_split number id k xs (omega arith) (λ j d l. front (suc j) d (omega arith)) (λ j d l m. back (suc j) d (omega arith) (omega arith)))
    ∙ sym (cond-true _ _ _ (lt-ltb _ _ (front 0 x (omega arith))))

pub below_parted : {X : Type 0} (number : X → ℕ) (id k : ℕ) (xs : List X) → k ≤ length xs
    → IsPartitionPoint (λ x. ltb (number x) id ≡ true) (λ x. ltb (number x) id ≡ false) xs k → k ≡ below number id xs
below_parted number id k xs h parted =
    below_split number id k xs h (λ j d l. ltb-true _ _ (parted.0 j d (omega arith) l)) (λ j d l m. ltb-false _ _ (parted.1 j d l m))
