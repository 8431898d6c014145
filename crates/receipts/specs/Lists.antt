-- Words on lists.
--     In x xs                     x is a member of xs
--     Once xs                     no member of xs comes twice
--     SameMembers xs ys           xs and ys have the same members
--     total f xs                  the sum of f over xs
--     tally f xs                  how many members of xs pass the test f
--     each f xs                   f of each member, in order
--     gathered f xs               the lists f x of all members x, one after the other
use Rattle.std.specs.Prelude.{◌≡◌, ℕ, ◌+◌, Bool, true, false, ◌⊎◌, ◌↔◌, List, [], ◌∷◌, ◌++◌}

abbrev pub In : {X : Type 0} → X → List X → Type 0
In x [] = ⊥
In x (y ∷ ys) = (x ≡ y) ⊎ In x ys

abbrev pub Once : {X : Type 0} → List X → Type 0
Once [] = Unit {0}
Once (x ∷ xs) = (In x xs → ⊥) × Once xs

abbrev pub SameMembers : {X : Type 0} → List X → List X → Type 0
SameMembers {X} xs ys = (x : X) → In x xs ↔ In x ys

abbrev pub total : {X : Type 0} → (X → ℕ) → List X → ℕ
total f [] = 0
total f (x ∷ xs) = f x + total f xs

abbrev pub one : Bool → ℕ
one true = 1
one false = 0

abbrev pub tally : {X : Type 0} → (X → Bool) → List X → ℕ
tally f xs = total (λ x. one (f x)) xs

abbrev pub each : {X Y : Type 0} → (X → Y) → List X → List Y
each f [] = []
each f (x ∷ xs) = f x ∷ each f xs

abbrev pub gathered : {X Y : Type 0} → (X → List Y) → List X → List Y
gathered f [] = []
gathered f (x ∷ xs) = f x ++ gathered f xs
