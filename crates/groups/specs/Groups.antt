-- A number in groups of seven bits at the front of some bytes: below 2 ^ 32, the lowest group first, the top bit set on all
-- groups but the last, at most five groups, and no zero as the last group after others.
--     onto b r              what the byte b and the number r of the groups after it are read as
--     read_up_to i bs       what bs is read as, with at most i groups after the first
--     groups_read bs        what bs is read as
--     groups_up_to i n      n in groups, at most i after the first
--     groups_of n           n in groups
--     Bytes bs              each element is below 256
--     Written n rest bs     n is below 2 ^ 32, and bs is its groups and then rest
--     GroupsExact bs        bs is read as n and rest just where it is the groups of n and then rest
use Rattle.std.specs.Prelude.{◌≡◌, ℕ, zero, suc, ◌+◌, ◌-◌, ◌*◌, ◌/◌, ◌%◌, ◌^◌, ◌<◌, cond, List, [], ◌∷◌, ◌++◌, Ok, Err, ◌==◌, nat_lt, slice_index}
use Rattle.refusals.specs.declared.refusal.Refusal.TheVariants.{CutOff, BadNumber}
use Rattle.refusals.specs.Parts.{Part}

-- the number of the groups after b is zero only where they are one zero
abbrev pub onto : ℕ → Part ℕ → Part ℕ
onto b (Ok p) = cond (p.0 == 0) (Err BadNumber) (Ok (b - 128 + 128 * p.0, p.1))
onto b (Err r) = Err r

abbrev pub read_up_to : ℕ → List ℕ → Part ℕ
read_up_to i [] = Err CutOff
read_up_to zero (b ∷ bs) = cond (nat_lt b 16) (Ok (b, bs)) (Err BadNumber)
read_up_to (suc i) (b ∷ bs) = cond (nat_lt b 128) (Ok (b, bs)) (onto b (read_up_to i bs))

abbrev pub groups_read : List ℕ → Part ℕ
groups_read bs = read_up_to 4 bs

abbrev pub groups_up_to : ℕ → ℕ → List ℕ
groups_up_to zero n = n ∷ []
groups_up_to (suc i) n = cond (nat_lt n 128) (n ∷ []) ((128 + n % 128) ∷ groups_up_to i (n / 128))

unfoldable pub groups_of : ℕ → List ℕ
groups_of n = groups_up_to 4 n

abbrev pub Bytes : List ℕ → Type 0
Bytes bs = (i : ℕ) → slice_index bs i < 256

abbrev pub Written : ℕ → List ℕ → List ℕ → Type 0
Written n rest bs = (n < 2 ^ 32) × (bs ≡ groups_of n ++ rest)

unfoldable pub GroupsExact : List ℕ → Type 0
GroupsExact bs = (n : ℕ) (rest : List ℕ) → (Written n rest bs → groups_read bs ≡ Ok (n, rest)) × (groups_read bs ≡ Ok (n, rest) → Written n rest bs)
