-- Bytes put into a slice.
--     put_all out at bs          out with bs in the places from at on
--     put out at bs              the place after bs, and out with bs from at on; None and out as it was where places lack
--     ReadsBack n at r out       where r is a place, the bytes of out from at on are read as n and the bytes from that place on
use Rattle.std.specs.Prelude.{◌≡◌, ℕ, ◌+◌, cond, List, [], ◌∷◌, length, drop, Some, None, Ok, Option, nat_le, slice_set}
use Rattle.groups.specs.Groups.{groups_read}

abbrev pub put_all : List ℕ → ℕ → List ℕ → List ℕ
put_all out at [] = out
put_all out at (b ∷ bs) = put_all (slice_set out at b) (at + 1) bs

abbrev pub put : List ℕ → ℕ → List ℕ → Option ℕ × List ℕ
put out at bs = cond (nat_le (at + length bs) (length out)) (Some (at + length bs), put_all out at bs) (None, out)

unfoldable pub ReadsBack : ℕ → ℕ → Option ℕ → List ℕ → Type 0
ReadsBack n at r out = (place : ℕ) → r ≡ Some place → groups_read (drop at out) ≡ Ok (n, drop place out)
