-- Items that a rotation by one moves, to make room or to fill a gap, among the first n.
use Rattle.std.proofs.Common.{◌≡◌, ℕ, zero, suc, ◌+◌, ◌-◌, ◌<◌, ◌≤◌, List, ◌∷◌, ◌++◌, length, get_or, take, drop, set, ◌∙◌, ap, sym, subst, arith}
use Rattle.std.proofs.lemmas.List.{same_lists, places, get_or-set_same, get_or-set_other, length-set, take-set-le}
use Rattle.std.proofs.lemmas.Slice.{take-put_mid}
use lib.Seq.{take-take}
use Rattle.std.specs.List.{insert, remove, RotatedLeft, RotatedRight}
use borrow.Rule.Slice.PartMut.{put_mid}

module _ {X : Type 0} (xs ys : List X) (n k m : ℕ) where
  -- v was put at j, behind the first n, and from k on all went one place up but v, which went to k
  module _ (v : X) (j : ℕ) (here : j ≡ n) (h : n < length xs) (le : k ≤ n) (len : length ys ≡ m) (long : m ≡ n + 1 - k) (moved : RotatedRight (take (n + 1 - k) (drop k (set xs j v))) ys m 1) where
    behind : set xs n v ≡ set xs j v
    behind = ap (λ i. set xs i v) (sym here)

    turned : RotatedRight (take (n + 1 - k) (drop k (set xs n v))) ys m 1
    turned = subst (λ zs. RotatedRight (take (n + 1 - k) (drop k zs)) ys m 1) (sym behind) moved

    first : (d : X) → get_or ys 0 d ≡ v
    first d = turned.0 0 d (omega arith) ∙ grind (arith, places, length-set, get_or-set_same xs n v d)

    later : (i : ℕ) (d : X) → 1 ≤ i → i < m → get_or ys i d ≡ get_or xs (k + (i - 1)) d
    later i d lo hi = turned.1 i d lo hi ∙ grind (arith, places, length-set, get_or-set_other)

    tail_at : (i : ℕ) (d : X) → i < length ys → get_or ys i d ≡ get_or (v ∷ drop k (take n xs)) i d
    tail_at zero d l = first d
    tail_at (suc i) d l = later (suc i) d (omega arith) (omega (arith, len)) ∙ grind (arith, places)

    tail : ys ≡ v ∷ drop k (take n xs)
    tail = same_lists _ _ (grind (arith, places)) tail_at

    up : take k (set xs n v) ++ ys ≡ insert (take n xs) k v
    up = ap (λ z. z ++ ys) (take-set-le k xs n v le) ∙ (λ t. sym (take-take k n xs le) t ++ tail t)

    pub shifted_up : take (n + 1) (put_mid k (n + 1 - k) (set xs j v) ys) ≡ insert (take n xs) k v
    shifted_up =
        ap (λ zs. take (n + 1) (put_mid k (n + 1 - k) zs ys)) (sym behind)
        ∙ take-put_mid k (n + 1 - k) (set xs n v) ys (n + 1) (omega arith) (omega (arith, length-set xs n v)) ∙ up

  -- from k on all went one place down, and what stood there to the end
  module _ (h : n ≤ length xs) (lt : k < n) (len : length ys ≡ m) (long : m ≡ n - k) (moved : RotatedLeft (take (n - k) (drop k xs)) ys m 1) where
    down : (j : ℕ) (d : X) → j + 1 < m → get_or ys j d ≡ get_or xs (k + 1 + j) d
    down j d lo = moved.0 j d lo ∙ grind (arith, places)

    pub shifted_down : take (n - 1) (put_mid k (n - k) xs ys) ≡ remove (take n xs) k
    shifted_down =
        sym (take-take (n - 1) n _ (omega arith)) ∙ ap (take (n - 1)) (take-put_mid k (n - k) xs ys n (omega arith) (omega arith))
        ∙ same_lists _ _ (grind (arith, places)) (λ j d l. grind (arith, places, down (j - k) d))
