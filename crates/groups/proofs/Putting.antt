-- Bytes put into a slice, one after another. Assumes nothing.
use Rattle.std.proofs.Common.{◌≡◌, ℕ, suc, ◌+◌, ◌<◌, ◌≤◌, List, [], ◌∷◌, ◌++◌, length, take, drop, set, sym, refl, ap, ◌∙◌, arith}
use Rattle.std.proofs.lemmas.List.{length-set, length-take-le, take-append-drop, take_more_set, drop-set-lt, drop_at, drop-drop, append_assoc}
use Rattle.groups.specs.Puts.{put_all}

pub put_all_append : (out : List ℕ) (at : ℕ) (xs ys : List ℕ) → put_all out at (xs ++ ys) ≡ put_all (put_all out at xs) (at + length xs) ys
put_all_append out at [] ys = ap (λ k. put_all out k ys) (let e : at ≡ at + 0 = omega arith in e)
put_all_append out at (x ∷ xs) ys =
    put_all_append (set out at x) (at + 1) xs ys
    ∙ ap (λ k. put_all (put_all (set out at x) (at + 1) xs) k ys) (let e : at + 1 + length xs ≡ at + suc (length xs) = omega arith in e)

pub length_put_all : (out : List ℕ) (at : ℕ) (bs : List ℕ) → length (put_all out at bs) ≡ length out
length_put_all out at [] = refl
length_put_all out at (b ∷ bs) = length_put_all (set out at b) (at + 1) bs ∙ length-set out at b

-- the bytes before and after stay as they are
pub put_all_is : (out : List ℕ) (at : ℕ) (bs : List ℕ) → at + length bs ≤ length out → put_all out at bs ≡ take at out ++ (bs ++ drop (at + length bs) out)
put_all_is out at [] h = let e : at + 0 ≡ at = omega arith in sym (ap (λ k. take at out ++ drop k out) e ∙ take-append-drop at out)
put_all_is out at (b ∷ bs) h =
    let k : at < length out = omega arith in
    let r : at + 1 + length bs ≤ length (set out at b) = simp length-set (omega arith) in
    let j : at + 1 + length bs ≡ at + suc (length bs) = omega arith in
    let lt : at < at + suc (length bs) = omega arith in
    put_all_is (set out at b) (at + 1) bs r
    ∙ ap (λ zs. zs ++ (bs ++ drop (at + 1 + length bs) (set out at b))) (take_more_set out at b k)
    ∙ append_assoc (take at out) (b ∷ []) (bs ++ drop (at + 1 + length bs) (set out at b))
    ∙ ap (λ m. take at out ++ (b ∷ (bs ++ drop m (set out at b)))) j
    ∙ ap (λ zs. take at out ++ (b ∷ (bs ++ zs))) (drop-set-lt (at + suc (length bs)) out at b lt)

-- from the place on stand the bytes, and then what stands after them
pub drop_put_all : (out : List ℕ) (at : ℕ) (bs : List ℕ) → at + length bs ≤ length out → drop at (put_all out at bs) ≡ bs ++ drop (at + length bs) (put_all out at bs)
drop_put_all out at bs h =
    let front : length (take at out) ≡ at = length-take-le at out (omega arith) in
    let here : drop at (put_all out at bs) ≡ bs ++ drop (at + length bs) out = ap (drop at) (put_all_is out at bs h) ∙ drop_at (take at out) _ at front in
    let after : drop (at + length bs) (put_all out at bs) ≡ drop (at + length bs) out =
    sym (drop-drop (length bs) at (put_all out at bs)) ∙ ap (drop (length bs)) here ∙ drop_at bs _ (length bs) refl in
    here ∙ ap (λ zs. bs ++ zs) (sym after)
