-- Where bytes are cut: at the first space or line feed. Assumes nothing.
use Rattle.std.proofs.Common.{◌≡◌, ◌≢◌, ℕ, suc, ◌+◌, Bool, true, false, cond, not, eqb, List, [], ◌∷◌, length, take, drop, refl, ap, ◌∙◌, inl, inr, arith}
use Rattle.std.specs.List.{position, position_or_len}
use Rattle.std.specs.Option.{unwrap_or}
use Rattle.std.proofs.lemmas.List.Sums.{prefix_len-le-length}
use Rattle.std.proofs.lemmas.Bool.{cases_lt, cond-true, cond-false, lt-ltb, le-ltb, ne_eqb, or_from}
use Rattle.text.specs.Lines.{parts, front, back}

pub parts_not : (b : ℕ) → (b ≢ 32) → (b ≢ 10) → parts b ≡ false
parts_not b p q = or_from (eqb b 32) (eqb b 10) (ne_eqb b 32 p) (ne_eqb b 10 q)

-- the first place that parts, or the end
place_is : (xs : List ℕ) → unwrap_or (position parts xs) (length xs) ≡ position_or_len parts xs
place_is xs =
    let within = prefix_len-le-length (λ x. not (parts x)) xs in
    elim (cases_lt (position_or_len parts xs) (length xs)) [
      | inl h ↦ ap (λ o. unwrap_or o (length xs)) (cond-true _ _ _ (lt-ltb _ _ h))
      | inr h ↦ let e : length xs ≡ position_or_len parts xs = omega arith in ap (λ o. unwrap_or o (length xs)) (cond-false _ _ _ (le-ltb _ _ h)) ∙ e
    ]

front_more : (b : Bool) (x n : ℕ) (xs ys : List ℕ) → take n xs ≡ ys → take (cond (not b) (1 + n) 0) (x ∷ xs) ≡ cond b [] (x ∷ ys)
front_more true x n xs ys e = refl
front_more false x n xs ys e = let k : 1 + n ≡ suc n = omega arith in ap (λ m. take m (x ∷ xs)) k ∙ ap (λ zs. x ∷ zs) e

back_more : (b : Bool) (x n : ℕ) (xs ys : List ℕ) → drop n xs ≡ ys → drop (cond (not b) (1 + n) 0) (x ∷ xs) ≡ cond b (x ∷ xs) ys
back_more true x n xs ys e = refl
back_more false x n xs ys e = let k : 1 + n ≡ suc n = omega arith in ap (λ m. drop m (x ∷ xs)) k ∙ e

front_at : (xs : List ℕ) → take (position_or_len parts xs) xs ≡ front xs
front_at [] = refl
front_at (x ∷ xs) = front_more (parts x) x (position_or_len parts xs) xs (front xs) (front_at xs)

back_at : (xs : List ℕ) → drop (position_or_len parts xs) xs ≡ back xs
back_at [] = refl
back_at (x ∷ xs) = back_more (parts x) x (position_or_len parts xs) xs (back xs) (back_at xs)

pub front_cut : (xs : List ℕ) → take (unwrap_or (position parts xs) (length xs)) xs ≡ front xs
front_cut xs = ap (λ n. take n xs) (place_is xs) ∙ front_at xs

pub back_cut : (xs : List ℕ) → drop (unwrap_or (position parts xs) (length xs)) xs ≡ back xs
back_cut xs = ap (λ n. drop n xs) (place_is xs) ∙ back_at xs
