-- The groups of a number, by the first. Assumes nothing.
use Rattle.std.proofs.Common.{◌≡◌, ℕ, zero, suc, ◌+◌, ◌*◌, ◌/◌, ◌%◌, ◌^◌, ◌<◌, ◌≤◌, [], ◌∷◌, length, sym, refl, ap, ◌∙◌, inl, inr, arith}
use native.Mathlib.Nat.{pow-succ'}
use Rattle.std.proofs.lemmas.Bool.{lt-ltb, le-ltb, cond-true, cond-false, cases_lt}
use Rattle.groups.specs.Groups.{groups_up_to, groups_of}

pub up_to_last : (i n : ℕ) → n < 128 → groups_up_to i n ≡ n ∷ []
up_to_last zero n h = refl
up_to_last (suc i) n h = cond-true _ _ _ (lt-ltb n 128 h)

pub up_to_more : (i n : ℕ) → 128 ≤ n → groups_up_to (suc i) n ≡ (128 + n % 128) ∷ groups_up_to i (n / 128)
up_to_more i n h = cond-false _ _ _ (le-ltb n 128 h)

-- a number that i groups after the first can hold takes no more where more may come
up_to_same : (i n : ℕ) → n < 16 * 128 ^ i → groups_up_to (suc i) n ≡ groups_up_to i n
up_to_same zero n h = up_to_last 1 n (omega arith)
up_to_same (suc i) n h =
    elim (cases_lt n 128) [
      | inl p ↦ up_to_last (suc (suc i)) n p ∙ sym (up_to_last (suc i) n p)
      | inr p ↦
          let k : n / 128 < 16 * 128 ^ i = (let h' = rw pow-succ' at h in omega arith) in
          up_to_more (suc i) n p ∙ ap (λ gs. (128 + n % 128) ∷ gs) (up_to_same i (n / 128) k) ∙ sym (up_to_more i n p)
    ]

pub groups_of_last : (n : ℕ) → n < 128 → groups_of n ≡ n ∷ []
unfolding groups_of
groups_of_last n h = up_to_last 4 n h

pub groups_of_more : (n : ℕ) → 128 ≤ n → n < 2 ^ 32 → groups_of n ≡ (128 + n % 128) ∷ groups_of (n / 128)
unfolding groups_of
groups_of_more n h small = up_to_more 3 n h ∙ ap (λ gs. (128 + n % 128) ∷ gs) (sym (up_to_same 3 (n / 128) (omega arith)))

up_to_few : (i n : ℕ) → length (groups_up_to i n) ≤ suc i
up_to_few zero n = omega arith
up_to_few (suc i) n =
    elim (cases_lt n 128) [
      | inl p ↦ rw (up_to_last (suc i) n p) (omega arith)
      | inr p ↦ let ih = up_to_few i (n / 128) in rw (up_to_more i n p) (omega arith)
    ]

pub groups_some : (n : ℕ) → 0 < length (groups_of n)
unfolding groups_of
groups_some n =
    elim (cases_lt n 128) [
      | inl p ↦ rw (up_to_last 4 n p) (omega arith)
      | inr p ↦ rw (up_to_more 3 n p) (omega arith)
    ]

pub groups_few : (n : ℕ) → length (groups_of n) ≤ 5
unfolding groups_of
groups_few n = up_to_few 4 n
