-- Bytes are read as a number and a rest just where they are the number as it is printed, and then the rest. Assumes nothing.
use Rattle.std.proofs.Common.{◌≡◌, ℕ, ◌+◌, ◌-◌, ◌/◌, ◌%◌, ◌^◌, ◌<◌, ◌≤◌, true, false, ◌&&◌, ◌||◌, leb, List, [], ◌∷◌, ◌++◌, length, Some, None, Ok, decimal, Option, sym, refl, ap, ◌∙◌, subst, inl, inr, arith}
use Rattle.std.proofs.lemmas.Bool.Decides.{nat_tests}
use Rattle.std.proofs.lemmas.List.{append_assoc, length-append}
use Rattle.std.proofs.lemmas.Bool.{cases_Bool, cases_eq, cond-true, cond-false, cond_both, and_parts, and_left, and_right, or_parts, or_from, leb-true, ne_eqb, eq-eqb, both_ways}
use Rattle.std.proofs.lemmas.Fmt.{decimal_digit, decimal_step, decimal_by_steps, decimal_nonempty}
use Rattle.refusals.specs.declared.refusal.Refusal.{Refusal}
use Rattle.refusals.specs.declared.refusal.Refusal.TheVariants.{BadByte, BadNumber}
use Rattle.decimals.specs.Decimals.{digit, digit_first, push, taken, leading_zero, decimal_fault, unless, decimal_read, Written, DecimalExact}
use Rattle.decimals.proofs.Taking.{taken_more, taken_none}

-- no fault, by its parts
abbrev Sound : List ℕ → Type 0
Sound bs = (digit_first bs ≡ true) × (leading_zero bs ≡ false) × (digit_first (taken 0 bs).1 ≡ false)

no_fault : (bs : List ℕ) → Sound bs → decimal_fault bs ≡ None
no_fault [] s = absurd (both_ways false refl s.0)
no_fault (b ∷ bs) s = cond-true _ _ _ s.0 ∙ cond-false _ _ _ (or_from _ _ s.1 s.2)

sound : (bs : List ℕ) → decimal_fault bs ≡ None → Sound bs
sound [] e = absurd (let z : ◌≡◌ {A = ℕ} 0 1 = cc in omega arith)
sound (b ∷ bs) e =
    elim (cases_Bool (digit b)) [
      | inr d ↦ let f : Some BadByte ≡ None = sym (cond-false _ _ _ d) ∙ e in absurd (let z : ◌≡◌ {A = ℕ} 0 1 = cc in omega arith)
      | inl d ↦ elim (cases_Bool (leading_zero (b ∷ bs) || digit_first (taken 0 (b ∷ bs)).1)) [
        | inl w ↦ let f : Some BadNumber ≡ None = sym (cond-true _ _ _ d ∙ cond-true _ _ _ w) ∙ e in absurd (let z : ◌≡◌ {A = ℕ} 0 1 = cc in omega arith)
        | inr w ↦ let p = or_parts _ _ w in (d, p.0, p.1)
      ]
    ]

digit_is : (d : ℕ) → d < 10 → digit (48 + d) ≡ true
digit_is d h = grind (arith, nat_tests)

digit_within : (b : ℕ) → digit b ≡ true → (48 ≤ b) × (b ≤ 57)
digit_within b d = let p = and_parts _ _ d in (leb-true _ _ p.0, leb-true _ _ p.1)

-- a number as it is printed, with anything after it
abbrev Prints : ℕ → List ℕ → Type 0
Prints n ds =
    n < 2 ^ 32 → (rest : List ℕ) →
    (digit_first (ds ++ rest) ≡ true)
    × ((n ≡ 0 → digit_first rest ≡ false) → leading_zero (ds ++ rest) ≡ false)
    × (taken 0 (ds ++ rest) ≡ taken n rest)

prints_one : (n : ℕ) → n < 10 → Prints n ((48 + n) ∷ [])
prints_one n h small rest =
    let v : push 0 (48 + n) ≡ n = omega arith in (
      digit_is n h,
      λ stop. elim (cases_eq n 0) [
        | inl z ↦ and_right _ _ (stop z)
        | inr z ↦ and_left _ _ (ne_eqb (48 + n) 48 (λ e. z (omega arith)))
      ],
      taken_more 0 (48 + n) rest (digit_is n h) (omega arith) ∙ ap (λ k. taken k rest) v,
    )

prints_more : (n : ℕ) (ds : List ℕ) → 10 ≤ n → Prints (n / 10) ds → Prints n (ds ++ ((48 + n % 10) ∷ []))
prints_more n ds h ih small rest =
    let p = ih (omega arith) ((48 + n % 10) ∷ rest) in
    let v : push (n / 10) (48 + n % 10) ≡ n = omega arith in
    let d : digit (48 + n % 10) ≡ true = digit_is (n % 10) (omega arith) in
    simp append_assoc (
      p.0,
      λ stop. p.1 (λ z. absurd (omega arith)),
      p.2 ∙ taken_more (n / 10) (48 + n % 10) rest d (omega arith) ∙ ap (λ k. taken k rest) v,
    )

prints : (n : ℕ) → n < 2 ^ 32 → Prints n (decimal n)
prints n h = decimal_by_steps Prints prints_one prints_more n (omega arith)

pub written_read : (n : ℕ) (rest bs : List ℕ) → Written n rest bs → decimal_read bs ≡ Ok (n, rest)
written_read n rest bs w =
    let p = prints n w.0 w.0 rest in
    let t : taken 0 (decimal n ++ rest) ≡ (n, rest) = p.2 ∙ taken_none n rest w.1 in
    let f : decimal_fault (decimal n ++ rest) ≡ None = no_fault (decimal n ++ rest) (p.0, p.1 (λ z. w.1), ap (λ q. digit_first q.1) t ∙ w.1) in
    ap decimal_read w.2 ∙ ap (λ g. unless g (taken 0 (decimal n ++ rest))) f ∙ ap (λ (q : ℕ × List ℕ). Ok q) t

-- one more digit
decimal_push : (v b : ℕ) → 0 < v → push v b ≤ 4294967295 → digit b ≡ true → decimal (push v b) ≡ decimal v ++ b ∷ []
decimal_push v b pos h d =
    let w = digit_within b d in
    let u : push v b / 10 ≡ v = omega arith in
    let l : 48 + push v b % 10 ≡ b = omega arith in
    decimal_step (push v b) (omega arith) (omega arith) ∙ ap (λ k. decimal k ++ (48 + push v b % 10) ∷ []) u ∙ ap (λ k. decimal v ++ k ∷ []) l

-- the number p .0 and the bytes p .1 print as v and bs do
abbrev Same : ℕ → List ℕ → ℕ × List ℕ → Type 0
Same v bs p = (decimal v ++ bs ≡ decimal p.0 ++ p.1) × (p.0 < 2 ^ 32)

taken_same : (v : ℕ) (bs : List ℕ) → 0 < v → v < 2 ^ 32 → Same v bs (taken v bs)
taken_same v [] pos h = (refl, h)
taken_same v (b ∷ bs) pos h =
    cond_both (digit b && leb (push v b) 4294967295) _ _ (Same v (b ∷ bs))
    (λ e.
    let w = and_parts _ _ e in
    let m = leb-true _ _ w.1 in
    let ih = taken_same (push v b) bs (omega arith) (omega arith) in
    (sym (ap (λ zs. zs ++ bs) (decimal_push v b pos m w.0) ∙ append_assoc (decimal v) (b ∷ []) bs) ∙ ih.0, ih.1))
    (λ e. (refl, h))

sound_written : (bs : List ℕ) → Sound bs → Written (taken 0 bs).0 (taken 0 bs).1 bs
sound_written [] s = absurd (both_ways false refl s.0)
sound_written (b ∷ bs) s =
    let w = digit_within b s.0 in
    let v : push 0 b ≡ b - 48 = omega arith in
    let one : decimal (b - 48) ≡ b ∷ [] = decimal_digit (b - 48) (omega arith) ∙ ap (λ k. k ∷ []) (let u : 48 + (b - 48) ≡ b = omega arith in u) in
    let t : taken 0 (b ∷ bs) ≡ taken (b - 48) bs = taken_more 0 b bs s.0 (omega arith) ∙ ap (λ k. taken k bs) v in
    let same : Same (b - 48) bs (taken (b - 48) bs) =
    elim (cases_eq b 48) [
      | inl z ↦
          let d : digit_first bs ≡ false = sym (ap (λ t. t && digit_first bs) (eq-eqb b 48 z)) ∙ s.1 in
          subst (Same (b - 48) bs) (sym (taken_none (b - 48) bs d)) (refl, omega arith)
      | inr z ↦ taken_same (b - 48) bs (omega arith) (omega arith)
    ] in
    let p : Same (b - 48) bs (taken 0 (b ∷ bs)) = subst (Same (b - 48) bs) (sym t) same in
    (p.1, s.2, sym (ap (λ zs. zs ++ bs) one) ∙ p.0)

unless_ok : (f : Option Refusal) (p q : ℕ × List ℕ) → unless f p ≡ Ok q → (f ≡ None) × (p ≡ q)
unless_ok None p q e = (refl, cc)
unless_ok (Some r) p q e = absurd (let z : ◌≡◌ {A = ℕ} 0 1 = cc in omega arith)

pub read_written : (n : ℕ) (rest bs : List ℕ) → decimal_read bs ≡ Ok (n, rest) → Written n rest bs
read_written n rest bs e =
    let u = unless_ok (decimal_fault bs) (taken 0 bs) (n, rest) e in
    subst (λ (p : ℕ × List ℕ). Written p.0 p.1 bs) u.1 (sound_written bs (sound bs u.0))

-- what is read leaves fewer bytes
pub read_shorter : (n : ℕ) (rest bs : List ℕ) → decimal_read bs ≡ Ok (n, rest) → length rest < length bs
read_shorter n rest bs e =
    let w = read_written n rest bs e in
    let some = decimal_nonempty n (let h = w.0 in omega arith) in
    let l = simp length-append at (ap length w.2) in
    omega arith

pub decimal_exact : (bs : List ℕ) → DecimalExact bs
unfolding DecimalExact
decimal_exact bs n rest = (written_read n rest bs, read_written n rest bs)
