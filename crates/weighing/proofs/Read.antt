-- What a line that is read consists of: a number, a line feed, and the bytes that are left.
use Rattle.std.proofs.Common.{◌≡◌, ℕ, ◌<◌, true, eqb, leb, List, [], ◌∷◌, length, Ok, Err, Result, sym, refl, ap, ◌∙◌, inl, inr, arith}
use Rattle.std.proofs.lemmas.Bool.{cases_Bool, cond-true, cond-false, eqb-true}
use Rattle.refusals.specs.declared.refusal.Refusal.{Refusal}
use Rattle.decimals.specs.Decimals.{decimal_read}
use Rattle.decimals.proofs.Exactness.{read_shorter}
use Rattle.weighing.specs.declared.weighed.Weighed.{Weighed}
use Rattle.weighing.specs.Lines.{weighed, number_weighed, with_rest, line_end, after_number, line_read}

end_parts : (n : ℕ) (bs rest : List ℕ) (w : Weighed) → line_end n bs ≡ Ok (w, rest)
    → (bs ≡ 10 ∷ rest) × (leb n 4095 ≡ true) × (w ≡ weighed n)
end_parts n [] rest w e = absurd (cc)
end_parts n (b ∷ bs) rest w e =
    elim (cases_Bool (eqb b 10)) [
      | inr t ↦ let f = sym (cond-false _ _ _ t) ∙ e in absurd (cc)
      | inl t ↦
          let f : with_rest bs (number_weighed n) ≡ Ok (w, rest) = sym (cond-true _ _ _ t) ∙ e in
          elim (cases_Bool (leb n 4095)) [
            | inr u ↦ let g = sym (ap (with_rest bs) (cond-false _ _ _ u)) ∙ f in absurd (cc)
            | inl u ↦
                let g : Ok (weighed n, bs) ≡ Ok (w, rest) = sym (ap (with_rest bs) (cond-true _ _ _ u)) ∙ f in
                let same : (weighed n, bs) ≡ (w, rest) = cc in
                let feed : b ≡ 10 = eqb-true b 10 t in
                let after : bs ≡ rest = ap (λ (p : Weighed × List ℕ). p.1) same in
                (ap (λ k. k ∷ bs) feed ∙ ap (λ (xs : List ℕ). 10 ∷ xs) after, u, sym (ap (λ (p : Weighed × List ℕ). p.0) same))
          ]
    ]

after_parts : (bs : List ℕ) (r : Result (ℕ × List ℕ) Refusal) → decimal_read bs ≡ r → (rest : List ℕ) (w : Weighed)
    → after_number r ≡ Ok (w, rest) → (decimal_read bs ≡ Ok (w.number, 10 ∷ rest)) × (leb w.number 4095 ≡ true)
after_parts bs (Ok p) d rest w e =
    let q = end_parts p.0 p.1 rest w e in
    let number : p.0 ≡ w.number = sym (ap (λ (v : Weighed). v.number) q.2) in
    (d ∙ ap (λ (xs : List ℕ). Ok (p.0, xs)) q.0 ∙ ap (λ (k : ℕ). Ok (k, 10 ∷ rest)) number, sym (ap (λ k. leb k 4095) number) ∙ q.1)
after_parts bs (Err x) d rest w e = absurd (cc)

pub line_parts : (bs rest : List ℕ) (w : Weighed) → line_read bs ≡ Ok (w, rest)
    → (decimal_read bs ≡ Ok (w.number, 10 ∷ rest)) × (leb w.number 4095 ≡ true)
line_parts bs rest w e = after_parts bs (decimal_read bs) refl rest w e

pub line_shorter : (bs rest : List ℕ) (w : Weighed) → line_read bs ≡ Ok (w, rest) → length rest < length bs
line_shorter bs rest w e = let shorter = read_shorter w.number (10 ∷ rest) bs (line_parts bs rest w e).0 in omega arith
