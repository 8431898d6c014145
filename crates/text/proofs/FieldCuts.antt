-- A field that is read is the field that the line has at its place. Assumes nothing.
use Rattle.std.specs.Prelude.{◌≡◌, ℕ, true, false, ◌&&◌, List, [], ◌∷◌, Some, None, Ok, Option, ◌==◌, ◌≢◌, nat_le, refl}
use Rattle.std.proofs.Common.{sym, ap, ◌∙◌, inl, inr, arith}
use Rattle.std.proofs.lemmas.Bool.{cases_Bool, cases_eq, cond-true, cond-false, and_parts, leb-true, ne_eqb}
use Rattle.decimals.specs.Decimals.{digit, push, taken, decimal_fault, unless, decimal_read}
use Rattle.decimals.proofs.Taking.{taken_more}
use Rattle.refusals.specs.declared.refusal.Refusal.{Refusal}
use Rattle.files.specs.declared.fields.EndField.{EndField}
use Rattle.files.specs.declared.fields.EndField.TheVariants.{At, Forever}
use Rattle.files.proofs.Binding.{ok_parts, bind_parts}
use Rattle.text.specs.Text.{byte_read, number_read, time_read, end_read}
use Rattle.text.specs.Lines.{parts, front, back, field_at, past, number_in, star_first, end_in}
use Rattle.text.specs.Ending.{byte_first}
use Rattle.text.proofs.Cuts.{parts_not}

-- bs begins with a space or a line feed
abbrev pub Parted : List ℕ → Type 0
Parted bs = (b : ℕ) × (rest : List ℕ) × (bs ≡ b ∷ rest) × (parts b ≡ true)

parted_back : (bs : List ℕ) → Parted bs → back bs ≡ bs
parted_back bs (b, rest, e, p) = ap back e ∙ cond-true (parts b) _ _ p ∙ sym e

digit_parts : (b : ℕ) → digit b ≡ true → parts b ≡ false
digit_parts b d =
    let w = and_parts (nat_le 48 b) (nat_le b 57) d in
    let l = leb-true 48 b w.0 in
    parts_not b (λ e. omega arith) (λ e. omega arith)

taken_cut : (v n : ℕ) (bs rest : List ℕ) → taken v bs ≡ (n, rest) → Parted rest → (back bs ≡ rest) × ((taken v (front bs)).0 ≡ n)
taken_cut v n [] rest e (c, more, r, p) =
    let z : [] ≡ c ∷ more = ap (λ q. q.1) e ∙ r in
    absurd (let o : ◌≡◌ {A = ℕ} 0 1 = cc in omega arith)
taken_cut v n (b ∷ bs) rest e q =
    elim (cases_Bool (digit b && nat_le (push v b) 4294967295)) [
      | inl t ↦
          let w = and_parts (digit b) (nat_le (push v b) 4294967295) t in
          let np = digit_parts b w.0 in
          let ih = taken_cut (push v b) n bs rest (sym (cond-true (digit b && nat_le (push v b) 4294967295) _ _ t) ∙ e) q in (
            cond-false (parts b) _ _ np ∙ ih.0,
            ap (λ zs. (taken v zs).0) (cond-false (parts b) [] (b ∷ front bs) np) ∙ ap (λ z. z.0) (taken_more v b (front bs) w.0 (leb-true _ _ w.1)) ∙ ih.1,
          )
      | inr t ↦
          let here : ◌≡◌ {A = ℕ × List ℕ} (v, b ∷ bs) (n, rest) = sym (cond-false (digit b && nat_le (push v b) 4294967295) _ _ t) ∙ e in
          let left : b ∷ bs ≡ rest = ap (λ z. z.1) here in
          let same : b ∷ bs ≡ q.0 ∷ q.1 = left ∙ q.2 in
          let first : b ≡ q.0 = cc in
          let p : parts b ≡ true = ap parts first ∙ q.3 in
          (cond-true (parts b) _ _ p ∙ left, ap (λ zs. (taken v zs).0) (cond-true (parts b) [] (b ∷ front bs) p) ∙ ap (λ z. z.0) here)
    ]

unless_ok : (f : Option Refusal) (p q : ℕ × List ℕ) → unless f p ≡ Ok q → p ≡ q
unless_ok None p q e = cc
unless_ok (Some r) p q e = absurd (let z : ◌≡◌ {A = ℕ} 0 1 = cc in omega arith)

decimal_cut : (n : ℕ) (bs rest : List ℕ) → decimal_read bs ≡ Ok (n, rest) → Parted rest → (back bs ≡ rest) × (number_in (front bs) ≡ n)
decimal_cut n bs rest e p = taken_cut 0 n bs rest (unless_ok (decimal_fault bs) (taken 0 bs) (n, rest) e) p

pub number_parted : (n : ℕ) (bs rest : List ℕ) → number_read bs ≡ Ok (n, rest) → Parted bs
number_parted n bs rest e =
    let p = bind_parts (byte_read 32 bs) (λ _ xs. decimal_read xs) n rest e in
    (32, p.1, byte_first 32 p.0 bs p.1 p.2, refl)

pub number_cut : (n : ℕ) (bs rest : List ℕ) → number_read bs ≡ Ok (n, rest) → Parted rest → (past bs ≡ rest) × (number_in (field_at bs) ≡ n)
number_cut n bs rest e q =
    let p = bind_parts (byte_read 32 bs) (λ _ xs. decimal_read xs) n rest e in
    let f = byte_first 32 p.0 bs p.1 p.2 in
    let d = decimal_cut n p.1 rest p.3 q in
    (ap past f ∙ d.0, ap (λ zs. number_in (field_at zs)) f ∙ d.1)

star_front : (b : ℕ) (bs : List ℕ) → (b ≢ 42) → star_first (front (b ∷ bs)) ≡ false
star_front b bs h =
    elim (cases_Bool (parts b)) [
      | inl p ↦ ap star_first (cond-true (parts b) [] (b ∷ front bs) p)
      | inr p ↦ ap star_first (cond-false (parts b) [] (b ∷ front bs) p) ∙ ne_eqb b 42 h
    ]

time_cut : (x : EndField) (bs rest : List ℕ) → time_read bs ≡ Ok (x, rest) → Parted rest → (back bs ≡ rest) × (end_in (front bs) ≡ x)
time_cut x [] rest e q = absurd (let z : ◌≡◌ {A = ℕ} 0 1 = cc in omega arith)
time_cut x (b ∷ bs) rest e q =
    elim (cases_eq b 42) [
      | inl p ↦
          let f : b ∷ bs ≡ 42 ∷ bs = ap (λ y. y ∷ bs) p in
          let o = ok_parts Forever x bs rest (sym (ap time_read f) ∙ e) in
          (ap back f ∙ ap back o.1 ∙ parted_back rest q, ap (λ zs. end_in (front zs)) f ∙ o.0)
      | inr p ↦
          let g = bind_parts (decimal_read (b ∷ bs)) (λ n xs. Ok (At n, xs)) x rest (sym (cond-false (b == 42) _ _ (ne_eqb b 42 p)) ∙ e) in
          let o = ok_parts (At g.0) x g.1 rest g.3 in
          let d = decimal_cut g.0 (b ∷ bs) rest (g.2 ∙ ap (λ (zs : List ℕ). Ok (g.0, zs)) o.1) q in
          (d.0, cond-false (star_first (front (b ∷ bs))) _ _ (star_front b bs p) ∙ ap (λ n. At n) d.1 ∙ o.0)
    ]

pub end_parted : (x : EndField) (bs rest : List ℕ) → end_read bs ≡ Ok (x, rest) → Parted bs
end_parted x bs rest e =
    let p = bind_parts (byte_read 32 bs) (λ _ xs. time_read xs) x rest e in
    (32, p.1, byte_first 32 p.0 bs p.1 p.2, refl)

pub end_cut : (x : EndField) (bs rest : List ℕ) → end_read bs ≡ Ok (x, rest) → Parted rest → (past bs ≡ rest) × (end_in (field_at bs) ≡ x)
end_cut x bs rest e q =
    let p = bind_parts (byte_read 32 bs) (λ _ xs. time_read xs) x rest e in
    let f = byte_first 32 p.0 bs p.1 p.2 in
    let d = time_cut x p.1 rest p.3 q in
    (ap past f ∙ d.0, ap (λ zs. end_in (field_at zs)) f ∙ d.1)
