-- What is read leaves the end of the bytes, and fewer than there were, whether or not each is below 256. Assumes nothing.
use Rattle.std.proofs.Common.{◌≡◌, ℕ, zero, suc, ◌+◌, ◌-◌, ◌*◌, ◌<◌, List, [], ◌∷◌, ◌++◌, length, Ok, Err, sym, ap, ◌∙◌, inl, inr, arith}
use Rattle.std.proofs.lemmas.Bool.{lt-ltb, le-ltb, cond-true, cond-false, cases_lt, cases_eq}
use Rattle.refusals.specs.declared.refusal.Refusal.TheVariants.{BadNumber}
use Rattle.refusals.specs.Parts.{Part}
use Rattle.groups.specs.Groups.{onto, read_up_to, groups_read}
use Rattle.groups.proofs.Reading.{onto_zero, onto_some, ok_parts}

-- bs is at least one byte and then rest
abbrev pub Ends : List ℕ → List ℕ → Type 0
Ends rest bs = (front : List ℕ) × (0 < length front) × (bs ≡ front ++ rest)

ends_one : (b : ℕ) (bs rest : List ℕ) → bs ≡ rest → Ends rest (b ∷ bs)
ends_one b bs rest e = (b ∷ [], omega arith, ap (λ zs. b ∷ zs) e)

ends_more : (b : ℕ) (bs rest : List ℕ) → Ends rest bs → Ends rest (b ∷ bs)
ends_more b bs rest s = (b ∷ s.0, omega arith, ap (λ zs. b ∷ zs) s.2)

onto_ok : (b n : ℕ) (rest : List ℕ) (r : Part ℕ) → onto b r ≡ Ok (n, rest) → (m : ℕ) × (r ≡ Ok (m, rest))
onto_ok b n rest (Err r) e = absurd (let z : ◌≡◌ {A = ℕ} 0 1 = cc in omega arith)
onto_ok b n rest (Ok p) e =
    elim (cases_eq p.0 0) [
      | inl z ↦
          let f : ◌≡◌ {A = Part ℕ} (Err BadNumber) (Ok (n, rest)) = sym (onto_zero b p.0 p.1 z) ∙ e in
          absurd (let o : ◌≡◌ {A = ℕ} 0 1 = cc in omega arith)
      | inr z ↦
          let g = ok_parts (b - 128 + 128 * p.0, p.1) (n, rest) (sym (onto_some b p.0 p.1 z) ∙ e) in
          (p.0, ap (λ (zs : List ℕ). Ok (p.0, zs)) g.1)
    ]

up_to_ends : (i n : ℕ) (bs rest : List ℕ) → read_up_to i bs ≡ Ok (n, rest) → Ends rest bs
up_to_ends i n [] rest e = absurd (let z : ◌≡◌ {A = ℕ} 0 1 = cc in omega arith)
up_to_ends zero n (b ∷ bs) rest e =
    elim (cases_lt b 16) [
      | inl p ↦ ends_one b bs rest (ok_parts (b, bs) (n, rest) (sym (cond-true _ _ _ (lt-ltb b 16 p)) ∙ e)).1
      | inr p ↦
          let f : ◌≡◌ {A = Part ℕ} (Err BadNumber) (Ok (n, rest)) = sym (cond-false _ _ _ (le-ltb b 16 p)) ∙ e in
          absurd (let o : ◌≡◌ {A = ℕ} 0 1 = cc in omega arith)
    ]
up_to_ends (suc i) n (b ∷ bs) rest e =
    elim (cases_lt b 128) [
      | inl p ↦ ends_one b bs rest (ok_parts (b, bs) (n, rest) (sym (cond-true _ _ _ (lt-ltb b 128 p)) ∙ e)).1
      | inr p ↦
          let m = onto_ok b n rest (read_up_to i bs) (sym (cond-false _ _ _ (le-ltb b 128 p)) ∙ e) in
          ends_more b bs rest (up_to_ends i m.0 bs rest m.1)
    ]

pub read_ends : (n : ℕ) (rest bs : List ℕ) → groups_read bs ≡ Ok (n, rest) → Ends rest bs
read_ends n rest bs e = up_to_ends 4 n bs rest e
