-- Bytes are read as a number and a rest just where they are the groups of the number, and then the rest. Assumes nothing.
use Rattle.std.proofs.Common.{◌≡◌, ℕ, zero, suc, ◌+◌, ◌-◌, ◌*◌, ◌/◌, ◌%◌, ◌^◌, ◌<◌, ◌≤◌, leb, List, [], ◌∷◌, ◌++◌, length, drop, Some, None, Ok, Err, Option, sym, refl, ap, ◌∙◌, inl, inr, arith}
use native.Mathlib.Nat.{pow-succ'}
use Rattle.std.proofs.lemmas.Bool.{lt-ltb, le-ltb, cond-true, cond-false, cases_lt, cases_Bool, leb-true}
use Rattle.refusals.specs.declared.refusal.Refusal.TheVariants.{BadNumber}
use Rattle.refusals.specs.Parts.{Part}
use Rattle.groups.specs.Groups.{onto, read_up_to, groups_read, groups_up_to, groups_of, Bytes, Written, GroupsExact}
use Rattle.groups.specs.Puts.{put_all, put, ReadsBack}
use Rattle.groups.proofs.Reading.{ok_parts, onto_zero, onto_some, limit_some}
use Rattle.groups.proofs.Writing.{up_to_last, up_to_more}
use Rattle.groups.proofs.Putting.{drop_put_all}

up_to_read : (i n : ℕ) (rest : List ℕ) → n < 16 * 128 ^ i → read_up_to i (groups_up_to i n ++ rest) ≡ Ok (n, rest)
up_to_read zero n rest h = cond-true _ _ _ (lt-ltb n 16 (omega arith))
up_to_read (suc i) n rest h =
    elim (cases_lt n 128) [
      | inl p ↦ ap (λ gs. read_up_to (suc i) (gs ++ rest)) (up_to_last (suc i) n p) ∙ cond-true _ _ _ (lt-ltb n 128 p)
      | inr p ↦
          let k : n / 128 < 16 * 128 ^ i = (let h' = rw pow-succ' at h in omega arith) in
          let z : n / 128 ≡ 0 → ⊥ = omega arith in
          let v : 128 + n % 128 - 128 + 128 * (n / 128) ≡ n = omega arith in
          ap (λ gs. read_up_to (suc i) (gs ++ rest)) (up_to_more i n p)
          ∙ cond-false _ _ _ (le-ltb (128 + n % 128) 128 (omega arith))
          ∙ ap (onto (128 + n % 128)) (up_to_read i (n / 128) rest k)
          ∙ onto_some (128 + n % 128) (n / 128) rest z
          ∙ ap (λ m. Ok (m, rest)) v
    ]

-- what is read with at most i groups after the first
abbrev Spells : ℕ → ℕ → List ℕ → List ℕ → Type 0
Spells i n rest bs = (n < 16 * 128 ^ i) × (bs ≡ groups_up_to i n ++ rest)

-- the groups after b are those of m
onto_spells : (i b n : ℕ) (bs rest : List ℕ) (r : Part ℕ) → 128 ≤ b → b < 256 → ((m : ℕ) (after : List ℕ) → r ≡ Ok (m, after) → Spells i m after bs) → onto b r ≡ Ok (n, rest) → Spells (suc i) n rest (b ∷ bs)
onto_spells i b n bs rest (Err r) lo hi hyp e = absurd (let z : ◌≡◌ {A = ℕ} 0 1 = cc in omega arith)
onto_spells i b n bs rest (Ok p) lo hi hyp e =
    let ih = hyp p.0 p.1 refl in
    let some : p.0 ≡ 0 → ⊥ = λ z. (let f : ◌≡◌ {A = Part ℕ} (Err BadNumber) (Ok (n, rest)) = sym (onto_zero b p.0 p.1 z) ∙ e in let o : ◌≡◌ {A = ℕ} 0 1 = cc in omega arith) in
    let f : ◌≡◌ {A = Part ℕ} (Ok (b - 128 + 128 * p.0, p.1)) (Ok (n, rest)) = sym (onto_some b p.0 p.1 some) ∙ e in
    let g = ok_parts (b - 128 + 128 * p.0, p.1) (n, rest) f in
    let x : b - 128 + 128 * p.0 ≡ n = g.0 in
    let y : p.1 ≡ rest = g.1 in
    let lt = ih.0 in
    let q : 128 ≤ n = omega arith in
    let u : n / 128 ≡ p.0 = omega arith in
    let v : 128 + n % 128 ≡ b = omega arith in (
      rw pow-succ' (omega arith),
      ap (λ zs. b ∷ zs) ih.1
          ∙ ap (λ zs. b ∷ (groups_up_to i p.0 ++ zs)) y
          ∙ ap (λ k. k ∷ (groups_up_to i p.0 ++ rest)) (sym v)
          ∙ ap (λ k. (128 + n % 128) ∷ (groups_up_to i k ++ rest)) (sym u)
          ∙ ap (λ gs. gs ++ rest) (sym (up_to_more i n q)),
    )

read_up_to_spells : (i n : ℕ) (bs rest : List ℕ) → Bytes bs → read_up_to i bs ≡ Ok (n, rest) → Spells i n rest bs
read_up_to_spells i n [] rest a e = absurd (let z : ◌≡◌ {A = ℕ} 0 1 = cc in omega arith)
read_up_to_spells zero n (b ∷ bs) rest a e =
    elim (cases_lt b 16) [
      | inl p ↦
          let f : ◌≡◌ {A = Part ℕ} (Ok (b, bs)) (Ok (n, rest)) = sym (cond-true _ _ _ (lt-ltb b 16 p)) ∙ e in
          let g = ok_parts (b, bs) (n, rest) f in
          let x : b ≡ n = g.0 in
          let y : bs ≡ rest = g.1 in
          (omega arith, cc)
      | inr p ↦
          let f : ◌≡◌ {A = Part ℕ} (Err BadNumber) (Ok (n, rest)) = sym (cond-false _ _ _ (le-ltb b 16 p)) ∙ e in
          absurd (let z : ◌≡◌ {A = ℕ} 0 1 = cc in omega arith)
    ]
read_up_to_spells (suc i) n (b ∷ bs) rest a e =
    elim (cases_lt b 128) [
      | inl p ↦
          let f : ◌≡◌ {A = Part ℕ} (Ok (b, bs)) (Ok (n, rest)) = sym (cond-true _ _ _ (lt-ltb b 128 p)) ∙ e in
          let g = ok_parts (b, bs) (n, rest) f in
          let x : b ≡ n = g.0 in
          let y : bs ≡ rest = g.1 in
          let q : n < 128 = omega arith in
          let l = limit_some i in
          (rw pow-succ' (omega arith), (let z : (b ∷ bs) ≡ n ∷ rest = cc in z) ∙ ap (λ gs. gs ++ rest) (sym (up_to_last (suc i) n q)))
      | inr p ↦
          onto_spells i b n bs rest (read_up_to i bs) p (a 0) (λ m after g. read_up_to_spells i m bs after (λ k. a (suc k)) g)
          (sym (cond-false _ _ _ (le-ltb b 128 p)) ∙ e)
    ]

pub written_read : (n : ℕ) (rest bs : List ℕ) → Written n rest bs → groups_read bs ≡ Ok (n, rest)
unfolding groups_of
written_read n rest bs w = ap groups_read w.1 ∙ up_to_read 4 n rest w.0

pub read_written : (n : ℕ) (rest bs : List ℕ) → Bytes bs → groups_read bs ≡ Ok (n, rest) → Written n rest bs
unfolding groups_of
read_written n rest bs a e = read_up_to_spells 4 n bs rest a e

pub groups_exact : (bs : List ℕ) → Bytes bs → GroupsExact bs
unfolding GroupsExact
groups_exact bs a n rest = (written_read n rest bs, read_written n rest bs a)

-- a number that is put is read back
pub put_reads_back : (n at : ℕ) (out after : List ℕ) (r : Option ℕ) → n < 2 ^ 32 → (r, after) ≡ put out at (groups_of n) → ReadsBack n at r after
unfolding ReadsBack
put_reads_back n at out after r small e place s =
    elim (cases_Bool (leb (at + length (groups_of n)) (length out))) [
      | inl t ↦
          let f : ◌≡◌ {A = Option ℕ × List ℕ} (r, after) (Some (at + length (groups_of n)), put_all out at (groups_of n)) = e ∙ cond-true _ _ _ t in
          let k : r ≡ Some (at + length (groups_of n)) = ap (λ z. z.0) f in
          let p : at + length (groups_of n) ≡ place = cc in
          let q : after ≡ put_all out at (groups_of n) = ap (λ z. z.1) f in
          let d = drop_put_all out at (groups_of n) (leb-true _ _ t) in
          let g : drop at after ≡ groups_of n ++ drop place after = cc in
          written_read n (drop place after) (drop at after) (small, g)
      | inr t ↦
          let k : r ≡ None = ap (λ z. z.0) (e ∙ cond-false _ _ _ t) in
          absurd (let z : ◌≡◌ {A = ℕ} 0 1 = cc in omega arith)
    ]
