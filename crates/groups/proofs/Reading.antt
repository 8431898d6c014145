-- What `read_up_to` does with the first byte, and how large the number is. Assumes nothing.
use Rattle.std.proofs.Common.{◌≡◌, ℕ, zero, suc, ◌+◌, ◌-◌, ◌*◌, ◌^◌, ◌<◌, ◌≤◌, List, ◌∷◌, Ok, Err, sym, refl, ap, ◌∙◌, arith}
use native.Mathlib.Nat.{pow-succ'}
use Rattle.std.proofs.lemmas.Bool.{le-ltb, eq-eqb, ne_eqb, cond-true, cond-false}
use Rattle.refusals.specs.declared.refusal.Refusal.{Refusal}
use Rattle.refusals.specs.declared.refusal.Refusal.TheVariants.{BadNumber}
use Rattle.refusals.specs.Parts.{Part}
use Rattle.groups.specs.Groups.{onto, read_up_to}

pub ok_parts : (p q : ℕ × List ℕ) → ◌≡◌ {A = Part ℕ} (Ok p) (Ok q) → (p.0 ≡ q.0) × (p.1 ≡ q.1)
ok_parts p q e = let f : p ≡ q = cc in (ap (λ z. z.0) f, ap (λ z. z.1) f)

pred_suc : (i : ℕ) → suc i - 1 ≡ i
pred_suc i = omega arith

read_more : (i b : ℕ) (bs rest : List ℕ) → bs ≡ b ∷ rest → (i ≡ 0 → ⊥) → 128 ≤ b → read_up_to i bs ≡ onto b (read_up_to (i - 1) rest)
read_more zero b bs rest e z h = absurd (z refl)
read_more (suc i) b bs rest e z h = ap (read_up_to (suc i)) e ∙ cond-false _ _ _ (le-ltb b 128 h) ∙ ap (λ k. onto b (read_up_to k rest)) (sym (pred_suc i))

pub onto_zero : (b m : ℕ) (rest : List ℕ) → m ≡ 0 → onto b (Ok (m, rest)) ≡ Err BadNumber
onto_zero b m rest e = cond-true _ _ _ (eq-eqb m 0 e)

pub onto_some : (b m : ℕ) (rest : List ℕ) → (m ≡ 0 → ⊥) → onto b (Ok (m, rest)) ≡ Ok (b - 128 + 128 * m, rest)
onto_some b m rest e = cond-false _ _ _ (ne_eqb m 0 e)

-- a group that others follow, and what those are read as
module _ (i b : ℕ) (bs rest : List ℕ) (e : bs ≡ b ∷ rest) (some : i ≡ 0 → ⊥) (h : 128 ≤ b) where
  onto_rest : read_up_to i bs ≡ onto b (read_up_to (i - 1) rest)
  onto_rest = read_more i b bs rest e some h

  pub read_more_fault : (r : Refusal) → Err r ≡ read_up_to (i - 1) rest → Err r ≡ read_up_to i bs
  read_more_fault r f = sym (onto_rest ∙ ap (onto b) (sym f))

-- a number with at most i groups after the first is below 16 * 128 ^ i
pub limit_some : (i : ℕ) → 16 ≤ 16 * 128 ^ i
limit_some zero = omega arith
limit_some (suc i) = let h = limit_some i in rw pow-succ' (omega arith)

pub small_last : (i b : ℕ) → (i ≡ 0 → ⊥) → b < 128 → b < 16 * 128 ^ i
small_last zero b z h = absurd (z refl)
small_last (suc i) b z h = let l = limit_some i in rw pow-succ' (omega arith)

pub small_more : (i b m : ℕ) → (i ≡ 0 → ⊥) → b < 256 → m < 16 * 128 ^ (i - 1) → b - 128 + 128 * m < 16 * 128 ^ i
small_more zero b m z h s = absurd (z refl)
small_more (suc i) b m z h s =
    let e = pred_suc i in
    let s' = rw e at s in
    rw pow-succ' (omega arith)

small_fits : (i m : ℕ) → i ≤ 4 → m < 16 * 128 ^ i → m < 2 ^ 32
small_fits zero m h s = omega arith
small_fits (suc zero) m h s = omega arith
small_fits (suc (suc zero)) m h s = omega arith
small_fits (suc (suc (suc zero))) m h s = omega arith
small_fits (suc (suc (suc (suc zero)))) m h s = omega arith
small_fits (suc (suc (suc (suc (suc i))))) m h s = absurd (omega arith)

pub more_fits : (i b m : ℕ) → i ≤ 4 → (i ≡ 0 → ⊥) → b < 256 → m < 16 * 128 ^ (i - 1) → b - 128 + 128 * m < 2 ^ 32
more_fits i b m h z k s = small_fits i _ h (small_more i b m z k s)
