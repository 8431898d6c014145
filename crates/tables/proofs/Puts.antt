-- What the answer of a call that puts a row in tells.
use Rattle.std.proofs.Common.{◌≡◌, ℕ, ◌<◌, ◌≤◌, Bool, true, false, cond, leb, ◌⊎◌, List, length, set, is_some, Some, None, Ok, Err, Option, Result, sym, refl, ap, ◌∙◌, inl, inr, ⊎_elim, arith}
use Rattle.std.proofs.lemmas.Bool.{leb-true, leb-false}
use Rattle.refusals.specs.declared.refusal.Refusal.{Refusal}
use Rattle.refusals.specs.declared.refusal.Refusal.TheVariants.{IdInUse, StoreFull}
use Rattle.rows.specs.Rows.{Plain}
use Rattle.tables.specs.Cells.{slot_of, filled, free_slot, Placing, placing, puts_at, puts}
use Rattle.tables.proofs.Found.{no_some}
use Rattle.tables.proofs.Free.{free_slot_some}

-- the row went into the slot i
pub record Put (r : Plain) (i : ℕ) (cs new : List (Option Plain)) : Type 0 where
  pub absent : slot_of r.id cs ≡ None
  pub room : filled cs < 256
  pub free : free_slot r.id cs ≡ Some i
  pub after : new ≡ set cs i (Some r)

-- the call was refused
pub record Refused (r : Plain) (why : Refusal) (cs new : List (Option Plain)) : Type 0 where
  pub same : new ≡ cs
  pub cause : ((why ≡ IdInUse) × (is_some (slot_of r.id cs) ≡ true)) ⊎ ((why ≡ StoreFull) × (is_some (slot_of r.id cs) ≡ false) × (256 ≤ filled cs))

err_ok : (why : Refusal) (i : ℕ) → ◌≡◌ {A = Result ℕ Refusal} (Err why) (Ok i) → ⊥
err_ok why i e = let z : ◌≡◌ {A = ℕ} 0 1 = cc in omega arith

module _ (r : Plain) (cs new : List (Option Plain)) where
  done : (i : ℕ) (a b : Bool) (f : Option ℕ) → placing (Ok i) new ≡ cond a (placing (Err IdInUse) cs) (cond b (placing (Err StoreFull) cs) (puts_at f r cs))
      → (a ≡ false) × (b ≡ false) × (f ≡ Some i) × (new ≡ set cs i (Some r))
  done i true b f e = absurd (err_ok IdInUse i (sym (ap (λ (p : Placing). p.answer) e)))
  done i false true f e = absurd (err_ok StoreFull i (sym (ap (λ (p : Placing). p.answer) e)))
  done i false false None e = absurd (err_ok StoreFull i (sym (ap (λ (p : Placing). p.answer) e)))
  done i false false (Some j) e =
      let answers = ap (λ (p : Placing). p.answer) e in
      let same : j ≡ i = cc in
      (refl, refl, ap Some same, ap (λ (p : Placing). p.after) e ∙ ap (λ k. set cs k (Some r)) same)

  pub put_told : (i : ℕ) → placing (Ok i) new ≡ puts r cs → Put r i cs new
  put_told i e =
      let d = done i (is_some (slot_of r.id cs)) (leb 256 (filled cs)) (free_slot r.id cs) e in
      record { absent = no_some (slot_of r.id cs) d.0; room = leb-false 256 (filled cs) d.1; free = d.2; after = d.3 }

  undone : (why : Refusal) (a b : Bool) (f : Option ℕ) → placing (Err why) new ≡ cond a (placing (Err IdInUse) cs) (cond b (placing (Err StoreFull) cs) (puts_at f r cs))
      → (b ≡ false → f ≡ None → ⊥) → (new ≡ cs) × (((why ≡ IdInUse) × (a ≡ true)) ⊎ ((why ≡ StoreFull) × (a ≡ false) × (b ≡ true)))
  undone why true b f e full = let answers = ap (λ (p : Placing). p.answer) e in (ap (λ (p : Placing). p.after) e, inl (cc, refl))
  undone why false true f e full = let answers = ap (λ (p : Placing). p.answer) e in (ap (λ (p : Placing). p.after) e, inr (cc, refl, refl))
  undone why false false None e full = absurd (full refl refl)
  undone why false false (Some j) e full = absurd (err_ok why j (ap (λ (p : Placing). p.answer) e))

  pub put_refused : (why : Refusal) → length cs ≡ 512 → placing (Err why) new ≡ puts r cs → Refused r why cs new
  put_refused why long e =
      let d = undone why (is_some (slot_of r.id cs)) (leb 256 (filled cs)) (free_slot r.id cs) e
      (λ few none. free_slot_some r.id cs long (omega (arith, leb-false 256 (filled cs) few)) none) in
      record { same = d.0; cause = ⊎_elim inl (λ h. inr (h.0, h.1, leb-true 256 (filled cs) h.2)) d.1 }
