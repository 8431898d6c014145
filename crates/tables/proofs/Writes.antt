-- What a write to a slot leaves: every row is still reached.
use Rattle.std.proofs.Common.{◌≡◌, ℕ, zero, suc, ◌<◌, Bool, true, false, cond, eqb, ◌≢◌, ◌⊎◌, List, map, length, get_or, set, replicate, is_some, Some, None, Option, sym, refl, ap, ◌∙◌, subst, inl, inr, ⊎_elim}
use Rattle.std.proofs.lemmas.List.{get_or-set_same, get_or-set_other, length-set, length-map}
use Rattle.std.proofs.lemmas.Bool.{eqb-true, eq-eqb, cases_eq, false≢true, true≢false}
use Rattle.rows.specs.declared.row.PlainRow.{PlainRow}
use Rattle.rows.specs.Rows.{Plain, plain}
use Rattle.stores.specs.Places.{has_id}
use Rattle.tables.specs.declared.slot.Slot.{Slot}
use Rattle.tables.specs.declared.slot.Slot.TheVariants.{Empty, Deleted, Full}
use Rattle.tables.specs.Cells.{slot_of, home, next, free_from, free_slot}
use Rattle.tables.specs.Slots.{cell, stop, pass, hit, look, by_look, sought_from, sought, Reached}
use Rattle.tables.proofs.Found.{none_some, some_is_slot, cell_at, slot_of_none}
use Rattle.tables.proofs.Search.{sought_has, reached_at, Alike, sought_alike, full_passed, passed}

-- the slot i is written over by s
module _ (slots : List Slot) (i : ℕ) (s : Slot) (within : i < length slots) where
  alike : (id : ℕ) → (look id (get_or slots i Empty) ≡ stop) ⊎ (look id s ≡ look id (get_or slots i Empty)) → Alike id slots (set slots i s)
  alike id h j =
      ⊎_elim
      (λ same. subst (λ k. (look id (get_or slots k Empty) ≡ stop) ⊎ (look id (get_or (set slots i s) k Empty) ≡ look id (get_or slots k Empty))) (sym same)
      (⊎_elim inl (λ e. inr (ap (look id) (get_or-set_same slots i s Empty within) ∙ e)) h))
      (λ other. inr (ap (look id) (get_or-set_other slots i j s Empty other)))
      (cases_eq j i)

  still : (id j : ℕ) → (look id (get_or slots i Empty) ≡ stop) ⊎ (look id s ≡ look id (get_or slots i Empty)) → sought id slots ≡ Some j → sought id (set slots i s) ≡ Some j
  still id j h e = sought_alike id j slots (set slots i s) (alike id h) (length-set slots i s) e

  reached_set : Reached slots → ((id : ℕ) → has_id id (cell s) ≡ true → sought id (set slots i s) ≡ Some i)
      → ((id j : ℕ) → j ≢ i → sought id slots ≡ Some j → (look id (get_or slots i Empty) ≡ stop) ⊎ (look id s ≡ look id (get_or slots i Empty)))
      → Reached (set slots i s)
  reached_set reached new kept j id h =
      some_is_slot j (sought id (set slots i s)) (⊎_elim
      (λ same. let there : get_or (set slots i s) j Empty ≡ s = ap (λ k. get_or (set slots i s) k Empty) same ∙ get_or-set_same slots i s Empty within in
      new id (sym (ap (λ z. has_id id (cell z)) there) ∙ h) ∙ ap Some (sym same))
      (λ other. let e = reached_at slots reached j id (sym (ap (λ z. has_id id (cell z)) (get_or-set_other slots i j s Empty other)) ∙ h) in
      still id j (kept id j other e) e)
      (cases_eq j i))

-- a row taken away
pub reached_deleted : (slots : List Slot) (i : ℕ) → i < length slots → Reached slots → Reached (set slots i Deleted)
reached_deleted slots i within reached =
    reached_set slots i Deleted within reached (λ id h. absurd (false≢true h))
    (λ id j other e. ⊎_elim inl (λ p. inr (sym p)) (passed (get_or slots i Empty) id
    (λ h. other (let a = reached_at slots reached i id h in cc))))

-- a row written over one of its id
look_cell : (s : Slot) (x : Plain) (id : ℕ) → cell s ≡ Some x → look id s ≡ cond (eqb x.id id) hit pass
look_cell Empty x id e = absurd (none_some x e)
look_cell Deleted x id e = absurd (none_some x e)
look_cell (Full r) x id e = let same : plain r ≡ x = cc in ap (λ (z : Plain). cond (eqb z.id id) hit pass) same

pub reached_over : (slots : List Slot) (i : ℕ) (r : PlainRow) (x : Plain) → i < length slots → cell (get_or slots i Empty) ≡ Some x → x.id ≡ r.id → Reached slots → Reached (set slots i (Full r))
reached_over slots i r x within was same reached =
    reached_set slots i (Full r) within reached
    (λ id h. still slots i (Full r) within id i (inr (alike_look id)) (reached_at slots reached i id (ap (has_id id) was ∙ ap (λ k. eqb k id) same ∙ h)))
    (λ id j other e. inr (alike_look id))
  where
    alike_look : (id : ℕ) → look id (Full r) ≡ look id (get_or slots i Empty)
    alike_look id = ap (λ k. cond (eqb k id) hit pass) (sym same) ∙ sym (look_cell (get_or slots i Empty) x id was)

-- a row put into the free slot that the search for its id comes to first
full_hit : (r : PlainRow) → look r.id (Full r) ≡ hit
full_hit r = ap (λ b. cond b hit pass) (eq-eqb r.id r.id refl)

held_on : (b : Bool) (on : Option ℕ) (k i : ℕ) → k ≢ i → cond b on (Some k) ≡ Some i → (b ≡ true) × (on ≡ Some i)
held_on true on k i ne e = (refl, e)
held_on false on k i ne e = absurd (ne (cc))

held_passed : (s : Slot) (id : ℕ) → (has_id id (cell s) ≡ true → ⊥) → is_some (cell s) ≡ true → look id s ≡ pass
held_passed Empty id h full = absurd (false≢true full)
held_passed Deleted id h full = refl
held_passed (Full r) id h full = full_passed (eqb r.id id) h

found_put : (n k : ℕ) (slots : List Slot) (i : ℕ) (r : PlainRow) → i < length slots → ((j : ℕ) → has_id r.id (get_or (map cell slots) j None) ≡ true → ⊥)
    → free_from n k (map cell slots) ≡ Some i → sought_from n k r.id (set slots i (Full r)) ≡ Some i
found_put zero k slots i r within absent e = absurd (none_some i e)
found_put (suc n) k slots i r within absent e =
    ⊎_elim
    (λ same. ap (λ z. by_look (look r.id z) (Some k) on) (ap (λ z. get_or (set slots i (Full r)) z Empty) same ∙ get_or-set_same slots i (Full r) Empty within)
    ∙ ap (λ l. by_look l (Some k) on) (full_hit r) ∙ ap Some same)
    (λ other.
    let h = held_on (is_some (get_or (map cell slots) k None)) _ k i other e in
    let p = held_passed (get_or slots k Empty) r.id (λ z. absent k (ap (has_id r.id) (cell_at slots k) ∙ z)) (sym (ap is_some (cell_at slots k)) ∙ h.0) in
    ap (λ z. by_look (look r.id z) (Some k) on) (get_or-set_other slots i k (Full r) Empty other)
    ∙ ap (λ l. by_look l (Some k) on) p ∙ found_put n (next k) slots i r within absent h.1)
    (cases_eq k i)
  where
    on : Option ℕ
    on = sought_from n (next k) r.id (set slots i (Full r))

empty_passed : (s : Slot) (id : ℕ) → is_some (cell s) ≡ false → (look id s ≡ stop) ⊎ (look id s ≡ pass)
empty_passed Empty id h = inl refl
empty_passed Deleted id h = inr refl
empty_passed (Full r) id h = absurd (true≢false h)

not_hit : (r : PlainRow) (id : ℕ) → (r.id ≡ id → ⊥) → look id (Full r) ≡ pass
not_hit r id h = held_passed (Full r) id (λ e. h (eqb-true r.id id e)) refl

pub reached_put : (slots : List Slot) (i : ℕ) (r : PlainRow) → i < length slots → slot_of r.id (map cell slots) ≡ None → is_some (cell (get_or slots i Empty)) ≡ false
    → free_slot r.id (map cell slots) ≡ Some i → Reached slots → Reached (set slots i (Full r))
unfolding sought free_slot
reached_put slots i r within none free e reached =
    reached_set slots i (Full r) within reached
    (λ id h.
    let same : r.id ≡ id = eqb-true r.id id h in
    subst (λ z. sought z (set slots i (Full r)) ≡ Some i) same
    (ap (λ n. sought_from n (home r.id) r.id (set slots i (Full r))) (length-set slots i (Full r) ∙ sym (length-map slots cell))
    ∙ found_put (length (map cell slots)) (home r.id) slots i r within absent e))
    (λ id j other f. ⊎_elim inl
    (λ p. inr (not_hit r id (λ same. absent j (ap (has_id r.id) (cell_at slots j) ∙ subst (λ z. has_id z (cell (get_or slots j Empty)) ≡ true) (sym same) (sought_has id slots j f))) ∙ sym p))
    (empty_passed (get_or slots i Empty) id free))
  where
    absent : (j : ℕ) → has_id r.id (get_or (map cell slots) j None) ≡ true → ⊥
    absent = slot_of_none r.id (map cell slots) none

-- a table without rows
empty_at : (n i : ℕ) → get_or (replicate n Empty) i Empty ≡ Empty
empty_at zero i = refl
empty_at (suc n) zero = refl
empty_at (suc n) (suc i) = empty_at n i

pub reached_new : (n : ℕ) → Reached (replicate n Empty)
reached_new n i id h = absurd (false≢true (sym (ap (λ s. has_id id (cell s)) (empty_at n i)) ∙ h))
