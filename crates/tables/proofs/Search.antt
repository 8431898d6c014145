-- The search for an id through the slots ends at the slot of the id.
use Rattle.std.proofs.Common.{◌≡◌, ℕ, zero, suc, Bool, true, false, cond, eqb, ◌⊎◌, List, map, length, get_or, Some, None, Option, sym, refl, ap, ◌∙◌, subst, inl, inr, ⊎_elim}
use Rattle.stores.specs.Places.{has_id}
use Rattle.tables.specs.declared.slot.Slot.{Slot}
use Rattle.tables.specs.declared.slot.Slot.TheVariants.{Empty, Deleted, Full}
use Rattle.tables.specs.Cells.{slot_of, home, next}
use Rattle.tables.specs.Slots.{cell, Look, stop, pass, hit, look, by_look, sought_from, sought, Reached}
use Rattle.tables.proofs.Found.{none_some, is_slot_some, cell_at, slot_of_has, slot_of_none}

full_met : (b : Bool) (i j : ℕ) (on : Option ℕ) → by_look (cond b hit pass) (Some i) on ≡ Some j → ((i ≡ j) × (b ≡ true)) ⊎ (on ≡ Some j)
full_met true i j on e = let z : i ≡ j = cc in inl (z, refl)
full_met false i j on e = inr e

met : (s : Slot) (id i j : ℕ) (on : Option ℕ) → by_look (look id s) (Some i) on ≡ Some j → ((i ≡ j) × (has_id id (cell s) ≡ true)) ⊎ (on ≡ Some j)
met Empty id i j on e = absurd (none_some j e)
met Deleted id i j on e = inr e
met (Full r) id i j on e = full_met (eqb r.id id) i j on e

found_has : (n i id : ℕ) (slots : List Slot) (j : ℕ) → sought_from n i id slots ≡ Some j → has_id id (cell (get_or slots j Empty)) ≡ true
found_has zero i id slots j e = absurd (none_some j e)
found_has (suc n) i id slots j e =
    ⊎_elim (λ h. subst (λ k. has_id id (cell (get_or slots k Empty)) ≡ true) h.0 h.1) (found_has n (next i) id slots j)
    (met (get_or slots i Empty) id i j _ e)

pub sought_has : (id : ℕ) (slots : List Slot) (j : ℕ) → sought id slots ≡ Some j → has_id id (cell (get_or slots j Empty)) ≡ true
unfolding sought
sought_has id slots j e = found_has (length slots) (home id) id slots j e

pub reached_at : (slots : List Slot) → Reached slots → (i id : ℕ) → has_id id (cell (get_or slots i Empty)) ≡ true → sought id slots ≡ Some i
reached_at slots reached i id h = is_slot_some i (sought id slots) (reached i id h)

-- the search ends where a look through all slots would
module _ (slots : List Slot) (reached : Reached slots) (id : ℕ) where
  nowhere : slot_of id (map cell slots) ≡ None → (o : Option ℕ) → sought id slots ≡ o → o ≡ None
  nowhere none None e = refl
  nowhere none (Some j) e = absurd (slot_of_none id (map cell slots) none j (ap (has_id id) (cell_at slots j) ∙ sought_has id slots j e))

  there : (o : Option ℕ) → slot_of id (map cell slots) ≡ o → sought id slots ≡ o
  there None e = nowhere e (sought id slots) refl
  there (Some j) e = reached_at slots reached j id (sym (ap (has_id id) (cell_at slots j)) ∙ slot_of_has id (map cell slots) j e)

  pub sought_slot : sought id slots ≡ slot_of id (map cell slots)
  sought_slot = there (slot_of id (map cell slots)) refl

-- the search in other slots that differ only where the search in these stops
abbrev pub Alike : ℕ → List Slot → List Slot → Type 0
Alike id slots others = (i : ℕ) → (look id (get_or slots i Empty) ≡ stop) ⊎ (look id (get_or others i Empty) ≡ look id (get_or slots i Empty))

on_alike : (l : Look) (i j : ℕ) (on other : Option ℕ) → (on ≡ Some j → other ≡ Some j) → by_look l (Some i) on ≡ Some j → by_look l (Some i) other ≡ Some j
on_alike stop i j on other h e = e
on_alike pass i j on other h e = h e
on_alike hit i j on other h e = e

found_alike : (n i id j : ℕ) (slots others : List Slot) → Alike id slots others → sought_from n i id slots ≡ Some j → sought_from n i id others ≡ Some j
found_alike zero i id j slots others a e = e
found_alike (suc n) i id j slots others a e =
    ⊎_elim
    (λ s. absurd (none_some j (sym (ap (λ l. by_look l (Some i) (sought_from n (next i) id slots)) s) ∙ e)))
    (λ s. ap (λ l. by_look l (Some i) (sought_from n (next i) id others)) s
    ∙ on_alike (look id (get_or slots i Empty)) i j _ _ (found_alike n (next i) id j slots others a) e)
    (a i)

pub sought_alike : (id j : ℕ) (slots others : List Slot) → Alike id slots others → length others ≡ length slots → sought id slots ≡ Some j → sought id others ≡ Some j
unfolding sought
sought_alike id j slots others a long e =
    ap (λ n. sought_from n (home id) id others) long ∙ found_alike (length slots) (home id) id j slots others a e

-- a slot without the row of an id is no hit
pub full_passed : (b : Bool) → (b ≡ true → ⊥) → cond b hit pass ≡ pass
full_passed true h = absurd (h refl)
full_passed false h = refl

pub passed : (s : Slot) (id : ℕ) → (has_id id (cell s) ≡ true → ⊥) → (look id s ≡ stop) ⊎ (look id s ≡ pass)
passed Empty id h = inl refl
passed Deleted id h = inr refl
passed (Full r) id h = inr (full_passed (eqb r.id id) h)
