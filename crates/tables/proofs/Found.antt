-- The slot of an id: it has the id, and where there is none no slot has it.
use Rattle.std.proofs.Common.{◌≡◌, ℕ, zero, suc, ◌<◌, Bool, true, false, cond, List, [], ◌∷◌, map, length, get_or, is_some, Some, None, Option, sym, refl, ap, ◌∙◌, subst, arith}
use Rattle.std.proofs.lemmas.List.{get_or_default}
use Rattle.std.proofs.lemmas.Bool.{eqb-true, eq-eqb, false≢true, true≢false}
use Rattle.rows.specs.declared.row.PlainRow.{PlainRow}
use Rattle.rows.specs.Rows.{Plain, plain}
use Rattle.stores.specs.Told.{seen}
use Rattle.stores.specs.Places.{has_id}
use Rattle.tables.specs.declared.slot.Slot.{Slot}
use Rattle.tables.specs.declared.slot.Slot.TheVariants.{Empty}
use Rattle.tables.specs.Cells.{behind, slot_of}
use Rattle.tables.specs.Slots.{cell, is_slot}

pub none_some : {X : Type 0} (x : X) → ◌≡◌ {A = Option X} None (Some x) → ⊥
none_some x e = let z : ◌≡◌ {A = ℕ} 0 1 = cc in omega arith

pub is_slot_some : (i : ℕ) (o : Option ℕ) → is_slot i o ≡ true → o ≡ Some i
is_slot_some i None e = absurd (false≢true e)
is_slot_some i (Some j) e = ap Some (eqb-true j i e)

pub some_is_slot : (i : ℕ) (o : Option ℕ) → o ≡ Some i → is_slot i o ≡ true
some_is_slot i o e = ap (is_slot i) e ∙ eq-eqb i i refl

-- what stands in a slot, past the last one too
pub cell_at : (slots : List Slot) (i : ℕ) → get_or (map cell slots) i None ≡ cell (get_or slots i Empty)
cell_at [] i = refl
cell_at (s ∷ slots) zero = refl
cell_at (s ∷ slots) (suc i) = cell_at slots i

-- what was read from a slot
pub read_at : (slots : List Slot) (i : ℕ) (d s : Slot) → i < length slots → get_or slots i d ≡ s → get_or slots i Empty ≡ s
read_at slots i d s within e = get_or_default slots i Empty d within ∙ e

-- the same where the slot's number was told otherwise
pub read_here : (slots : List Slot) (k i : ℕ) (s : Slot) → k ≡ i → i < length slots → s ≡ get_or slots k s → get_or slots i Empty ≡ s
read_here slots k i s same within e = read_at slots i s s within (ap (λ j. get_or slots j s) (sym same) ∙ sym e)

-- what a question about a slot told
pub seen_some : (o : Option PlainRow) (c : Option Plain) → seen o ≡ c → is_some o ≡ true → (r : Plain) × (c ≡ Some r)
seen_some None c e h = absurd (false≢true h)
seen_some (Some r) c e h = (plain r, sym e)

pub seen_none : (o : Option PlainRow) (c : Option Plain) → seen o ≡ c → is_some o ≡ false → c ≡ None
seen_none None c e h = sym e
seen_none (Some r) c e h = absurd (true≢false h)

pub no_some : {X : Type 0} (o : Option X) → is_some o ≡ false → o ≡ None
no_some None e = refl
no_some (Some x) e = absurd (true≢false e)

some_within : (slots : List Slot) (i : ℕ) (r : Plain) → get_or (map cell slots) i None ≡ Some r → i < length slots
some_within [] i r e = absurd (none_some r e)
some_within (s ∷ slots) zero r e = omega arith
some_within (s ∷ slots) (suc i) r e = omega (arith, some_within slots i r e)

pub seen_within : (slots : List Slot) (i : ℕ) (o : Option PlainRow) → seen o ≡ get_or (map cell slots) i None → is_some o ≡ true → i < length slots
seen_within slots i o e h = let r = seen_some o _ e h in some_within slots i r.0 r.1

has_at : (b : Bool) (o : Option ℕ) (j : ℕ) (P : ℕ → Type 0) → (b ≡ true → P 0) → ((i : ℕ) → o ≡ Some i → P (suc i)) → cond b (Some 0) (behind o) ≡ Some j → P j
has_at true o j P here on e = let z : 0 ≡ j = cc in subst P z (here refl)
has_at false None j P here on e = absurd (none_some j e)
has_at false (Some i) j P here on e = let z : suc i ≡ j = cc in subst P z (on i refl)

pub slot_of_has : (id : ℕ) (cs : List (Option Plain)) (j : ℕ) → slot_of id cs ≡ Some j → has_id id (get_or cs j None) ≡ true
slot_of_has id [] j e = absurd (none_some j e)
slot_of_has id (c ∷ cs) j e = has_at (has_id id c) (slot_of id cs) j (λ k. has_id id (get_or (c ∷ cs) k None) ≡ true) (λ h. h) (slot_of_has id cs) e

none_at : (b : Bool) (o : Option ℕ) → cond b (Some 0) (behind o) ≡ None → (b ≡ false) × (o ≡ None)
none_at true o e = absurd (none_some 0 (sym e))
none_at false None e = (refl, refl)
none_at false (Some i) e = absurd (none_some (suc i) (sym e))

pub slot_of_none : (id : ℕ) (cs : List (Option Plain)) → slot_of id cs ≡ None → (j : ℕ) → has_id id (get_or cs j None) ≡ true → ⊥
slot_of_none id [] e j h = false≢true h
slot_of_none id (c ∷ cs) e zero h = false≢true (sym (none_at (has_id id c) (slot_of id cs) e).0 ∙ h)
slot_of_none id (c ∷ cs) e (suc j) h = slot_of_none id cs (none_at (has_id id c) (slot_of id cs) e).1 j h
