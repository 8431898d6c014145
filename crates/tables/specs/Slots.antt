-- A table's slots, and the search through them.
--     cell s                      what the slot s holds
--     is_deleted s                the slot s held a row that went
--     Computes p R                what R answers of a slot is what p computes
--     probed p id slots           the first slot in the search for an id that p holds of, or none
--     look id s                   what a search for an id does at the slot s: stop, pass, or hit
--     sought id slots             where the search for an id ends at its row, or none
--     is_slot i o                 o is the slot i
--     Reached slots               the search for the id of each row ends at the slot of that row
use Rattle.std.specs.Prelude.{◌≡◌, ℕ, zero, suc, Bool, true, false, cond, List, length, Some, None, Option, ◌==◌, slice_index_or}
use Rattle.rows.specs.Rows.{Plain, plain}
use Rattle.stores.specs.Places.{has_id}
use Rattle.tables.specs.declared.slot.Slot.{Slot}
use Rattle.tables.specs.declared.slot.Slot.TheVariants.{Empty, Deleted, Full}
use Rattle.tables.specs.Cells.{home, next}

abbrev pub cell : Slot → Option Plain
cell Empty = None
cell Deleted = None
cell (Full r) = Some (plain r)

abbrev pub is_deleted : Slot → Bool
is_deleted Empty = false
is_deleted Deleted = true
is_deleted (Full r) = false

abbrev pub Computes : (Slot → Bool) → (Slot → Bool → Type 0) → Type 0
Computes p R = (s : Slot) (b : Bool) → R s b → b ≡ p s

-- at most n slots are looked at
abbrev pub probed_from : (Slot → Bool) → ℕ → ℕ → List Slot → Option ℕ
probed_from p zero i slots = None
probed_from p (suc n) i slots = cond (p (slice_index_or slots i Empty)) (Some i) (probed_from p n (next i) slots)

unfoldable pub probed : (Slot → Bool) → ℕ → List Slot → Option ℕ
probed p id slots = probed_from p (length slots) (home id) slots

pub data Look : Type 0 where
  stop : Look
  pass : Look
  hit : Look

abbrev pub look : ℕ → Slot → Look
look id Empty = stop
look id Deleted = pass
look id (Full r) = cond (r.id == id) hit pass

abbrev pub by_look : Look → Option ℕ → Option ℕ → Option ℕ
by_look stop here on = None
by_look pass here on = on
by_look hit here on = here

-- at most n slots are looked at
abbrev pub sought_from : ℕ → ℕ → ℕ → List Slot → Option ℕ
sought_from zero i id slots = None
sought_from (suc n) i id slots = by_look (look id (slice_index_or slots i Empty)) (Some i) (sought_from n (next i) id slots)

unfoldable pub sought : ℕ → List Slot → Option ℕ
sought id slots = sought_from (length slots) (home id) id slots

abbrev pub is_slot : ℕ → Option ℕ → Bool
is_slot i None = false
is_slot i (Some j) = j == i

abbrev pub Reached : List Slot → Type 0
Reached slots = (i id : ℕ) → has_id id (cell (slice_index_or slots i Empty)) ≡ true → is_slot i (sought id slots) ≡ true
