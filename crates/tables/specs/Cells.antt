-- What a table holds, slot by slot: in each a row as numbers, or none.
--     slot_of id cs               the slot of the row of an id, or none
--     filled cs                   how many cells hold a row
--     home id                     the slot where the search for an id begins
--     next i                      the slot that a search comes to after i; behind the last is the first
--     free_slot id cs             the first slot without a row in the search for an id, or none
--     Placing, placing a cs       what putting a row in answers, its slot or a refusal, and what it leaves
--     puts r cs                   putting r in: IdInUse where its id is held, else StoreFull at 256 rows or where no slot is free
--     spanned start end c         the cell c with another start and end for its row
use Rattle.std.specs.Prelude.{ℕ, zero, suc, ◌+◌, ◌*◌, ◌/◌, ◌%◌, ◌^◌, cond, List, [], ◌∷◌, length, is_some, Some, None, Ok, Err, count_by, Option, Result, nat_le, slice_index_or, slice_set}
use Rattle.refusals.specs.declared.refusal.Refusal.{Refusal}
use Rattle.refusals.specs.declared.refusal.Refusal.TheVariants.{IdInUse, StoreFull}
use Rattle.rows.specs.Rows.{Plain}
use Rattle.stores.specs.Places.{has_id}

abbrev pub behind : Option ℕ → Option ℕ
behind None = None
behind (Some i) = Some (suc i)

abbrev pub slot_of : ℕ → List (Option Plain) → Option ℕ
slot_of id [] = None
slot_of id (c ∷ cs) = cond (has_id id c) (Some 0) (behind (slot_of id cs))

abbrev pub filled : List (Option Plain) → ℕ
filled cs = count_by is_some cs

abbrev pub home : ℕ → ℕ
home id = id * 2654435761 % 2 ^ 32 / 2 ^ 23

abbrev pub next : ℕ → ℕ
next i = (i + 1) % 512

-- at most n slots are looked at
abbrev pub free_from : ℕ → ℕ → List (Option Plain) → Option ℕ
free_from zero i cs = None
free_from (suc n) i cs = cond (is_some (slice_index_or cs i None)) (free_from n (next i) cs) (Some i)

unfoldable pub free_slot : ℕ → List (Option Plain) → Option ℕ
free_slot id cs = free_from (length cs) (home id) cs

pub record Placing : Type 0 where
  pub answer : Result ℕ Refusal
  pub after : List (Option Plain)

abbrev pub placing : Result ℕ Refusal → List (Option Plain) → Placing
placing a cs = record { answer = a; after = cs }

abbrev pub puts_at : Option ℕ → Plain → List (Option Plain) → Placing
puts_at None r cs = placing (Err StoreFull) cs
puts_at (Some i) r cs = placing (Ok i) (slice_set cs i (Some r))

abbrev pub puts : Plain → List (Option Plain) → Placing
puts r cs =
    cond (is_some (slot_of r.id cs)) (placing (Err IdInUse) cs)
    (cond (nat_le 256 (filled cs)) (placing (Err StoreFull) cs) (puts_at (free_slot r.id cs) r cs))

abbrev pub spanned : ℕ → ℕ → Option Plain → Option Plain
spanned start end None = None
spanned start end (Some r) = Some (record { id = r.id; start = start; end = end; key = r.key; value = r.value })
