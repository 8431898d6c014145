-- A store's rows by the slots that they stand in, listed in rising id order.
--     ids entries, slots entries  what the entries list: ids, and the slots of their rows
--     row_in cs i                 the row in the slot i of the cells cs, or a blank one
--     rows_in cs slots            the rows in the slots
--     listed i slots              the slot i is listed
--     Matched cs slots            just the slots that hold a row are listed
use Rattle.std.specs.Prelude.{◌≡◌, ℕ, Bool, false, ◌||◌, List, [], ◌∷◌, map, is_some, Some, None, Option, ◌==◌, slice_index_or}
use Rattle.rows.specs.Rows.{Plain}
use Rattle.hashed.specs.declared.entry.Entry.{Entry}

abbrev pub ids : List Entry → List ℕ
ids entries = map (λ (e : Entry). e.id) entries

abbrev pub slots : List Entry → List ℕ
slots entries = map (λ (e : Entry). e.slot) entries

abbrev pub or_blank : Option Plain → Plain
or_blank None = record { id = 0; start = 0; end = 1; key = 0; value = 0 }
or_blank (Some r) = r

abbrev pub row_in : List (Option Plain) → ℕ → Plain
row_in cs i = or_blank (slice_index_or cs i None)

abbrev pub rows_in : List (Option Plain) → List ℕ → List Plain
rows_in cs slots = map (row_in cs) slots

abbrev pub listed : ℕ → List ℕ → Bool
listed i [] = false
listed i (x ∷ xs) = x == i || listed i xs

abbrev pub Matched : List (Option Plain) → List ℕ → Type 0
Matched cs slots = (i : ℕ) → listed i slots ≡ is_some (slice_index_or cs i None)
