-- A store keeps the laws of stores: its rows are few, and each is one of the code.
--     few t                       a table holds at most 256 rows
--     length_rows cs es           there is a row for each entry
--     length_held s               a store holds as many rows as its table
--     within_held s               and so at most 256
--     numbered_rows t slots       each id is one of the code
--     standing_rows t slots       each row's times are lawful
use Rattle.std.specs.Prelude.{◌≡◌, ℕ, ◌≤◌, true, List, [], ◌∷◌, length, Option, slice_index_or, refl}
use Rattle.std.proofs.Common.{arith, sym, ap, subst, ◌∙◌, lit≤}
use Rattle.std.proofs.lemmas.List.{length-map}
use Rattle.lists.specs.Lists.{listed}
use Rattle.rows.specs.Rows.{Plain, standing}
use Rattle.stores.specs.Told.{Numbered, Standing}
use Rattle.stores.proofs.Plains.{span_lawful}
use Rattle.tables.specs.declared.slot.Slot.{Slot}
use Rattle.tables.specs.declared.slot.Slot.TheVariants.{Empty, Deleted, Full}
use Rattle.tables.specs.declared.table.Table.{Table}
use Rattle.tables.specs.Cells.{filled}
use Rattle.tables.specs.Slots.{cell}
use Rattle.tables.specs.Tables.{cells}
use Rattle.tables.proofs.Found.{cell_at}
use Rattle.hashed.specs.declared.entry.Entry.{Entry}
use Rattle.hashed.specs.declared.store.HashedStore.{HashedStore}
use Rattle.hashed.specs.Listing.{slots, or_blank, row_in, rows_in}
use Rattle.hashed.specs.Model.{held}

pub few : (t : Table) → filled (cells t) ≤ 256
few t = omega (arith, t.within, t.counted)

pub length_rows : (cs : List (Option Plain)) (es : List Entry) → length (rows_in cs (slots es)) ≡ length es
length_rows cs es = length-map (slots es) (row_in cs) ∙ length-map es (λ (e : Entry). e.slot)

pub length_held : (s : HashedStore) → length (held s) ≡ filled (cells s.table)
length_held s = length_rows (cells s.table) (listed s.entries) ∙ s.counted

pub within_held : (s : HashedStore) → length (held s) ≤ 256
within_held s = omega (arith, length_held s, few s.table)

-- each row is one of the code, or the blank one
row_numbered : (s : Slot) → (or_blank (cell s)).id ≤ 4294967295
row_numbered Empty = lit≤ tt
row_numbered Deleted = lit≤ tt
row_numbered (Full r) = r.numbered

row_standing : (s : Slot) → standing (or_blank (cell s)) ≡ true
row_standing Empty = refl
row_standing Deleted = refl
row_standing (Full r) = span_lawful r.span

pub numbered_rows : (t : Table) (slots : List ℕ) → Numbered (rows_in (cells t) slots)
numbered_rows t [] = tt
numbered_rows t (i ∷ slots) =
    (subst (λ c. (or_blank c).id ≤ 4294967295) (sym (cell_at t.slots i)) (row_numbered (slice_index_or t.slots i Empty)), numbered_rows t slots)

pub standing_rows : (t : Table) (slots : List ℕ) → Standing (rows_in (cells t) slots)
standing_rows t [] = tt
standing_rows t (i ∷ slots) =
    (ap (λ c. standing (or_blank c)) (cell_at t.slots i) ∙ row_standing (slice_index_or t.slots i Empty), standing_rows t slots)
