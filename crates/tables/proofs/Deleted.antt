-- How many slots are deleted after a write.
use Rattle.std.proofs.Common.{ℕ, ◌+◌, ◌<◌, ◌≤◌, cond, List, length, set, count_by, arith}
use Rattle.std.proofs.lemmas.List.Sums.{sum_by-set}
use Rattle.rows.specs.declared.row.PlainRow.{PlainRow}
use Rattle.tables.specs.declared.slot.Slot.{Slot}
use Rattle.tables.specs.declared.slot.Slot.TheVariants.{Empty, Deleted, Full}
use Rattle.tables.specs.Slots.{is_deleted}

pub deleted_full : (slots : List Slot) (i : ℕ) (r : PlainRow) → i < length slots → count_by is_deleted (set slots i (Full r)) ≤ count_by is_deleted slots
deleted_full slots i r l = omega (arith, sum_by-set (λ s. cond (is_deleted s) 1 0) slots i (Full r) Empty l)

pub deleted_more : (slots : List Slot) (i : ℕ) → i < length slots → count_by is_deleted (set slots i Deleted) ≤ count_by is_deleted slots + 1
deleted_more slots i l = omega (arith, sum_by-set (λ s. cond (is_deleted s) 1 0) slots i Deleted Empty l)
