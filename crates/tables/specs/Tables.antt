-- What a table means.
--     cells t                     what the table t holds, slot by slot
--     deleted t                   how many slots of the table t are deleted
use Rattle.std.specs.Prelude.{ℕ, List, map, count_by, Option}
use Rattle.rows.specs.Rows.{Plain}
use Rattle.tables.specs.declared.table.Table.{Table}
use Rattle.tables.specs.Slots.{cell, is_deleted}

abbrev pub cells : Table → List (Option Plain)
cells t = map cell t.slots

abbrev pub deleted : Table → ℕ
deleted t = count_by is_deleted t.slots
