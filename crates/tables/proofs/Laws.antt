-- Each id stands in one slot of a table.
use Rattle.std.proofs.Common.{◌≡◌, ℕ, true, length, get_or, None, sym, ap, ◌∙◌}
use Rattle.std.proofs.lemmas.List.{length-map}
use Rattle.stores.specs.Places.{has_id}
use Rattle.tables.specs.declared.table.Table.{Table}
use Rattle.tables.specs.Slots.{cell}
use Rattle.tables.specs.Tables.{cells}
use Rattle.tables.proofs.Found.{cell_at}
use Rattle.tables.proofs.Search.{reached_at}

pub length_cells : (t : Table) → length (cells t) ≡ 512
length_cells t = length-map t.slots cell ∙ t.long

pub alone : (t : Table) (i j id : ℕ) → has_id id (get_or (cells t) i None) ≡ true → has_id id (get_or (cells t) j None) ≡ true → i ≡ j
alone t i j id hi hj =
    let a = reached_at t.slots t.reached i id (sym (ap (has_id id) (cell_at t.slots i)) ∙ hi) in
    let b = reached_at t.slots t.reached j id (sym (ap (has_id id) (cell_at t.slots j)) ∙ hj) in
    cc
