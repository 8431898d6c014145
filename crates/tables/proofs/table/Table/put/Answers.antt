use Rattle.std.proofs.Common.{◌<◌, length, is_some, Ok, sym, ap, ◌∙◌, arith}
use Rattle.std.proofs.lemmas.List.{length-map, length-set, map-set}
use Rattle.std.proofs.lemmas.Bool.{cond-false, lt-leb}
use Rattle.rows.specs.Rows.{plain}
use Rattle.tables.specs.declared.slot.Slot.TheVariants.{Full}
use Rattle.tables.specs.Cells.{filled, slot_of, placing, puts_at}
use Rattle.tables.specs.Slots.{cell}
use Rattle.tables.specs.Tables.{cells}
use Rattle.tables.proofs.Found.{cell_at, no_some}
use Rattle.tables.proofs.Deleted.{deleted_full}
use Rattle.tables.proofs.Free.{free_slot_free, filled_more}
use Rattle.tables.proofs.Writes.{reached_put}
use Rattle.tables.proofs.table.Table.put.Goals as goal

pub offset_bounds-self-slot : goal.offset_bounds-self-slot
offset_bounds-self-slot c = omega (arith, (free_slot_free c.args.row.id (cells c.args.self.now) c.in_ok-slot.slot (sym c.free_slot.ensures ∙ c.in_ok-slot.ensures.ok_part)).0)

pub listed : goal.listed
listed c =
    let t = c.args.self.now in
    omega (arith, (free_slot_free c.args.row.id (cells t) c.in_ok-slot.slot (sym c.free_slot.ensures ∙ c.in_ok-slot.ensures.ok_part)).0, t.long)

pub bounds-self-slot : goal.bounds-self-slot
bounds-self-slot c = (free_slot_free c.args.row.id (cells c.args.self.now) c.in_ok-slot.slot (sym c.free_slot.ensures ∙ c.in_ok-slot.ensures.ok_part)).0

pub invariant_of-self : goal.invariant_of-self
invariant_of-self c =
    let t = c.args.self.now in
    let i = c.in_ok-slot.slot in
    let r = c.args.row in
    let e = sym c.free_slot.ensures ∙ c.in_ok-slot.ensures.ok_part in
    let free = free_slot_free r.id (cells t) i e in
    let l : i < length t.slots = omega (arith, free.0, t.long) in
    let none = no_some (slot_of r.id (cells t)) (ap is_some (sym c.slot_of.ensures) ∙ sym c.if-is_some.ensures) in
    let more = filled_more (cells t) i (plain r) (omega (arith, length-map t.slots cell)) free.1 in record {
      long = length-set t.slots i (Full r) ∙ t.long;
      within = omega (arith, t.within);
      counted = omega (arith, t.counted, more, ap filled (map-set cell t.slots i (Full r)));
      reached = reached_put t.slots i r l none (sym (ap is_some (cell_at t.slots i)) ∙ free.1) e t.reached;
    }

pub returns : goal.returns
returns c =
    let t = c.args.self.now in
    let r = c.args.row in
    let i = c.in_ok-slot.slot in
    let free = free_slot_free r.id (cells t) i (sym c.free_slot.ensures ∙ c.in_ok-slot.ensures.ok_part) in
    record {
      told =
          ap (placing (Ok i)) (map-set cell t.slots i (Full r))
          ∙ ap (λ o. puts_at o (plain r) (cells t)) (sym c.in_ok-slot.ensures.ok_part ∙ c.free_slot.ensures)
          ∙ sym (cond-false _ _ _ (lt-leb 256 (filled (cells t)) (omega (arith, t.counted, t.within, c.if-self-eq-CAPACITY.false))))
          ∙ sym (cond-false _ _ _ (ap is_some (sym c.slot_of.ensures) ∙ sym c.if-is_some.ensures));
      deleted = deleted_full t.slots i r (omega (arith, free.0, t.long));
    }
