use Rattle.std.proofs.Common.{set, None, sym, ap, ◌∙◌, arith}
use Rattle.std.proofs.lemmas.List.{length-map, length-set, map-set, set-get_or}
use Rattle.tables.specs.declared.slot.Slot.TheVariants.{Deleted}
use Rattle.tables.specs.Cells.{filled}
use Rattle.tables.specs.Slots.{cell}
use Rattle.tables.specs.Tables.{cells}
use Rattle.tables.proofs.Found.{seen_some, seen_none, seen_within}
use Rattle.tables.proofs.Deleted.{deleted_more}
use Rattle.tables.proofs.Free.{filled_less}
use Rattle.tables.proofs.Writes.{reached_deleted}
use Rattle.tables.proofs.table.Table.clear.Goals as goal

pub offset_bounds-self-slot : goal.offset_bounds-self-slot
offset_bounds-self-slot c =
    let t = c.args.self.now in
    omega (arith, seen_within t.slots c.args.slot c.row_in.result c.row_in.ensures (sym c.if-is_some.ensures), t.long)

pub listed : goal.listed
listed c = seen_within c.args.self.now.slots c.args.slot c.row_in.result c.row_in.ensures (sym c.if-is_some.ensures)

pub bounds-self-slot : goal.bounds-self-slot
bounds-self-slot c =
    let t = c.args.self.now in
    omega (arith, seen_within t.slots c.args.slot c.row_in.result c.row_in.ensures (sym c.if-is_some.ensures), t.long)

pub overflow_sub-self : goal.overflow_sub-self
overflow_sub-self c =
    let t = c.args.self.now in
    let r = seen_some c.row_in.result _ c.row_in.ensures (sym c.if-is_some.ensures) in
    let l = seen_within t.slots c.args.slot c.row_in.result c.row_in.ensures (sym c.if-is_some.ensures) in
    omega (arith, filled_less (cells t) c.args.slot r.0 (omega (arith, length-map t.slots cell)) r.1, t.counted)

pub invariant_of-self : goal.invariant_of-self
invariant_of-self c =
    let t = c.args.self.now in
    let i = c.args.slot in
    let r = seen_some c.row_in.result _ c.row_in.ensures (sym c.if-is_some.ensures) in
    let l = seen_within t.slots i c.row_in.result c.row_in.ensures (sym c.if-is_some.ensures) in
    let less = filled_less (cells t) i r.0 (omega (arith, length-map t.slots cell)) r.1 in record {
      long = length-set t.slots i Deleted ∙ t.long;
      within = omega (arith, t.within);
      counted = omega (arith, t.counted, less, ap filled (map-set cell t.slots i Deleted));
      reached = reached_deleted t.slots i l t.reached;
    }

pub returns-then-is_some : goal.returns-then-is_some
returns-then-is_some c =
    let t = c.args.self.now in
    let i = c.args.slot in
    record {
      after = map-set cell t.slots i Deleted;
      deleted = deleted_more t.slots i (seen_within t.slots i c.row_in.result c.row_in.ensures (sym c.if-is_some.ensures));
    }

pub returns-else-is_some : goal.returns-else-is_some
returns-else-is_some c =
    let cs = cells c.args.self.now in
    let none = seen_none c.row_in.result _ c.row_in.ensures (sym c.if-is_some.ensures) in
    record {
      after = sym (ap (set cs c.args.slot) (sym none) ∙ set-get_or cs c.args.slot None);
      deleted = omega arith;
    }
