use Rattle.std.proofs.Common.{set, Some, sym, refl, ap, ◌∙◌, arith}
use Rattle.std.proofs.lemmas.List.{length-map, length-set, map-set}
use Rattle.tables.specs.Cells.{filled, spanned}
use Rattle.tables.specs.Slots.{cell}
use Rattle.tables.specs.Tables.{cells}
use Rattle.tables.proofs.Found.{cell_at, seen_within}
use Rattle.tables.proofs.Deleted.{deleted_full}
use Rattle.tables.proofs.Free.{filled_same}
use Rattle.tables.proofs.Writes.{reached_over}
use Rattle.tables.proofs.table.Table.set_span.Goals as goal

pub offset_bounds-self-slot : goal.offset_bounds-self-slot
offset_bounds-self-slot c =
    let t = c.args.self.now in
    omega (arith, seen_within t.slots c.args.slot (Some c.in-Some.row) c.in-Some.ensures refl, t.long)

pub listed : goal.listed
listed c = seen_within c.args.self.now.slots c.args.slot (Some c.in-Some.row) c.in-Some.ensures refl

pub bounds-self-slot : goal.bounds-self-slot
bounds-self-slot c =
    let t = c.args.self.now in
    omega (arith, seen_within t.slots c.args.slot (Some c.in-Some.row) c.in-Some.ensures refl, t.long)

pub invariant_of-self : goal.invariant_of-self
invariant_of-self c =
    let t = c.args.self.now in
    let i = c.args.slot in
    let was = sym c.in-Some.ensures in
    let l = seen_within t.slots i (Some c.in-Some.row) c.in-Some.ensures refl in record {
      long = length-set t.slots i _ ∙ t.long;
      within = t.within;
      counted = t.counted ∙ sym (ap filled (map-set cell t.slots i _) ∙ filled_same (cells t) i _ _ (omega (arith, length-map t.slots cell)) was);
      reached = reached_over t.slots i _ _ l (sym (cell_at t.slots i) ∙ was) refl t.reached;
    }

pub returns-in-Some : goal.returns-in-Some
returns-in-Some c =
    let t = c.args.self.now in
    let i = c.args.slot in
    record {
      after = map-set cell t.slots i _
          ∙ ap (λ z. set (cells t) i (spanned c.args.span.start c.args.span.end z)) c.in-Some.ensures;
      deleted = deleted_full t.slots i _ (seen_within t.slots i (Some c.in-Some.row) c.in-Some.ensures refl);
    }
