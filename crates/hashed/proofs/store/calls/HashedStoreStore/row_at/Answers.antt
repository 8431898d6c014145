use Rattle.std.proofs.Common.{None, length, get_or, sym, ap, ◌∙◌, arith}
use Rattle.stores.specs.Told.{seen}
use Rattle.stores.proofs.Places.{nth_past}
use Rattle.tables.specs.Tables.{cells}
use Rattle.hashed.specs.declared.entry.Entry.{Entry}
use Rattle.hashed.specs.Laws.{length_held}
use Rattle.hashed.specs.Model.{held}
use Rattle.hashed.proofs.State.{nth_told}
use Rattle.hashed.proofs.store.calls.HashedStoreStore.row_at.Goals as goal

pub returns-in_err-slot : goal.returns-in_err-slot
returns-in_err-slot c =
    let s = c.args.self.now in
    ap seen c.from_residual.ensures
    ∙ sym (nth_past c.args.place (held s) (omega (arith, c.in_err-slot.ensures.lookup.3, ap length c.as_slice.ensures, length_held s, s.counted)))

pub returns : goal.returns
returns c =
    let s = c.args.self.now in
    let read = c.in_ok-slot.ensures.lookup.3 in
    c.row_in.ensures ∙ ap (λ (e : Entry). get_or (cells s.table) e.slot None) (read.1 c.in_ok-slot.field-0.now)
    ∙ sym (nth_told s _ c.as_slice.ensures c.args.place c.in_ok-slot.field-0.now read.0)
