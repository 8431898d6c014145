use Rattle.std.proofs.Common.{sym, ap, ◌∙◌, arith}
use Rattle.stores.specs.Told.{seen}
use Rattle.tables.specs.Cells.{slot_of}
use Rattle.tables.specs.Tables.{cells}
use Rattle.hashed.proofs.Changes.{found_at, absent_at}
use Rattle.hashed.proofs.State.{good_of}
use Rattle.hashed.proofs.store.calls.HashedStoreStore.get.Goals as goal

pub returns-in_err-slot : goal.returns-in_err-slot
returns-in_err-slot c =
    let s = c.args.self.now in
    ap seen c.from_residual.ensures ∙ sym (absent_at (cells s.table) _ _ (good_of s) c.args.id (ap (λ id. slot_of id (cells s.table)) (omega arith) ∙ sym c.in_err-slot.ensures))

pub returns : goal.returns
returns c =
    let s = c.args.self.now in
    c.row_in.ensures ∙ sym (found_at (cells s.table) _ _ (good_of s) c.args.id _ (ap (λ id. slot_of id (cells s.table)) (omega arith) ∙ sym c.in_ok-slot.ensures))
