use Rattle.std.proofs.Common.{◌≡◌, Err, is_some, sym, ap, ◌∙◌}
use Rattle.std.specs.Option.{ok_or}
use Rattle.std.proofs.lemmas.Result.{err_from_is_err_and}
use Rattle.refusals.specs.declared.refusal.Refusal.TheVariants.{NoSuchRow}
use Rattle.receipts.specs.Stores.{accept, removes}
use Rattle.stores.specs.Told.{outcome}
use Rattle.stores.proofs.Outcomes.{removes_none, removes_done}
use Rattle.stores.proofs.Places.{holds_found}
use Rattle.tables.specs.Tables.{cells}
use Rattle.hashed.specs.Model.{held}
use Rattle.hashed.proofs.Changes.{absent_at, held_at}
use Rattle.hashed.proofs.State.{good_of}
use Rattle.hashed.proofs.store.calls.HashedStoreStore.remove.Goals as goal

pub returns-in_err-slot : goal.returns-in_err-slot
returns-in_err-slot c =
    let s = c.refresh.new.self in
    let told = c.in_err-slot.ensures in
    let err = err_from_is_err_and c.from_residual.result c.from_residual.ensures.1 in
    let same = told.value ∙ ap (λ o. ok_or o NoSuchRow) told.ok_part in
    let why : c.in_err-slot.field-0.0 ≡ NoSuchRow = cc in
    ap (λ a. outcome a (held s)) (err.1 ∙ ap Err (err.2 ∙ why))
    ∙ removes_none c.args.id (held s) (holds_found c.args.id (held s) ∙ ap is_some (absent_at (cells s.table) _ _ (good_of s) c.args.id (sym c.slot_of.ensures ∙ told.ok_part)))
    ∙ ap (removes c.args.id) c.refresh.ensures.same

pub returns : goal.returns
returns c =
    let s = c.refresh.new.self in
    ap accept c.take_away.ensures ∙ removes_done c.args.id (held s) (held_at (cells s.table) _ _ (good_of s) c.args.id _ (sym c.slot_of.ensures ∙ c.in_ok-slot.ensures.ok_part))
    ∙ ap (removes c.args.id) c.refresh.ensures.same
