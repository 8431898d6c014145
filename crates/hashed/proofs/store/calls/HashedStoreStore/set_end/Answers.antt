use Rattle.std.proofs.Common.{◌≡◌, Err, sym, ap, ◌∙◌, arith}
use Rattle.std.specs.Option.{ok_or}
use Rattle.std.proofs.lemmas.Result.{err_from_is_err_and}
use Rattle.refusals.specs.declared.refusal.Refusal.TheVariants.{NoSuchRow}
use Rattle.stores.specs.Told.{outcome, seen}
use Rattle.stores.proofs.Outcomes.{sets_none}
use Rattle.tables.specs.Tables.{cells}
use Rattle.hashed.specs.Model.{held}
use Rattle.hashed.proofs.Changes.{absent_at}
use Rattle.hashed.proofs.Ends.{slot_held, end_refused, set_kept, set_done}
use Rattle.hashed.proofs.State.{good_of}
use Rattle.hashed.proofs.store.calls.HashedStoreStore.set_end.Goals as goal

pub returns-in_err-slot : goal.returns-in_err-slot
returns-in_err-slot c =
    let s = c.args.self.now in
    let told = c.in_err-slot.ensures in
    let err = err_from_is_err_and c.from_residual.result c.from_residual.ensures.1 in
    let same = told.value ∙ ap (λ o. ok_or o NoSuchRow) told.ok_part in
    let why : c.in_err-slot.field-0.0 ≡ NoSuchRow = cc in
    ap (λ a. outcome a (held s)) (err.1 ∙ ap Err (err.2 ∙ why))
    ∙ sets_none c.args.id (held s) c.args.end (absent_at (cells s.table) _ _ (good_of s) c.args.id (sym c.slot_of.ensures ∙ told.ok_part))

pub returns-in_err-row : goal.returns-in_err-row
returns-in_err-row c =
    absurd (slot_held c.args.self.now c.args.id _ (sym c.slot_of.ensures ∙ c.in_ok-slot.ensures.ok_part) (sym (ap seen c.in_err-row.ensures.ok_part) ∙ c.row_in.ensures))

pub returns-in_err-span : goal.returns-in_err-span
returns-in_err-span c =
    let s = c.args.self.now in
    let err = err_from_is_err_and c.from_residual-in_err-span.result c.from_residual-in_err-span.ensures.1 in
    ap (λ a. outcome a (held s)) (err.1 ∙ ap Err err.2)
    ∙ end_refused s c.args.id _ (sym c.slot_of.ensures ∙ c.in_ok-slot.ensures.ok_part) _ (sym (ap seen c.in_ok-row.ensures.ok_part) ∙ c.row_in.ensures) _ c.args.end c.start.ensures _ c.in_err-span.ensures

pub invariant_of-self : goal.invariant_of-self
invariant_of-self c =
    let s = c.args.self.now in
    let kept = set_kept s c.args.id _ (sym c.slot_of.ensures ∙ c.in_ok-slot.ensures.ok_part) _ (sym (ap seen c.in_ok-row.ensures.ok_part) ∙ c.row_in.ensures) _ c.args.end c.start.ensures
    c.in_ok-span.span c.in_ok-span.ensures c.set_span.new.self c.set_span.ensures.after in
    record {
      counted = kept.counted;
      named = kept.good.named;
      rising = kept.good.rising;
      matched = kept.good.matched;
      worn = omega (arith, c.set_span.ensures.deleted, s.worn);
      recent = s.recent;
    }

pub returns : goal.returns
returns c =
    let s = c.args.self.now in
    set_done s c.args.id _ (sym c.slot_of.ensures ∙ c.in_ok-slot.ensures.ok_part) _ (sym (ap seen c.in_ok-row.ensures.ok_part) ∙ c.row_in.ensures) _ c.args.end c.start.ensures
    c.in_ok-span.span c.in_ok-span.ensures c.set_span.new.self c.set_span.ensures.after
