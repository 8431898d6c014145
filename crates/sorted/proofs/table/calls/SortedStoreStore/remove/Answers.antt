use Rattle.std.proofs.Common.{Err, ap, ◌∙◌, arith, rules}
use Rattle.std.proofs.lemmas.Result.{err_from_is_err_and}
use Rattle.refusals.specs.declared.refusal.Refusal.TheVariants.{NoSuchRow}
use Rattle.lists.specs.Lists.{listed}
use Rattle.stores.specs.Told.{outcome}
use Rattle.stores.proofs.Outcomes.{removes_none}
use Rattle.sorted.specs.Model.{held}
use Rattle.sorted.proofs.Changes.{ok_told, err_told, held_within, remove_rising, remove_told}
use Rattle.sorted.proofs.table.calls.SortedStoreStore.remove.Goals as goal

pub invariant_of-self : goal.invariant_of-self
invariant_of-self c =
    let s = c.args.self.now in
    let told = ok_told c.args.id (held s) _ _ c.find.ensures _ c.in_ok-place.ensures.cases (λ p h. h) in
    record { rising = remove_rising (listed s.rows) s.rising c.args.id _ told.0 (omega (arith, told.1, held_within (listed s.rows) s.rising c.args.id _ told.0 told.1)) _ c.remove.ensures.after }

pub returns-in_err-place : goal.returns-in_err-place
returns-in_err-place c =
    let s = c.args.self.now in
    let told = err_told c.args.id (held s) _ _ c.find.ensures _ c.in_err-place.ensures.cases NoSuchRow (λ p h. search rules) in
    let err = err_from_is_err_and c.from_residual.result c.from_residual.ensures.1 in
    ap (λ a. outcome a (held s)) (err.1 ∙ ap Err (err.2 ∙ told.1)) ∙ removes_none c.args.id (held s) told.0

pub returns : goal.returns
returns c =
    let s = c.args.self.now in
    let told = ok_told c.args.id (held s) _ _ c.find.ensures _ c.in_ok-place.ensures.cases (λ p h. h) in
    remove_told (listed s.rows) s.rising c.args.id _ told.0 (omega (arith, told.1, held_within (listed s.rows) s.rising c.args.id _ told.0 told.1)) _ c.remove.ensures.after
