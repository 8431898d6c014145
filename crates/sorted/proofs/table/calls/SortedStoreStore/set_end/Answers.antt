use Rattle.std.proofs.Common.{◌≡◌, length, get_or, refl, Err, ap, ◌∙◌, arith, rules}
use Rattle.std.proofs.lemmas.Result.{err_from_is_err_and}
use Rattle.lists.specs.Lists.{listed}
use Rattle.lists.proofs.Lengths.{listed_few}
use Rattle.refusals.specs.declared.refusal.Refusal.TheVariants.{NoSuchRow}
use Rattle.rows.specs.declared.row.PlainRow.{PlainRow}
use Rattle.stores.specs.Told.{outcome}
use Rattle.stores.proofs.Outcomes.{sets_none}
use Rattle.stores.proofs.Places.{found_nothing}
use Rattle.sorted.specs.Model.{held}
use Rattle.sorted.proofs.Changes.{ok_told, err_told, held_within, respanned, end_refused, end_rising, end_told}
use Rattle.sorted.proofs.table.calls.SortedStoreStore.set_end.Goals as goal

pub returns-in_err-place : goal.returns-in_err-place
returns-in_err-place c =
    let s = c.args.self.now in
    let told = err_told c.args.id (held s) _ _ c.find.ensures _ c.in_err-place.ensures.cases NoSuchRow (λ p h. search rules) in
    let err = err_from_is_err_and c.from_residual.result c.from_residual.ensures.1 in
    ap (λ a. outcome a (held s)) (err.1 ∙ ap Err (err.2 ∙ told.1)) ∙ sets_none c.args.id (held s) c.args.end (found_nothing c.args.id (held s) told.0)

pub offset_bounds-as_slice-place : goal.offset_bounds-as_slice-place
offset_bounds-as_slice-place c =
    let s = c.args.self.now in
    let told = ok_told c.args.id (held s) _ _ c.find.ensures _ c.in_ok-place.ensures.cases (λ p h. h) in
    omega (arith, held_within (listed s.rows) s.rising c.args.id _ told.0 told.1, listed_few s.rows)

pub bounds-as_slice-place : goal.bounds-as_slice-place
bounds-as_slice-place c =
    let s = c.args.self.now in
    let told = ok_told c.args.id (held s) _ _ c.find.ensures _ c.in_ok-place.ensures.cases (λ p h. h) in
    omega (arith, held_within (listed s.rows) s.rising c.args.id _ told.0 told.1, ap length c.as_slice.ensures)

pub returns-in_err-row : goal.returns-in_err-row
returns-in_err-row c =
    let s = c.args.self.now in
    let told = ok_told c.args.id (held s) _ _ c.find.ensures _ c.in_ok-place.ensures.cases (λ p h. h) in
    let here = c.index-as_slice-place.result in
    let read : here ≡ get_or (listed s.rows) c.in_ok-place.place here = c.index-as_slice-place.is ∙ ap (λ zs. get_or zs c.in_ok-place.place here) c.as_slice.ensures in
    let err = err_from_is_err_and c.from_residual-in_err-row.result c.from_residual-in_err-row.ensures.1 in
    ap (λ a. outcome a (held s)) err.1
    ∙ end_refused (listed s.rows) s.rising c.args.id _ told.0 told.1 here c.args.end _ (c.start.ensures ∙ ap (λ (z : PlainRow). z.span.start) read) _ (ap Err err.2 ∙ c.in_err-row.ensures)

pub invariant_of-self : goal.invariant_of-self
invariant_of-self c =
    let s = c.args.self.now in
    let told = ok_told c.args.id (held s) _ _ c.find.ensures _ c.in_ok-place.ensures.cases (λ p h. h) in
    let here = c.index-as_slice-place.result in
    let read : here ≡ get_or (listed s.rows) c.in_ok-place.place here = c.index-as_slice-place.is ∙ ap (λ zs. get_or zs c.in_ok-place.place here) c.as_slice.ensures in
    record {
      rising = end_rising (listed s.rows) s.rising c.args.id _ told.0 told.1 here c.args.end _ (c.start.ensures ∙ ap (λ (z : PlainRow). z.span.start) read) c.in_ok-row.field-0 c.in_ok-row.ensures
          (listed s.rows) refl here _ (ap (respanned c.in_ok-row.field-0) read) _ c.set.ensures;
    }

pub returns : goal.returns
returns c =
    let s = c.args.self.now in
    let told = ok_told c.args.id (held s) _ _ c.find.ensures _ c.in_ok-place.ensures.cases (λ p h. h) in
    let here = c.index-as_slice-place.result in
    let read : here ≡ get_or (listed s.rows) c.in_ok-place.place here = c.index-as_slice-place.is ∙ ap (λ zs. get_or zs c.in_ok-place.place here) c.as_slice.ensures in
    end_told (listed s.rows) s.rising c.args.id _ told.0 told.1 here c.args.end _ (c.start.ensures ∙ ap (λ (z : PlainRow). z.span.start) read) c.in_ok-row.field-0 c.in_ok-row.ensures
    (listed s.rows) refl here _ (ap (respanned c.in_ok-row.field-0) read) _ c.set.ensures
