use Rattle.std.proofs.Common.{◌≡◌, ℕ, Bool, true, false, cond, ◌&&◌, Ok, Err, Result, sym, ap, ◌∙◌, arith}
use Rattle.std.proofs.lemmas.Result.{err_from_is_err_and}
use Rattle.refusals.specs.declared.refusal.Refusal.{Refusal}
use Rattle.refusals.specs.declared.refusal.Refusal.TheVariants.{BadPayload, BadTime}
use Rattle.rows.specs.Kinds.{Kind, in_range}
use Rattle.rows.specs.Rows.{Plain}
use Rattle.rows.specs.Times.{lawful, retractable}
use Rattle.rows.specs.Events.{PlainEvent}
use Rattle.files.specs.declared.fields.EndField.{EndField}
use Rattle.files.specs.declared.fields.RowFields.{RowFields}
use Rattle.files.specs.declared.fields.Fields.{Fields}
use Rattle.files.specs.declared.fields.Fields.TheVariants.{Retraction}
use Rattle.files.specs.Judging.{time_of, means_time, row_in, event_in, row_judged, judged}
use Rattle.files.proofs.judging.event_of.Goals as goal

-- why the row of a retraction is refused, the retraction is
with_row : (fits means stands new takes : Bool) (x : Plain) (y : PlainEvent) (why : Refusal) →
    ◌≡◌ {A = Result Plain Refusal} (Err why) (cond fits (cond (means && stands) (Ok x) (Err BadTime)) (Err BadPayload)) →
    Err why ≡ cond fits (cond ((means && new) && (stands && takes)) (Ok y) (Err BadTime)) (Err BadPayload)
with_row false means stands new takes x y why e = cc
with_row true false stands new takes x y why e = cc
with_row true true false false takes x y why e = cc
with_row true true false true takes x y why e = cc
with_row true true true new takes x y why e = absurd (let z : ◌≡◌ {A = ℕ} 0 1 = cc in omega arith)

refused_row : (k : Kind) (f : Fields) (r : RowFields) (e : EndField) (why : Refusal) → f ≡ Retraction r e → Err why ≡ row_judged k r → Err why ≡ judged k f
refused_row k f r e why is h =
    with_row (in_range k r.key r.value) (means_time r.end) (lawful r.start (time_of r.end)) (means_time e)
    (retractable r.start (time_of r.end) (time_of e)) (row_in r) (event_in (Retraction r e)) why h
    ∙ sym (ap (judged k) is)

pub returns-in_err-row-in-Retraction : goal.returns-in_err-row-in-Retraction
returns-in_err-row-in-Retraction g c =
    let p = err_from_is_err_and c.from_residual-in_err-row-in-Retraction.result c.from_residual-in_err-row-in-Retraction.ensures.1 in
    rw (p.1, p.2)
    (refused_row g.P.Payload.kind c.args.fields c.in-Retraction.row c.in-Retraction.new_end _ c.in-Retraction.is c.in_err-row-in-Retraction.ensures)
