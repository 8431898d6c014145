use Rattle.std.proofs.Common.{Err, ap, ◌∙◌}
use Rattle.std.proofs.lemmas.Result.{err_from_is_err_and}
use Rattle.rows.specs.Events.{PlainEvent, plain_event}
use Rattle.query.specs.Halves.{half_outcome}
use Rattle.query.proofs.Events.{event_ranged, taken_untimely}
use Rattle.query.proofs.input.Input.accept.Goals as goal

pub returns-in_err-judge_times : goal.returns-in_err-judge_times
returns-in_err-judge_times g c =
    let e : PlainEvent = plain_event g.P.Payload.pair c.args.event in
    let h = c.args.self.now in
    let told = err_from_is_err_and c.from_residual.result c.from_residual.ensures.1 in
    ap (λ a. half_outcome a h) told.1
    ∙ ap (λ why. half_outcome (Err why) h) told.2
    ∙ taken_untimely g.P.Payload.kind g.S.Store.CAPACITY e h
    (event_ranged g.P.Payload.kind g.P.Payload.pair g.P.Payload.ranged c.args.event)
    c.in_err-judge_times.field-0.0 c.in_err-judge_times.ensures
