use Rattle.std.proofs.Common.{◌≡◌, ℕ, ◌+◌, Bool, true, false, cond, ◌&&◌, drop, Ok, Err, Result, sym, ap, ◌∙◌, arith}
use Rattle.std.proofs.lemmas.Result.{err_from_is_err_and}
use Rattle.refusals.specs.declared.refusal.Refusal.{Refusal}
use Rattle.refusals.specs.declared.refusal.Refusal.TheVariants.{BadTime}
use Rattle.rows.specs.Events.{plain_event, timely}
use Rattle.binary.specs.Writing.{all_timely}
use Rattle.binary.proofs.Left.{timely_left}
use Rattle.binary.proofs.writer.judge_all.Goals as goal

-- the first event that is refused
unlawful : (b c : Bool) (why : Refusal) → ◌≡◌ {A = Result (Unit {0}) Refusal} (Err why) (cond b (Ok tt) (Err BadTime)) →
    ◌≡◌ {A = Result (Unit {0}) Refusal} (Err why) (cond (b && c) (Ok tt) (Err BadTime))
unlawful true c why e = absurd (let z : ◌≡◌ {A = ℕ} 0 1 = cc in omega arith)
unlawful false c why e = cc

pub returns-in_err-judge_times : goal.returns-in_err-judge_times
returns-in_err-judge_times g c =
    let pair = g.P.Payload.pair in
    let es = c.args.events.now in
    let i = c.loop-event.event-index in
    let e = c.event-item.result in
    let left = c.loop-event.invariant ∙ timely_left pair es i e c.loop-event-test.true c.event-item.is in
    let p = err_from_is_err_and c.from_residual.result c.from_residual.ensures.1 in
    rw (p.1, p.2)
    (unlawful (timely (plain_event pair e)) (all_timely pair (drop (i + 1) es)) _ c.in_err-judge_times.ensures
    ∙ sym (ap (λ b. cond b (Ok tt) (Err BadTime)) left))
