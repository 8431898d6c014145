use Rattle.std.proofs.Common.{arith}
use Rattle.binary.proofs.Left.{events_len, put_events_more, small_more}
use Rattle.binary.proofs.writer.put_events.Goals as goal

pub loop-event-preserved : goal.loop-event-preserved
loop-event-preserved g c =
    let pair = g.P.Payload.pair in
    let es = c.args.events.now in
    let i = c.loop-event.event-index in
    let e = c.event-item.result in
    let l = events_len pair es i e c.loop-event-test.true c.event-item.is in
    let n = c.loop-event.invariant.0 in
    let p = put_events_more pair es i e c.loop-event-test.true c.event-item.is c.loop-event.out c.loop-event.place in
    (omega arith, cc, small_more pair es i e c.loop-event-test.true c.event-item.is c.loop-event.invariant.2 c.put_event-place.ensures.small)
