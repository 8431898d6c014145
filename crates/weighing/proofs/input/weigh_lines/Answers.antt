use Rattle.std.proofs.Common.{◌<◌, length, vec_items, sym, rules}
use Rattle.weighing.proofs.Read.{line_shorter}
use Rattle.weighing.proofs.Taking.{one_taken, one_refused, all_taken}
use Rattle.weighing.proofs.input.weigh_lines.Goals as goal

pub loop-rest-smaller : goal.loop-rest-smaller
loop-rest-smaller c = line_shorter c.loop-rest.rest.now c.in-Ok.after.now c.in-Ok.one (sym c.in-Ok.ensures)

pub loop-rest-preserved : goal.loop-rest-preserved
loop-rest-preserved c =
    one_taken (vec_items c.loop-rest.weighed) (vec_items c.push.new.self) c.loop-rest.rest.now c.in-Ok.after.now c.in-Ok.one _
    c.loop-rest.invariant (sym c.in-Ok.ensures) c.in_ok-push-in-Ok.ensures.items

pub returns-in-Err : goal.returns-in-Err
returns-in-Err c =
    let some : 0 < length c.loop-rest.rest.now = search rules in
    one_refused (vec_items c.loop-rest.weighed) c.loop-rest.rest.now c.in-Err.refusal c.at_event.result _
    c.loop-rest.invariant some (sym c.in-Err.ensures) (cc)

pub returns : goal.returns
returns c =
    let none : length c.loop-rest.rest.now < 1 = search rules in
    all_taken (vec_items c.loop-rest.weighed) c.loop-rest.rest.now _ c.loop-rest.invariant none
