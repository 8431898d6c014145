use Rattle.std.proofs.Common.{Ok, vec_items, sym, ap, ◌∙◌}
use Rattle.sources.specs.Taking.{taken_as}
use Rattle.packing.proofs.Taking.{taken_more}
use Rattle.packing.proofs.collecting.collect.Goals as goal

pub loop-next-preserved : goal.loop-next-preserved
loop-next-preserved g c =
    let pair = g.P.Payload.pair in
    taken_more pair (vec_items c.loop-next.events) (vec_items c.push.new.self) _ c.in-Ok-Some.next.event _ _ _ _
    (ap (λ o. taken_as pair (Ok o)) (sym c.in-Ok-Some.field-0-is) ∙ c.in-Ok-Some.ensures.value) c.in-Ok-Some.ensures.after
    c.in_ok-push-in-Ok-Some.ensures.items c.loop-next.invariant.0 c.loop-next.invariant.1
