use Rattle.std.proofs.Common.{◌<◌, length, refl, sym, ◌∙◌, arith}
use Rattle.std.specs.Fn.{FnReturnsAt}
use Rattle.std.proofs.lemmas.List.Filters.{FiltersInPlace-more_no, FiltersInPlace-more_set}
use Rattle.lists.proofs.list.calls.keep_in_front.Goals as goal
use Rattle.lists.proofs.list.calls.keep_in_front.Goals.{then-keeps, else-keeps}

pub loop-i-preserved : goal.loop-i-preserved
loop-i-preserved g c =
    let at : FnReturnsAt g.F.Fn c.args.keeps c.index-items-i.result c.keeps.result =
    record { shown = _; shows = refl; says = record { met = c.keeps.ensures } } in
    let here : c.loop-i.i < length c.loop-i.items = omega (arith, c.loop-i-test.true, c.requires.room, c.loop-i.auto.items) in
    elim c.if-keeps.branch [
      | then-keeps w ↦ (
        omega (arith, w.front-is, c.loop-i.invariant.0),
        omega (arith, c.if-keeps.auto.items, c.loop-i.auto.items),
        λ p says. rw (w.items-is, w.front-is) (FiltersInPlace-more_set (c.loop-i.invariant.2 p says) here (sym (says _ _ at) ∙ w.if-keeps.true) c.index-items-i.is),
      )
      | else-keeps w ↦ (
        omega (arith, w.front-is, c.loop-i.invariant.0),
        omega (arith, c.if-keeps.auto.items, c.loop-i.auto.items),
        λ p says. rw (w.items-is, w.front-is) (FiltersInPlace-more_no (c.loop-i.invariant.2 p says) here (sym (says _ _ at) ∙ w.if-keeps.false) c.index-items-i.is),
      )
    ]
