use Rattle.std.proofs.Common.{length, refl, sym, ap, ◌∙◌, arith, lit≤}
use Rattle.hashed.proofs.State.{empty_good, empty_held, none_filled_in}
use Rattle.hashed.proofs.store.HashedStore.empty.Goals as goal

pub invariant_of-result : goal.invariant_of-result
invariant_of-result c =
    let none = c.new-2.ensures in
    let good = empty_good c.new.result _ c.new.ensures.empty none in
    record {
      counted = ap length none ∙ sym (none_filled_in c.new.result c.new.ensures.empty);
      named = good.named;
      rising = good.rising;
      matched = good.matched;
      worn = omega (arith, c.new.ensures.deleted);
      recent = lit≤ tt;
    }

pub returns : goal.returns
returns c = record { rows = empty_held _ _ c.new-2.ensures; removals = refl }
