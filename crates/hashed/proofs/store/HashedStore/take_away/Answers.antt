use Rattle.std.proofs.Common.{arith}
use Rattle.hashed.proofs.Updates.{cut_kept, cut_rows}
use Rattle.hashed.proofs.store.HashedStore.take_away.Goals as goal

pub invariant_of-self : goal.invariant_of-self
invariant_of-self c =
    let s = c.args.self.now in
    let kept = cut_kept s c.clear.new.self c.args.id c.args.slot c.requires.here c.clear.ensures.after _ (omega (arith, c.place-place.ensures)) _ c.remove.ensures.after in
    record {
      counted = kept.counted;
      named = kept.good.named;
      rising = kept.good.rising;
      matched = kept.good.matched;
      worn = omega (arith, c.clear.ensures.deleted, s.worn);
      recent = omega (arith, c.requires.room);
    }

pub returns : goal.returns
returns c =
    let s = c.args.self.now in
    cut_rows s c.clear.new.self c.args.id c.args.slot c.requires.here c.clear.ensures.after _ (omega (arith, c.place-place.ensures)) _ c.remove.ensures.after
