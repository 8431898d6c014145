use Rattle.std.proofs.Common.{Err, refl, ap, ◌∙◌, arith}
use Rattle.std.proofs.lemmas.Grind.{common_steps}
use Rattle.std.proofs.lemmas.Result.{err_from_is_err_and}
use Rattle.rows.specs.Rows.{plain}
use Rattle.stores.specs.Told.{outcome}
use Rattle.hashed.specs.Model.{held}
use Rattle.hashed.proofs.Updates.{refused, same_kept, same_rows, put_slot, put_room, done_told, put_kept, put_done}
use Rattle.hashed.proofs.store.HashedStore.insert.Goals as goal

pub invariant_of-self : goal.invariant_of-self
invariant_of-self c =
    let s = c.args.self.now in
    let kept = same_kept s c.put.new.self (refused s c.put.new.self (plain c.args.row) _ c.in_err-slot.ensures.told).0 in
    record {
      counted = kept.counted;
      named = kept.good.named;
      rising = kept.good.rising;
      matched = kept.good.matched;
      worn = omega (arith, c.put.ensures.deleted, s.worn);
      recent = s.recent;
    }

pub returns-in_err-slot-clause-told : goal.returns-in_err-slot-clause-told
returns-in_err-slot-clause-told c =
    let s = c.args.self.now in
    let told = refused s c.put.new.self (plain c.args.row) _ c.in_err-slot.ensures.told in
    let err = err_from_is_err_and c.from_residual.result c.from_residual.ensures.1 in
    ap (outcome c.from_residual.result) (same_rows s c.put.new.self told.0) ∙ ap (λ a. outcome a (held s)) (err.1 ∙ ap Err err.2) ∙ told.1

pub overflow_cast-slot : goal.overflow_cast-slot
overflow_cast-slot c = omega (arith, put_slot c.args.self.now c.put.new.self (plain c.args.row) _ c.in_ok-slot.ensures.told)

pub unwrap-requires : goal.unwrap-requires
unwrap-requires c =
    c.insert.ensures.variant.1 (put_room c.args.self.now c.put.new.self (plain c.args.row) _ c.in_ok-slot.ensures.told _ c.requires)

pub invariant_of-self-2 : goal.invariant_of-self-2
invariant_of-self-2 c =
    let s = c.args.self.now in
    let kept = put_kept s c.put.new.self (plain c.args.row) _ c.in_ok-slot.ensures.told _ c.requires _ (refl, refl) _ _ (done_told c.insert.result c.insert.ensures.ok (c.insert.ensures.variant.1 (put_room s c.put.new.self (plain c.args.row) _ c.in_ok-slot.ensures.told _ c.requires))) (grind (arith, common_steps)) in
    record {
      counted = kept.counted;
      named = kept.good.named;
      rising = kept.good.rising;
      matched = kept.good.matched;
      worn = omega (arith, c.put.ensures.deleted, s.worn);
      recent = s.recent;
    }

pub returns-clause-told : goal.returns-clause-told
returns-clause-told c =
    let s = c.args.self.now in
    put_done s c.put.new.self (plain c.args.row) _ c.in_ok-slot.ensures.told _ c.requires _ (refl, refl) _ _ (done_told c.insert.result c.insert.ensures.ok (c.insert.ensures.variant.1 (put_room s c.put.new.self (plain c.args.row) _ c.in_ok-slot.ensures.told _ c.requires))) (grind (arith, common_steps))
