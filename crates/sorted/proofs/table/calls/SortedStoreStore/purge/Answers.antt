use Rattle.std.proofs.Common.{length, refl, subst, sym, ap, rules, arith}
use Rattle.std.proofs.lemmas.List.{length-map}
use Rattle.lists.specs.Lists.{listed}
use Rattle.rows.specs.Rows.{plain}
use Rattle.receipts.specs.Stores.{Rising}
use Rattle.stores.proofs.Lengths.{gone_kept}
use Rattle.stores.proofs.Order.{rising_kept}
use Rattle.sorted.specs.Model.{held}
use Rattle.sorted.proofs.Changes.{purge_rows}
use Rattle.sorted.proofs.table.calls.SortedStoreStore.purge.Goals as goal

pub invariant_of-self : goal.invariant_of-self
invariant_of-self c =
    let s = c.args.self.now in record {
      rising = subst Rising (sym (purge_rows _ c.args.below (λ x b called. search rules) _ _ _ c.retain.ensures.kept cc)) (rising_kept c.args.below (held s) s.rising);
    }

pub returns-clause-after : goal.returns-clause-after
returns-clause-after c = purge_rows _ c.args.below (λ x b called. search rules) _ _ _ c.retain.ensures.kept cc

pub returns-clause-count : goal.returns-clause-count
returns-clause-count c =
    let s = c.args.self.now in
    let left = purge_rows _ c.args.below (λ x b called. search rules) _ _ (listed c.retain.new.self) c.retain.ensures.kept refl in
    omega (arith, gone_kept c.args.below (held s), ap length left, length-map (listed s.rows) plain, length-map (listed c.retain.new.self) plain, c.len-before.ensures, c.len.ensures)
