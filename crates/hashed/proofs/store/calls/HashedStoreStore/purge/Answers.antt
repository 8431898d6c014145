use Rattle.std.proofs.Common.{length, ap, arith}
use Rattle.stores.proofs.Lengths.{gone_kept}
use Rattle.hashed.specs.Model.{held}
use Rattle.hashed.proofs.store.calls.HashedStoreStore.purge.Goals as goal

pub overflow_sub-result : goal.overflow_sub-result
overflow_sub-result c = omega (arith, gone_kept c.args.below (held c.args.self.now), ap length c.rebuild.ensures.rows, c.count-before.ensures, c.count.ensures)

pub returns-clause-count : goal.returns-clause-count
returns-clause-count c = omega (arith, gone_kept c.args.below (held c.args.self.now), ap length c.rebuild.ensures.rows, c.count-before.ensures, c.count.ensures)
