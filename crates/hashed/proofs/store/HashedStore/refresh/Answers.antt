use Rattle.std.proofs.Common.{◌∙◌, arith}
use Rattle.hashed.proofs.Purges.{kept_all}
use Rattle.hashed.proofs.store.HashedStore.refresh.Goals as goal

pub returns-then-self-eq-MOST_REMOVALS : goal.returns-then-self-eq-MOST_REMOVALS
returns-then-self-eq-MOST_REMOVALS c = record { same = c.rebuild.ensures.rows ∙ kept_all _; room = omega (arith, c.rebuild.ensures.removals) }
