use Rattle.std.proofs.Common.{◌≡◌, take}
use Rattle.receipts.specs.Stores.{kept}
use Rattle.hashed.specs.Model.{held}
use Rattle.hashed.proofs.store.HashedStore.rebuild.Given as goal

abbrev pub invariant-loop-entry : goal.invariant-loop-entry
invariant-loop-entry l = (held l.fresh ≡ kept l.below (take l.entry-index (held l.fn.self))) × (l.fresh.removals ≡ 0)
