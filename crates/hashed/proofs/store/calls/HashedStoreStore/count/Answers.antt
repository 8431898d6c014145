use Rattle.std.proofs.Common.{sym, ◌∙◌}
use Rattle.hashed.specs.Laws.{length_held}
use Rattle.hashed.proofs.store.calls.HashedStoreStore.count.Goals as goal

pub returns : goal.returns
returns c = c.len.ensures ∙ c.args.self.now.counted ∙ sym (length_held c.args.self.now)
