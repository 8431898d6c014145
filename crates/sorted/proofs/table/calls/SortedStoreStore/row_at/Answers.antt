use Rattle.std.proofs.Common.{ap, ◌∙◌, arith}
use Rattle.std.proofs.lemmas.Grind.{common_steps}
use Rattle.lists.specs.Lists.{listed}
use Rattle.stores.specs.Told.{seen}
use Rattle.sorted.proofs.Changes.{row_told}
use Rattle.sorted.proofs.table.calls.SortedStoreStore.row_at.Goals as goal

pub returns : goal.returns
returns c = ap seen c.copied.ensures ∙ row_told (listed c.args.self.now.rows) _ c.as_slice.ensures c.args.place _ (λ lt. grind (arith, common_steps)) (λ le. grind (arith, common_steps)) _ c.get.ensures.lookup.3
