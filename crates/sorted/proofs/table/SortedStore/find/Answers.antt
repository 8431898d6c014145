use Rattle.std.proofs.Common.{arith, rules}
use Rattle.std.proofs.lemmas.Grind.{common_steps}
use Rattle.std.proofs.lemmas.Fn.{always_returns_same}
use Rattle.lists.specs.Lists.{listed}
use Rattle.rows.specs.declared.row.PlainRow.{PlainRow}
use Rattle.sorted.proofs.Found.{spot_told}
use Rattle.sorted.proofs.table.SortedStore.find.Goals as goal

pub returns : goal.returns
returns c =
    let told = c.binary_search_by_key.ensures in
    spot_told (listed c.args.self.now.rows) _ (grind (arith, common_steps)) c.args.self.now.rising c.args.id _ told.bound
    (told.position (λ (row : PlainRow). row.id) (always_returns_same _ _ _ (λ a r f' called. search rules)))
