use Rattle.std.proofs.Common.{◌∙◌, rules}
use Rattle.tables.proofs.Steps.{is_free, free_probed}
use Rattle.tables.proofs.table.Table.free_slot.Goals as goal

pub returns : goal.returns
returns c = c.probe.ensures is_free (λ s b told. search rules) ∙ free_probed c.args.id c.args.self.now.slots
