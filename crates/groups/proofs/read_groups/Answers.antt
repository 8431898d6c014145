use Rattle.groups.proofs.Exactness.{groups_exact}
use Rattle.groups.proofs.read_groups.Goals as goal

pub returns-clause-exact : goal.returns-clause-exact
returns-clause-exact c = groups_exact c.args.bytes.now (λ i. (c.type_inv.bytes i).fits)
