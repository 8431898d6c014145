use Rattle.decimals.proofs.Exactness.{decimal_exact}
use Rattle.decimals.proofs.decimal.Goals as goal

pub returns-clause-exact : goal.returns-clause-exact
returns-clause-exact c = decimal_exact c.args.bytes.now
