use Rattle.rewriting.proofs.laws.rules_keep_laws.Goals as goal
use Rattle.rewriting.proofs.RowRules.{rules_keep}

pub returns : goal.returns
returns c = rules_keep
