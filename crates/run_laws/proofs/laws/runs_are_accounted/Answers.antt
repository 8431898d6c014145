use Rattle.run_laws.proofs.RunsAccounted.{runs_accounted}
use Rattle.run_laws.proofs.laws.runs_are_accounted.Goals as goal

pub returns : goal.returns
returns c = runs_accounted
