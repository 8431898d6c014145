use Rattle.run_laws.proofs.RunsDetermined.{runs_determined}
use Rattle.run_laws.proofs.laws.runs_are_determined.Goals as goal

pub returns : goal.returns
returns c = runs_determined
