use Rattle.run_laws.proofs.RunsExact.{runs_exact}
use Rattle.run_laws.proofs.laws.runs_are_exact.Goals as goal

pub returns : goal.returns
returns c = runs_exact
