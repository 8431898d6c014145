use Rattle.run_laws.proofs.RunsExact.{runs_counted}
use Rattle.run_laws.proofs.laws.runs_are_counted.Goals as goal

pub returns : goal.returns
returns c = runs_counted
