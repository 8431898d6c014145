use Rattle.run_laws.proofs.RunsMade.{runs_made}
use Rattle.run_laws.proofs.laws.runs_are_made.Goals as goal

pub returns : goal.returns
returns c = runs_made
