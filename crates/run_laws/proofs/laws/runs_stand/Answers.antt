use Rattle.run_laws.proofs.RunsStand.{runs_stand}
use Rattle.run_laws.proofs.laws.runs_stand.Goals as goal

pub returns : goal.returns
returns c = runs_stand
