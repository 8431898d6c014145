use Rattle.std.proofs.Common.{refl}
use Rattle.kinds.specs.Measures.{told_by_pair}
use Rattle.kinds.proofs.measured.MeasuredClone.clone.Goals as goal

pub returns : goal.returns
returns g c = record { cases = told_by_pair _ c.args.self.now refl }
