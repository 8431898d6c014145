use Rattle.std.proofs.Common.{rules}
use Rattle.weights.specs.Grams.{grams, weight_by}
use Rattle.kinds.proofs.examples_hold.Goals as goal

pub returns : goal.returns
unfolding grams weight_by
returns c = search rules
