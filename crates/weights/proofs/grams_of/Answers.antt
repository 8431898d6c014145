use Rattle.std.proofs.Common.{refl}
use Rattle.weights.specs.Grams.{follows}
use Rattle.weights.proofs.grams_of.Goals as goal

pub entry-requires-clause-rule : goal.entry-requires-clause-rule
unfolding follows
entry-requires-clause-rule c = refl
