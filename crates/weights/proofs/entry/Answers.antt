use Rattle.std.proofs.Common.{arith}
use Rattle.weights.specs.Grams.{rise, grams}
use Rattle.weights.proofs.Followed.{followed}
use Rattle.weights.proofs.entry.Goals as goal

pub returns : goal.returns
unfolding grams
returns c = followed rise c.args.table.now c.requires.rule c.args.count (omega arith)
