use Rattle.rewriting.proofs.laws.piles_grow.Goals as goal
use Rattle.rewriting.proofs.Piles.{piles_grow}

pub returns : goal.returns
returns c = piles_grow
