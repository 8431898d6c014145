use Rattle.rewriting.proofs.laws.piles_are_lawful.Goals as goal
use Rattle.rewriting.proofs.Piles.{piles_lawful}

pub returns : goal.returns
returns c = piles_lawful
