use Rattle.rewriting.proofs.laws.layers_are_lawful.Goals as goal
use Rattle.rewriting.proofs.Layers.{layers_lawful}

pub returns : goal.returns
returns c = layers_lawful
