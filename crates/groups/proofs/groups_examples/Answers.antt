use Rattle.std.proofs.Common.{refl}
use Rattle.groups.specs.Groups.{groups_of}
use Rattle.groups.proofs.groups_examples.Goals as goal

pub returns : goal.returns
unfolding groups_of
returns c = (refl, refl, refl, refl, refl, refl, refl, refl, refl, refl, refl, refl)
