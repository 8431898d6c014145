use Rattle.std.proofs.Common.{refl}
use denote.Param.{number}
use denote.Struct.Record.{values_one}
use Rattle.lists.specs.contracts.list.ArrayList.{struct, the_propositions}
use Rattle.lists.proofs.list.ArrayListClone.clone.Goals as goal

pub returns : goal.returns
returns g c = record { cases = values_one (struct g.row.T (number g.row.CAP)) (the_propositions g.row.T.Denot g.row.CAP g.row.T.coded) _ c.args.self.now refl }
