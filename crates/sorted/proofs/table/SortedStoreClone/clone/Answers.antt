use Rattle.std.proofs.Common.{refl}
use denote.Param.{number}
use denote.Struct.Declared.{row}
use denote.Struct.Record.{values_one}
use Rattle.lists.specs.contracts.list.ArrayList as lists
use Rattle.rows.specs.contracts.row.PlainRow as rows
use Rattle.sorted.specs.contracts.table.SortedStore.{struct, the_propositions}
use Rattle.sorted.proofs.table.SortedStoreClone.clone.Goals as goal

pub returns : goal.returns
returns c = record { cases = values_one struct (the_propositions (row (lists.the_type (row rows.the_type) (number _))).coded (row rows.the_type).coded) _ c.args.self.now refl }
