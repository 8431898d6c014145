use Rattle.std.proofs.Common.{refl}
use denote.Param.{number}
use denote.Struct.Declared.{row}
use denote.Struct.Record.{values_one}
use Rattle.lists.specs.contracts.list.ArrayList as lists
use Rattle.tables.specs.contracts.table.Table as tables
use Rattle.hashed.specs.contracts.entry.Entry as entries
use Rattle.hashed.specs.contracts.store.HashedStore.{struct, the_propositions}
use Rattle.hashed.proofs.store.HashedStoreClone.clone.Goals as goal

pub returns : goal.returns
returns c =
    record {
      cases = values_one struct (the_propositions (row tables.the_type).coded (row (lists.the_type (row entries.the_type) (number _))).coded (row entries.the_type).coded) _ c.args.self.now refl;
    }
