use Rattle.std.proofs.Common.{arith}
use Rattle.std.proofs.lemmas.List.{length-map}
use Rattle.lists.specs.Lists.{listed}
use Rattle.rows.specs.Rows.{plain}
use Rattle.stores.specs.Places.{id_of}
use Rattle.stores.proofs.Places.{below_le}
use Rattle.sorted.specs.Model.{held}
use Rattle.sorted.proofs.Changes.{spot_err, add_rising, add_told}
use Rattle.sorted.proofs.table.calls.SortedStoreStore.add.Goals as goal

pub put-requires : goal.put-requires
put-requires c =
    let s = c.args.self.now in
    let told = spot_err c.args.id (held s) _ c.in-Err.ensures in
    omega (arith, told.1, below_le id_of c.args.id (held s), length-map (listed s.rows) plain)

pub invariant_of-self : goal.invariant_of-self
invariant_of-self c =
    let s = c.args.self.now in
    let told = spot_err c.args.id (held s) _ c.in-Err.ensures in
    record { rising = add_rising (listed s.rows) _ s.rising _ _ told.0 told.1 _ c.put.ensures.after }

pub returns-in-Err : goal.returns-in-Err
returns-in-Err c =
    let s = c.args.self.now in
    let told = spot_err c.args.id (held s) _ c.in-Err.ensures in
    add_told (listed s.rows) _ s.rising _ _ told.0 told.1 c.put.result c.put.ensures.value c.put.ensures.after
