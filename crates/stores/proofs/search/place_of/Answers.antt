use Rattle.std.proofs.Common.{ltb, rules}
use Rattle.std.proofs.lemmas.List.Sorted.{IsPartitionPoint-from_clause, IsPartitionedBy-ltb}
use Rattle.stores.proofs.Parted.{below_parted}
use Rattle.stores.proofs.search.place_of.Goals as goal

pub returns-clause-place : goal.returns-clause-place
returns-clause-place g c =
    let number = g.T.Identified.number in
    λ up. below_parted number c.args.id _ c.args.items.now c.partition_point.ensures.bound
    (IsPartitionPoint-from_clause (λ x. ltb (number x) c.args.id) c.args.items.now _ c.partition_point.ensures.partitioned
    (IsPartitionedBy-ltb number c.args.items.now c.args.id up) (λ a r f' called. search rules))
