use Rattle.std.proofs.Common.{◌≡◌, ◌++◌, length, vec_items}
use Rattle.receipts.specs.Histories.{events}
use Rattle.packing.specs.Collecting.{plains}
use Rattle.packing.proofs.collecting.collect.Given as goal

-- what was taken and what is left come to the same
abbrev pub invariant-loop-next : goal.invariant-loop-next
invariant-loop-next g l =
    (plains g.P.Payload.pair (vec_items l.events) ++ events (g.S.Source.stream l.source).entries ≡ events (g.S.Source.stream l.initial.source).entries)
    × ((g.S.Source.stream l.source).ending ≡ (g.S.Source.stream l.initial.source).ending)

abbrev pub decreases-loop-next : goal.decreases-loop-next
decreases-loop-next g l = length (g.S.Source.stream l.source).entries
