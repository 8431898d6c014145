use Rattle.std.proofs.Common.{◌≡◌, length, None}
use Rattle.rewriting.specs.Layers.{layer}
use Rattle.rewriting.specs.Streams.{over}
use Rattle.layers.proofs.layer.LayerSource.take.Given as goal

-- The layer means what it meant, and has met no fault.
abbrev pub invariant-loop-number : goal.invariant-loop-number
invariant-loop-number g l =
    (l.self.failed ≡ None)
    × (layer (g.R.RowRule.rule l.self.rule g.S.Payload.Payload.kind) (g.S.Source.stream l.self.below)
    ≡ over l.initial.self.failed (layer (g.R.RowRule.rule l.initial.self.rule g.S.Payload.Payload.kind) (g.S.Source.stream l.initial.self.below)))

abbrev pub decreases-loop-number : goal.decreases-loop-number
decreases-loop-number g l = length (g.S.Source.stream l.self.below).entries
