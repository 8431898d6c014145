use Rattle.std.proofs.Common.{◌≡◌}
use Rattle.joining.specs.Guards.{both}
use Rattle.query.specs.Queries.{setup}
use Rattle.run_laws.specs.Runs.{ran}
use Rattle.run_laws.proofs.TurnsLeft.{turns_left}
use Rattle.run.specs.Closings.{Kept}
use Rattle.run.specs.States.{places}
use Rattle.run.specs.Turns.{sides, entries_of, stands, shallows, tails}
use Rattle.run.proofs.turning.Run.go.Given as goal

-- The run from here on comes to what the whole run comes to.
abbrev pub invariant-loop-self : goal.invariant-loop-self
invariant-loop-self g l =
    let s = setup l.initial.self.query in
    let p = places l.initial.lines l.initial.windows in
    let first = both (g.A.Source.stream l.initial.left) (g.B.Source.stream l.initial.right) in
    let srcs = both (g.A.Source.stream l.left) (g.B.Source.stream l.right) in
    (setup l.self.query ≡ s)
    × (tails srcs ≡ tails first)
    × Kept l.self.written l.initial.lines l.lines l.initial.windows l.windows
    × (ran s p (shallows first) (turns_left (entries_of srcs) (sides l.self.over)) (stands l.self srcs l.lines l.windows)
    ≡ ran s p (shallows first) (turns_left (entries_of first) (sides l.initial.self.over)) (stands l.initial.self first l.initial.lines l.initial.windows))

abbrev pub decreases-loop-self : goal.decreases-loop-self
decreases-loop-self g l =
    turns_left (entries_of (both (g.A.Source.stream l.left) (g.B.Source.stream l.right))) (sides l.self.over)
