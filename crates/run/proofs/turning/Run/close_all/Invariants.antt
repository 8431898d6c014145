use Rattle.std.proofs.Common.{◌≡◌, ◌-◌, Bool, List, length}
use Rattle.refusals.specs.declared.fault.Fault.{Fault}
use Rattle.refusals.specs.declared.refusal.Refusal.{Refusal}
use Rattle.receipts.specs.Histories.{Entry}
use Rattle.receipts.specs.Sides.{Both}
use Rattle.query.specs.Queries.{setup, state}
use Rattle.run_laws.specs.Runs.{closings}
use Rattle.run.specs.States.{places, standing}
use Rattle.run.specs.Closings.{Kept, Grows}
use Rattle.run.proofs.turning.Run.close_all.Given as goal

-- The closings from here on come to what all of them come to.
abbrev pub invariant-loop-self : goal.invariant-loop-self
invariant-loop-self g l =
    let s = setup l.initial.self.query in
    let p = places l.initial.lines l.initial.windows in
    (setup l.self.query ≡ s)
    × (l.self.over ≡ l.initial.self.over)
    × Kept l.self.written l.initial.lines l.lines l.initial.windows l.windows
    × Grows l.initial.self.written l.self.written
    × ((rest : Both (List Entry)) (over : Both Bool) (blame : Refusal → Fault) →
    closings s p blame (length l.initial.windows - l.self.written.windows) (standing (state l.self.query) rest over l.lines l.windows l.self.written)
    ≡ closings s p blame (length l.initial.windows - l.initial.self.written.windows)
    (standing (state l.initial.self.query) rest over l.initial.lines l.initial.windows l.initial.self.written))

abbrev pub decreases-loop-self : goal.decreases-loop-self
decreases-loop-self g l = length l.initial.windows - l.self.written.windows
