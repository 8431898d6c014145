use Rattle.std.proofs.Common.{Bool}
use Rattle.std.specs.Fn.{FnReturnsAt}
use Rattle.tables.specs.declared.slot.Slot.{Slot}
use Rattle.tables.specs.Slots.{Computes}
use Rattle.tables.proofs.Steps.{Probing}
use Rattle.tables.proofs.table.Table.probe.Given as goal

abbrev pub invariant-loop-step : goal.invariant-loop-step
invariant-loop-step g l = (p : Slot → Bool) → Computes p (FnReturnsAt g.F.Fn l.stops) → Probing p l.id l.self.slots l.step
