-- What a fault tells, which of its fields stay absent, and how a source or a run ends.
--     bare_fault r            the refusal r alone
--     event_fault r depth n   the refusal r at the n-th event of a source, told at a depth
--     on_side s f             the fault f, told on the side s
--     at_cti c f              the fault f, with c as the CTI that was violated
--     Ending                  how a source or a run ends: Ok without a fault, Err at the first one
use Rattle.std.specs.Prelude.{ℕ, Some, None, Result}
use Rattle.refusals.specs.declared.fault.Fault.{Fault}
use Rattle.refusals.specs.declared.fault.Side.{Side}
use Rattle.refusals.specs.declared.refusal.Refusal.{Refusal}

abbrev pub bare_fault : Refusal → Fault
bare_fault r = record { refusal = r; side = None; depth = None; event = None; cti = None }

abbrev pub event_fault : Refusal → ℕ → ℕ → Fault
event_fault r depth n = record { refusal = r; side = None; depth = Some depth; event = Some n; cti = None }

abbrev pub on_side : Side → Fault → Fault
on_side s f = record { refusal = f.refusal; side = Some s; depth = f.depth; event = f.event; cti = f.cti }

abbrev pub at_cti : ℕ → Fault → Fault
at_cti c f = record { refusal = f.refusal; side = f.side; depth = f.depth; event = f.event; cti = Some c }

abbrev pub Ending : Type 0
Ending = Result (Unit {0}) Fault
