-- All that a source gives.
--     plains pair es          the events es of the code, as numbers
--     collected src           the events of the stream src, or the fault that it ends with
--     collected_as pair r     the answer r of a call that collects a source, its events as numbers
use Rattle.std.specs.Prelude.{List, [], ◌∷◌, Ok, Err, vec_items, Result, Vec}
use Rattle.std.specs.declared.alloc.Global.{Global}
use Rattle.refusals.specs.Faults.{Ending}
use Rattle.refusals.specs.declared.fault.Fault.{Fault}
use Rattle.receipts.specs.Histories.{events}
use Rattle.rewriting.specs.Streams.{Stream}
use Rattle.rows.specs.declared.event.Event.{Event}
use Rattle.rows.specs.Events.{PlainEvent, plain_event}
use Rattle.rows.specs.Kinds.{Pair}

abbrev pub plains : {P : Type 0} → (P → Pair) → List (Event P) → List PlainEvent
plains pair [] = []
plains pair (e ∷ es) = plain_event pair e ∷ plains pair es

abbrev pub ending_with : List PlainEvent → Ending → Result (List PlainEvent) Fault
ending_with es (Ok u) = Ok es
ending_with es (Err f) = Err f

abbrev pub collected : Stream → Result (List PlainEvent) Fault
collected src = ending_with (events src.entries) src.ending

abbrev pub collected_as : {P : Type 0} → (P → Pair) → Result (Vec (Event P) Global) Fault → Result (List PlainEvent) Fault
collected_as pair (Ok v) = Ok (plains pair (vec_items v))
collected_as pair (Err f) = Err f
