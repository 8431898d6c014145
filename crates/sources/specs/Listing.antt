-- A slice of events as a stream.
--     numbered pair n es          the events es under the numbers n, n + 1, ..
--     left_stream pair es n       the events es, which are left once n were taken: under the numbers n + 1, n + 2, .., then END, at depth 0
--     listed_stream pair es i     the events of es from the place i on, numbered from 1 at place 0, then END, at depth 0
use Rattle.std.specs.Prelude.{ℕ, ◌+◌, List, [], ◌∷◌, drop, Ok}
use Rattle.rows.specs.declared.event.Event.{Event}
use Rattle.rows.specs.Events.{plain_event}
use Rattle.rows.specs.Kinds.{Pair}
use Rattle.receipts.specs.Histories.{Entry}
use Rattle.rewriting.specs.Streams.{Stream}

abbrev pub numbered : {P : Type 0} → (P → Pair) → ℕ → List (Event P) → List Entry
numbered pair n [] = []
numbered pair n (e ∷ es) = (n, plain_event pair e) ∷ numbered pair (n + 1) es

abbrev pub left_stream : {P : Type 0} → (P → Pair) → List (Event P) → ℕ → Stream
left_stream pair es n = record { entries = numbered pair (n + 1) es; ending = Ok tt; depth = 0 }

abbrev pub listed_stream : {P : Type 0} → (P → Pair) → List (Event P) → ℕ → Stream
listed_stream pair es i = left_stream pair (drop i es) i
