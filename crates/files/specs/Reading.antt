-- What a file means: the stream of its events, for any way to read the fields of one.
--     Reads                   what some bytes begin with: the fields of an event and the bytes after it, or a refusal
--     Ends rest bs            bs is at least one byte and then rest
--     One                     what stands at the front of some bytes: nothing, an event before the bytes after it, or a refusal
--     one_of k r              what stands there once the fields r are judged for the kind k
--     one_as pair r           the answer r of a call that reads an event, its event as numbers
--     one read k bs           what stands at the front of bs; nothing where bs is empty
--     Course                  numbered events, and the ending after them
--     ends w, gives n e c     no event, and the ending w; the event e under the number n, and then c
--     course one n bs         the events of bs, numbered from n. They end with bs, or with the first refusal, told at the number
--                             of its event
--     stream_of c             the course c as a stream, at depth 0
--     file_stream read k bs   the events of the file bs, numbered from 1; TooLong at event 1 where it has more than 65,536 bytes
--     Sound k src             the times of each event of src are lawful, and its payload is in the range of the kind k
--     Told n src              the events of src are numbered n, n + 1, .., and a fault is told at the number after the last
use Rattle.std.specs.Prelude.{◌≡◌, ℕ, zero, suc, ◌+◌, ◌<◌, true, cond, List, [], ◌∷◌, ◌++◌, length, Ok, Err, Result, nat_lt}
use Rattle.std.specs.Borrow.{Bor}
use Rattle.refusals.specs.declared.refusal.Refusal.{Refusal}
use Rattle.refusals.specs.declared.refusal.Refusal.TheVariants.{TooLong}
use Rattle.refusals.specs.Faults.{event_fault, Ending}
use Rattle.rows.specs.declared.event.Event.{Event}
use Rattle.rows.specs.Events.{PlainEvent, plain_event, timely}
use Rattle.rows.specs.Kinds.{Kind, Pair}
use Rattle.receipts.specs.Histories.{Entry}
use Rattle.rewriting.specs.Streams.{Stream}
use Rattle.files.specs.declared.fields.Fields.{Fields}
use Rattle.files.specs.Judging.{payload_fits, judged, fields_of}
use Rattle.refusals.specs.Parts.{Part}

abbrev pub Reads : Type 0
Reads = List ℕ → Part Fields

abbrev pub Ends : List ℕ → List ℕ → Type 0
Ends rest bs = (front : List ℕ) × (0 < length front) × (bs ≡ front ++ rest)

pub data One : Type 0 where
  nothing : One
  event : PlainEvent → List ℕ → One
  fault : Refusal → One

abbrev pub before : List ℕ → Result PlainEvent Refusal → One
before rest (Ok e) = event e rest
before rest (Err r) = fault r

abbrev pub one_of : Kind → Part Fields → One
one_of k (Ok p) = before p.1 (judged k p.0)
one_of k (Err r) = fault r

abbrev pub one_as : {P : Type 0} → (P → Pair) → Result (Event P × Bor (List ℕ)) Refusal → One
one_as pair (Ok p) = event (plain_event pair p.0) p.1.now
one_as pair (Err r) = fault r

abbrev pub one : Reads → Kind → List ℕ → One
one read k [] = nothing
one read k (b ∷ bs) = one_of k (read (b ∷ bs))

abbrev pub Course : Type 0
Course = List Entry × Ending

abbrev pub ends : Ending → Course
ends w = ([], w)

abbrev pub gives : ℕ → PlainEvent → Course → Course
gives n e c = ((n, e) ∷ c.0, c.1)

abbrev pub proceed : ℕ → One → (List ℕ → Course) → Course
proceed n nothing go = ends (Ok tt)
proceed n (event e rest) go = gives n e (go rest)
proceed n (fault r) go = ends (Err (event_fault r 0 n))

-- as far as f events
abbrev pub course_up_to : (List ℕ → One) → ℕ → ℕ → List ℕ → Course
course_up_to one zero n bs = ends (Ok tt)
course_up_to one (suc f) n bs = proceed n (one bs) (course_up_to one f (n + 1))

-- each event has a byte, so there are no more events than bytes
abbrev pub course : (List ℕ → One) → ℕ → List ℕ → Course
course one n bs = course_up_to one (length bs) n bs

abbrev pub file_course : Reads → Kind → List ℕ → Course
file_course read k bs = cond (nat_lt 65536 (length bs)) (ends (Err (event_fault TooLong 0 1))) (course (one read k) 1 bs)

abbrev pub stream_of : Course → Stream
stream_of c = record { entries = c.0; ending = c.1; depth = 0 }

abbrev pub file_stream : Reads → Kind → List ℕ → Stream
file_stream read k bs = stream_of (file_course read k bs)

abbrev pub ToldEnding : ℕ → Ending → Type 0
ToldEnding n (Ok tt) = Unit {0}
ToldEnding n (Err f) = (why : Refusal) × (f ≡ event_fault why 0 n)

abbrev pub ToldFrom : ℕ → List Entry → Ending → Type 0
ToldFrom n [] w = ToldEnding n w
ToldFrom n (x ∷ xs) w = (x.0 ≡ n) × ToldFrom (n + 1) xs w

abbrev pub Told : ℕ → Stream → Type 0
Told n src = ToldFrom n src.entries src.ending

abbrev pub AllSound : Kind → List Entry → Type 0
AllSound k [] = Unit {0}
AllSound k (x ∷ xs) = (timely x.1 ≡ true) × (payload_fits k (fields_of x.1) ≡ true) × AllSound k xs

abbrev pub Sound : Kind → Stream → Type 0
Sound k src = AllSound k src.entries
