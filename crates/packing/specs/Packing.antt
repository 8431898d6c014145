-- What packing a text file answers.
--     plain_bytes es          the events es in binary, one after another
--     packed side k text out  what packing the text file into out answers, and out after it: how many events in how many bytes; or the
--                             fault of the text, or OutFull where there is no room, told on the side, and out as it was
--     packed_as r             the answer r of the call, as numbers
--     Means k text r out      where r is an answer in bytes, they are the only binary file that is read as the text file is
use Rattle.std.specs.Prelude.{ℕ, List, [], ◌∷◌, ◌++◌, length, take, Ok, Err, Result}
use Rattle.refusals.specs.declared.fault.Fault.{Fault}
use Rattle.refusals.specs.declared.fault.Side.{Side}
use Rattle.refusals.specs.declared.refusal.Refusal.{Refusal}
use Rattle.refusals.specs.Faults.{bare_fault, on_side}
use Rattle.rows.specs.Events.{PlainEvent}
use Rattle.rows.specs.Kinds.{Kind}
use Rattle.files.specs.Reading.{file_stream}
use Rattle.binary.specs.Canonical.{Spells}
use Rattle.binary.specs.Writing.{event_bytes, put_front}
use Rattle.text.specs.Text.{text_read}
use Rattle.packing.specs.declared.file.Packed.{Packed}
use Rattle.packing.specs.Collecting.{collected}

abbrev pub plain_bytes : List PlainEvent → List ℕ
plain_bytes [] = []
plain_bytes (e ∷ es) = event_bytes e ++ plain_bytes es

abbrev pub counted : Side → ℕ → Result ℕ Refusal → Result (ℕ × ℕ) Fault
counted side count (Ok n) = Ok (count, n)
counted side count (Err why) = Err (on_side side (bare_fault why))

abbrev pub put_counted : Side → ℕ → Result ℕ Refusal × List ℕ → Result (ℕ × ℕ) Fault × List ℕ
put_counted side count p = (counted side count p.0, p.1)

abbrev pub packed_of : Side → List ℕ → Result (List PlainEvent) Fault → Result (ℕ × ℕ) Fault × List ℕ
packed_of side out (Ok es) = put_counted side (length es) (put_front (plain_bytes es) out)
packed_of side out (Err f) = (Err (on_side side f), out)

abbrev pub packed : Side → Kind → List ℕ → List ℕ → Result (ℕ × ℕ) Fault × List ℕ
packed side k text out = packed_of side out (collected (file_stream text_read k text))

abbrev pub packed_as : Result Packed Fault → Result (ℕ × ℕ) Fault
packed_as (Ok p) = Ok (p.events, p.bytes)
packed_as (Err f) = Err f

abbrev pub Means : Kind → List ℕ → Result Packed Fault → List ℕ → Type 0
Means k text (Ok p) out = Spells k (file_stream text_read k text) (take p.bytes out)
Means k text (Err f) out = Unit {0}
