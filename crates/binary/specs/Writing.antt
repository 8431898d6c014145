-- What the binary writer writes.
--     kind_byte e             the byte of the kind of the event e
--     numbers_of e            the numbers of the event e, in the order of its fields
--     Small ns                each of the numbers ns is below 2 ^ 32
--     all_groups ns           the numbers ns in groups, one after another
--     spelled kind ns         the byte of the kind, and then the numbers ns in groups
--     event_bytes e           the event e in binary
--     file_bytes pair es      the events es in binary, one after another
--     all_timely pair es      the times of each of es are lawful
--     AllSmall pair es        the numbers of each of es are below 2 ^ 32
--     written pair es out     what writing es into out answers, and out after it: how many bytes, from its front on, or BadTime, or
--                             else OutFull where there is no room or the bytes are more than 65,536, and out as it was
use Rattle.std.specs.Prelude.{ℕ, ◌^◌, ◌<◌, min, Bool, true, cond, ◌&&◌, List, [], ◌∷◌, ◌++◌, length, Ok, Err, Result, nat_le}
use Rattle.refusals.specs.declared.refusal.Refusal.{Refusal}
use Rattle.refusals.specs.declared.refusal.Refusal.TheVariants.{BadTime, OutFull}
use Rattle.groups.specs.Groups.{groups_of}
use Rattle.groups.specs.Puts.{put_all}
use Rattle.rows.specs.declared.event.Event.{Event}
use Rattle.rows.specs.Events.{PlainEvent, insert, retraction, cti, plain_event, timely}
use Rattle.rows.specs.Kinds.{Pair}
use Rattle.binary.specs.declared.kind.EventKind.{EventKind}
use Rattle.binary.specs.EventKinds.{byte_of}

abbrev pub kind_byte : PlainEvent → ℕ
kind_byte (insert r) = 1
kind_byte (retraction r e) = 2
kind_byte (cti t) = 3

abbrev pub numbers_of : PlainEvent → List ℕ
numbers_of (insert r) = r.id ∷ r.start ∷ r.end ∷ r.key ∷ r.value ∷ []
numbers_of (retraction r e) = r.id ∷ r.start ∷ r.end ∷ e ∷ r.key ∷ r.value ∷ []
numbers_of (cti t) = t ∷ []

abbrev pub Small : List ℕ → Type 0
Small [] = Unit {0}
Small (n ∷ ns) = (n < 2 ^ 32) × Small ns

abbrev pub all_groups : List ℕ → List ℕ
all_groups [] = []
all_groups (n ∷ ns) = groups_of n ++ all_groups ns

abbrev pub spelled : EventKind → List ℕ → List ℕ
spelled kind ns = byte_of kind ∷ all_groups ns

abbrev pub event_bytes : PlainEvent → List ℕ
event_bytes e = kind_byte e ∷ all_groups (numbers_of e)

abbrev pub file_bytes : {P : Type 0} → (P → Pair) → List (Event P) → List ℕ
file_bytes pair [] = []
file_bytes pair (e ∷ es) = event_bytes (plain_event pair e) ++ file_bytes pair es

abbrev pub all_timely : {P : Type 0} → (P → Pair) → List (Event P) → Bool
all_timely pair [] = true
all_timely pair (e ∷ es) = timely (plain_event pair e) && all_timely pair es

abbrev pub AllSmall : {P : Type 0} → (P → Pair) → List (Event P) → Type 0
AllSmall pair [] = Unit {0}
AllSmall pair (e ∷ es) = Small (numbers_of (plain_event pair e)) × AllSmall pair es

abbrev pub put_front : List ℕ → List ℕ → Result ℕ Refusal × List ℕ
put_front bs out = cond (nat_le (length bs) (min (length out) 65536)) (Ok (length bs), put_all out 0 bs) (Err OutFull, out)

abbrev pub written : {P : Type 0} → (P → Pair) → List (Event P) → List ℕ → Result ℕ Refusal × List ℕ
written pair es out = cond (all_timely pair es) (put_front (file_bytes pair es) out) (Err BadTime, out)
