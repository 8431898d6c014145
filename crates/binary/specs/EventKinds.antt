-- The kinds of events, by their bytes.
--     byte_of k       the byte that tells the kind k
--     kind_read b     the kind that the byte b tells, or BadByte
use Rattle.std.specs.Prelude.{ℕ, cond, Ok, Err, Result, ◌==◌}
use Rattle.refusals.specs.declared.refusal.Refusal.{Refusal}
use Rattle.refusals.specs.declared.refusal.Refusal.TheVariants.{BadByte}
use Rattle.binary.specs.declared.kind.EventKind.{EventKind}
use Rattle.binary.specs.declared.kind.EventKind.TheVariants.{Insert, Retraction, Cti}

abbrev pub byte_of : EventKind → ℕ
byte_of Insert = 1
byte_of Retraction = 2
byte_of Cti = 3

abbrev pub kind_read : ℕ → Result EventKind Refusal
kind_read b = cond (b == 1) (Ok Insert) (cond (b == 2) (Ok Retraction) (cond (b == 3) (Ok Cti) (Err BadByte)))
