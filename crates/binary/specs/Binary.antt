-- The binary form: the byte of an event's kind, and then its numbers in groups.
--     end_read bs             an end at the front of bs: a number, where 4,294,967,295 is FOREVER
--     binary_read bs          the fields of the event that bs begins with: 1 for an insert, 2 for a retraction, 3 for a CTI, and
--                             then its fields; BadByte at any other first byte, CutOff where there is none
use Rattle.std.specs.Prelude.{ℕ, List, Ok}
use Rattle.files.specs.declared.fields.EndField.{EndField}
use Rattle.files.specs.declared.fields.Fields.{Fields}
use Rattle.files.specs.Judging.{field_of}
use Rattle.refusals.specs.Parts.{Part}
use Rattle.files.specs.Orders.{bind, insert_by, retraction_by, cti_by, by_kind}
use Rattle.groups.specs.Groups.{groups_read}

abbrev pub end_read : List ℕ → Part EndField
end_read bs = bind (groups_read bs) (λ t rest. Ok (field_of t, rest))

abbrev pub binary_read : List ℕ → Part Fields
binary_read bs = by_kind (insert_by groups_read end_read) (retraction_by groups_read end_read) (cti_by groups_read) 1 2 3 bs
