-- The binary form keeps the law of forms.
--     binary_ends       an event that is read takes at least one byte, and leaves the bytes after its own
use Rattle.files.specs.Judging.{field_of}
use Rattle.files.specs.Orders.{insert_by, retraction_by, cti_by}
use Rattle.files.proofs.Binding.{Shortens, made_ends, insert_ends, retraction_ends, cti_ends}
use Rattle.files.proofs.ByKind.{by_kind_ends}
use Rattle.groups.specs.Groups.{groups_read}
use Rattle.groups.proofs.Fronts.{read_ends}
use Rattle.binary.specs.Binary.{end_read, binary_read}

number_ends : Shortens groups_read
number_ends bs rest n e = read_ends n rest bs e

end_ends : Shortens end_read
end_ends = made_ends groups_read field_of number_ends

pub binary_ends : Shortens binary_read
binary_ends =
    by_kind_ends (insert_by groups_read end_read) (retraction_by groups_read end_read) (cti_by groups_read) 1 2 3
    (insert_ends groups_read end_read number_ends end_ends) (retraction_ends groups_read end_read number_ends end_ends)
    (cti_ends groups_read end_read number_ends end_ends)
