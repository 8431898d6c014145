-- Numbers in groups and faults, worked.
--     GroupsExamples       the groups of some numbers, and what some bytes are read as
use Rattle.std.specs.Prelude.{◌≡◌, [], ◌∷◌, Ok, Err}
use Rattle.refusals.specs.declared.refusal.Refusal.TheVariants.{CutOff, BadNumber}
use Rattle.groups.specs.Groups.{groups_of, groups_read}

abbrev pub GroupsExamples : Type 0
GroupsExamples =
    (groups_of 300 ≡ 0xAC ∷ 0x02 ∷ [])
    × (groups_of 4294967295 ≡ 0xFF ∷ 0xFF ∷ 0xFF ∷ 0xFF ∷ 0x0F ∷ [])
    × (groups_read (0x00 ∷ 0x07 ∷ []) ≡ Ok (0, 0x07 ∷ []))
    × (groups_read (0xAC ∷ 0x02 ∷ []) ≡ Ok (300, []))
    × (groups_read (0xFF ∷ 0xFF ∷ 0xFF ∷ 0xFF ∷ 0x0F ∷ 0x80 ∷ []) ≡ Ok (4294967295, 0x80 ∷ []))
    × (groups_read (0xAC ∷ 0x82 ∷ 0x00 ∷ []) ≡ Err BadNumber)
    × (groups_read (0x80 ∷ 0x00 ∷ []) ≡ Err BadNumber)
    × (groups_read (0xFF ∷ 0xFF ∷ 0xFF ∷ 0xFF ∷ 0x10 ∷ []) ≡ Err BadNumber)
    × (groups_read (0xFF ∷ 0xFF ∷ 0xFF ∷ 0xFF ∷ 0xFF ∷ 0x00 ∷ []) ≡ Err BadNumber)
    × (groups_read (0x82 ∷ []) ≡ Err CutOff)
    × (groups_read (0xFF ∷ 0xFF ∷ []) ≡ Err CutOff)
    × (groups_read [] ≡ Err CutOff)
