-- Decimal numbers and faults, worked.
--     DecimalExamples       what some texts are read as
use Rattle.std.specs.Prelude.{◌≡◌, [], Ok, Err, codes}
use Rattle.refusals.specs.declared.refusal.Refusal.TheVariants.{CutOff, BadByte, BadNumber}
use Rattle.decimals.specs.Decimals.{decimal_read}

abbrev pub DecimalExamples : Type 0
DecimalExamples =
    (decimal_read (codes "0") ≡ Ok (0, []))
    × (decimal_read (codes "7 rest") ≡ Ok (7, codes " rest"))
    × (decimal_read (codes "12x") ≡ Ok (12, codes "x"))
    × (decimal_read (codes "4294967295") ≡ Ok (4294967295, []))
    × (decimal_read (codes "4294967296") ≡ Err BadNumber)
    × (decimal_read (codes "99999999999") ≡ Err BadNumber)
    × (decimal_read (codes "012") ≡ Err BadNumber)
    × (decimal_read (codes "00") ≡ Err BadNumber)
    × (decimal_read (codes "x") ≡ Err BadByte)
    × (decimal_read (codes "") ≡ Err CutOff)
