-- How faults are printed.
--     letter s                    `L` or `R`
--     side_text o                 the letter of a side, `-` where there is no side
--     field_text o                a field of a fault: its number in decimal, `-` where it is absent
--     field_told text o           a field whose values are told by text: `-` where it is absent
--     fault_line f                `F`, number, side, depth, event, CTI, with a space between each two
use Rattle.std.specs.Prelude.{ℕ, List, ◌++◌, Some, None, codes, decimal, Option}
use Rattle.refusals.specs.declared.fault.Fault.{Fault}
use Rattle.refusals.specs.declared.fault.Side.{Side}
use Rattle.refusals.specs.declared.fault.Side.TheVariants.{Left, Right}
use Rattle.refusals.specs.Refusals.{number_of}

abbrev pub letter : Side → List ℕ
letter Left = codes "L"
letter Right = codes "R"

abbrev pub side_text : Option Side → List ℕ
side_text None = codes "-"
side_text (Some s) = letter s

abbrev pub field_text : Option ℕ → List ℕ
field_text None = codes "-"
field_text (Some n) = decimal n

abbrev pub field_told : {T : Type 0} → (T → Option (List ℕ)) → Option T → Option (List ℕ)
field_told text None = Some (codes "-")
field_told text (Some x) = text x

abbrev pub fault_line : Fault → List ℕ
fault_line f =
    codes "F " ++ (decimal (number_of f.refusal) ++ (codes " " ++ (side_text f.side ++ (codes " " ++ (field_text f.depth
    ++ (codes " " ++ (field_text f.event ++ (codes " " ++ field_text f.cti))))))))
