-- Inputs that are weighed whole.
--     written_lines ns    the numbers ns as they are printed, each with a line feed after it
--     all_readings ns     each of ns is a reading, 0 to 4,095
--     whole ns            the outcome of weighing each of ns, with no fault
--     Written ns bs       bs is ns as they are printed, one to a line, all of them readings, in at most 65,536 bytes
--     InputExact bs       the outcome of bs is that of ns, with no fault, just where bs is ns, one to a line
use Rattle.std.specs.Prelude.{◌≡◌, ℕ, ◌≤◌, Bool, true, ◌&&◌, List, [], ◌∷◌, ◌++◌, map, length, None, decimal, nat_le}
use Rattle.weighing.specs.Lines.{weighed}
use Rattle.weighing.specs.Inputs.{Outcome, input_weighed}

abbrev pub written_lines : List ℕ → List ℕ
written_lines [] = []
written_lines (n ∷ ns) = decimal n ++ (10 ∷ written_lines ns)

abbrev pub all_readings : List ℕ → Bool
all_readings [] = true
all_readings (n ∷ ns) = nat_le n 4095 && all_readings ns

abbrev pub whole : List ℕ → Outcome
whole ns = record { weighed = map weighed ns; fault = None }

abbrev pub Written : List ℕ → List ℕ → Type 0
Written ns bs = (all_readings ns ≡ true) × (bs ≡ written_lines ns) × (length bs ≤ 65536)

unfoldable pub InputExact : List ℕ → Type 0
InputExact bs = (ns : List ℕ) → (Written ns bs → input_weighed bs ≡ whole ns) × (input_weighed bs ≡ whole ns → Written ns bs)
