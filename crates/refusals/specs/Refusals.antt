-- The refusals and their numbers.
--     number_of r     the number under which the refusal r is told, 1 to 18
use Rattle.std.specs.Prelude.{ℕ}
use Rattle.refusals.specs.declared.refusal.Refusal.{Refusal}
use Rattle.refusals.specs.declared.refusal.Refusal.TheVariants.{TooLong, CutOff, BadByte, BadNumber, BadPayload, BadTime, OutOfTime, CtiViolated, IdInUse, NoSuchRow, OtherRow, StoreFull, NotYet, WindowsFull, LinesFull, BadWidth, BadRule, OutFull}

abbrev pub number_of : Refusal → ℕ
number_of TooLong = 1
number_of CutOff = 2
number_of BadByte = 3
number_of BadNumber = 4
number_of BadPayload = 5
number_of BadTime = 6
number_of OutOfTime = 7
number_of CtiViolated = 8
number_of IdInUse = 9
number_of NoSuchRow = 10
number_of OtherRow = 11
number_of StoreFull = 12
number_of NotYet = 13
number_of WindowsFull = 14
number_of LinesFull = 15
number_of BadWidth = 16
number_of BadRule = 17
number_of OutFull = 18
