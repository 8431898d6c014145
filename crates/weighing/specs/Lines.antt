-- What one line of input means.
--     weighed n               the number n with the least and the most of the reading n of the locker 0
--     number_weighed n        the same, or BadPayload where n is no reading
--     line_end n bs           n weighed and the bytes after the line feed that bs begins with; CutOff where bs has no byte,
--                             BadByte where it begins with another, and then BadPayload where n is no reading
--     line_read bs            what the line at the front of bs means, and the bytes after it: a decimal number, or the
--                             fault of the number, and then the line's end
use Rattle.std.specs.Prelude.{ℕ, cond, List, [], ◌∷◌, Ok, Err, Result, ◌==◌}
use Rattle.refusals.specs.declared.refusal.Refusal.{Refusal}
use Rattle.refusals.specs.declared.refusal.Refusal.TheVariants.{CutOff, BadByte, BadPayload}
use Rattle.refusals.specs.Parts.{Part}
use Rattle.rows.specs.Kinds.{in_range}
use Rattle.kinds.specs.Kinds.{readings}
use Rattle.decimals.specs.Decimals.{decimal_read}
use Rattle.weighing.specs.declared.weighed.Weighed.{Weighed}

abbrev pub weighed : ℕ → Weighed
weighed n = record { number = n; least = readings.least 0 n; most = readings.most 0 n }

abbrev pub number_weighed : ℕ → Result Weighed Refusal
number_weighed n = cond (in_range readings 0 n) (Ok (weighed n)) (Err BadPayload)

abbrev pub with_rest : List ℕ → Result Weighed Refusal → Part Weighed
with_rest rest (Ok w) = Ok (w, rest)
with_rest rest (Err r) = Err r

abbrev pub line_end : ℕ → List ℕ → Part Weighed
line_end n [] = Err CutOff
line_end n (b ∷ rest) = cond (b == 10) (with_rest rest (number_weighed n)) (Err BadByte)

abbrev pub after_number : Part ℕ → Part Weighed
after_number (Ok p) = line_end p.0 p.1
after_number (Err r) = Err r

abbrev pub line_read : List ℕ → Part Weighed
line_read bs = after_number (decimal_read bs)
