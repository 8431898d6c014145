-- How weighed numbers are printed.
--     weighed_line w      number, least and most, `*` where it is unlimited, with a space between each two
use Rattle.std.specs.Prelude.{List, ℕ, ◌++◌, codes, decimal}
use Rattle.rows.specs.Printed.{starred_text}
use Rattle.weighing.specs.declared.weighed.Weighed.{Weighed}

abbrev pub weighed_line : Weighed → List ℕ
weighed_line w = decimal w.number ++ (codes " " ++ (decimal w.least ++ (codes " " ++ starred_text w.most)))
