-- How receipt lines and window records are printed.
--     two_text a b                two numbers, with a space between them
--     limits_text least most      least and most, `*` where it is unlimited, with a space between them
--     line_text x                 `L` and the nine numbers of a line, with a space between each two
--     window_text w               `W` and the six numbers of a window record, with a space between each two
use Rattle.std.specs.Prelude.{ℕ, List, ◌++◌, codes, decimal}
use Rattle.rows.specs.Printed.{starred_text}
use Rattle.receipts.specs.declared.line.Line.{Line}
use Rattle.receipts.specs.declared.window.Window.{Window}

abbrev pub two_text : ℕ → ℕ → List ℕ
two_text a b = decimal a ++ (codes " " ++ decimal b)

abbrev pub limits_text : ℕ → ℕ → List ℕ
limits_text least most = decimal least ++ (codes " " ++ starred_text most)

abbrev pub line_text : Line → List ℕ
line_text x =
    codes "L " ++ (two_text x.left_id x.right_id ++ (codes " " ++ (two_text x.start x.end
    ++ (codes " " ++ (decimal x.key ++ (codes " " ++ (limits_text x.left_least x.left_most
    ++ (codes " " ++ limits_text x.right_least x.right_most))))))))

abbrev pub window_text : Window → List ℕ
window_text w =
    codes "W " ++ (decimal w.start ++ (codes " " ++ (decimal w.end ++ (codes " " ++ (decimal w.count
    ++ (codes " " ++ (decimal w.lines ++ (codes " " ++ (decimal w.purged_left
    ++ (codes " " ++ decimal w.purged_right))))))))))
