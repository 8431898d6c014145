-- Events as the text form writes them, without the line feed.
--     starred_text n              n in decimal, `*` where it is the greatest number of 32 bits
--     event_text e                the letter of the event's kind and its fields, with a space between each two
use Rattle.std.specs.Prelude.{ℕ, cond, List, ◌++◌, codes, decimal, ◌==◌}
use Rattle.rows.specs.Events.{PlainEvent, insert, retraction, cti}

abbrev pub starred_text : ℕ → List ℕ
starred_text n = cond (n == 4294967295) (codes "*") (decimal n)

abbrev pub event_text : PlainEvent → List ℕ
event_text (insert r) =
    codes "I " ++ (decimal r.id ++ (codes " " ++ (decimal r.start ++ (codes " " ++ (starred_text r.end
    ++ (codes " " ++ (decimal r.key ++ (codes " " ++ decimal r.value))))))))
event_text (retraction r e) =
    codes "R " ++ (decimal r.id ++ (codes " " ++ (decimal r.start ++ (codes " " ++ (starred_text r.end
    ++ (codes " " ++ (starred_text e ++ (codes " " ++ (decimal r.key ++ (codes " " ++ decimal r.value))))))))))
event_text (cti t) = codes "C " ++ decimal t
