-- Times, in seconds, and the rules on them.
--     last, forever               the last finite time; the end of a row that has none yet
--     finite t                    t is a time from 0 to 4,000,000,000
--     lawful_end t                t is finite or FOREVER
--     lawful start end            a row may stand from start to end
--     retractable start end e     a retraction may give a row from start to end the new end e
--     whole start e               a retraction to the new end e takes the row away whole
use Rattle.std.specs.Prelude.{ℕ, Bool, not, ◌&&◌, ◌||◌, ◌==◌, nat_le, nat_lt}

abbrev pub last : ℕ
last = 4000000000

abbrev pub forever : ℕ
forever = 4294967295

abbrev pub finite : ℕ → Bool
finite t = nat_le t last

abbrev pub lawful_end : ℕ → Bool
lawful_end t = finite t || t == forever

abbrev pub lawful : ℕ → ℕ → Bool
lawful start end = finite start && (lawful_end end && nat_lt start end)

abbrev pub retractable : ℕ → ℕ → ℕ → Bool
retractable start end e = lawful_end e && (not (e == end) && nat_le start e)

abbrev pub whole : ℕ → ℕ → Bool
whole start e = e == start
