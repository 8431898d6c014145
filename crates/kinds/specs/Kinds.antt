-- The kinds of payload.
--     unlimited       the most of a payload that no weight is known to bound; never a weight itself
--     tallies         0 to 99 pieces; least and most are the number of pieces
--     readings        counts 0 to 4,095; least and most are the count's weight in grams, but the reading 4,095 is clipped:
--                     its weight is the least, and its most is unlimited
use Rattle.std.specs.Prelude.{ℕ, cond, nat_lt}
use Rattle.rows.specs.Kinds.{Kind}
use Rattle.weights.specs.Grams.{grams}

abbrev pub unlimited : ℕ
unlimited = 4294967295

abbrev pub tallies : Kind
tallies = record { top = 99; least = λ key pieces. pieces; most = λ key pieces. pieces }

abbrev pub readings : Kind
readings = record { top = 4095; least = λ key count. grams count; most = λ key count. cond (nat_lt count 4095) (grams count) unlimited }
