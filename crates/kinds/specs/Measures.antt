-- The laws of the measures and of measured values.
--     grams_clipped       the weight of a clipped reading
--     tallies_ordered     a tally's least is at most its most
--     readings_ordered    a reading's least is at most its most
--     measured_pair x     key and value of the measured value x
--     in_its_range        they are in the range of its kind
--     told_by_pair        measured values of the same key and value are the same
use Rattle.std.specs.Prelude.{◌≡◌, ℕ, ◌≤◌, true, refl}
use Rattle.std.proofs.Common.{arith}
use Rattle.std.proofs.Math.Bridge.{le_prop}
use Rattle.std.proofs.lemmas.Bool.{and_from, le-leb}
use Rattle.std.proofs.lemmas.Bool.Decides.{nat_tests}
use mathlib.Core.HLevel.{is_prop→PathP}
use Rattle.rows.specs.Kinds.{Pair, in_range}
use Rattle.weights.specs.Grams.{grams, weight_by}
use Rattle.kinds.specs.declared.measured.Measure.{Ghosts}
use Rattle.kinds.specs.declared.measured.Measured.{Measured}
use Rattle.kinds.specs.Kinds.{tallies, readings}

pub grams_clipped : grams 4095 ≡ 50676
unfolding grams weight_by
grams_clipped = refl

pub tallies_ordered : (key value : ℕ) → in_range tallies key value ≡ true → tallies.least key value ≤ tallies.most key value
tallies_ordered key value e = omega arith

pub readings_ordered : (key value : ℕ) → in_range readings key value ≡ true → readings.least key value ≤ readings.most key value
readings_ordered key value e = let last : grams 4095 ≡ 50676 = grams_clipped in grind (arith, nat_tests)

abbrev pub measured_pair : {M : Type 0} {of : Ghosts M} → Measured M of → Pair
measured_pair x = record { key = x.key; value = x.value }

pub in_its_range : {M : Type 0} {of : Ghosts M} (x : Measured M of) → in_range of.kind x.key x.value ≡ true
in_its_range x = and_from _ _ (le-leb _ _ x.locker) (le-leb _ _ x.bounded)

pub told_by_pair : {M : Type 0} {of : Ghosts M} (x y : Measured M of) → measured_pair x ≡ measured_pair y → x ≡ y
told_by_pair {of = of} x y e = λ i. record {
  key = (e i).key;
  value = (e i).value;
  measure = x.measure;
  locker = is_prop→PathP (λ j. (e j).key ≤ 9999) (λ j. le_prop) x.locker y.locker i;
  bounded = is_prop→PathP (λ j. (e j).value ≤ of.kind.top) (λ j. le_prop) x.bounded y.bounded i;
}
