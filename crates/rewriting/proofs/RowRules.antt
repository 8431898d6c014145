-- Select, shift and set_duration keep the laws of row rules.
use Rattle.std.proofs.Common.{ℕ, ◌<◌, arith}
use Rattle.std.proofs.lemmas.Bool.Decides.{nat_tests}
use Rattle.rows.specs.Kinds.{Kind}
use Rattle.rewriting.specs.Rules.{Keeps}
use Rattle.rewriting.specs.RowRules.{select, shift, set_duration}
use Rattle.rewriting.specs.Laws.{RulesKeep}

pub select_keeps : (k : Kind) (low high least most : ℕ) → Keeps (select k low high least most)
select_keeps k low high least most = record {
  starts = grind (arith, nat_tests);
  later = grind (arith, nat_tests);
  ends = grind (arith, nat_tests);
  rises = grind (arith, nat_tests);
  rows = grind (arith, nat_tests);
  times = grind (arith, nat_tests);
}

pub shift_keeps : (k : ℕ) → Keeps (shift k)
shift_keeps k = record {
  starts = grind (arith, nat_tests);
  later = grind (arith, nat_tests);
  ends = grind (arith, nat_tests);
  rises = grind (arith, nat_tests);
  rows = grind (arith, nat_tests);
  times = grind (arith, nat_tests);
}

pub set_duration_keeps : (d : ℕ) → 0 < d → Keeps (set_duration d)
set_duration_keeps d positive = record {
  starts = grind (arith, nat_tests);
  later = grind (arith, nat_tests);
  ends = grind (arith, nat_tests);
  rises = grind (arith, nat_tests);
  rows = grind (arith, nat_tests);
  times = grind (arith, nat_tests);
}

pub rules_keep : RulesKeep
rules_keep = (select_keeps, shift_keeps, set_duration_keeps)
