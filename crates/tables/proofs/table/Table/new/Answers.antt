use Rattle.std.proofs.Common.{refl, lit≤}
use Rattle.tables.proofs.Writes.{reached_new}
use Rattle.tables.proofs.table.Table.new.Goals as goal

pub invariant_of-result : goal.invariant_of-result
invariant_of-result c = record {
  long = refl;
  within = lit≤ tt;
  counted = refl;
  reached = reached_new 512;
}
