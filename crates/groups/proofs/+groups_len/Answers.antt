use Rattle.std.proofs.Common.{length, ap, arith}
use Rattle.groups.proofs.Writing.{groups_of_last, groups_of_more, groups_few}
use Rattle.groups.proofs.+groups_len.Goals as goal

pub returns-then-n-lt128-clause-value : goal.returns-then-n-lt128-clause-value
returns-then-n-lt128-clause-value t c = let e = ap length (groups_of_last c.args.n c.if-n-lt128.true) in omega arith

pub returns-else-n-lt128 : goal.returns-else-n-lt128
returns-else-n-lt128 t c =
    let e = ap length (groups_of_more c.args.n c.if-n-lt128.false c.ranges.n.fits) in
    let few = groups_few c.args.n in
    record { value = omega arith; few = omega arith }
