use Rattle.std.proofs.Common.{rules}
use Rattle.groups.proofs.Exactness.{put_reads_back}
use Rattle.groups.proofs.put_groups.Goals as goal

pub returns-then-not-has_room-clause-back : goal.returns-then-not-has_room-clause-back
returns-then-not-has_room-clause-back c =
    put_reads_back c.args.n c.args.at c.args.out.now _ _ c.ranges.n.fits (search rules)

pub returns-clause-back : goal.returns-clause-back
returns-clause-back c = put_reads_back c.args.n c.args.at c.args.out.now _ _ c.ranges.n.fits (search rules)
