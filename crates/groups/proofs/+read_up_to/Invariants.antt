use Rattle.groups.proofs.+read_up_to.Given as goal

abbrev pub decreases-read_up_to : goal.decreases-read_up_to
decreases-read_up_to l = l.left
