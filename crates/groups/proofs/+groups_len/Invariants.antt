use Rattle.groups.proofs.+groups_len.Given as goal

abbrev pub decreases-groups_len : goal.decreases-groups_len
decreases-groups_len l = l.n
