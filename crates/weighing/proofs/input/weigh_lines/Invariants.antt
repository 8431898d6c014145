use Rattle.std.proofs.Common.{◌≡◌, ◌+◌, length, vec_items}
use Rattle.weighing.specs.Inputs.{led, lines_from}
use Rattle.weighing.proofs.input.weigh_lines.Given as goal

-- what is weighed, and the lines that are left, come to the same
abbrev pub invariant-loop-rest : goal.invariant-loop-rest
invariant-loop-rest l = led (vec_items l.weighed) (lines_from (length (vec_items l.weighed) + 1) l.rest) ≡ lines_from 1 l.bytes

abbrev pub decreases-loop-rest : goal.decreases-loop-rest
decreases-loop-rest l = length l.rest
