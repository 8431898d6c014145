use Rattle.std.proofs.Common.{◌≡◌, length}
use Rattle.decimals.specs.Decimals.{taken}
use Rattle.decimals.proofs.decimal.Given as goal

-- the digits that are left, after the number so far, come to the same
abbrev pub invariant-loop-rest : goal.invariant-loop-rest
invariant-loop-rest l = taken 0 l.bytes ≡ taken l.value l.rest

abbrev pub decreases-loop-rest : goal.decreases-loop-rest
decreases-loop-rest l = length l.rest
