use Rattle.std.proofs.Common.{◌≡◌, ◌+◌, length, drop}
use Rattle.groups.specs.Puts.{put_all}
use Rattle.binary.specs.Writing.{all_groups}
use Rattle.binary.proofs.spelling.put_numbers.Given as goal

-- what is left, in the places that are left, comes to the same
abbrev pub invariant-loop-n : goal.invariant-loop-n
invariant-loop-n l =
    (l.place + length (all_groups (drop l.n-index l.numbers)) ≡ l.at + length (all_groups l.numbers))
    × (put_all l.out l.place (all_groups (drop l.n-index l.numbers)) ≡ put_all l.initial.out l.at (all_groups l.numbers))
