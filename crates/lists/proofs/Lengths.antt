-- How long a list is, and its items after one is written over.
use Rattle.std.proofs.Common.{◌≡◌, ℕ, ◌<◌, ◌≤◌, List, length, take, set, arith}
use Rattle.std.proofs.Math.Seq.{take-set-lt}
use Rattle.std.proofs.lemmas.List.{length-take}
use Rattle.lists.specs.declared.list.ArrayList.{ArrayList}
use Rattle.lists.specs.Lists.{listed}

pub listed_few : {T : Type 0} {CAP : ℕ} (l : ArrayList T CAP) → length (listed l) ≤ CAP
listed_few l = omega (arith, length-take l.count l.items, l.within)

pub front_set : {T : Type 0} (n : ℕ) (xs : List T) (k : ℕ) (x : T) → k < n → take n (set xs k x) ≡ set (take n xs) k x
front_set n xs k x lt = take-set-lt n xs k x lt
