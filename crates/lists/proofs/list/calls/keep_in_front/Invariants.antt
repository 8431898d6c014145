use Rattle.std.proofs.Common.{◌≡◌, ◌≤◌, Bool, length}
use Rattle.std.specs.Fn.{FnReturnsAt}
use Rattle.std.proofs.lemmas.List.Filters.{FiltersInPlace}
use Rattle.lists.specs.Lists.{Computes}
use Rattle.lists.proofs.list.calls.keep_in_front.Given as goal

abbrev pub invariant-loop-i : goal.invariant-loop-i
invariant-loop-i g l = (l.front ≤ l.i) × (length l.items ≡ length l.initial.items)
    × ((p : g.row.T.Denot → Bool) → Computes p (FnReturnsAt g.F.Fn l.keeps) → FiltersInPlace p l.initial.items l.items l.front l.i)
