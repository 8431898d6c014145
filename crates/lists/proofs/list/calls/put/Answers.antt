use Rattle.std.proofs.Common.{arith}
use Rattle.std.proofs.lemmas.List.{places, length-set}
use Rattle.lists.proofs.Shifts.{shifted_up}
use Rattle.lists.proofs.list.calls.put.Goals as goal

pub returns-then-place-count-clause-front : goal.returns-then-place-count-clause-front
returns-then-place-count-clause-front g c =
    shifted_up c.args.items.now c.rotate_right.new.self c.args.count c.args.place _ c.args.item _ (omega arith) c.requires.room c.requires.within c.rotate_right.ensures.len (grind (arith, places, length-set, c.requires.room, c.requires.within)) c.rotate_right.ensures.by_index
