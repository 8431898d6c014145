use Rattle.std.proofs.Common.{arith}
use Rattle.std.proofs.lemmas.List.{places}
use Rattle.lists.proofs.Shifts.{shifted_down}
use Rattle.lists.proofs.list.calls.cut.Goals as goal

pub returns-clause-front : goal.returns-clause-front
returns-clause-front g c =
    shifted_down c.args.items.now c.rotate_left.new.self c.args.count c.args.place _ c.requires.room c.requires.within c.rotate_left.ensures.len (grind (arith, places, c.requires.room, c.requires.within)) c.rotate_left.ensures.by_index
