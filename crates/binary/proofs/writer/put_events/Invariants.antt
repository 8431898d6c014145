use Rattle.std.proofs.Common.{◌≡◌, ◌+◌, length, take, drop}
use Rattle.groups.specs.Puts.{put_all}
use Rattle.binary.specs.Writing.{file_bytes, AllSmall}
use Rattle.binary.proofs.writer.put_events.Given as goal

-- what is left, in the places that are left, comes to the same; and the events before have small numbers
abbrev pub invariant-loop-event : goal.invariant-loop-event
invariant-loop-event g l =
    (l.place + length (file_bytes g.P.Payload.pair (drop l.event-index l.events)) ≡ length (file_bytes g.P.Payload.pair l.events))
    × (put_all l.out l.place (file_bytes g.P.Payload.pair (drop l.event-index l.events)) ≡ put_all l.initial.out 0 (file_bytes g.P.Payload.pair l.events))
    × AllSmall g.P.Payload.pair (take l.event-index l.events)
