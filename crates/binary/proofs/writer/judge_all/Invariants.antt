use Rattle.std.proofs.Common.{◌≡◌, drop}
use Rattle.binary.specs.Writing.{all_timely}
use Rattle.binary.proofs.writer.judge_all.Given as goal

abbrev pub invariant-loop-event : goal.invariant-loop-event
invariant-loop-event g l = all_timely g.P.Payload.pair l.events ≡ all_timely g.P.Payload.pair (drop l.event-index l.events)
