use Rattle.std.proofs.Common.{arith}
use Rattle.files.proofs.Steps.{next_place, next_value, next_after, fault_value, fault_after}
use Rattle.files.proofs.reader.taking.ReaderSource.take.Goals as goal

pub overflow_sub-self : goal.overflow_sub-self
overflow_sub-self g c =
    let s = c.args.self.now in
    let left = c.in-Reading-Some.ensures in
    (next_place g.F.Form.read g.F.Form.ends g.P.Payload.kind s.bytes.now s.place s.number s.state c.in-Reading-Some.is-0 s.within
    left.0 c.in-Reading-Some.left.now left.1 _ _ c.in-Ok.ensures).0

pub invariant_of-self : goal.invariant_of-self
invariant_of-self g c =
    let s = c.args.self.now in
    let left = c.in-Reading-Some.ensures in
    let p =
    next_place g.F.Form.read g.F.Form.ends g.P.Payload.kind s.bytes.now s.place s.number s.state c.in-Reading-Some.is-0 s.within
    left.0 c.in-Reading-Some.left.now left.1 _ _ c.in-Ok.ensures in
    let few = s.few in
    record { short = s.short; within = omega arith; few = omega (arith, p.1) }

pub returns-in-Ok : goal.returns-in-Ok
returns-in-Ok g c =
    let s = c.args.self.now in
    let left = c.in-Reading-Some.ensures in
    record {
      value =
          next_value g.F.Form.read g.F.Form.ends g.P.Payload.kind s.bytes.now s.place s.number s.state c.in-Reading-Some.is-0 s.within
          left.0 c.in-Reading-Some.left.now left.1 _ _ c.in-Ok.ensures;
      after =
          next_after g.F.Form.read g.F.Form.ends g.P.Payload.kind s.bytes.now s.place s.number s.state c.in-Reading-Some.is-0 s.within
          left.0 c.in-Reading-Some.left.now left.1 _ _ c.in-Ok.ensures;
    }

pub returns-in-Err : goal.returns-in-Err
returns-in-Err g c =
    let s = c.args.self.now in
    let left = c.in-Reading-Some.ensures in
    record {
      value =
          fault_value g.F.Form.read g.F.Form.ends g.P.Payload.kind s.bytes.now s.place s.number s.state c.in-Reading-Some.is-0 s.within
          left.0 c.in-Reading-Some.left.now left.1 _ c.in-Err.ensures _ c.at_event-fault.ensures;
      after =
          fault_after g.F.Form.read g.F.Form.ends g.P.Payload.kind s.bytes.now s.place s.number s.state c.in-Reading-Some.is-0 s.within
          left.0 c.in-Reading-Some.left.now left.1 _ c.in-Err.ensures _ c.at_event-fault.ensures;
    }
