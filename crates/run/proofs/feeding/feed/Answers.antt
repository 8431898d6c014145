use Rattle.refusals.specs.declared.fault.Side.TheVariants.{Left, Right}
use Rattle.receipts.specs.Sides.{Both}
use Rattle.rewriting.specs.Streams.{Stream}
use Rattle.rows.specs.Events.{plain_event}
use Rattle.joining.specs.Guards.{both}
use Rattle.query.specs.Answers.{event_told}
use Rattle.query.specs.Queries.{setup, state}
use Rattle.run.specs.Steps.{shallow}
use Rattle.run.proofs.Feeds.{heard_step}
use Rattle.run.proofs.feeding.feed.Goals as goal

pub returns-in-Some-clause-value : goal.returns-in-Some-clause-value
returns-in-Some-clause-value g c =
    let x = c.in-Some.next in
    let srcs : Both Stream = both (shallow (g.A.Source.stream c.args.left.now)) (shallow (g.B.Source.stream c.args.right.now)) in (
      heard_step (setup c.args.query.now) (state c.args.query.now) (state c.left_event.new.self) c.args.side Left c.in-Left.is srcs
          x.place (plain_event g.L.Payload.pair x.event) (event_told c.left_event.result) c.answered.result
          (rw c.in-Some.is at c.in_ok-next_of-in-Left.ensures.value) c.left_event.ensures.0 c.answered.ensures,
      c.left_event.ensures.1,
    )

pub returns-in-Some-2-clause-value : goal.returns-in-Some-2-clause-value
returns-in-Some-2-clause-value g c =
    let x = c.in-Some-2.next in
    let srcs : Both Stream = both (shallow (g.A.Source.stream c.args.left.now)) (shallow (g.B.Source.stream c.args.right.now)) in (
      heard_step (setup c.args.query.now) (state c.args.query.now) (state c.right_event.new.self) c.args.side Right c.in-Right.is srcs
          x.place (plain_event g.R.Payload.pair x.event) (event_told c.right_event.result) c.answered-in-Some-2.result
          (rw c.in-Some-2.is at c.in_ok-next_of-in-Right.ensures.value) c.right_event.ensures.0 c.answered-in-Some-2.ensures,
      c.right_event.ensures.1,
    )
