use Rattle.std.proofs.Common.{◌≡◌, length, Ok, Err, sym, ◌∙◌, rules}
use Rattle.receipts.specs.Sides.{Both}
use Rattle.rewriting.specs.Streams.{Stream}
use Rattle.joining.specs.Guards.{both}
use Rattle.query.specs.Queries.{setup}
use Rattle.run_laws.specs.Runs.{RunState}
use Rattle.run_laws.proofs.TurnsLeft.{turns_left}
use Rattle.run.specs.States.{places}
use Rattle.run.specs.Turns.{sides, entries_of, stands}
use Rattle.run.proofs.RunsTurned.{some_left, goes_further, stops_there}
use Rattle.run.proofs.Slices.{kept_then}
use Rattle.run.proofs.turning.Run.go.Goals as goal

pub loop-self-preserved : goal.loop-self-preserved
loop-self-preserved g c =
    let i = c.loop-self.invariant in
    let told = c.in_ok-take_turn.ensures in
    let y = c.loop-self in
    let z = c.take_turn.new in
    let first : Both Stream = both (g.A.Source.stream c.args.left.now) (g.B.Source.stream c.args.right.now) in
    let srcs : Both Stream = both (g.A.Source.stream y.left) (g.B.Source.stream y.right) in
    let srcs' : Both Stream = both (g.A.Source.stream z.left) (g.B.Source.stream z.right) in
    let lines : length y.lines ≡ length c.args.lines.now = y.auto.lines in
    let windows : length y.windows ≡ length c.args.windows.now = y.auto.windows in
    let fine : c.take_turn.result ≡ Ok tt = search rules in (
      told.onward.0 ∙ i.0,
      told.ends ∙ i.1,
      kept_then y.self.written z.self.written c.args.lines.now y.lines _ c.args.windows.now y.windows _ told.onward.1 lines windows i.2 told.onward.2,
      goes_further (setup c.args.self.now.query) (places c.args.lines.now c.args.windows.now) (setup y.self.query) i.0
          (places y.lines y.windows) (λ k. record { lines = lines k; windows = windows k })
          srcs first i.1 (stands y.self srcs y.lines y.windows) (stands z.self srcs' z.lines z.windows) c.take_turn.result c.take_turn.ensures.value
          (sym c.loop-self-test.ensures) (turns_left (entries_of srcs) (sides y.self.over)) (turns_left (entries_of srcs') (sides z.self.over)) told.spent fine
          ∙ i.3,
    )

pub returns-in_err-take_turn-clause-value : goal.returns-in_err-take_turn-clause-value
returns-in_err-take_turn-clause-value g c =
    let i = c.loop-self.invariant in
    let y = c.loop-self in
    let z = c.take_turn.new in
    let first : Both Stream = both (g.A.Source.stream c.args.left.now) (g.B.Source.stream c.args.right.now) in
    let srcs : Both Stream = both (g.A.Source.stream y.left) (g.B.Source.stream y.right) in
    let srcs' : Both Stream = both (g.A.Source.stream z.left) (g.B.Source.stream z.right) in
    let lines : length y.lines ≡ length c.args.lines.now = y.auto.lines in
    let windows : length y.windows ≡ length c.args.windows.now = y.auto.windows in
    let x : RunState = stands y.self srcs y.lines y.windows in
    let why = c.in_err-take_turn.field-0.0 in
    let met : c.take_turn.result ≡ Err why = search rules in
    let told : c.from_residual.result ≡ Err why = search rules in
    rw told (stops_there (setup c.args.self.now.query) (places c.args.lines.now c.args.windows.now) (setup y.self.query) i.0
    (places y.lines y.windows) (λ k. record { lines = lines k; windows = windows k })
    srcs first i.1 x (stands z.self srcs' z.lines z.windows) c.take_turn.result c.take_turn.ensures.value
    (sym c.loop-self-test.ensures) (turns_left x.rest x.over) why met (some_left x.rest x.over (sym c.loop-self-test.ensures))
    ∙ i.3)
