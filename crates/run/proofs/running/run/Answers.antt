use Rattle.std.proofs.Common.{◌≡◌, ◌∙◌, rules}
use Rattle.std.proofs.lemmas.Bool.{cond-true}
use Rattle.refusals.specs.declared.fault.Side.TheVariants.{Left, Right}
use Rattle.receipts.specs.Queries.{Setup}
use Rattle.receipts.specs.Sides.{Both}
use Rattle.rewriting.specs.Streams.{Stream}
use Rattle.joining.specs.Guards.{both}
use Rattle.query.specs.Queries.{setting}
use Rattle.run_laws.specs.Runs.{Places, Report}
use Rattle.run.specs.Reports.{reported, run_or_refused}
use Rattle.run.specs.States.{places}
use Rattle.run.specs.Turns.{shallows}
use Rattle.run.proofs.Promised.{promise}
use Rattle.run.proofs.running.run.Goals as goal

pub returns-in-Ok-clause-promise : goal.returns-in-Ok-clause-promise
returns-in-Ok-clause-promise g c = λ lawful.
    let s : Setup = setting g.L.Payload.kind g.R.Payload.kind g.S.Store.CAPACITY g.T.Store.CAPACITY c.args.width in
    let p : Places = places c.args.lines.now c.args.windows.now in
    let l = c.args.left.now in
    let r = c.args.right.now in
    let srcs : Both Stream = both (g.A.Source.stream l) (g.B.Source.stream r) in
    let a : Report = reported c.report.result c.go-ending.new.lines c.go-ending.new.windows in
    let is : a ≡ run_or_refused s p (shallows srcs) = search rules in
    promise g.L.Payload.kind g.R.Payload.kind g.S.Store.CAPACITY g.T.Store.CAPACITY c.args.width p
    (both (g.A.Source.rules l) (g.B.Source.rules r)) (both (g.A.Source.foot l) (g.B.Source.foot r)) srcs a lawful
    (elim [ Left ↦ g.A.Source.keep l | Right ↦ g.B.Source.keep r ])
    (λ i. both (g.A.Source.piled l i) (g.B.Source.piled r i)) (is ∙ cond-true _ _ _ lawful)
