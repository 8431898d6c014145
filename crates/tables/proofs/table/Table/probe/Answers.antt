use Rattle.std.proofs.Common.{◌+◌, ◌%◌, Some, sym, ap, ◌∙◌, arith, rules}
use Rattle.std.specs.Fn.{FnReturnsAt}
use Rattle.tables.specs.Cells.{home}
use Rattle.tables.proofs.Found.{read_here}
use Rattle.tables.proofs.Steps.{probing_none, probing_stop, probing_more, probing_all}
use Rattle.tables.proofs.table.Table.probe.Goals as goal

pub loop-step-init : goal.loop-step-init
loop-step-init g c = λ p says. probing_none p c.args.id c.args.self.now.slots c.args.self.now.long

pub loop-step-preserved : goal.loop-step-preserved
loop-step-preserved g c = λ p says.
    let t = c.args.self.now in
    let at : FnReturnsAt g.F.Fn c.args.stops c.index-self-slot.result c.stops.result = search rules in
    let read = read_here t.slots _ ((home c.args.id + c.loop-step.step) % 512) c.index-self-slot.result (omega (arith, c.home_of-home.ensures.value)) (omega (arith, t.long)) c.index-self-slot.is in
    probing_more p c.args.id _ _ (c.loop-step.invariant p says) (omega arith) (ap p read ∙ sym (says _ _ at) ∙ c.if-stops.false)

pub returns-then-stops : goal.returns-then-stops
returns-then-stops g c = λ p says.
    let t = c.args.self.now in
    let at : FnReturnsAt g.F.Fn c.args.stops c.index-self-slot.result c.stops.result = search rules in
    let read = read_here t.slots _ ((home c.args.id + c.loop-step.step) % 512) c.index-self-slot.result (omega (arith, c.home_of-home.ensures.value)) (omega (arith, t.long)) c.index-self-slot.is in
    ap (λ i. Some ((i + c.loop-step.step) % 512)) c.home_of-home.ensures.value
    ∙ probing_stop p c.args.id _ _ (c.loop-step.invariant p says) (omega arith) (ap p read ∙ sym (says _ _ at) ∙ c.if-stops.true)

pub returns : goal.returns
returns g c = λ p says. probing_all p c.args.id _ _ (c.loop-step.invariant p says) (omega arith)
