use Rattle.std.proofs.Common.{◌∙◌, ap, arith}
use Rattle.rows.specs.Rows.{plain}
use Rattle.stores.specs.Told.{seen}
use Rattle.stores.proofs.Cursor.{rest_zero, walked_more, walked_here, walked_out, walked_last}
use Rattle.stores.proofs.store.Store.row_at.Goals as goal

pub loop-passed-init : goal.loop-passed-init
loop-passed-init g c = rest_zero _

pub returns-in_err-first_from : goal.returns-in_err-first_from
returns-in_err-first_from g c =
    ap seen c.from_residual.ensures
    ∙ walked_out c.loop-passed.from _ (g.Self.Store.rows c.args.self.now) c.loop-passed.invariant _ (omega arith) c.in_err-first_from.ensures

pub returns-in_err-from : goal.returns-in_err-from
returns-in_err-from g c =
    let s = c.args.self.now in
    ap seen c.from_residual-in_err-from.ensures
    ∙ walked_last c.loop-passed.from _ (g.Self.Store.rows s) c.loop-passed.invariant _ c.loop-passed-test.true (g.Self.Store.rising s) (g.Self.Store.numbered s)
    (plain c.in_ok-first_from.field-0) c.in_ok-first_from.ensures (omega (arith, c.in_ok-first_from.field-0.numbered, c.in_err-from.ensures))

pub loop-passed-preserved : goal.loop-passed-preserved
loop-passed-preserved g c =
    walked_more c.loop-passed.from _ (g.Self.Store.rows c.args.self.now) c.loop-passed.invariant (g.Self.Store.rising c.args.self.now) (plain c.in_ok-first_from.field-0)
    c.in_ok-first_from.ensures _ (omega (arith, c.in_ok-from.ensures))

pub returns : goal.returns
returns g c =
    c.first_from-2.ensures ∙ walked_here c.loop-passed.from _ (g.Self.Store.rows c.args.self.now) c.loop-passed.invariant _ (omega arith)
