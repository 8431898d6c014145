use Rattle.std.proofs.Common.{length, sym, ap, ◌∙◌, arith}
use Rattle.rows.specs.Rows.{plain}
use Rattle.stores.proofs.Walks.{left_more, left_none, left_falls, place_fits}
use Rattle.stores.proofs.walk.StoreRowsIterator.next.Goals as goal

pub returns-in_err-row-clause-steps : goal.returns-in_err-row-clause-steps
returns-in_err-row-clause-steps g c =
    let none = sym c.self.view_is ∙ left_none c.self.inside.place (g.S.Store.rows c.self.inside.store.now) c.in_err-row.ensures in
    rw c.from_residual.ensures (none, none)

pub overflow_add-self : goal.overflow_add-self
overflow_add-self g c =
    let s = c.self.inside.store.now in
    place_fits c.self.inside.place (g.S.Store.rows s) (plain c.in_ok-row.row) c.in_ok-row.ensures (omega (arith, g.S.Store.within s, g.S.Store.few))

pub returns-clause-steps : goal.returns-clause-steps
returns-clause-steps g c =
    sym c.self.view_is ∙ left_more c.self.inside.place (g.S.Store.rows c.self.inside.store.now) (plain c.in_ok-row.row) c.in_ok-row.ensures

pub returns-clause-goes : goal.returns-clause-goes
returns-clause-goes g c =
    let falls = left_falls c.self.inside.place (g.S.Store.rows c.self.inside.store.now) (plain c.in_ok-row.row) c.in_ok-row.ensures in
    record { on = λ _. (tt, tt, omega (arith, ap length c.self.view_is)); keeps = tt; rests = λ _. tt }
