use Rattle.std.proofs.Common.{◌≡◌, drop}
use Rattle.stores.proofs.Cursor.{rest}
use Rattle.stores.proofs.store.Store.row_at.Given as goal

abbrev pub invariant-loop-passed : goal.invariant-loop-passed
invariant-loop-passed g l = rest l.from (g.Self.Store.rows l.self) ≡ drop l._passed (g.Self.Store.rows l.self)
