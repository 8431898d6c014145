-- A query as the model has it.
--     setting k m c d width       the setup of a query of the width: the payload kinds k and m, guarded, and stores of the
--                                 capacities c and d
--     setup q                     the setup of the query q
--     state q                     the closed time of q, and what its inputs hold
--     calls q c a after           the call c on q answers a, and leaves the query after, which has the setup of q
--     Opened                      a query's setup, and the state that it starts in
--     opened r                    the answer r of a call that makes a query
--     opens s                     a new query, or BadWidth where the width is not from 1 to 604,800
use Rattle.std.specs.Prelude.{◌≡◌, ℕ, cond, ◌&&◌, Ok, Err, Result, nat_le}
use Rattle.refusals.specs.declared.fault.Fault.{Fault}
use Rattle.refusals.specs.declared.refusal.Refusal.TheVariants.{BadWidth}
use Rattle.refusals.specs.Faults.{bare_fault}
use Rattle.rows.specs.Kinds.{Kind}
use Rattle.receipts.specs.Queries.{Setup, QueryState, Call, Answer, new_query, called}
use Rattle.joining.specs.Guards.{both, guarded_kinds}
use Rattle.rows.specs.declared.payload.Payload
use Rattle.stores.specs.declared.store.Store
use Rattle.query.specs.declared.engine.Query.{Query}
use Rattle.query.specs.Answers.{answers}

abbrev pub setting : Kind → Kind → ℕ → ℕ → ℕ → Setup
setting k m c d width = record { width = width; capacity = both c d; kinds = guarded_kinds k m }

abbrev pub setup : {L R S T : Type 0} {l : Payload.Ghosts L} {r : Payload.Ghosts R} {s : Store.Ghosts S} {t : Store.Ghosts T} → Query L R S T l r s t → Setup
setup {l = l} {r = r} {s = s} {t = t} q = setting l.kind r.kind s.CAPACITY t.CAPACITY q.width

abbrev pub state : {L R S T : Type 0} {l : Payload.Ghosts L} {r : Payload.Ghosts R} {s : Store.Ghosts S} {t : Store.Ghosts T} → Query L R S T l r s t → QueryState
state q = record { closed = q.closed; halves = both q.left q.right }

-- in one equation what a call answers and what it leaves; and the setup stays
abbrev pub calls : {L R S T : Type 0} {l : Payload.Ghosts L} {r : Payload.Ghosts R} {s : Store.Ghosts S} {t : Store.Ghosts T} →
    Query L R S T l r s t → Call → Answer → Query L R S T l r s t → Type 0
calls q c a after = (answers a (state after) ≡ called (setup q) (state q) c) × (setup after ≡ setup q)

pub record Opened : Type 0 where
  pub setup : Setup
  pub state : QueryState

abbrev pub opened : {L R S T : Type 0} {l : Payload.Ghosts L} {r : Payload.Ghosts R} {s : Store.Ghosts S} {t : Store.Ghosts T} →
    Result (Query L R S T l r s t) Fault → Result Opened Fault
opened (Ok q) = Ok (record { setup = setup q; state = state q })
opened (Err f) = Err f

abbrev pub opens : Setup → Result Opened Fault
opens s = cond (nat_le 1 s.width && nat_le s.width 604800) (Ok (record { setup = s; state = new_query })) (Err (bare_fault BadWidth))
