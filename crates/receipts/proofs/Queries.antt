-- Queries: both halves of a query stay faithful; so the rows of its histories and stores are sound (rows_sound, held_sound),
-- and its stores stay in rising id order (held_rising) and within their capacities (held_within).
--     AllFaithful s q l           both halves of the state q are faithful to the histories of the ledger l
use Rattle.std.proofs.Common.{◌≡◌, ℕ, ◌≤◌, true, List, [], ◌∷◌, ◌++◌, length, sym, subst, arith}
use Rattle.refusals.specs.declared.fault.Side.{Side}
use Rattle.refusals.specs.declared.fault.Side.TheVariants.{Left, Right}
use Rattle.rows.specs.Kinds.{Kind}
use Rattle.rows.specs.Rows.{Plain, standing, in_kind}
use Rattle.rows.specs.Events.{PlainEvent}
use Rattle.receipts.specs.Lists.{In}
use Rattle.receipts.specs.Histories.{history}
use Rattle.receipts.specs.Sides.{pick}
use Rattle.receipts.specs.Stores.{Rising}
use Rattle.receipts.specs.Queries.{Setup, Half, QueryState, new_query, Call, purged, window_end}
use Rattle.receipts.specs.Laws.{record_of, left_by, RowsSound}
use Rattle.receipts.proofs.Sides.{put_keeps, mapped_all}
use Rattle.receipts.proofs.Histories.{history_more}
use Rattle.receipts.proofs.Stores.{rising_from}
use Rattle.receipts.proofs.Calls.{half_after}
use Rattle.receipts.proofs.Transcripts.{Ledger, ledger, Invariant, always}
use Rattle.receipts.proofs.Halves.{Faithful, faithful_new, faithful_event, faithful_purged}

abbrev pub AllFaithful : Setup → QueryState → Ledger → Type 0
AllFaithful s q l = (x : Side) → Faithful (pick x s.kinds) (pick x s.capacity) q.closed (pick x q.halves) (history (pick x l.events))

pub new_faithful : (s : Setup) → (x : Side) → Faithful (pick x s.kinds) (pick x s.capacity) 0 (pick x new_query.halves) (history (pick x (ledger []).events))
new_faithful s Left = faithful_new s.kinds.left s.capacity.left
new_faithful s Right = faithful_new s.kinds.right s.capacity.right

pub faithful_invariant : (s : Setup) → Invariant s (AllFaithful s)
faithful_invariant s = record {
  by_event = λ q l x e a ok.
      let es : List PlainEvent = pick x l.events in
      let k : Kind = pick x s.kinds in
      let n : ℕ = pick x s.capacity in
      let h : Half = pick x q.halves in
      put_keeps (λ y half events. Faithful (pick y s.kinds) (pick y s.capacity) q.closed half (history events))
      x (half_after e h) (es ++ (e ∷ [])) q.halves l.events
      (subst (λ rows. Faithful k n q.closed (half_after e h) rows) (sym (history_more [] es e)) (faithful_event k n q.closed h (history es) (ok x) e a))
      ok;
  by_closing = λ q l due ok.
      let t : ℕ = window_end s q in
      mapped_all (λ x half. Faithful (pick x s.kinds) (pick x s.capacity) t half (history (pick x l.events))) (purged t) q.halves
      (λ x. faithful_purged (pick x s.kinds) (pick x s.capacity) q.closed (pick x q.halves) (history (pick x l.events)) (ok x) t (omega arith) (due x));
}

pub faithful : (s : Setup) (cs : List Call) → AllFaithful s (left_by s cs) (ledger (record_of s cs))
faithful s cs = always s (AllFaithful s) (faithful_invariant s) (new_faithful s) cs

pub rows_sound : RowsSound
rows_sound s cs =
    mapped_all (λ x rows. (r : Plain) → In r rows → (standing r ≡ true) × (in_kind (pick x s.kinds) r ≡ true)) history (ledger (record_of s cs)).events
    (λ x. (faithful s cs x).sound)

pub held_sound : (s : Setup) (cs : List Call) (x : Side) (r : Plain) → In r (pick x (left_by s cs).halves).held → (standing r ≡ true) × (in_kind (pick x s.kinds) r ≡ true)
held_sound s cs x r i = (faithful s cs x).sound r ((faithful s cs x).from r i).0

pub held_rising : (s : Setup) (cs : List Call) (x : Side) → Rising (pick x (left_by s cs).halves).held
held_rising s cs x = rising_from (pick x (left_by s cs).halves).held (faithful s cs x).ordered

pub held_within : (s : Setup) (cs : List Call) (x : Side) → length (pick x (left_by s cs).halves).held ≤ pick x s.capacity
held_within s cs x = (faithful s cs x).room
