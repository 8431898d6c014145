-- Calls: an accepted event was admitted, an accepted closing was due, and a refused call changes nothing (event_cases,
-- closing_cases).
--     half_after e h              the half that an accepted event leaves
--     Fits n e rows               rows have place for an insert's row, and none of its id; they hold the row of a retraction
--     Admitted k n e h            a half of kind k and capacity n admits the event e
--     Judged A e h o              the outcome o is that e was accepted, and A holds; or it is a refusal
use Rattle.std.proofs.Common.{◌≡◌, ℕ, ◌<◌, ◌≤◌, min, Bool, true, false, cond, leb, ◌⊎◌, List, length, Some, None, Option, sym, refl, ap, subst, inl, inr, ⊎_elim, arith}
use Rattle.std.proofs.lemmas.Bool.{leb-true, leb-false, cond_both, cond-true, cond-false}
use Rattle.refusals.specs.declared.fault.Fault.{Fault}
use Rattle.refusals.specs.declared.fault.Side.{Side}
use Rattle.refusals.specs.declared.fault.Side.TheVariants.{Left, Right}
use Rattle.refusals.specs.declared.refusal.Refusal.{Refusal}
use Rattle.refusals.specs.declared.refusal.Refusal.TheVariants.{BadPayload, BadTime, CtiViolated, IdInUse, NoSuchRow, OtherRow, StoreFull, NotYet, LinesFull}
use Rattle.refusals.specs.Faults.{bare_fault}
use Rattle.rows.specs.Kinds.{Kind}
use Rattle.rows.specs.Rows.{Plain, same}
use Rattle.rows.specs.Events.{PlainEvent, insert, retraction, cti, sync, timely}
use Rattle.rows.specs.Times.{lawful, whole}
use Rattle.receipts.specs.Lists.{In}
use Rattle.receipts.specs.Sides.{Both, pick}
use Rattle.receipts.specs.Stores.{Outcome, accept, refuse, found, holds_id, placed, end_set, without, adds, sets, sets_on, removes}
use Rattle.receipts.specs.Queries.{Setup, Half, QueryState, ranged, retracts, with_held, stored, taken, window_end, may_close, closing_lines, closing_window, closed_once, event, closing, closed, refused, Called, event_refused, on_event, keeps, called}
use Rattle.receipts.proofs.Rows.{same_true}
use Rattle.receipts.proofs.Sides.{put_same}
use Rattle.receipts.proofs.Stores.{found_in, edited}

abbrev pub half_after : PlainEvent → Half → Half
half_after (insert r) h = record { cti = h.cti; held = placed r h.held }
half_after (retraction r e) h = record { cti = h.cti; held = edited r e h.held }
half_after (cti t) h = record { cti = t; held = h.held }

abbrev pub Fits : ℕ → PlainEvent → List Plain → Type 0
Fits n (insert r) rows = (holds_id r.id rows ≡ false) × (length rows < n)
Fits n (retraction r e) rows = In r rows
Fits n (cti t) rows = Unit {0}

pub record Admitted (k : Kind) (n : ℕ) (e : PlainEvent) (h : Half) : Type 0 where
  pub in_range : ranged k e ≡ true
  pub lawful_times : timely e ≡ true
  pub due : h.cti ≤ sync e
  pub fits : Fits n e h.held

abbrev Judged : (A : Type 0) → PlainEvent → Half → Outcome Half → Type 0
Judged A e h o = ((o ≡ accept (half_after e h)) × A) ⊎ ((why : Refusal) × (o ≡ refuse why h))

insert_stored : (n : ℕ) (r : Plain) (h : Half) → Judged (Fits n (insert r) h.held) (insert r) h (with_held h (adds n r h.held))
insert_stored n r h =
    let rows : List Plain = h.held in
    let T : Outcome (List Plain) → Type 0 = λ o. Judged (Fits n (insert r) rows) (insert r) h (with_held h o) in
    cond_both (holds_id r.id rows) (refuse IdInUse rows) (cond (leb n (length rows)) (refuse StoreFull rows) (accept (placed r rows))) T
    (λ t. inr (IdInUse, refl))
    (λ free. cond_both (leb n (length rows)) (refuse StoreFull rows) (accept (placed r rows)) T
    (λ t. inr (StoreFull, refl))
    (λ room. inl (refl, (free, leb-false _ _ room))))

retraction_stored : (n : ℕ) (r : Plain) (e : ℕ) (h : Half) (o : Option Plain) → found r.id h.held ≡ o →
    Judged (In r h.held) (retraction r e) h (with_held h (retracts r e o h.held))
retraction_stored n r e h None p = inr (NoSuchRow, refl)
retraction_stored n r e h (Some x) p =
    let rows : List Plain = h.held in
    let T : Outcome (List Plain) → Type 0 = λ o. Judged (In r rows) (retraction r e) h (with_held h o) in
    let half : List Plain → Half = λ xs. record { cti = h.cti; held = xs } in
    let gone : List Plain = without r.id rows in
    let set : List Plain = end_set r.id e rows in
    cond_both (same x r) (cond (whole r.start e) (removes r.id rows) (sets r.id e rows)) (refuse OtherRow rows) T
    (λ t.
    let there : In r rows = subst (λ v. In v rows) (same_true x r t) (found_in r.id rows x p) in
    cond_both (whole r.start e) (removes r.id rows) (sets r.id e rows) T
    (λ w. cond_both (holds_id r.id rows) (accept gone) (refuse NoSuchRow rows) T
    (λ i. inl (ap (λ xs. accept (half xs)) (sym (cond-true (whole r.start e) gone set w)), there))
    (λ i. inr (NoSuchRow, refl)))
    (λ w. subst (λ o. T (sets_on o r.id e rows)) (sym p)
    (cond_both (lawful x.start e) (accept set) (refuse BadTime rows) T
    (λ i. inl (ap (λ xs. accept (half xs)) (sym (cond-false (whole r.start e) gone set w)), there))
    (λ i. inr (BadTime, refl)))))
    (λ f. inr (OtherRow, refl))

event_stored : (n : ℕ) (e : PlainEvent) (h : Half) → Judged (Fits n e h.held) e h (stored n e h)
event_stored n (insert r) h = insert_stored n r h
event_stored n (retraction r e) h = retraction_stored n r e h (found r.id h.held) refl
event_stored n (cti t) h = inl (refl, tt)

event_taken : (k : Kind) (n : ℕ) (e : PlainEvent) (h : Half) → Judged (Admitted k n e h) e h (taken k n e h)
event_taken k n e h =
    let T : Outcome Half → Type 0 = Judged (Admitted k n e h) e h in
    let late : Outcome Half = cond (leb h.cti (sync e)) (stored n e h) (refuse CtiViolated h) in
    let timed : Outcome Half = cond (timely e) late (refuse BadTime h) in
    cond_both (ranged k e) timed (refuse BadPayload h) T
    (λ a. cond_both (timely e) late (refuse BadTime h) T
    (λ b. cond_both (leb h.cti (sync e)) (stored n e h) (refuse CtiViolated h) T
    (λ c. ⊎_elim {C = T (stored n e h)}
    (λ s. inl (s.0, record { in_range = a; lawful_times = b; due = leb-true _ _ c; fits = s.1 }))
    (λ s. inr s)
    (event_stored n e h))
    (λ f. inr (CtiViolated, refl)))
    (λ f. inr (BadTime, refl)))
    (λ f. inr (BadPayload, refl))

module _ (s : Setup) (q : QueryState) (P : Called → Type 0) where
  -- P holds after any event, where it holds after an accepted one and of the state as it was
  pub event_cases : (x : Side) (e : PlainEvent) →
      (Admitted (pick x s.kinds) (pick x s.capacity) e (pick x q.halves) → P (on_event x q (accept (half_after e (pick x q.halves))))) →
      ((f : Fault) → P (keeps q (refused f))) →
      P (called s q (event x e))
  event_cases x e new old =
      let h : Half = pick x q.halves in
      let n : ℕ = pick x s.capacity in
      let k : Kind = pick x s.kinds in
      ⊎_elim
      (λ t. subst (λ o. P (on_event x q o)) (sym t.0) (new t.1))
      (λ t. subst (λ o. P (on_event x q o)) (sym t.1)
      (subst (λ (b : Both Half). P (record { answer = refused (event_refused x h t.0); after = record { closed = q.closed; halves = b } })) (sym (put_same x q.halves))
      (old (event_refused x h t.0))))
      (event_taken k n e h)

  due_on : may_close s q ≡ true → (x : Side) → window_end s q ≤ (pick x q.halves).cti
  due_on t =
      let lower : window_end s q ≤ min q.halves.left.cti q.halves.right.cti = leb-true _ _ t in
      elim [ Left ↦ omega (arith, lower) | Right ↦ omega (arith, lower) ]

  pub closing_cases : (places : ℕ) →
      (((x : Side) → window_end s q ≤ (pick x q.halves).cti) → P (record { answer = closed (closing_window s q) (closing_lines s q); after = closed_once s q })) →
      ((f : Fault) → P (keeps q (refused f))) →
      P (called s q (closing places))
  closing_cases places new old =
      let done : Called = record { answer = closed (closing_window s q) (closing_lines s q); after = closed_once s q } in
      let room : Bool = leb (length (closing_lines s q)) places in
      let full : Called = keeps q (refused (bare_fault LinesFull)) in
      cond_both (may_close s q) (cond room done full) (keeps q (refused (bare_fault NotYet))) P
      (λ t. cond_both room done full P (λ u. new (due_on t)) (λ u. old (bare_fault LinesFull)))
      (λ f. old (bare_fault NotYet))
