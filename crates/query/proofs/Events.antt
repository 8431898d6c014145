-- How an event is judged: its payload's range, and its times.
use Rattle.std.proofs.Common.{◌≡◌, ℕ, Bool, true, false, cond, Ok, Err, Result, sym, refl, ap, ◌∙◌}
use Rattle.std.proofs.lemmas.Bool.{cond-true, cond-false}
use Rattle.refusals.specs.declared.refusal.Refusal.{Refusal}
use Rattle.refusals.specs.declared.refusal.Refusal.TheVariants.{BadTime}
use Rattle.rows.specs.declared.event.Event.{Event}
use Rattle.rows.specs.declared.event.Event.TheVariants.{Insert, Retraction, Cti}
use Rattle.rows.specs.Kinds.{Kind, Pair, in_range}
use Rattle.rows.specs.Events.{PlainEvent, plain_event, timely, times_judged}
use Rattle.receipts.specs.Stores.{refuse}
use Rattle.receipts.specs.Queries.{Half, ranged, taken}

-- the payload of an event is in its kind's range
pub event_ranged : {P : Type 0} (k : Kind) (pair : P → Pair) → ((x : P) → in_range k (pair x).key (pair x).value ≡ true) →
    (e : Event P) → ranged k (plain_event pair e) ≡ true
event_ranged k pair law (Insert r) = law r.payload
event_ranged k pair law (Retraction r e) = law r.payload
event_ranged k pair law (Cti t) = refl

untimely_by : (b : Bool) (why : Refusal) → ◌≡◌ {A = Result (Unit {0}) Refusal} (Err why) (cond b (Ok tt) (Err BadTime)) → (b ≡ false) × (why ≡ BadTime)
untimely_by true why e = (cc, cc)
untimely_by false why e = (refl, cc)

pub taken_untimely : (k : Kind) (n : ℕ) (e : PlainEvent) (h : Half) → ranged k e ≡ true → (why : Refusal) → Err why ≡ times_judged e → refuse why h ≡ taken k n e h
taken_untimely k n e h in_range why told =
    let untimely = untimely_by (timely e) why told in
    ap (λ w. refuse w h) untimely.1 ∙ sym (cond-true _ _ _ in_range ∙ cond-false _ _ _ untimely.0)
