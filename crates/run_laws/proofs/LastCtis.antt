-- The CTI of each side of a query is the last that it accepted, and the closed time is not above it.
use Rattle.std.proofs.Common.{◌≡◌, ℕ, ◌≤◌, List, [], ◌∷◌, ◌++◌, sym, refl, ap, ◌∙◌}
use Rattle.refusals.specs.declared.fault.Side.{Side}
use Rattle.refusals.specs.declared.fault.Side.TheVariants.{Left, Right}
use Rattle.rows.specs.Events.{PlainEvent, insert, retraction, cti}
use Rattle.receipts.specs.Histories.{cti_after}
use Rattle.receipts.specs.Laws.{record_of, left_by, closed_time_of}
use Rattle.receipts.specs.Queries.{Setup, Half, QueryState, new_query, window_end, purged, Call}
use Rattle.receipts.specs.Sides.{pick}
use Rattle.receipts.specs.Transcripts.{events_on}
use Rattle.receipts.proofs.Calls.{half_after}
use Rattle.receipts.proofs.Queries.{faithful}
use Rattle.receipts.proofs.Sides.{put_keeps, mapped_all}
use Rattle.receipts.proofs.Transcripts.{Ledger, ledger, side_events, Invariant, always}
use Rattle.run_laws.specs.Laws.{last_cti}

last_cti_more : (c : ℕ) (es : List PlainEvent) (e : PlainEvent) → last_cti c (es ++ (e ∷ [])) ≡ cti_after (last_cti c es) e
last_cti_more c [] e = refl
last_cti_more c (d ∷ es) e = last_cti_more (cti_after c d) es e

half_cti : (e : PlainEvent) (h : Half) → (half_after e h).cti ≡ cti_after h.cti e
half_cti (insert r) h = refl
half_cti (retraction r e) h = refl
half_cti (cti t) h = refl

abbrev AtLast : QueryState → Ledger → Type 0
AtLast q l = (x : Side) → (pick x q.halves).cti ≡ last_cti 0 (pick x l.events)

new_last : AtLast new_query (ledger [])
new_last Left = refl
new_last Right = refl

last_invariant : (s : Setup) → Invariant s AtLast
last_invariant s = record {
  by_event = λ q l x e _ last.
      let h : Half = pick x q.halves in
      let es : List PlainEvent = pick x l.events in
      put_keeps (λ y half events. half.cti ≡ last_cti 0 events) x (half_after e h) (es ++ (e ∷ [])) q.halves l.events
      (half_cti e h ∙ ap (λ c. cti_after c e) (last x) ∙ sym (last_cti_more 0 es e)) last;
  by_closing = λ q l _ last. mapped_all (λ x half. half.cti ≡ last_cti 0 (pick x l.events)) (purged (window_end s q)) q.halves last;
}

pub cti_last : (s : Setup) (cs : List Call) (x : Side) → (pick x (left_by s cs).halves).cti ≡ last_cti 0 (events_on x (record_of s cs))
cti_last s cs x = always s AtLast (last_invariant s) new_last cs x ∙ ap (last_cti 0) (side_events (record_of s cs) x)

pub closed_below : (s : Setup) (cs : List Call) (x : Side) → closed_time_of s cs ≤ (pick x (left_by s cs).halves).cti
closed_below s cs x = (faithful s cs x).above
