-- Transcripts: what is true of a new query, and kept by each accepted event and closing, is true after any calls (always).
--     Ledger, ledger ts           accepted events, handed-out lines and window records; those of the transcript ts
--     with_event x e l            l with one more event, on the side x
--     with_closing w xs l         l with one more window record, and its lines
--     after_event x e q           the state that the accepted event e on the side x leaves
--     AdmittedOn s x e q          the side x admits the event e
--     Due s q                     no CTI is below the window's end
--     Invariant s P               P is kept by each admitted event and each closing that is due
use Rattle.std.proofs.Common.{◌≡◌, ℕ, ◌≤◌, List, [], ◌∷◌, ◌++◌, sym, refl, ap, ◌∙◌, subst, append_assoc, append-nil}
use Rattle.refusals.specs.declared.fault.Fault.{Fault}
use Rattle.refusals.specs.declared.fault.Side.{Side}
use Rattle.refusals.specs.declared.fault.Side.TheVariants.{Left, Right}
use Rattle.rows.specs.Events.{PlainEvent}
use Rattle.receipts.specs.declared.line.Line.{Line}
use Rattle.receipts.specs.declared.window.Window.{Window}
use Rattle.receipts.specs.Sides.{Both, pick, put}
use Rattle.receipts.specs.Queries.{Setup, QueryState, new_query, window_end, closing_lines, closing_window, closed_once, Call, Question, event, closing, question, accepted, closed, told, refused, Called, asked, called}
use Rattle.receipts.specs.Transcripts.{Exchange, transcript, after, event_in, events_on, lines_of, lines_in, windows_of, windows_in}
use Rattle.receipts.specs.Laws.{record_of, left_by}
use Rattle.receipts.proofs.Lists.{gathered_more}
use Rattle.receipts.proofs.Calls.{Admitted, half_after, event_cases, closing_cases}

pub record Ledger : Type 0 where
  pub events : Both (List PlainEvent)
  pub lines : List Line
  pub windows : List Window

abbrev pub ledger : List Exchange → Ledger
ledger ts = record {
  events = record { left = events_on Left ts; right = events_on Right ts };
  lines = lines_in ts;
  windows = windows_in ts;
}

abbrev pub with_event : Side → PlainEvent → Ledger → Ledger
with_event x e l = record { events = put x (pick x l.events ++ (e ∷ [])) l.events; lines = l.lines; windows = l.windows }

abbrev pub with_closing : Window → List Line → Ledger → Ledger
with_closing w xs l = record { events = l.events; lines = l.lines ++ xs; windows = l.windows ++ (w ∷ []) }

pub side_events : (ts : List Exchange) (x : Side) → pick x (ledger ts).events ≡ events_on x ts
side_events ts Left = refl
side_events ts Right = refl

module _ (ts : List Exchange) where
  -- what one more exchange adds
  ledger_more : (t : Exchange) (l : Ledger) →
      ((x : Side) → events_on x ts ++ event_in x t ≡ pick x l.events) → lines_in ts ++ lines_of t.1 ≡ l.lines → windows_in ts ++ windows_of t.1 ≡ l.windows →
      ledger (ts ++ (t ∷ [])) ≡ l
  ledger_more t l events lines windows = λ i. record {
    events = record { left = (gathered_more (event_in Left) ts t ∙ events Left) i; right = (gathered_more (event_in Right) ts t ∙ events Right) i };
    lines = (gathered_more (λ (u : Exchange). lines_of u.1) ts t ∙ lines) i;
    windows = (gathered_more (λ (u : Exchange). windows_of u.1) ts t ∙ windows) i;
  }

  event_added : (x : Side) (e : PlainEvent) (y : Side) → events_on y ts ++ event_in y (event x e, accepted) ≡ pick y (with_event x e (ledger ts)).events
  event_added Left e Left = refl
  event_added Left e Right = append-nil (events_on Right ts)
  event_added Right e Left = append-nil (events_on Left ts)
  event_added Right e Right = refl

  no_event : (t : Exchange) → ((x : Side) → event_in x t ≡ []) → (x : Side) → events_on x ts ++ event_in x t ≡ pick x (ledger ts).events
  no_event t none x = ap (λ es. events_on x ts ++ es) (none x) ∙ append-nil (events_on x ts) ∙ sym (side_events ts x)

  ledger_event : (x : Side) (e : PlainEvent) → ledger (ts ++ ((event x e, accepted) ∷ [])) ≡ with_event x e (ledger ts)
  ledger_event x e = ledger_more (event x e, accepted) (with_event x e (ledger ts)) (event_added x e) (append-nil (lines_in ts)) (append-nil (windows_in ts))

  ledger_closing : (places : ℕ) (w : Window) (xs : List Line) → ledger (ts ++ ((closing places, closed w xs) ∷ [])) ≡ with_closing w xs (ledger ts)
  ledger_closing places w xs =
      ledger_more (closing places, closed w xs) (with_closing w xs (ledger ts)) (no_event (closing places, closed w xs) (elim [ Left ↦ refl | Right ↦ refl ])) refl refl

  ledger_refused : (c : Call) (f : Fault) → ledger (ts ++ ((c, refused f) ∷ [])) ≡ ledger ts
  ledger_refused c f = ledger_more (c, refused f) (ledger ts) (no_event (c, refused f) (λ x. refl)) (append-nil (lines_in ts)) (append-nil (windows_in ts))

  ledger_told : (a : Question) (n : ℕ) → ledger (ts ++ ((question a, told n) ∷ [])) ≡ ledger ts
  ledger_told a n =
      ledger_more (question a, told n) (ledger ts) (no_event (question a, told n) (elim [ Left ↦ refl | Right ↦ refl ])) (append-nil (lines_in ts)) (append-nil (windows_in ts))

abbrev pub after_event : Side → PlainEvent → QueryState → QueryState
after_event x e q = record { closed = q.closed; halves = put x (half_after e (pick x q.halves)) q.halves }

abbrev pub AdmittedOn : Setup → Side → PlainEvent → QueryState → Type 0
AdmittedOn s x e q = Admitted (pick x s.kinds) (pick x s.capacity) e (pick x q.halves)

abbrev pub Due : Setup → QueryState → Type 0
Due s q = (x : Side) → window_end s q ≤ (pick x q.halves).cti

pub record Invariant (s : Setup) (P : QueryState → Ledger → Type 0) : Type 0 where
  pub by_event : (q : QueryState) (l : Ledger) (x : Side) (e : PlainEvent) → AdmittedOn s x e q → P q l → P (after_event x e q) (with_event x e l)
  pub by_closing : (q : QueryState) (l : Ledger) → Due s q → P q l → P (closed_once s q) (with_closing (closing_window s q) (closing_lines s q) l)

module _ (s : Setup) (P : QueryState → Ledger → Type 0) (kept : Invariant s P) where
  abbrev After : Call → List Exchange → Called → Type 0
  After c ts o = P o.after (ledger (ts ++ ((c, o.answer) ∷ [])))

  after_call : (q : QueryState) (ts : List Exchange) (c : Call) → P q (ledger ts) → After c ts (called s q c)
  after_call q ts (event x e) h =
      event_cases s q (After (event x e) ts) x e
      (λ a. subst (λ l. P (after_event x e q) l) (sym (ledger_event ts x e)) (kept.by_event q (ledger ts) x e a h))
      (λ f. subst (λ l. P q l) (sym (ledger_refused ts (event x e) f)) h)
  after_call q ts (closing n) h =
      closing_cases s q (After (closing n) ts) n
      (λ d. subst (λ l. P (closed_once s q) l) (sym (ledger_closing ts n (closing_window s q) (closing_lines s q))) (kept.by_closing q (ledger ts) d h))
      (λ f. subst (λ l. P q l) (sym (ledger_refused ts (closing n) f)) h)
  after_call q ts (question a) h = subst (λ l. P q l) (sym (ledger_told ts a (asked q a))) h

  after_calls : (q : QueryState) (ts : List Exchange) (cs : List Call) → P q (ledger ts) → P (after s q cs) (ledger (ts ++ transcript s q cs))
  after_calls q ts [] h = subst (λ us. P q (ledger us)) (sym (append-nil ts)) h
  after_calls q ts (c ∷ cs) h =
      let o : Called = called s q c in
      let t : Exchange = (c, o.answer) in
      subst (λ us. P (after s o.after cs) (ledger us)) (append_assoc ts (t ∷ []) (transcript s o.after cs))
      (after_calls o.after (ts ++ (t ∷ [])) cs (after_call q ts c h))

  pub always : P new_query (ledger []) → (cs : List Call) → P (left_by s cs) (ledger (record_of s cs))
  always h cs = after_calls new_query [] cs h
