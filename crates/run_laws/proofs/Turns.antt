-- Each turn of a run leaves a state that comes of calls, from which no closing is allowed, and takes one of the turns left.
use Rattle.std.proofs.Common.{◌≡◌, ℕ, zero, suc, ◌-◌, min, Bool, false, cond, ◌&&◌, leb, List, [], ◌∷◌, ◌++◌, length, Ok, Err, Result, refl, ap, ◌∙◌}
use Rattle.std.proofs.lemmas.Bool.{cond_both}
use Rattle.refusals.specs.Faults.{Ending}
use Rattle.refusals.specs.declared.fault.Fault.{Fault}
use Rattle.refusals.specs.declared.fault.Side.{Side}
use Rattle.refusals.specs.declared.refusal.Refusal.{Refusal}
use Rattle.refusals.specs.declared.refusal.Refusal.TheVariants.{WindowsFull, LinesFull}
use Rattle.rows.specs.Events.{PlainEvent, insert, retraction, cti}
use Rattle.receipts.specs.Histories.{Entry}
use Rattle.receipts.specs.Queries.{Setup, Half, QueryState, window_end, may_close, closing_lines, event, called}
use Rattle.receipts.specs.Sides.{Both, pick}
use Rattle.receipts.proofs.Calls.{half_after, event_cases}
use Rattle.receipts.proofs.Sides.{mapped_put}
use Rattle.rewriting.specs.Streams.{Stream}
use Rattle.run_laws.specs.Runs.{Places, RunState, Turn, goes_on, stops, closed_in, closings, after_event, run_fault, with_side, outcome, heard, ended, take_from, next_side, turn}
use Rattle.run_laws.proofs.Told.{Told, told_closed, told_taken, told_ended}
use Rattle.run_laws.proofs.TurnsLeft.{turns_left, entry_takes_one, ending_takes_one, next_unended}

-- an event that leaves its side's CTI allows no closing that was not allowed before
closing_same : (s : Setup) (q : QueryState) (x : Side) (e : PlainEvent) → ((h : Half) → (half_after e h).cti ≡ h.cti) →
    may_close s (called s q (event x e)).after ≡ may_close s q
closing_same s q x e same =
    event_cases s q (λ o. may_close s o.after ≡ may_close s q) x e
    (λ _. ap (λ (c : Both ℕ). leb (window_end s q) (min c.left c.right))
    (mapped_put (λ (h : Half). h.cti) x (half_after e (pick x q.halves)) q.halves (same (pick x q.halves))))
    (λ _. refl)

module _ (s : Setup) (p : Places) (srcs : Both Stream) where
  -- what a turn owes, with n turns left after it; a fault owes that the state comes of calls, no more
  abbrev pub Sound : ℕ → Turn → Type 0
  Sound n (goes_on y) = Told s srcs y × (turns_left y.rest y.over ≡ n) × (may_close s y.query ≡ false)
  Sound n (stops y f) = Told s srcs y

  closings_sound : (blame : Refusal → Fault) (places n : ℕ) (x : RunState) → Told s srcs x → turns_left x.rest x.over ≡ n →
      Sound n (closings s p blame places x)
  closings_sound blame zero n x v t =
      cond_both (may_close s x.query) (stops x (blame WindowsFull)) (goes_on x) (Sound n) (λ _. v) (λ may-not. (v, t, may-not))
  closings_sound blame (suc places) n x v t =
      let fits : Bool = leb (length (x.lines ++ closing_lines s x.query)) p.lines in
      let again : Turn = closings s p blame places (closed_in s x) in
      let full : Turn = stops x (blame LinesFull) in
      cond_both (may_close s x.query) (cond fits again full) (goes_on x) (Sound n)
      (λ may. cond_both fits again full (Sound n)
      (λ _. closings_sound blame places n (closed_in s x) (told_closed s srcs x v may) t)
      (λ _. v))
      (λ may-not. (v, t, may-not))

  -- after an event other than a CTI no closing is allowed
  abbrev Quiet : PlainEvent → RunState → Type 0
  Quiet (insert r) y = may_close s y.query ≡ false
  Quiet (retraction r e) y = may_close s y.query ≡ false
  Quiet (cti t) y = Unit {0}

  after_sound : (blame : Refusal → Fault) (e : PlainEvent) (n : ℕ) (y : RunState) → Told s srcs y → turns_left y.rest y.over ≡ n → Quiet e y →
      Sound n (after_event s p blame e y)
  after_sound blame (insert r) n y v t quiet = (v, t, quiet)
  after_sound blame (retraction r e) n y v t quiet = (v, t, quiet)
  after_sound blame (cti c) n y v t quiet = closings_sound blame (p.windows - length y.windows) n y v t

  -- a turn on a side that has not ended
  module _ (n : ℕ) (x : RunState) (v : Told s srcs x) (t : turns_left x.rest x.over ≡ suc n)
      (quiet : may_close s x.query ≡ false) (side : Side) (still : pick side x.over ≡ false) where
    abbrev half : Half
    half = pick side x.query.halves

    taken_quiet : (e : PlainEvent) (es : List Entry) → Quiet e (with_side side (outcome s x side e).after es x)
    taken_quiet (insert r) es = closing_same s x.query side (insert r) (λ h. refl) ∙ quiet
    taken_quiet (retraction r e) es = closing_same s x.query side (retraction r e) (λ h. refl) ∙ quiet
    taken_quiet (cti c) es = tt

    heard_sound : (e : Entry) (es : List Entry) → pick side x.rest ≡ e ∷ es →
        (a : Result (Unit {0}) Refusal) → (outcome s x side e.1).answer ≡ a →
        Sound n (heard s p side (pick side srcs).depth e half x (with_side side (outcome s x side e.1).after es x) a)
    heard_sound e es next (Ok u) ok =
        after_sound (run_fault side (pick side srcs).depth e.0) e.1 n (with_side side (outcome s x side e.1).after es x)
        (told_taken s srcs x v side still e es next ok) (entry_takes_one x.rest x.over side e es n next t) (taken_quiet e.1 es)
    heard_sound e es next (Err why) refused = v

    ended_sound : (w : Ending) → (pick side srcs).ending ≡ w → pick side x.rest ≡ [] → Sound n (ended side w x)
    ended_sound (Ok tt) ends none = (told_ended s srcs x v side none ends, ending_takes_one x.rest x.over side n none still t, quiet)
    ended_sound (Err f) ends none = v

    take_sound : (rest : List Entry) → pick side x.rest ≡ rest → Sound n (take_from s p srcs x side rest)
    take_sound [] none = ended_sound (pick side srcs).ending refl none
    take_sound (e ∷ es) next = heard_sound e es next (outcome s x side e.1).answer refl

  pub turn_sound : (n : ℕ) (x : RunState) → Told s srcs x → turns_left x.rest x.over ≡ suc n → may_close s x.query ≡ false →
      (x.over.left && x.over.right) ≡ false → Sound n (turn s p srcs x)
  turn_sound n x v t quiet more =
      take_sound n x v t quiet (next_side x) (next_unended x.over.left x.over.right _ more) (pick (next_side x) x.rest) refl
