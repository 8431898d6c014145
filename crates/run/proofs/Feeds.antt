-- A turn of a side is the model's.
--     after_step s p side x r     the model's turn once r came of a side's turn and left the state x
--     Brings r es                 the step r comes of the entries es
use Rattle.std.proofs.Common.{◌≡◌, ℕ, ◌+◌, ◌-◌, Bool, true, false, List, [], ◌∷◌, length, Ok, Err, Result, sym, refl, ap, ◌∙◌, subst, add-one}
use Rattle.std.proofs.lemmas.Bool.{true≢false}
use Rattle.refusals.specs.Faults.{Ending}
use Rattle.refusals.specs.declared.fault.Fault.{Fault}
use Rattle.refusals.specs.declared.fault.Side.{Side}
use Rattle.refusals.specs.declared.fault.Side.TheVariants.{Left, Right}
use Rattle.refusals.specs.declared.refusal.Refusal.{Refusal}
use Rattle.rows.specs.Events.{PlainEvent, insert, retraction, cti}
use Rattle.receipts.specs.declared.line.Line.{Line}
use Rattle.receipts.specs.declared.window.Window.{Window}
use Rattle.receipts.specs.Histories.{Entry}
use Rattle.receipts.specs.Queries.{Setup, Half, QueryState, event, Answer, accepted, closed, told, refused, event_refused, event_answer, called}
use Rattle.receipts.specs.Sides.{Both, pick, put}
use Rattle.receipts.specs.Stores.{Outcome}
use Rattle.receipts.specs.Transcripts.{accepts}
use Rattle.receipts.proofs.Calls.{event_cases}
use Rattle.receipts.proofs.Sides.{put_same}
use Rattle.rewriting.specs.Streams.{Stream}
use Rattle.query.specs.Answers.{answers}
use Rattle.run_laws.specs.Runs.{Places, RunState, Report, Turn, goes_on, stops, closings, run_fault, located, with_side, heard, outcome, over_on, ended, take_from, report, continued}
use Rattle.sources.specs.Taking.{first_of, behind, rest_of}
use Rattle.run.specs.declared.feeding.Place.{Place}
use Rattle.run.specs.declared.feeding.Step.{Step}
use Rattle.run.specs.declared.feeding.Step.TheVariants as step
use Rattle.run.specs.Steps.{at, told_on, next_by, next_on, answered, is_cti, ending_step, answer_step, Fed, fed, stepped_by, stepped}
use Rattle.run.specs.Turns.{entries_of, shallows}

abbrev pub after_step : Setup → Places → Side → RunState → Result Step Fault → Turn
after_step s p side x (Err f) = stops x f
after_step s p side x (Ok step.Ended) = goes_on (over_on side x)
after_step s p side x (Ok step.Accepted) = goes_on x
after_step s p side x (Ok (step.Advanced y)) = closings s p (run_fault side y.depth y.number) (p.windows - length x.windows) x

abbrev pub Brings : Result Step Fault → List Entry → Type 0
Brings (Err f) es = Unit {0}
Brings (Ok step.Ended) es = es ≡ []
Brings (Ok step.Accepted) es = length (behind es) + 1 ≡ length es
Brings (Ok (step.Advanced y)) es = length (behind es) + 1 ≡ length es

-- a refused event changes nothing
refused_keeps : (s : Setup) (q : QueryState) (side : Side) (e : PlainEvent) →
    accepts (called s q (event side e)).answer ≡ false → (called s q (event side e)).after ≡ q
refused_keeps s q side e =
    event_cases s q (λ o. accepts o.answer ≡ false → o.after ≡ q) side e (λ _ no_more. absurd (true≢false no_more)) (λ f _. refl)

module _ (s : Setup) (p : Places) (side : Side) (srcs : Both Stream) (x : RunState) (go : RunState → Report) where
  abbrev after : QueryState → List Entry → RunState
  after q es = record { query = q; rest = put side es x.rest; over = x.over; lines = x.lines; windows = x.windows }

  abbrev half : Half
  half = pick side x.query.halves

  abbrev holding : Half → QueryState
  holding h = record { closed = x.query.closed; halves = put side h x.query.halves }

  -- by the side's answer to the event
  answered_turn : (depth n : ℕ) (e : PlainEvent) (es : List Entry) (a : Result (Unit {0}) Refusal) (h : Half) →
      (accepts (event_answer side half a) ≡ false → holding h ≡ x.query) →
      continued (after_step s p side (after (holding h) es) (answer_step (record { depth = depth; number = n }) (is_cti e) (event_answer side half a))) go
      ≡ continued (heard s p side depth (n, e) half x (with_side side h es x) a) go
  answered_turn depth n (insert r) es (Ok u) h keeps = refl
  answered_turn depth n (retraction r t) es (Ok u) h keeps = refl
  answered_turn depth n (cti t) es (Ok u) h keeps = refl
  answered_turn depth n e es (Err why) h keeps =
      let f : Fault = located depth n (event_refused side half why) in
      ap (λ q. report (after q es) (Err f)) (keeps refl)

  ended_turn : (w : Ending) → pick side x.rest ≡ [] →
      continued (after_step s p side (after x.query []) (ending_step (told_on side w))) go ≡ continued (ended side w x) go
  ended_turn (Ok tt) none =
      ap (λ rest. go (over_on side (record { query = x.query; rest = rest; over = x.over; lines = x.lines; windows = x.windows })))
      (ap (λ es. put side es x.rest) (sym none) ∙ put_same side x.rest)
  ended_turn (Err f) none = refl

  abbrev made : List Entry → Fed
  made es = stepped_by s x.query side (next_by side (pick side srcs).depth (first_of es (pick side srcs).ending))

  fed_turn : (es : List Entry) → pick side x.rest ≡ es →
      continued (after_step s p side (after (made es).query (behind es)) (made es).step) go ≡ continued (take_from s p srcs x side es) go
  fed_turn [] none = ended_turn (pick side srcs).ending none
  fed_turn (e ∷ es) next =
      let o : Outcome Half = outcome s x side e.1 in
      answered_turn (pick side srcs).depth e.0 e.1 es o.answer o.after (refused_keeps s x.query side e.1)

answer_brings : (y : Place) (c : Bool) (a : Answer) (e : Entry) (es : List Entry) → Brings (answer_step y c a) (e ∷ es)
answer_brings y true accepted e es = add-one (length es)
answer_brings y false accepted e es = add-one (length es)
answer_brings y c (closed w ls) e es = add-one (length es)
answer_brings y c (told x) e es = add-one (length es)
answer_brings y c (refused f) e es = tt

ending_brings : (side : Side) (w : Ending) → Brings (ending_step (told_on side w)) []
ending_brings side (Ok tt) = refl
ending_brings side (Err f) = tt

step_brings : (s : Setup) (q : QueryState) (side : Side) (depth : ℕ) (w : Ending) (es : List Entry) → Brings (stepped_by s q side (next_by side depth (first_of es w))).step es
step_brings s q side depth w [] = ending_brings side w
step_brings s q side depth w (e ∷ es) = answer_brings (record { depth = depth; number = e.0 }) (is_cti e.1) (called s q (event side e.1)).answer e es

pub pick_entries : (side : Side) (srcs : Both Stream) → pick side (entries_of srcs) ≡ (pick side (shallows srcs)).entries
pick_entries Left srcs = refl
pick_entries Right srcs = refl

put_entries : (side : Side) (srcs : Both Stream) →
    entries_of (put side (rest_of (pick side srcs)) srcs) ≡ put side (behind (pick side (shallows srcs)).entries) (entries_of srcs)
put_entries Left srcs = refl
put_entries Right srcs = refl

-- a side that is chosen heard its event, and the query answered it
pub heard_step : (s : Setup) (q q' : QueryState) (x side : Side) → x ≡ side → (srcs : Both Stream) (y : Place) (e : PlainEvent) (a : Answer) (r : Result Step Fault) →
    at y e ≡ next_on x (pick side srcs) → answers a q' ≡ called s q (event side e) → r ≡ answer_step y (is_cti e) a →
    fed r q' ≡ stepped s q x (pick x srcs)
heard_step s q q' x side chosen srcs y e a r heard_it answers_it is =
    (λ i. fed (is i) q')
    ∙ ap (answered y e) answers_it
    ∙ ap (λ z. stepped_by s q z (at y e)) (sym chosen)
    ∙ ap (stepped_by s q x) heard_it
    ∙ ap (λ z. stepped s q x (pick z srcs)) (sym chosen)

module _ (side : Side) (srcs srcs' : Both Stream) (after : srcs' ≡ put side (rest_of (pick side srcs)) srcs) where
  abbrev es : List Entry
  es = (pick side (shallows srcs)).entries

  pub entries_after : entries_of srcs' ≡ put side (behind es) (entries_of srcs)
  entries_after = ap entries_of after ∙ put_entries side srcs

  module _ (s : Setup) (q q' : QueryState) (r : Result Step Fault) (made : fed r q' ≡ stepped s q side (pick side (shallows srcs))) where
    pub brings : Brings r es
    brings = subst (λ (f : Fed). Brings f.step es) (sym made)
        (step_brings s q side (pick side (shallows srcs)).depth (pick side (shallows srcs)).ending es)

    module _ (p : Places) (over : Both Bool) (ls : List Line) (ws : List Window) (go : RunState → Report) where
      abbrev x : RunState
      x = record { query = q; rest = entries_of srcs; over = over; lines = ls; windows = ws }

      pub feeds : continued (after_step s p side (record { query = q'; rest = entries_of srcs'; over = over; lines = ls; windows = ws }) r) go
          ≡ continued (take_from s p (shallows srcs) x side (pick side x.rest)) go
      feeds =
          (λ i. continued (after_step s p side (record { query = (made i).query; rest = entries_after i; over = over; lines = ls; windows = ws }) (made i).step) go)
          ∙ fed_turn s p side (shallows srcs) x go es (pick_entries side srcs)
          ∙ ap (λ rest. continued (take_from s p (shallows srcs) x side rest) go) (sym (pick_entries side srcs))
