-- The state of a run comes of accepted calls on a new query, whose events are, side for side, those that were taken.
use Rattle.std.proofs.Common.{◌≡◌, ℕ, true, false, leb, List, [], ◌∷◌, ◌++◌, length, Ok, sym, refl, ap, ◌∙◌, append_assoc, append-nil, arith}
use Rattle.std.proofs.lemmas.Bool.{both_ways, le-leb, cond-true}
use Rattle.refusals.specs.declared.fault.Side.{Side}
use Rattle.refusals.specs.declared.fault.Side.TheVariants.{Left, Right}
use Rattle.receipts.specs.Histories.{Entry, events}
use Rattle.receipts.specs.Laws.{record_of, left_by}
use Rattle.receipts.specs.Lists.{gathered}
use Rattle.receipts.specs.Queries.{Setup, QueryState, may_close, closing_lines, closing_window, closed_once, Call, event, closing, Answer, accepted, closed, Called, event_answer, on_closing, called}
use Rattle.receipts.specs.Sides.{Both, pick, put, twice}
use Rattle.receipts.specs.Transcripts.{Exchange, event_on, event_in, events_on, lines_of, lines_in, windows_of, windows_in}
use Rattle.receipts.proofs.Lists.{gathered_more}
use Rattle.receipts.proofs.Sides.{mapped_all}
use Rattle.rewriting.specs.Streams.{Stream}
use Rattle.run_laws.specs.Runs.{RunState, closed_in, with_side, outcome, over_on, started}
use Rattle.run_laws.specs.Laws.{events_of}
use Rattle.run_laws.proofs.Appended.{left_by_more, record_more}
use Rattle.run_laws.proofs.Sides.{pick_twice, each_put}

-- what the calls accepted of a side, and what it has left, are its whole stream; a side that is over has nothing left
pub record Told (s : Setup) (srcs : Both Stream) (x : RunState) : Type 0 where
  pub calls : List Call
  pub query : left_by s calls ≡ x.query
  pub lines : lines_in (record_of s calls) ≡ x.lines
  pub windows : windows_in (record_of s calls) ≡ x.windows
  pub fronts : (z : Side) → events_on z (record_of s calls) ++ events (pick z x.rest) ≡ events_of z srcs
  pub done : (z : Side) → pick z x.over ≡ true → (pick z x.rest ≡ []) × ((pick z srcs).ending ≡ Ok tt)

closing_brings : (z : Side) (n : ℕ) → event_on z (closing n) ≡ []
closing_brings Left n = refl
closing_brings Right n = refl

-- an event that is taken from a side's rest goes over to its calls
event_brings : (z x : Side) (rest : Both (List Entry)) (e : Entry) (es : List Entry) → pick x rest ≡ e ∷ es →
    event_on z (event x e.1) ++ events (pick z (put x es rest)) ≡ events (pick z rest)
event_brings Left Left rest e es r = sym (ap events r)
event_brings Left Right rest e es r = refl
event_brings Right Left rest e es r = refl
event_brings Right Right rest e es r = sym (ap events r)

-- with places for its lines, a closing that is allowed is made
closes : (s : Setup) (q : QueryState) → may_close s q ≡ true →
    on_closing s (length (closing_lines s q)) q ≡ record { answer = closed (closing_window s q) (closing_lines s q); after = closed_once s q }
closes s q may =
    let n : ℕ = length (closing_lines s q) in
    cond-true (may_close s q) _ _ may ∙ cond-true (leb n n) _ _ (le-leb n n (omega arith))

module _ (s : Setup) (srcs : Both Stream) where
  pub told_started : Told s srcs (started srcs)
  told_started = record {
    calls = [];
    query = refl;
    lines = refl;
    windows = refl;
    fronts = mapped_all (λ z es. events es ≡ events_of z srcs) (λ src. src.entries) srcs (λ z. refl);
    done = λ z over. absurd (both_ways (pick z (twice false)) (pick_twice false z) over);
  }

  module _ (x : RunState) (v : Told s srcs x) where
    -- one more call, whose answer is known
    module _ (c : Call) (a : Answer) (answers : (called s x.query c).answer ≡ a) where
      query_more : left_by s (v.calls ++ (c ∷ [])) ≡ (called s x.query c).after
      query_more = left_by_more s v.calls c ∙ ap (λ q. (called s q c).after) v.query

      record_grows : record_of s (v.calls ++ (c ∷ [])) ≡ record_of s v.calls ++ ((c, a) ∷ [])
      record_grows =
          record_more s v.calls c
          ∙ ap (λ q. record_of s v.calls ++ ((c, (called s q c).answer) ∷ [])) v.query
          ∙ ap (λ b. record_of s v.calls ++ ((c, b) ∷ [])) answers

      more : {Y : Type 0} (f : Exchange → List Y) →
          gathered f (record_of s (v.calls ++ (c ∷ []))) ≡ gathered f (record_of s v.calls) ++ f (c, a)
      more f = ap (gathered f) record_grows ∙ gathered_more f (record_of s v.calls) (c, a)

    pub told_closed : may_close s x.query ≡ true → Told s srcs (closed_in s x)
    told_closed may =
        let c : Call = closing (length (closing_lines s x.query)) in
        let a : Answer = closed (closing_window s x.query) (closing_lines s x.query) in
        let is : called s x.query c ≡ record { answer = a; after = closed_once s x.query } = closes s x.query may in
        let answers : (called s x.query c).answer ≡ a = ap (λ (o : Called). o.answer) is in
        record {
          calls = v.calls ++ (c ∷ []);
          query = query_more c a answers ∙ ap (λ (o : Called). o.after) is;
          lines = more c a answers (λ t. lines_of t.1) ∙ ap (λ ls. ls ++ closing_lines s x.query) v.lines;
          windows = more c a answers (λ t. windows_of t.1) ∙ ap (λ ws. ws ++ (closing_window s x.query ∷ [])) v.windows;
          fronts = λ z.
              ap (λ es. es ++ events (pick z x.rest))
              (more c a answers (event_in z) ∙ ap (λ es. events_on z (record_of s v.calls) ++ es) (closing_brings z _) ∙ append-nil _)
              ∙ v.fronts z;
          done = v.done;
        }

    pub told_taken : (side : Side) → pick side x.over ≡ false → (e : Entry) (es : List Entry) → pick side x.rest ≡ e ∷ es →
        (outcome s x side e.1).answer ≡ Ok tt → Told s srcs (with_side side (outcome s x side e.1).after es x)
    told_taken side still e es next ok =
        let c : Call = event side e.1 in
        let answers : (called s x.query c).answer ≡ accepted = ap (event_answer side (pick side x.query.halves)) ok in
        record {
          calls = v.calls ++ (c ∷ []);
          query = query_more c accepted answers;
          lines = more c accepted answers (λ t. lines_of t.1) ∙ append-nil _ ∙ v.lines;
          windows = more c accepted answers (λ t. windows_of t.1) ∙ append-nil _ ∙ v.windows;
          fronts = λ z.
              ap (λ zs. zs ++ events (pick z (put side es x.rest))) (more c accepted answers (event_in z))
              ∙ append_assoc (events_on z (record_of s v.calls)) (event_on z c) (events (pick z (put side es x.rest)))
              ∙ ap (λ zs. events_on z (record_of s v.calls) ++ zs) (event_brings z side x.rest e es next)
              ∙ v.fronts z;
          done = each_put (λ z rest. pick z x.over ≡ true → (rest ≡ []) × ((pick z srcs).ending ≡ Ok tt)) side es x.rest
              (λ over. absurd (both_ways (pick side x.over) still over)) v.done;
        }

    pub told_ended : (side : Side) → pick side x.rest ≡ [] → (pick side srcs).ending ≡ Ok tt → Told s srcs (over_on side x)
    told_ended side none ends = record {
      calls = v.calls;
      query = v.query;
      lines = v.lines;
      windows = v.windows;
      fronts = v.fronts;
      done = each_put (λ z over. over ≡ true → (pick z x.rest ≡ []) × ((pick z srcs).ending ≡ Ok tt)) side true x.over
          (λ _. (none, ends)) v.done;
    }
