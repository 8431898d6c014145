-- Every run's report is made of calls on a new query.
use Rattle.std.proofs.Common.{◌≡◌, ℕ, zero, suc, ◌+◌, min, true, false, length, ap, ◌∙◌, subst, arith, Ok, Err}
use Rattle.std.proofs.lemmas.Bool.{cond_both, lt-leb}
use Rattle.refusals.specs.Faults.{Ending}
use Rattle.refusals.specs.declared.fault.Side.{Side}
use Rattle.receipts.specs.Histories.{events}
use Rattle.receipts.specs.Laws.{left_by}
use Rattle.receipts.specs.Queries.{Setup, Half, QueryState, may_close}
use Rattle.receipts.specs.Sides.{Both, pick}
use Rattle.receipts.proofs.Sides.{mapped_all}
use Rattle.rewriting.specs.Streams.{Stream}
use Rattle.run_laws.specs.Runs.{Places, RunState, Turn, goes_on, stops, turn, report, continued, ran, started, turns}
use Rattle.run_laws.specs.Laws.{Made, RunsMade}
use Rattle.run_laws.proofs.Told.{Told, told_started}
use Rattle.run_laws.proofs.Turns.{Sound, turn_sound}
use Rattle.run_laws.proofs.TurnsLeft.{turns_left, none_left, both_over}

abbrev Faulty : Ending → Type 0
Faulty (Ok tt) = ⊥
Faulty (Err f) = Unit {0}

module _ (s : Setup) (p : Places) (srcs : Both Stream) where
  -- an ending is END only where both sides have ended and no closing is allowed
  made_report : (x : RunState) (w : Ending) → Told s srcs x →
      (w ≡ Ok tt → ((z : Side) → pick z x.over ≡ true) × (may_close s x.query ≡ false)) → Made s srcs (report x w)
  made_report x w v all = record {
    calls = v.calls;
    lines = v.lines;
    windows = v.windows;
    closed = ap (λ (q : QueryState). q.closed) v.query;
    held = mapped_all (λ z n. length (pick z (left_by s v.calls).halves).held ≡ n) (λ (h : Half). length h.held) x.query.halves
        (λ z. ap (λ (q : QueryState). length (pick z q.halves).held) v.query);
    left = λ z. events (pick z x.rest);
    fronts = v.fronts;
    whole = λ ends.
        (λ z. let done = v.done z ((all ends).0 z) in (ap events done.0, done.1), ap (may_close s) v.query ∙ (all ends).1);
  }

  made_continued : (n : ℕ) (t : Turn) →
      ((y : RunState) → Told s srcs y → turns_left y.rest y.over ≡ n → may_close s y.query ≡ false → Made s srcs (ran s p srcs n y)) →
      Sound s p srcs n t → Made s srcs (continued t (λ y. ran s p srcs n y))
  made_continued n (goes_on y) later sound = later y sound.0 sound.1 sound.2
  made_continued n (stops y f) later sound = made_report y (Err f) sound (λ ends. absurd (subst Faulty ends tt))

  made_ran : (n : ℕ) (x : RunState) → Told s srcs x → turns_left x.rest x.over ≡ n → may_close s x.query ≡ false →
      Made s srcs (ran s p srcs n x)
  made_ran zero x v t quiet = made_report x (Ok tt) v (λ _. (none_left x.rest x.over t, quiet))
  made_ran (suc n) x v t quiet =
      cond_both _ _ _ (Made s srcs)
      (λ all. made_report x (Ok tt) v (λ _. (both_over x.over all, quiet)))
      (λ unended. made_continued n (turn s p srcs x) (λ y. made_ran n y) (turn_sound s p srcs n x v t quiet unended))

pub runs_made : RunsMade
runs_made s p srcs wide =
    made_ran s p srcs (turns srcs) (started srcs) (told_started s srcs) (omega arith)
    (lt-leb (0 + s.width) (min 0 0) (omega (arith, wide)))
