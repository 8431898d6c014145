-- Turn after turn, a run comes to what the model's run comes to.
use Rattle.std.proofs.Common.{◌≡◌, ℕ, zero, suc, ◌+◌, ◌-◌, ◌<◌, Bool, true, false, ◌&&◌, List, [], ◌∷◌, sym, refl, ap, ◌∙◌, arith, Ok, Err}
use Rattle.std.proofs.lemmas.Bool.{both_ways, and_from, cond-true, cond-false}
use Rattle.refusals.specs.declared.fault.Fault.{Fault}
use Rattle.refusals.specs.Faults.{Ending}
use Rattle.refusals.specs.declared.fault.Side.{Side}
use Rattle.refusals.specs.declared.fault.Side.TheVariants.{Left, Right}
use Rattle.receipts.specs.Histories.{Entry}
use Rattle.receipts.specs.Queries.{Setup}
use Rattle.receipts.specs.Sides.{Both, pick}
use Rattle.rewriting.specs.Streams.{Stream}
use Rattle.run_laws.specs.Runs.{Places, RunState, Report, take_from, next_side, turn, report, continued, ran}
use Rattle.run_laws.proofs.TurnsLeft.{turns_left, none_left}
use Rattle.run.specs.Turns.{shallows, tails, turned}

-- a turn that is due takes one of the turns left
pub some_left : (rest : Both (List Entry)) (over : Both Bool) → (over.left && over.right) ≡ false → 0 < turns_left rest over
some_left rest over unended = of_left (turns_left rest over) refl
  where
    of_left : (n : ℕ) → turns_left rest over ≡ n → 0 < n
    of_left zero none = absurd (both_ways (over.left && over.right) unended
        (and_from over.left over.right (none_left rest over none Left) (none_left rest over none Right)))
    of_left (suc n) none = omega arith

module _ (s : Setup) (p : Places) where
  -- a turn depends on the streams' endings and depths alone
  take_by_tails : (srcs : Both Stream) (x : RunState) (side : Side) (es : List Entry) →
      take_from s p (shallows srcs) x side es ≡ take_from s p (shallows (tails srcs)) x side es
  take_by_tails srcs x Left [] = refl
  take_by_tails srcs x Right [] = refl
  take_by_tails srcs x Left (e ∷ es) = refl
  take_by_tails srcs x Right (e ∷ es) = refl

  turn_same : (srcs others : Both Stream) → tails srcs ≡ tails others → (x : RunState) → turn s p (shallows srcs) x ≡ turn s p (shallows others) x
  turn_same srcs others same x =
      take_by_tails srcs x (next_side x) (pick (next_side x) x.rest)
      ∙ ap (λ ends. turn s p (shallows ends) x) same
      ∙ sym (take_by_tails others x (next_side x) (pick (next_side x) x.rest))

  pub ran_over : (srcs : Both Stream) (n : ℕ) (x : RunState) → (x.over.left && x.over.right) ≡ true → ran s p srcs n x ≡ report x (Ok tt)
  ran_over srcs zero x over = refl
  ran_over srcs (suc n) x over = cond-true _ _ _ over

  module _ (t : Setup) (same : t ≡ s) (p' : Places) (room : p' ≡ p) (srcs others : Both Stream) (ends : tails srcs ≡ tails others)
      (x x' : RunState) (o : Ending)
      (value : (go : RunState → Report) → continued (turned x' o) go ≡ continued (turn t p' (shallows srcs) x) go)
      (unended : (x.over.left && x.over.right) ≡ false) (m : ℕ) where
    ran_turned : (n : ℕ) → m ≡ suc n → ran s p (shallows others) m x ≡ continued (turned x' o) (λ y. ran s p (shallows others) n y)
    ran_turned n one =
        ap (λ k. ran s p (shallows others) k x) one
        ∙ cond-false _ _ _ unended
        ∙ sym (value (λ y. ran s p (shallows others) n y)
        ∙ (λ i. continued (turn (same i) (room i) (shallows srcs) x) (λ y. ran s p (shallows others) n y))
        ∙ ap (λ u. continued u (λ y. ran s p (shallows others) n y)) (turn_same srcs others ends x))

    -- the run goes on from the state that a turn without fault leaves
    pub goes_further : (n : ℕ) → n + 1 ≡ m → o ≡ Ok tt → ran s p (shallows others) n x' ≡ ran s p (shallows others) m x
    goes_further n one fine =
        sym (ran_turned n (omega (arith, one)) ∙ ap (λ z. continued (turned x' z) (λ y. ran s p (shallows others) n y)) fine)

    -- a fault is where it stops
    pub stops_there : (f : Fault) → o ≡ Err f → 0 < m → report x' (Err f) ≡ ran s p (shallows others) m x
    stops_there f met some =
        sym (ran_turned (m - 1) (omega (arith, some)) ∙ ap (λ z. continued (turned x' z) (λ y. ran s p (shallows others) (m - 1) y)) met)
