-- A turn of the code is the model's turn, by what came of the side's step.
use Rattle.std.proofs.Common.{◌≡◌, ◌+◌, ◌-◌, ◌≤◌, Bool, true, false, ◌&&◌, List, length, take, Ok, Err, Result, sym, refl, ap, ◌∙◌, subst}
use Rattle.std.proofs.lemmas.List.{length-take-le}
use Rattle.refusals.specs.declared.fault.Fault.{Fault}
use Rattle.refusals.specs.declared.fault.Side.{Side}
use Rattle.refusals.specs.Faults.{Ending}
use Rattle.refusals.specs.declared.refusal.Refusal.{Refusal}
use Rattle.receipts.specs.declared.line.Line.{Line}
use Rattle.receipts.specs.declared.window.Window.{Window}
use Rattle.receipts.specs.Histories.{Entry}
use Rattle.receipts.specs.Queries.{Setup, QueryState}
use Rattle.receipts.specs.Sides.{Both, pick, put}
use Rattle.rewriting.specs.Streams.{Stream}
use Rattle.run_laws.specs.Runs.{RunState, Report, goes_on, closings, run_fault, take_from, next_side, turn, continued}
use Rattle.run_laws.proofs.TurnsLeft.{turns_left, next_unended}
use Rattle.sources.specs.Taking.{rest_of}
use Rattle.run.specs.declared.closing.Written.{Written}
use Rattle.run.specs.declared.feeding.Place.{Place}
use Rattle.run.specs.declared.feeding.Step.{Step}
use Rattle.run.specs.declared.feeding.Step.TheVariants as step
use Rattle.run.specs.States.{places, standing}
use Rattle.run.specs.Closings.{all_closed_turn}
use Rattle.run.specs.Steps.{fed, stepped}
use Rattle.run.specs.Turns.{nothing_left, entries_of, shallows, turned}
use Rattle.run.proofs.Feeds.{after_step, pick_entries, entries_after, brings, feeds}
use Rattle.run.proofs.Spent.{ending_spends}

-- the refusal of closings as the fault of a turn
abbrev pub faulted : (Refusal → Fault) → Result (Unit {0}) Refusal → Ending
faulted blame (Ok u) = Ok u
faulted blame (Err why) = Err (blame why)

faulted_turn : (blame : Refusal → Fault) (x : RunState) (r : Result (Unit {0}) Refusal) → turned x (faulted blame r) ≡ all_closed_turn blame x r
faulted_turn blame x (Ok u) = refl
faulted_turn blame x (Err why) = refl

module _ (s : Setup) (q q' : QueryState) (srcs srcs' : Both Stream) (ls : List Line) (ws : List Window) (over : Both Bool) (w : Written) (side : Side)
    (chosen : side ≡ next_side (nothing_left q over)) (after : srcs' ≡ put side (rest_of (pick side srcs)) srcs) where
  abbrev here : RunState
  here = standing q (entries_of srcs) over ls ws w

  abbrev es : List Entry
  es = (pick side (shallows srcs)).entries

  module _ (r : Result Step Fault) (made : fed r q' ≡ stepped s q side (pick side (shallows srcs))) where
    pub step_turn : (go : RunState → Report) →
        continued (after_step s (places ls ws) side (standing q' (entries_of srcs') over ls ws w) r) go ≡ continued (turn s (places ls ws) (shallows srcs) here) go
    step_turn go =
        feeds side srcs srcs' after s q q' r made (places ls ws) over (take w.lines ls) (take w.windows ws) go
        ∙ ap (λ z. continued (take_from s (places ls ws) (shallows srcs) here z (pick z here.rest)) go) chosen

  module _ (made : fed (Ok step.Ended) q' ≡ stepped s q side (pick side (shallows srcs))) (over' : Both Bool) (is : over' ≡ put side true over) where
    pub ended_turn : (go : RunState → Report) →
        continued (goes_on (standing q' (entries_of srcs') over' ls ws w)) go ≡ continued (turn s (places ls ws) (shallows srcs) here) go
    ended_turn go = ap (λ z. go (standing q' (entries_of srcs') z ls ws w)) is ∙ step_turn (Ok step.Ended) made go

    pub ended_spent : (over.left && over.right) ≡ false →
        turns_left (entries_of srcs') over' + 1 ≡ turns_left (entries_of srcs) over
    ended_spent unended =
        let still : pick side over ≡ false =
        subst (λ z. pick z over ≡ false) (sym chosen) (next_unended over.left over.right _ unended) in
        (λ i. turns_left (entries_after side srcs srcs' after i) (is i) + 1)
        ∙ ending_spends (entries_of srcs) over side es (pick_entries side srcs) (brings side srcs srcs' after s q q' (Ok step.Ended) made) still

  module _ (y : Place) (made : fed (Ok (step.Advanced y)) q' ≡ stepped s q side (pick side (shallows srcs))) where
    abbrev blame : Refusal → Fault
    blame = run_fault side y.depth y.number

    module _ (t : Setup) (same : t ≡ s) (x : RunState) (r : Result (Unit {0}) Refusal) (within : w.windows ≤ length ws)
        (closed : all_closed_turn blame x r
        ≡ closings t (places ls ws) blame (length ws - w.windows) (standing q' (entries_of srcs') over ls ws w))
        (m : Ending) (is : m ≡ faulted blame r) where
      pub advanced_turn : (go : RunState → Report) →
          continued (turned x m) go ≡ continued (turn s (places ls ws) (shallows srcs) here) go
      advanced_turn go =
          ap (λ z. continued (turned x z) go) is
          ∙ ap (λ z. continued z go) (faulted_turn blame x r)
          ∙ ap (λ z. continued z go) closed
          ∙ (λ i. continued (closings (same i) (places ls ws) blame (length ws - sym (length-take-le w.windows ws within) i) (standing q' (entries_of srcs') over ls ws w)) go)
          ∙ step_turn (Ok (step.Advanced y)) made go
