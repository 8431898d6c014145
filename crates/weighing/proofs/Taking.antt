-- Weighed numbers, with the outcome of what is left, come to the outcome o of the whole.
use Rattle.std.proofs.Common.{◌≡◌, ℕ, ◌+◌, ◌<◌, List, [], ◌∷◌, ◌++◌, length, Some, None, Ok, Err, Option, sym, ap, ◌∙◌}
use Rattle.std.proofs.lemmas.List.{append_assoc, append-nil, length-append}
use Rattle.refusals.specs.declared.fault.Fault.{Fault}
use Rattle.refusals.specs.declared.refusal.Refusal.{Refusal}
use Rattle.refusals.specs.Faults.{event_fault}
use Rattle.weighing.specs.declared.weighed.Weighed.{Weighed}
use Rattle.weighing.specs.Lines.{line_read}
use Rattle.weighing.specs.Inputs.{Outcome, led, lines_from}
use Rattle.weighing.proofs.Lines.{lines_more, lines_refused, lines_none}

abbrev pub reported : Option Fault → List Weighed → Outcome
reported f ws = record { weighed = ws; fault = f }

pub one_taken : (ws more : List Weighed) (bs rest : List ℕ) (w : Weighed) (o : Outcome) → led ws (lines_from (length ws + 1) bs) ≡ o
    → line_read bs ≡ Ok (w, rest) → more ≡ ws ++ w ∷ [] → led more (lines_from (length more + 1) rest) ≡ o
one_taken ws more bs rest w o h e m =
    let after = lines_from (length ws + 1 + 1) rest in
    ap (λ n. led more (lines_from (n + 1) rest)) (ap length m ∙ length-append ws (w ∷ []))
    ∙ ap (λ vs. led vs after) m ∙ ap (reported after.fault) (append_assoc ws (w ∷ []) after.weighed)
    ∙ sym (ap (led ws) (lines_more (length ws + 1) bs rest w e)) ∙ h

pub one_refused : (ws : List Weighed) (bs : List ℕ) (r : Refusal) (f : Fault) (o : Outcome) → led ws (lines_from (length ws + 1) bs) ≡ o
    → 0 < length bs → line_read bs ≡ Err r → f ≡ event_fault r 0 (length ws + 1) → reported (Some f) ws ≡ o
one_refused ws bs r f o h some e m =
    ap (λ g. reported (Some g) ws) m ∙ sym (ap (reported (Some (event_fault r 0 (length ws + 1)))) (append-nil ws))
    ∙ sym (ap (led ws) (lines_refused (length ws + 1) bs r some e)) ∙ h

pub all_taken : (ws : List Weighed) (bs : List ℕ) (o : Outcome) → led ws (lines_from (length ws + 1) bs) ≡ o
    → length bs < 1 → reported None ws ≡ o
all_taken ws bs o h none = sym (ap (reported None) (append-nil ws)) ∙ sym (ap (led ws) (lines_none (length ws + 1) bs none)) ∙ h
