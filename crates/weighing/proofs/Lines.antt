-- The lines of some bytes, one at a time.
use Rattle.std.proofs.Common.{◌≡◌, ℕ, zero, suc, ◌+◌, ◌<◌, ◌≤◌, List, [], ◌∷◌, length, None, Ok, Err, Result, refl, ap, ◌∙◌, arith}
use Rattle.refusals.specs.declared.refusal.Refusal.{Refusal}
use Rattle.weighing.specs.declared.weighed.Weighed.{Weighed}
use Rattle.weighing.specs.Lines.{line_read}
use Rattle.weighing.specs.Inputs.{Outcome, stopped, led, after_line, lines_in, lines_from}
use Rattle.weighing.proofs.Read.{line_shorter}

after_same : (n : ℕ) (bs : List ℕ) (go on : List ℕ → Outcome) → ((rest : List ℕ) → length rest < length bs → go rest ≡ on rest)
    → (r : Result (Weighed × List ℕ) Refusal) → line_read bs ≡ r → after_line n r go ≡ after_line n r on
after_same n bs go on same (Ok p) e = ap (led (p.0 ∷ [])) (same p.1 (line_shorter bs p.1 p.0 e))
after_same n bs go on same (Err x) e = refl

-- fuel for as many lines as there are bytes suffices
lines_enough : (f g n : ℕ) (bs : List ℕ) → length bs ≤ f → length bs ≤ g → lines_in f n bs ≡ lines_in g n bs
unfolding lines_in
lines_enough f g n [] h k = refl
lines_enough zero g n (b ∷ bs) h k = absurd (omega arith)
lines_enough (suc f) zero n (b ∷ bs) h k = absurd (omega arith)
lines_enough (suc f) (suc g) n (b ∷ bs) h k =
    after_same n (b ∷ bs) (lines_in f (n + 1)) (lines_in g (n + 1))
    (λ rest l. lines_enough f g (n + 1) rest (omega arith) (omega arith)) (line_read (b ∷ bs)) refl

pub lines_more : (n : ℕ) (bs rest : List ℕ) (w : Weighed) → line_read bs ≡ Ok (w, rest)
    → lines_from n bs ≡ led (w ∷ []) (lines_from (n + 1) rest)
unfolding lines_in lines_from
lines_more n [] rest w e = absurd (let s = line_shorter [] rest w e in omega arith)
lines_more n (b ∷ bs) rest w e =
    let s = line_shorter (b ∷ bs) rest w e in
    ap (λ r. after_line n r (lines_in (length bs) (n + 1))) e
    ∙ ap (led (w ∷ [])) (lines_enough (length bs) (length rest) (n + 1) rest (omega arith) (omega arith))

pub lines_refused : (n : ℕ) (bs : List ℕ) (r : Refusal) → 0 < length bs → line_read bs ≡ Err r → lines_from n bs ≡ stopped r n
unfolding lines_in lines_from
lines_refused n [] r h e = absurd (omega arith)
lines_refused n (b ∷ bs) r h e = ap (λ x. after_line n x (lines_in (length bs) (n + 1))) e

pub lines_none : (n : ℕ) (bs : List ℕ) → length bs < 1 → lines_from n bs ≡ record { weighed = []; fault = None }
unfolding lines_in lines_from
lines_none n [] h = refl
lines_none n (b ∷ bs) h = absurd (omega arith)
