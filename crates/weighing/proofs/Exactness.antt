-- An input is weighed as some numbers with no fault just where it is those numbers, one to a line.
use Rattle.std.proofs.Common.{◌≡◌, ℕ, ◌+◌, ◌^◌, ◌<◌, true, leb, List, [], ◌∷◌, ◌++◌, map, length, None, Ok, Err, decimal, Result, sym, refl, ap, ◌∙◌, inl, inr, arith}
use Rattle.std.proofs.lemmas.Bool.{cases_Bool, cond-true, cond-false, and_parts, and_from, leb-true, le-leb}
use Rattle.refusals.specs.declared.refusal.Refusal.{Refusal}
use Rattle.refusals.specs.declared.refusal.Refusal.TheVariants.{TooLong}
use Rattle.decimals.proofs.Exactness.{written_read, read_written}
use Rattle.weighing.specs.declared.weighed.Weighed.{Weighed}
use Rattle.weighing.specs.Lines.{weighed, with_rest, after_number, line_read}
use Rattle.weighing.specs.Inputs.{Outcome, stopped, led, lines_in, lines_from}
use Rattle.weighing.specs.Exact.{written_lines, all_readings, whole, InputExact}
use Rattle.weighing.proofs.Read.{line_parts}
use Rattle.weighing.proofs.Lines.{lines_more, lines_refused}
use Rattle.weighing.proofs.Taking.{reported}

line_written : (m : ℕ) (rest : List ℕ) → leb m 4095 ≡ true → line_read (decimal m ++ (10 ∷ rest)) ≡ Ok (weighed m, rest)
line_written m rest h =
    let low = leb-true m 4095 h in
    let small : m < 2 ^ 32 = omega arith in
    ap after_number (written_read m (10 ∷ rest) (decimal m ++ (10 ∷ rest)) (small, refl, refl)) ∙ ap (with_rest rest) (cond-true _ _ _ h)

lines_written : (ns : List ℕ) (n : ℕ) → all_readings ns ≡ true → lines_from n (written_lines ns) ≡ whole ns
unfolding lines_in lines_from
lines_written [] n h = refl
lines_written (m ∷ ns) n h =
    let p = and_parts _ _ h in
    lines_more n (decimal m ++ (10 ∷ written_lines ns)) (written_lines ns) (weighed m) (line_written m (written_lines ns) p.0)
    ∙ ap (led (weighed m ∷ [])) (lines_written ns (n + 1) p.1)

-- a refused outcome is not whole
never_whole : (r : Refusal) (n : ℕ) (ns : List ℕ) → stopped r n ≡ whole ns → ⊥
never_whole r n ns e = let f = ap (λ (o : Outcome). o.fault) e in cc

abbrev OneToALine : List ℕ → List ℕ → Type 0
OneToALine ns bs = (all_readings ns ≡ true) × (bs ≡ written_lines ns)

no_line : (n : ℕ) (bs : List ℕ) (r : Result (Weighed × List ℕ) Refusal) → line_read bs ≡ r → lines_from n bs ≡ whole [] → OneToALine [] bs
no_line n [] r d e = (refl, refl)
no_line n (b ∷ bs) (Err x) d e = absurd (never_whole x n [] (sym (lines_refused n (b ∷ bs) x (omega arith) d) ∙ e))
no_line n (b ∷ bs) (Ok p) d e =
    let some = ap (λ (o : Outcome). o.weighed) (sym (lines_more n (b ∷ bs) p.1 p.0 d) ∙ e) in
    absurd (cc)

one_more : (m : ℕ) (ms : List ℕ) (o : Outcome) (bs rest : List ℕ) (w : Weighed) → line_read bs ≡ Ok (w, rest)
    → led (w ∷ []) o ≡ whole (m ∷ ms) → (o ≡ whole ms → OneToALine ms rest) → OneToALine (m ∷ ms) bs
one_more m ms o bs rest w e h ih =
    let numbers : w ∷ o.weighed ≡ weighed m ∷ map weighed ms = ap (λ (p : Outcome). p.weighed) h in
    let first : w ≡ weighed m = cc in
    let number : w.number ≡ m = ap (λ (v : Weighed). v.number) first in
    let left : o.weighed ≡ map weighed ms = cc in
    let fault : o.fault ≡ None = ap (λ (p : Outcome). p.fault) h in
    let after : o ≡ whole ms = ap (reported o.fault) left ∙ ap (λ f. reported f (map weighed ms)) fault in
    let behind = ih after in
    let parts = line_parts bs rest w e in
    let written = read_written w.number (10 ∷ rest) bs parts.0 in (
      and_from _ _ (sym (ap (λ k. leb k 4095) number) ∙ parts.1) behind.0,
      written.2 ∙ ap (λ k. decimal k ++ (10 ∷ rest)) number ∙ ap (λ xs. decimal m ++ (10 ∷ xs)) behind.1,
    )

first_line : (m : ℕ) (ms : List ℕ) (n : ℕ) (bs : List ℕ) (r : Result (Weighed × List ℕ) Refusal) → line_read bs ≡ r
    → lines_from n bs ≡ whole (m ∷ ms) → ((rest : List ℕ) → lines_from (n + 1) rest ≡ whole ms → OneToALine ms rest)
    → OneToALine (m ∷ ms) bs
unfolding lines_in lines_from
first_line m ms n [] (Err x) d e ih =
    let none = ap (λ (o : Outcome). o.weighed) e in absurd (cc)
first_line m ms n (b ∷ bs) (Err x) d e ih = absurd (never_whole x n (m ∷ ms) (sym (lines_refused n (b ∷ bs) x (omega arith) d) ∙ e))
first_line m ms n bs (Ok p) d e ih =
    one_more m ms (lines_from (n + 1) p.1) bs p.1 p.0 d (sym (lines_more n bs p.1 p.0 d) ∙ e) (ih p.1)

lines_whole : (ns : List ℕ) (n : ℕ) (bs : List ℕ) → lines_from n bs ≡ whole ns → OneToALine ns bs
lines_whole [] n bs e = no_line n bs (line_read bs) refl e
lines_whole (m ∷ ms) n bs e = first_line m ms n bs (line_read bs) refl e (lines_whole ms (n + 1))

pub input_exact : (bs : List ℕ) → InputExact bs
unfolding InputExact
input_exact bs ns = (
  λ w. cond-true _ _ _ (le-leb _ _ w.2) ∙ ap (lines_from 1) w.1 ∙ lines_written ns 1 w.0,
  λ e. elim (cases_Bool (leb (length bs) 65536)) [
    | inl t ↦ let lines = lines_whole ns 1 bs (sym (cond-true _ _ _ t) ∙ e) in (lines.0, lines.1, leb-true _ _ t)
    | inr t ↦ absurd (never_whole TooLong 1 ns (sym (cond-false _ _ _ t) ∙ e))
  ],
)
