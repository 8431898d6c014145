-- One closing of a run: what it wrote is what the model writes, and it is refused for what the model refuses.
use Rattle.std.proofs.Common.{◌≡◌, ℕ, zero, suc, ◌+◌, ◌-◌, ◌<◌, ◌≤◌, Bool, true, false, cond, leb, List, [], ◌∷◌, ◌++◌, length, take, drop, set, Some, None, Option, Ok, Err, Result, sym, refl, ap, ◌∙◌, arith, length-append, take-add}
use Rattle.std.proofs.lemmas.List.{take_more_set, length-take-le}
use Rattle.std.proofs.lemmas.Bool.{cond-true, cond-false, le-leb, lt-leb, leb-true, leb-false}
use Rattle.refusals.specs.declared.fault.Fault.{Fault}
use Rattle.refusals.specs.declared.refusal.Refusal.{Refusal}
use Rattle.refusals.specs.declared.refusal.Refusal.TheVariants.{LinesFull}
use Rattle.refusals.specs.Faults.{bare_fault}
use Rattle.receipts.specs.declared.line.Line.{Line}
use Rattle.receipts.specs.declared.window.Window.{Window}
use Rattle.receipts.specs.Histories.{Entry}
use Rattle.receipts.specs.Queries.{Setup, QueryState, may_close, closing_lines, closing_window, closed_once, closed, refused, Called, keeps, closing, called}
use Rattle.receipts.specs.Sides.{Both}
use Rattle.query.specs.Answers.{answers}
use Rattle.run_laws.specs.Runs.{Places, RunState, goes_on, stops, closed_in, closings}
use Rattle.run.specs.States.{places, standing}
use Rattle.run.specs.Closings.{closing_told_from}

-- what a closing was refused for
abbrev pub refusal_of : Result Window Fault → Option Refusal
refusal_of (Ok w) = None
refusal_of (Err f) = Some f.refusal

-- What an answer says of a closing that is allowed, by whether there is room for its lines.
closed_by : (room : Bool) (s : Setup) (q q' : QueryState) (v : Window) (xs : List Line) →
    answers (closed v xs) q' ≡ cond room (answers (closed (closing_window s q) (closing_lines s q)) (closed_once s q)) (keeps q (refused (bare_fault LinesFull))) →
    (room ≡ true) × (v ≡ closing_window s q) × (xs ≡ closing_lines s q) × (q' ≡ closed_once s q)
closed_by true s q q' v xs e =
    let told : closed v xs ≡ closed (closing_window s q) (closing_lines s q) = ap (λ (o : Called). o.answer) e in
    (refl, cc, cc, ap (λ (o : Called). o.after) e)
closed_by false s q q' v xs e =
    let told : closed v xs ≡ refused (bare_fault LinesFull) = ap (λ (o : Called). o.answer) e in
    (cc, cc, cc, cc)

refused_by : (room : Bool) (s : Setup) (q q' : QueryState) (f : Fault) →
    answers (refused f) q' ≡ cond room (answers (closed (closing_window s q) (closing_lines s q)) (closed_once s q)) (keeps q (refused (bare_fault LinesFull))) →
    (room ≡ false) × (f ≡ bare_fault LinesFull) × (q' ≡ q)
refused_by true s q q' f e =
    let told : refused f ≡ closed (closing_window s q) (closing_lines s q) = ap (λ (o : Called). o.answer) e in
    (cc, cc, cc)
refused_by false s q q' f e =
    let told : refused f ≡ refused (bare_fault LinesFull) = ap (λ (o : Called). o.answer) e in
    (refl, cc, ap (λ (o : Called). o.after) e)

module _ (s : Setup) (q : QueryState) (ls : List Line) (ws : List Window) (n m : ℕ) (may : may_close s q ≡ true) (within : n ≤ length ls) where
  abbrev sought : List Line
  sought = closing_lines s q

  abbrev room : Bool
  room = leb (length sought) (length ls - n)

  all_lines : length (take n ls ++ sought) ≡ n + length sought
  all_lines = length-append (take n ls) sought ∙ ap (λ k. k + length sought) (length-take-le n ls within)

  module _ (q' : QueryState) (ls' : List Line) (earlier : take n ls' ≡ take n ls) where
    module _ (v : Window) (told : answers (closed v (take v.lines (drop n ls'))) q' ≡ called s q (closing (length ls - n))) where
      parts : (room ≡ true) × (v ≡ closing_window s q) × (take v.lines (drop n ls') ≡ sought) × (q' ≡ closed_once s q)
      parts = closed_by room s q q' v (take v.lines (drop n ls')) (told ∙ cond-true (may_close s q) _ _ may)

      line_count : v.lines ≡ length sought
      line_count = ap (λ (w : Window). w.lines) parts.1

      lines_within : n + v.lines ≤ length ls
      lines_within = omega (arith, line_count, leb-true (length sought) (length ls - n) parts.0)

      lines_follow : take (n + v.lines) ls' ≡ take n ls ++ sought
      lines_follow = take-add n v.lines ls' ∙ (λ i. earlier i ++ parts.2 i)

      module _ (free : m < length ws) (rest : Both (List Entry)) (over : Both Bool) (blame : Refusal → Fault) where
        windows_follow : take (m + 1) (set ws m v) ≡ take m ws ++ (closing_window s q ∷ [])
        windows_follow = take_more_set ws m v free ∙ ap (λ w. take m ws ++ (w ∷ [])) parts.1

        abbrev before : RunState
        before = standing q rest over ls ws (record { lines = n; windows = m })

        follows : standing q' rest over ls' (set ws m v) (record { lines = n + v.lines; windows = m + 1 }) ≡ closed_in s before
        follows = λ i. record { query = parts.3 i; rest = rest; over = over; lines = lines_follow i; windows = windows_follow i }

        one_more : length ws - m ≡ suc (length ws - (m + 1))
        one_more = omega (arith, free)

        pub closes_on : closings s (places ls ws) blame (length ws - (m + 1)) (standing q' rest over ls' (set ws m v) (record { lines = n + v.lines; windows = m + 1 }))
            ≡ closings s (places ls ws) blame (length ws - m) before
        closes_on =
            ap (closings s (places ls ws) blame (length ws - (m + 1))) follows
            ∙ sym (ap (λ k. closings s (places ls ws) blame k before) one_more
            ∙ cond-true (may_close s q) _ _ may
            ∙ cond-true _ _ _ (le-leb (length (take n ls ++ sought)) (length ls) (omega (arith, all_lines, line_count, lines_within))))

    module _ (f : Fault) (told : answers (refused f) q' ≡ called s q (closing (length ls - n))) (free : m < length ws)
        (rest : Both (List Entry)) (over : Both Bool) (blame : Refusal → Fault) where
      why : (room ≡ false) × (f ≡ bare_fault LinesFull) × (q' ≡ q)
      why = refused_by room s q q' f (told ∙ cond-true (may_close s q) _ _ may)

      told_full : stops (standing q' rest over ls' ws (record { lines = n; windows = m })) (blame f.refusal)
          ≡ closings s (places ls ws) blame (length ws - m) (standing q rest over ls ws (record { lines = n; windows = m }))
      told_full =
          let one_more : length ws - m ≡ suc (length ws - (m + 1)) = omega (arith, free) in
          (λ i. stops (record { query = why.2 i; rest = rest; over = over; lines = earlier i; windows = take m ws }) (blame (why.1 i).refusal))
          ∙ sym (ap (λ k. closings s (places ls ws) blame k (standing q rest over ls ws (record { lines = n; windows = m }))) one_more
          ∙ cond-true (may_close s q) _ _ may
          ∙ cond-false _ _ _ (lt-leb (length (take n ls ++ sought)) (length ls) (omega (arith, all_lines, leb-false (length sought) (length ls - n) why.0))))

    pub lines_full : (r : Result Window Fault) (w : Refusal) → refusal_of r ≡ Some w → answers (closing_told_from n r ls') q' ≡ called s q (closing (length ls - n)) →
        m < length ws → (rest : Both (List Entry)) (over : Both Bool) (blame : Refusal → Fault) →
        stops (standing q' rest over ls' ws (record { lines = n; windows = m })) (blame w)
        ≡ closings s (places ls ws) blame (length ws - m) (standing q rest over ls ws (record { lines = n; windows = m }))
    lines_full (Ok v) w is told free rest over blame = cc
    lines_full (Err f) w is told free rest over blame =
        let same : w ≡ f.refusal = cc in
        ap (λ z. stops (standing q' rest over ls' ws (record { lines = n; windows = m })) (blame z)) same ∙ told_full f told free rest over blame

-- where no closing is allowed, there is none
pub closings_none : (s : Setup) (p : Places) (blame : Refusal → Fault) (n : ℕ) (x : RunState) → may_close s x.query ≡ false →
    closings s p blame n x ≡ goes_on x
closings_none s p blame zero x may = cond-false (may_close s x.query) _ _ may
closings_none s p blame (suc n) x may = cond-false (may_close s x.query) _ _ may

-- closings depend on the setup and on how many places there are
pub closings_moved : (s t : Setup) (ls ls' : List Line) (ws ws' : List Window) → s ≡ t → length ls ≡ length ls' → length ws ≡ length ws' →
    (blame : Refusal → Fault) (m : ℕ) (x : RunState) →
    closings s (places ls ws) blame (length ws - m) x ≡ closings t (places ls' ws') blame (length ws' - m) x
closings_moved s t ls ls' ws ws' same lines windows blame m x =
    λ i. closings (same i) (record { lines = lines i; windows = windows i }) blame (windows i - m) x
