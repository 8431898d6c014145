-- Worked examples of the query's rules.
use Rattle.std.specs.Prelude.{◌≡◌, ℕ, List, [], ◌∷◌}
use Rattle.refusals.specs.declared.fault.Side.TheVariants.{Left, Right}
use Rattle.refusals.specs.declared.refusal.Refusal.TheVariants.{CtiViolated, NotYet}
use Rattle.refusals.specs.Faults.{bare_fault, on_side, at_cti}
use Rattle.rows.specs.Kinds.{Kind}
use Rattle.rows.specs.Rows.{Plain}
use Rattle.rows.specs.Events.{insert, retraction, cti}
use Rattle.receipts.specs.declared.window.Window.{Window}
use Rattle.receipts.specs.Lists.{each}
use Rattle.receipts.specs.Sides.{twice}
use Rattle.receipts.specs.Queries.{Setup, new_query, Call, event, closing, Answer, accepted, closed, refused}
use Rattle.receipts.specs.Transcripts.{transcript}

-- pieces: least and most are the value
abbrev pub pieces : Kind
pieces = record { top = 99; least = λ key value. value; most = λ key value. value }

abbrev pub setup : Setup
setup = record { width = 100; capacity = twice 3; kinds = twice pieces }

abbrev pub row : ℕ → ℕ → ℕ → ℕ → ℕ → Plain
row id start end key value = record { id = id; start = start; end = end; key = key; value = value }

abbrev pub answers : List Call → List Answer
answers cs = each (λ t. t.1) (transcript setup new_query cs)

abbrev pub window : ℕ → ℕ → ℕ → ℕ → ℕ → ℕ → Window
window start end count lines left right = record { start = start; end = end; count = count; lines = lines; purged_left = left; purged_right = right }

-- At CTI 100 a row that ends at 100 may be moved to 120, and one that ends at 99 may not.
abbrev pub CtiEdge : Type 0
CtiEdge =
    (answers (event Left (insert (row 1 10 100 7 2)) ∷ event Left (cti 100) ∷ event Left (retraction (row 1 10 100 7 2) 120) ∷ [])
    ≡ accepted ∷ accepted ∷ accepted ∷ [])
    × (answers (event Left (insert (row 1 10 99 7 2)) ∷ event Left (cti 100) ∷ event Left (retraction (row 1 10 99 7 2) 120) ∷ [])
    ≡ accepted ∷ accepted ∷ refused (on_side Left (at_cti 100 (bare_fault CtiViolated))) ∷ [])

-- At width 100, CTIs 99 and 300 do not let a window close, and 100 and 300 do.
abbrev pub ClosingEdge : Type 0
ClosingEdge =
    (answers (event Left (cti 99) ∷ event Right (cti 300) ∷ closing 0 ∷ []) ≡ accepted ∷ accepted ∷ refused (bare_fault NotYet) ∷ [])
    × (answers (event Left (cti 100) ∷ event Right (cti 300) ∷ closing 0 ∷ []) ≡ accepted ∷ accepted ∷ closed (window 0 100 0 0 0 0) [] ∷ [])

-- An id may be used again once its row is purged; a row that ends at the closed time stays, and may still be moved.
abbrev pub IdAgain : Type 0
IdAgain =
    answers (event Left (insert (row 1 10 60 7 2)) ∷ event Right (insert (row 1 20 100 7 5)) ∷ event Left (cti 100) ∷ event Right (cti 100)
    ∷ closing 9 ∷ event Left (insert (row 1 110 120 7 3)) ∷ event Right (retraction (row 1 20 100 7 5) 130) ∷ [])
    ≡ accepted ∷ accepted ∷ accepted ∷ accepted
    ∷ closed (window 0 100 1 1 1 0)
    (record {
      left_id = 1;
      right_id = 1;
      start = 20;
      end = 60;
      key = 7;
      left_least = 2;
      left_most = 2;
      right_least = 5;
      right_most = 5;
    } ∷ [])
    ∷ accepted ∷ accepted ∷ []

abbrev pub Examples : Type 0
Examples = CtiEdge × ClosingEdge × IdAgain
