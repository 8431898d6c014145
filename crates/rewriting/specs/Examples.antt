-- Worked examples of row rules, layers and piles.
--     Selecting                   which rows select keeps, at its bounds
--     Shifting                    what shift makes of rows and CTIs, at the last time
--     Lasting                     what set_duration makes of rows and CTIs, at the last time
--     SelectedLayer               a layer by select over a small list
--     LastingLayer                a layer by set_duration
--     ShiftedLayer                a layer by shift, which ends at a refused event
--     Piled                       two rules over one row, in both orders
--     Examples                    all of them
use Rattle.std.specs.Prelude.{◌≡◌, ℕ, ◌*◌, cond, List, [], ◌∷◌, ◌==◌, Ok, Err}
use Rattle.refusals.specs.declared.refusal.Refusal.TheVariants.{OutOfTime}
use Rattle.refusals.specs.Faults.{event_fault, Ending}
use Rattle.rows.specs.Kinds.{Kind}
use Rattle.rows.specs.Rows.{Plain}
use Rattle.rows.specs.Events.{insert, retraction, cti}
use Rattle.rows.specs.Times.{forever}
use Rattle.receipts.specs.Histories.{Entry}
use Rattle.rewriting.specs.Rules.{refuses, nothing, to}
use Rattle.rewriting.specs.RowRules.{select, shift, set_duration}
use Rattle.rewriting.specs.Streams.{Stream}
use Rattle.rewriting.specs.Layers.{layer, pile, rewritten_history}

-- twelve grams a step; a reading of 4095 is clipped, so the weight may be anything from there on
abbrev pub readings : Kind
readings = record { top = 4095; least = λ key value. 12 * value; most = λ key value. cond (value == 4095) 4294967295 (12 * value) }

abbrev pub row : ℕ → ℕ → ℕ → ℕ → ℕ → Plain
row id start end key value = record { id = id; start = start; end = end; key = key; value = value }

abbrev pub spanning : ℕ → ℕ → Plain
spanning start end = row 1 start end 7 2

abbrev pub stream : ℕ → Ending → List Entry → Stream
stream depth ending entries = record { entries = entries; ending = ending; depth = depth }

abbrev pub far_row : Stream
far_row = stream 0 (Ok tt) ((1, insert (spanning 5 3999999995)) ∷ [])

-- a clipped reading passes no finite upper bound; both bounds on keys are in range
abbrev pub Selecting : Type 0
Selecting =
    ((select readings 0 9999 0 4294967294).image (row 1 5 20 7 4095) ≡ nothing)
    × ((select readings 0 9999 0 4294967295).image (row 1 5 20 7 4095) ≡ to 5 20)
    × ((select readings 0 9999 0 49128).image (row 1 5 20 7 4094) ≡ to 5 20)
    × ((select readings 0 9999 0 49127).image (row 1 5 20 7 4094) ≡ nothing)
    × ((select readings 0 9999 1200 4294967295).image (row 1 5 20 7 100) ≡ to 5 20)
    × ((select readings 0 9999 1201 4294967295).image (row 1 5 20 7 100) ≡ nothing)
    × ((select readings 10 20 0 4294967295).image (row 1 5 20 9 100) ≡ nothing)
    × ((select readings 10 20 0 4294967295).image (row 1 5 20 10 100) ≡ to 5 20)
    × ((select readings 10 20 0 4294967295).image (row 1 5 20 20 100) ≡ to 5 20)
    × ((select readings 10 20 0 4294967295).image (row 1 5 20 21 100) ≡ nothing)

-- FOREVER stays; 4,000,000,000 is the last time that start, end and CTI may come to
abbrev pub Shifting : Type 0
Shifting =
    ((shift 10).image (spanning 5 20) ≡ to 15 30)
    × ((shift 10).image (spanning 5 forever) ≡ to 15 forever)
    × ((shift 10).image (spanning 3999999990 forever) ≡ to 4000000000 forever)
    × ((shift 10).image (spanning 3999999991 forever) ≡ refuses OutOfTime)
    × ((shift 10).image (spanning 5 3999999990) ≡ to 15 4000000000)
    × ((shift 10).image (spanning 5 3999999991) ≡ refuses OutOfTime)
    × ((shift 10).advance 3999999990 ≡ Ok 4000000000)
    × ((shift 10).advance 3999999991 ≡ Err OutOfTime)

-- the end that the row had plays no part
abbrev pub Lasting : Type 0
Lasting =
    ((set_duration 30).image (spanning 10 forever) ≡ to 10 40)
    × ((set_duration 30).image (spanning 3999999970 3999999980) ≡ to 3999999970 4000000000)
    × ((set_duration 30).image (spanning 3999999971 3999999980) ≡ refuses OutOfTime)
    × ((set_duration 30).advance 3999999999 ≡ Ok 3999999999)

-- An insert without an image vanishes, and so does a retraction of its row; what is left keeps its number.
abbrev pub SelectedLayer : Type 0
SelectedLayer =
    layer (select readings 0 8999 0 4294967295)
    (stream 0 (Ok tt) ((1, insert (row 1 10 60 9000 2)) ∷ (2, insert (row 2 20 60 7 2)) ∷ (3, retraction (row 1 10 60 9000 2) 55) ∷ (4, cti 25) ∷ []))
    ≡ stream 1 (Ok tt) ((2, insert (row 2 20 60 7 2)) ∷ (4, cti 25) ∷ [])

-- A retraction that leaves the image as it is vanishes; one that takes the row away takes its image away.
abbrev pub LastingLayer : Type 0
LastingLayer =
    layer (set_duration 30)
    (stream 2 (Ok tt) ((1, insert (spanning 10 forever)) ∷ (2, retraction (spanning 10 forever) 90) ∷ (3, retraction (spanning 10 90) 10) ∷ []))
    ≡ stream 3 (Ok tt) ((1, insert (spanning 10 40)) ∷ (3, retraction (spanning 10 40) 10) ∷ [])

-- A retraction moves the image's end; the first refused event ends the list, told at the layer's depth.
abbrev pub ShiftedLayer : Type 0
ShiftedLayer =
    layer (shift 10)
    (stream 4 (Ok tt) ((1, insert (spanning 5 20)) ∷ (2, retraction (spanning 5 20) forever) ∷ (3, cti 3999999991) ∷ (4, cti 3999999992) ∷ []))
    ≡ stream 5 (Err (event_fault OutOfTime 5 3)) ((1, insert (spanning 15 30)) ∷ (2, retraction (spanning 15 30) forever) ∷ [])

-- The lowest rule comes first: a far end is out of time for shift, unless set_duration brought it near.
abbrev pub Piled : Type 0
Piled =
    (pile (set_duration 5 ∷ shift 10 ∷ []) far_row ≡ stream 2 (Ok tt) ((1, insert (spanning 15 20)) ∷ []))
    × (rewritten_history (set_duration 5 ∷ shift 10 ∷ []) far_row ≡ spanning 15 20 ∷ [])
    × (pile (shift 10 ∷ set_duration 5 ∷ []) far_row ≡ stream 2 (Err (event_fault OutOfTime 1 1)) [])
    × (rewritten_history (shift 10 ∷ set_duration 5 ∷ []) far_row ≡ [])

abbrev pub Examples : Type 0
Examples = Selecting × Shifting × Lasting × SelectedLayer × LastingLayer × ShiftedLayer × Piled
