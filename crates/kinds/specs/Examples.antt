-- Worked examples of the rules.
--     Examples        all of them: weights, readings, ranges, sync times, retractions and spans
use Rattle.std.specs.Prelude.{◌≡◌, ℕ, true, false, Some, None, Ok, Err}
use Rattle.refusals.specs.declared.refusal.Refusal.TheVariants.{BadPayload, BadTime}
use Rattle.rows.specs.Events.{sync, insert, retraction, cti}
use Rattle.rows.specs.Kinds.{in_range, pair_made}
use Rattle.rows.specs.Rows.{Plain}
use Rattle.rows.specs.Spans.{span_made, span_left}
use Rattle.rows.specs.Times.{lawful, retractable, whole, forever}
use Rattle.weights.specs.Grams.{grams, grams_told}
use Rattle.kinds.specs.Kinds.{tallies, readings}

-- a row of locker 12, a tally of 3
abbrev row : ℕ → ℕ → Plain
row start end = record { id = 7; start = start; end = end; key = 12; value = 3 }

pub record Weights : Type 0 where
  pub none : grams 0 ≡ 0
  pub one : grams 1 ≡ 12
  pub steep_from : grams 1536 ≡ 18432
  pub steep : grams 1537 ≡ 18445
  pub steep_to : grams 3071 ≡ 38387
  pub flat_from : grams 3072 ≡ 38400
  pub flat : grams 3073 ≡ 38412
  pub before_last : grams 4094 ≡ 50664
  pub last_count : grams 4095 ≡ 50676
  pub last_told : grams_told 4095 ≡ Some 50676
  pub past_told : grams_told 4096 ≡ None

pub record Measures : Type 0 where
  pub tally_least : tallies.least 12 99 ≡ 99
  pub tally_most : tallies.most 12 99 ≡ 99
  pub reading_least : readings.least 12 1000 ≡ 12000
  pub reading_most : readings.most 12 1000 ≡ 12000
  pub exact_most : readings.most 12 4094 ≡ 50664
  pub clipped_least : readings.least 12 4095 ≡ 50676
  pub clipped_most : readings.most 12 4095 ≡ 4294967295

pub record Ranges : Type 0 where
  pub tally_top : in_range tallies 0 99 ≡ true
  pub tally_past : in_range tallies 0 100 ≡ false
  pub reading_top : in_range readings 0 4095 ≡ true
  pub reading_past : in_range readings 0 4096 ≡ false
  pub key_top : in_range tallies 9999 0 ≡ true
  pub key_past : in_range tallies 10000 0 ≡ false
  pub made : pair_made tallies 9999 99 ≡ Ok (record { key = 9999; value = 99 })
  pub refused : pair_made tallies 10000 99 ≡ Err BadPayload

pub record Syncs : Type 0 where
  pub inserted : sync (insert (row 10 50)) ≡ 10
  pub retracted_later : sync (retraction (row 10 50) 80) ≡ 50
  pub retracted_earlier : sync (retraction (row 10 50) 20) ≡ 20
  pub retracted_away : sync (retraction (row 10 50) 10) ≡ 10
  pub retracted_to_forever : sync (retraction (row 10 50) forever) ≡ 50
  pub time : sync (cti 30) ≡ 30

pub record Retractions : Type 0 where
  pub forever_to_finite : retractable 10 forever 50 ≡ true
  pub finite_to_forever : retractable 10 50 forever ≡ true
  pub to_last : retractable 10 50 4000000000 ≡ true
  pub past_last : retractable 10 50 4000000001 ≡ false
  pub same_end : retractable 10 50 50 ≡ false
  pub same_forever : retractable 10 forever forever ≡ false
  pub below_start : retractable 10 50 9 ≡ false
  pub to_start : retractable 10 50 10 ≡ true
  pub takes_whole : whole 10 10 ≡ true
  pub leaves_some : whole 10 11 ≡ false
  pub left_nothing : span_left 10 50 10 ≡ Ok None
  pub left_span : span_left 10 50 11 ≡ Ok (Some (record { start = 10; end = 11 }))
  pub left_refused : span_left 10 50 50 ≡ Err BadTime

pub record LawfulSpans : Type 0 where
  pub shortest : lawful 0 1 ≡ true
  pub empty : lawful 5 5 ≡ false
  pub backward : lawful 6 5 ≡ false
  pub last_start : lawful 4000000000 forever ≡ true
  pub no_finite_end_left : lawful 4000000000 4000000000 ≡ false
  pub start_past_last : lawful 4000000001 forever ≡ false
  pub start_forever : lawful forever forever ≡ false
  pub last_end : lawful 0 4000000000 ≡ true
  pub end_past_last : lawful 0 4000000001 ≡ false
  pub made : span_made 0 1 ≡ Ok (record { start = 0; end = 1 })
  pub refused : span_made 5 5 ≡ Err BadTime

pub record Examples : Type 0 where
  pub weights : Weights
  pub measures : Measures
  pub ranges : Ranges
  pub syncs : Syncs
  pub retractions : Retractions
  pub spans : LawfulSpans
