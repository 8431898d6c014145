-- A span as two numbers, and the answers of the calls that make one.
--     Times, times s              a start and an end; those of the span s
--     span_made start end         the span that is asked for, or BadTime where its times are not lawful
--     made_span r                 the answer r of a call that makes a span, its span as two numbers
--     span_left start end e       what a retraction to e leaves of a span: BadTime, nothing, or a span
--     left_span r                 the answer r of such a call, its span as two numbers
use Rattle.std.specs.Prelude.{ℕ, cond, Some, None, Ok, Err, Option, Result}
use Rattle.refusals.specs.declared.refusal.Refusal.{Refusal}
use Rattle.refusals.specs.declared.refusal.Refusal.TheVariants.{BadTime}
use Rattle.rows.specs.declared.span.Span.{Span}
use Rattle.rows.specs.Times.{lawful, retractable, whole}

pub record Times : Type 0 where
  pub start : ℕ
  pub end : ℕ

abbrev pub times : Span → Times
times s = record { start = s.start; end = s.end }

abbrev pub span_made : ℕ → ℕ → Result Times Refusal
span_made start end = cond (lawful start end) (Ok (record { start = start; end = end })) (Err BadTime)

abbrev pub made_span : Result Span Refusal → Result Times Refusal
made_span (Ok s) = Ok (times s)
made_span (Err e) = Err e

abbrev pub span_left : ℕ → ℕ → ℕ → Result (Option Times) Refusal
span_left start end e = cond (retractable start end e) (Ok (cond (whole start e) None (Some (record { start = start; end = e })))) (Err BadTime)

abbrev pub left_times : Option Span → Option Times
left_times None = None
left_times (Some s) = Some (times s)

abbrev pub left_span : Result (Option Span) Refusal → Result (Option Times) Refusal
left_span (Ok o) = Ok (left_times o)
left_span (Err e) = Err e
