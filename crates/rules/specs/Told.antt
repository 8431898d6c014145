-- A rule's answers as plain numbers.
--     fields pair id span payload     a row that is told field by field
--     image_told r                what a rule answered of a row
use Rattle.std.specs.Prelude.{ℕ, Some, None, Ok, Err, Option, Result}
use Rattle.refusals.specs.declared.refusal.Refusal.{Refusal}
use Rattle.rows.specs.declared.span.Span.{Span}
use Rattle.rows.specs.Kinds.{Pair}
use Rattle.rows.specs.Rows.{Plain}
use Rattle.rewriting.specs.Rules.{Image, refuses, nothing, to}

abbrev pub fields : {P : Type 0} → (P → Pair) → ℕ → Span → P → Plain
fields pair id span payload = record { id = id; start = span.start; end = span.end; key = (pair payload).key; value = (pair payload).value }

abbrev pub span_image : Option Span → Image
span_image None = nothing
span_image (Some s) = to s.start s.end

abbrev pub image_told : Result (Option Span) Refusal → Image
image_told (Ok o) = span_image o
image_told (Err why) = refuses why
