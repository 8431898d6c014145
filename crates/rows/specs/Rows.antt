-- Rows as plain numbers.
--     Plain                       a row as five numbers: id, start, end, key, value
--     plain r                     the plain row r of the code, as numbers
--     plain_of pair r             the row r of the code, with its payload as key and value, as numbers
--     same x y                    x and y are equal in all five numbers
--     standing r                  the times of r are lawful
--     with_end e r                r with the end e
--     in_kind k r                 the key and value of r are in the range of the kind k
--     row_made k r                r with its payload made back, or BadPayload where it is out of range
--     made_row pair r             the answer r of a call that makes a payload back, its row as numbers
use Rattle.std.specs.Prelude.{ℕ, Bool, cond, ◌&&◌, Ok, Err, Result, ◌==◌}
use Rattle.refusals.specs.declared.refusal.Refusal.{Refusal}
use Rattle.refusals.specs.declared.refusal.Refusal.TheVariants.{BadPayload}
use Rattle.rows.specs.declared.row.PlainRow.{PlainRow}
use Rattle.rows.specs.declared.row.Row.{Row}
use Rattle.rows.specs.Kinds.{Kind, Pair, in_range}
use Rattle.rows.specs.Times.{lawful}

pub record Plain : Type 0 where
  pub id : ℕ
  pub start : ℕ
  pub end : ℕ
  pub key : ℕ
  pub value : ℕ

abbrev pub plain : PlainRow → Plain
plain r = record { id = r.id; start = r.span.start; end = r.span.end; key = r.key; value = r.value }

abbrev pub plain_of : {P : Type 0} → (P → Pair) → Row P → Plain
plain_of pair r = record { id = r.id; start = r.span.start; end = r.span.end; key = (pair r.payload).key; value = (pair r.payload).value }

abbrev pub same : Plain → Plain → Bool
same x y = x.id == y.id && (x.start == y.start && (x.end == y.end && (x.key == y.key && x.value == y.value)))

abbrev pub standing : Plain → Bool
standing r = lawful r.start r.end

abbrev pub with_end : ℕ → Plain → Plain
with_end e r = record { id = r.id; start = r.start; end = e; key = r.key; value = r.value }

abbrev pub in_kind : Kind → Plain → Bool
in_kind k r = in_range k r.key r.value

abbrev pub row_made : Kind → Plain → Result Plain Refusal
row_made k r = cond (in_kind k r) (Ok r) (Err BadPayload)

abbrev pub made_row : {P : Type 0} → (P → Pair) → Result (Row P) Refusal → Result Plain Refusal
made_row pair (Ok r) = Ok (plain_of pair r)
made_row pair (Err e) = Err e
