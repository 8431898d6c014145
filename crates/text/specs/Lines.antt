-- A line cut into its fields.
--     parts b                 b is a space or a line feed
--     front bs, back bs       the bytes before the first space or line feed; those from it on
--     field_at bs, past bs    the field after the first byte of bs; the bytes after that field
--     tail bs                 the bytes after the first
--     Line                    a line's kind and its fields
--     line_of l, line_as r    the line l of the code, and the answer r of the lexer, with the bytes that their references point to
--     line_cut bs             the line that bs begins with, and the bytes after its line feed
--     number_in f, end_in f   the number and the end that a field is
--     fields_in l             the fields of the event that the line l is
use Rattle.std.specs.Prelude.{ℕ, Bool, false, cond, ◌||◌, List, [], ◌∷◌, ◌==◌}
use Rattle.std.specs.Borrow.{Bor}
use Rattle.decimals.specs.Decimals.{taken}
use Rattle.files.specs.declared.fields.EndField.{EndField}
use Rattle.files.specs.declared.fields.EndField.TheVariants.{At, Forever}
use Rattle.files.specs.declared.fields.Fields.{Fields}
use Rattle.files.specs.declared.fields.Fields.TheVariants as fields
use Rattle.files.specs.Orders.{row_from}
use Rattle.text.specs.declared.lexer.TextLine.{TextLine}
use Rattle.text.specs.declared.lexer.TextLine.TheVariants.{Insert, Retraction, Cti}

abbrev pub parts : ℕ → Bool
parts b = b == 32 || b == 10

abbrev pub front : List ℕ → List ℕ
front [] = []
front (b ∷ bs) = cond (parts b) [] (b ∷ front bs)

abbrev pub back : List ℕ → List ℕ
back [] = []
back (b ∷ bs) = cond (parts b) (b ∷ bs) (back bs)

abbrev pub field_at : List ℕ → List ℕ
field_at [] = []
field_at (b ∷ bs) = front bs

abbrev pub past : List ℕ → List ℕ
past [] = []
past (b ∷ bs) = back bs

abbrev pub tail : List ℕ → List ℕ
tail [] = []
tail (b ∷ bs) = bs

pub data Line : Type 0 where
  insert : List ℕ → List ℕ → List ℕ → List ℕ → List ℕ → Line
  retraction : List ℕ → List ℕ → List ℕ → List ℕ → List ℕ → List ℕ → Line
  cti : List ℕ → Line

abbrev pub line_of : TextLine → Line
line_of (Insert id start end key value) = insert id.now start.now end.now key.now value.now
line_of (Retraction id start end new key value) = retraction id.now start.now end.now new.now key.now value.now
line_of (Cti time) = cti time.now

abbrev pub line_as : TextLine × Bor (List ℕ) → Line × List ℕ
line_as p = (line_of p.0, p.1.now)

abbrev pub insert_cut : List ℕ → Line × List ℕ
insert_cut bs = (
  insert (field_at bs) (field_at (past bs)) (field_at (past (past bs))) (field_at (past (past (past bs)))) (field_at (past (past (past (past bs))))),
  tail (past (past (past (past (past bs))))),
)

abbrev pub retraction_cut : List ℕ → Line × List ℕ
retraction_cut bs = (
  retraction (field_at bs) (field_at (past bs)) (field_at (past (past bs))) (field_at (past (past (past bs)))) (field_at (past (past (past (past bs)))))
      (field_at (past (past (past (past (past bs)))))),
  tail (past (past (past (past (past (past bs)))))),
)

abbrev pub line_cut : List ℕ → Line × List ℕ
line_cut [] = (cti [], [])
line_cut (b ∷ bs) =
    cond (b == 73) (insert_cut bs)
    (cond (b == 82) (retraction_cut bs)
    (cond (b == 67) (cti (field_at bs), tail (past bs)) (cti [], b ∷ bs)))

abbrev pub number_in : List ℕ → ℕ
number_in f = (taken 0 f).0

abbrev pub star_first : List ℕ → Bool
star_first [] = false
star_first (b ∷ bs) = b == 42

abbrev pub end_in : List ℕ → EndField
end_in f = cond (star_first f) Forever (At (number_in f))

abbrev pub fields_in : Line → Fields
fields_in (insert id start end key value) =
    fields.Insert (row_from (number_in id, number_in start, end_in end) (number_in key, number_in value))
fields_in (retraction id start end new key value) =
    fields.Retraction (row_from (number_in id, number_in start, end_in end) (number_in key, number_in value)) (end_in new)
fields_in (cti time) = fields.Cti (number_in time)
