-- The text form: a line for each event, with a letter for its kind, a space before each field, and a line feed at its end.
--     byte_read b bs          the byte b at the front of bs; CutOff where bs is empty, BadByte at another byte
--     number_read bs          a space and then a decimal number
--     time_read bs            `*` for FOREVER, or a decimal number
--     end_read bs             a space and then an end
--     closed r                what r reads, and then a line feed
--     text_read bs            the fields of the event that bs begins with: `I` for an insert, `R` for a retraction, `C` for a CTI,
--                             then its fields and a line feed; BadByte at any other first byte, CutOff where there is none
use Rattle.std.specs.Prelude.{ℕ, cond, List, [], ◌∷◌, Ok, Err, ◌==◌}
use Rattle.decimals.specs.Decimals.{decimal_read}
use Rattle.refusals.specs.declared.refusal.Refusal.TheVariants.{CutOff, BadByte}
use Rattle.files.specs.declared.fields.EndField.{EndField}
use Rattle.files.specs.declared.fields.EndField.TheVariants.{At, Forever}
use Rattle.files.specs.declared.fields.Fields.{Fields}
use Rattle.refusals.specs.Parts.{Part}
use Rattle.files.specs.Orders.{bind, insert_by, retraction_by, cti_by, by_kind}

abbrev pub byte_read : ℕ → List ℕ → Part (Unit {0})
byte_read b [] = Err CutOff
byte_read b (x ∷ xs) = cond (x == b) (Ok (tt, xs)) (Err BadByte)

abbrev pub number_read : List ℕ → Part ℕ
number_read bs = bind (byte_read 32 bs) (λ _ rest. decimal_read rest)

abbrev pub time_read : List ℕ → Part EndField
time_read [] = Err CutOff
time_read (b ∷ bs) = cond (b == 42) (Ok (Forever, bs)) (bind (decimal_read (b ∷ bs)) (λ n rest. Ok (At n, rest)))

abbrev pub end_read : List ℕ → Part EndField
end_read bs = bind (byte_read 32 bs) (λ _ rest. time_read rest)

abbrev pub closed : Part Fields → Part Fields
closed r = bind r (λ f rest. bind (byte_read 10 rest) (λ _ more. Ok (f, more)))

abbrev pub text_read : List ℕ → Part Fields
text_read bs =
    by_kind (λ xs. closed (insert_by number_read end_read xs)) (λ xs. closed (retraction_by number_read end_read xs)) (λ xs. closed (cti_by number_read xs))
    73 82 67 bs
