-- The fields of an event in their order, for any way to read a number and an end.
--     bind r go               go at the part r and the bytes after it, or the refusal
--     head_by number end      id, start and end
--     pair_by number          key and value
--     insert_by number end, retraction_by number end, cti_by number     the fields of each kind of event
--     by_kind insert retraction cti i r c     the byte that tells the kind, i, r or c, and then what that kind is read by; BadByte at
--                             any other byte, CutOff where there is none
use Rattle.std.specs.Prelude.{ℕ, cond, List, [], ◌∷◌, Ok, Err, ◌==◌}
use Rattle.refusals.specs.declared.refusal.Refusal.TheVariants.{CutOff, BadByte}
use Rattle.refusals.specs.Parts.{Part}
use Rattle.files.specs.declared.fields.EndField.{EndField}
use Rattle.files.specs.declared.fields.RowFields.{RowFields}
use Rattle.files.specs.declared.fields.Fields.{Fields}
use Rattle.files.specs.declared.fields.Fields.TheVariants.{Insert, Retraction, Cti}

abbrev pub bind : {A B : Type 0} → Part A → (A → List ℕ → Part B) → Part B
bind (Ok p) go = go p.0 p.1
bind (Err r) go = Err r

abbrev pub Head : Type 0
Head = ℕ × ℕ × EndField

abbrev pub head_by : (List ℕ → Part ℕ) → (List ℕ → Part EndField) → List ℕ → Part Head
head_by number end bs = bind (number bs) (λ id xs. bind (number xs) (λ start ys. bind (end ys) (λ e zs. Ok ((id, start, e), zs))))

abbrev pub pair_by : (List ℕ → Part ℕ) → List ℕ → Part (ℕ × ℕ)
pair_by number bs = bind (number bs) (λ key xs. bind (number xs) (λ value ys. Ok ((key, value), ys)))

abbrev pub row_from : Head → ℕ × ℕ → RowFields
row_from h p = record { id = h.0; start = h.1; end = h.2; key = p.0; value = p.1 }

abbrev pub insert_by : (List ℕ → Part ℕ) → (List ℕ → Part EndField) → List ℕ → Part Fields
insert_by number end bs = bind (head_by number end bs) (λ h xs. bind (pair_by number xs) (λ p ys. Ok (Insert (row_from h p), ys)))

abbrev pub retraction_by : (List ℕ → Part ℕ) → (List ℕ → Part EndField) → List ℕ → Part Fields
retraction_by number end bs =
    bind (head_by number end bs) (λ h xs. bind (end xs) (λ e ys. bind (pair_by number ys) (λ p zs. Ok (Retraction (row_from h p) e, zs))))

abbrev pub cti_by : (List ℕ → Part ℕ) → List ℕ → Part Fields
cti_by number bs = bind (number bs) (λ t xs. Ok (Cti t, xs))

abbrev pub by_kind : (List ℕ → Part Fields) → (List ℕ → Part Fields) → (List ℕ → Part Fields) → ℕ → ℕ → ℕ → List ℕ → Part Fields
by_kind insert retraction cti i r c [] = Err CutOff
by_kind insert retraction cti i r c (b ∷ bs) =
    cond (b == i) (insert bs) (cond (b == r) (retraction bs) (cond (b == c) (cti bs) (Err BadByte)))
