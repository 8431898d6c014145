-- The fields that a line is read as are those that it is cut into. Assumes nothing.
use Rattle.std.proofs.Common.{◌≡◌, ℕ, List, [], ◌∷◌, Some, None, Ok, Err, sym, refl, ap, ◌∙◌, subst, arith}
use Rattle.std.specs.Result.{result_err}
use Rattle.refusals.specs.declared.refusal.Refusal.{Refusal}
use Rattle.files.specs.declared.fields.Fields.{Fields}
use Rattle.files.specs.declared.fields.Fields.TheVariants.{Insert, Retraction, Cti}
use Rattle.refusals.specs.Parts.{Part}
use Rattle.files.specs.Orders.{bind, Head, head_by, pair_by, row_from, insert_by, retraction_by, cti_by}
use Rattle.files.proofs.Binding.{ok_parts, bind_parts}
use Rattle.files.proofs.ByKind.{Kinded, inserted, retracted, timed, kinded}
use Rattle.text.specs.Ending.{byte_first}
use Rattle.text.specs.Text.{byte_read, number_read, end_read, closed, text_read}
use Rattle.text.specs.Lines.{field_at, past, tail, Line, cti, insert_cut, retraction_cut, line_cut, number_in, end_in, fields_in}
use Rattle.text.proofs.FieldCuts.{Parted, number_parted, number_cut, end_parted, end_cut}

pair_cut : (v : ℕ × ℕ) (bs rest : List ℕ) → pair_by number_read bs ≡ Ok (v, rest) → Parted rest →
    (past (past bs) ≡ rest) × (◌≡◌ {A = ℕ × ℕ} (number_in (field_at bs), number_in (field_at (past bs))) v) × Parted bs
pair_cut v bs rest e q =
    let p = bind_parts (number_read bs) (λ key xs. bind (number_read xs) (λ value ys. Ok ((key, value), ys))) v rest e in
    let r = bind_parts (number_read p.1) (λ value ys. Ok ((p.0, value), ys)) v rest p.3 in
    let o = ok_parts (p.0, r.0) v r.1 rest r.3 in
    let a = number_cut p.0 bs p.1 p.2 (number_parted r.0 p.1 r.1 r.2) in
    let b = number_cut r.0 p.1 r.1 r.2 (subst Parted (sym o.1) q) in (
      ap past a.0 ∙ b.0 ∙ o.1,
      ap (λ x. (x, number_in (field_at (past bs)))) a.1 ∙ ap (λ x. (p.0, x)) (ap (λ zs. number_in (field_at zs)) a.0 ∙ b.1) ∙ o.0,
      number_parted p.0 bs p.1 p.2,
    )

head_cut : (h : Head) (bs rest : List ℕ) → head_by number_read end_read bs ≡ Ok (h, rest) → Parted rest →
    (past (past (past bs)) ≡ rest) × (◌≡◌ {A = Head} (number_in (field_at bs), number_in (field_at (past bs)), end_in (field_at (past (past bs)))) h)
head_cut h bs rest e q =
    let p = bind_parts (number_read bs) (λ id xs. bind (number_read xs) (λ start ys. bind (end_read ys) (λ x zs. Ok ((id, start, x), zs)))) h rest e in
    let r = bind_parts (number_read p.1) (λ start ys. bind (end_read ys) (λ x zs. Ok ((p.0, start, x), zs))) h rest p.3 in
    let s = bind_parts (end_read r.1) (λ x zs. Ok ((p.0, r.0, x), zs)) h rest r.3 in
    let o = ok_parts (p.0, r.0, s.0) h s.1 rest s.3 in
    let a = number_cut p.0 bs p.1 p.2 (number_parted r.0 p.1 r.1 r.2) in
    let b = number_cut r.0 p.1 r.1 r.2 (end_parted s.0 r.1 s.1 s.2) in
    let c = end_cut s.0 r.1 s.1 s.2 (subst Parted (sym o.1) q) in
    let second : past (past bs) ≡ r.1 = ap past a.0 ∙ b.0 in (
      ap past second ∙ c.0 ∙ o.1,
      ap (λ x. (x, number_in (field_at (past bs)), end_in (field_at (past (past bs))))) a.1
          ∙ ap (λ x. (p.0, x, end_in (field_at (past (past bs))))) (ap (λ zs. number_in (field_at zs)) a.0 ∙ b.1)
          ∙ ap (λ x. (p.0, r.0, x)) (ap (λ zs. end_in (field_at zs)) second ∙ c.1)
          ∙ o.0,
    )

-- what is closed ends before a line feed
abbrev Closed : Part Fields → Fields → List ℕ → Type 0
Closed r f rest = (mid : List ℕ) × (r ≡ Ok (f, mid)) × (mid ≡ 10 ∷ rest)

closed_parts : (r : Part Fields) (f : Fields) (rest : List ℕ) → closed r ≡ Ok (f, rest) → Closed r f rest
closed_parts r f rest e =
    let p = bind_parts r (λ g xs. bind (byte_read 10 xs) (λ _ more. Ok (g, more))) f rest e in
    let q = bind_parts (byte_read 10 p.1) (λ _ more. Ok (p.0, more)) f rest p.3 in
    let o = ok_parts p.0 f q.1 rest q.3 in
    (p.1, p.2 ∙ ap (λ (g : Fields). Ok (g, p.1)) o.0, byte_first 10 q.0 p.1 q.1 q.2 ∙ ap (λ zs. 10 ∷ zs) o.1)

feed_parted : (mid rest : List ℕ) → mid ≡ 10 ∷ rest → Parted mid
feed_parted mid rest e = (10, rest, e, refl)

insert_separate : (f : Fields) (bs rest : List ℕ) → closed (insert_by number_read end_read bs) ≡ Ok (f, rest) →
    (fields_in (insert_cut bs).0 ≡ f) × ((insert_cut bs).1 ≡ rest)
insert_separate f bs rest e =
    let c = closed_parts (insert_by number_read end_read bs) f rest e in
    let p = bind_parts (head_by number_read end_read bs) (λ h xs. bind (pair_by number_read xs) (λ v ys. Ok (Insert (row_from h v), ys))) f c.0 c.1 in
    let r = bind_parts (pair_by number_read p.1) (λ v ys. Ok (Insert (row_from p.0 v), ys)) f c.0 p.3 in
    let o = ok_parts (Insert (row_from p.0 r.0)) f r.1 c.0 r.3 in
    let last : r.1 ≡ 10 ∷ rest = o.1 ∙ c.2 in
    let b = pair_cut r.0 p.1 r.1 r.2 (feed_parted r.1 rest last) in
    let a = head_cut p.0 bs p.1 p.2 b.2 in
    let v : ◌≡◌ {A = ℕ × ℕ} (number_in (field_at (past (past (past bs)))), number_in (field_at (past (past (past (past bs)))))) r.0 =
    ap (λ zs. (number_in (field_at zs), number_in (field_at (past zs)))) a.0 ∙ b.1 in (
      ap (λ h. Insert (row_from h (number_in (field_at (past (past (past bs)))), number_in (field_at (past (past (past (past bs)))))))) a.1
          ∙ ap (λ w. Insert (row_from p.0 w)) v
          ∙ o.0,
      ap tail (ap (λ zs. past (past zs)) a.0 ∙ b.0 ∙ last),
    )

retraction_separate : (f : Fields) (bs rest : List ℕ) → closed (retraction_by number_read end_read bs) ≡ Ok (f, rest) →
    (fields_in (retraction_cut bs).0 ≡ f) × ((retraction_cut bs).1 ≡ rest)
retraction_separate f bs rest e =
    let c = closed_parts (retraction_by number_read end_read bs) f rest e in
    let p = bind_parts (head_by number_read end_read bs) (λ h xs. bind (end_read xs) (λ x ys. bind (pair_by number_read ys) (λ v zs. Ok (Retraction (row_from h v) x, zs)))) f c.0 c.1 in
    let r = bind_parts (end_read p.1) (λ x ys. bind (pair_by number_read ys) (λ v zs. Ok (Retraction (row_from p.0 v) x, zs))) f c.0 p.3 in
    let s = bind_parts (pair_by number_read r.1) (λ v zs. Ok (Retraction (row_from p.0 v) r.0, zs)) f c.0 r.3 in
    let o = ok_parts (Retraction (row_from p.0 s.0) r.0) f s.1 c.0 s.3 in
    let last : s.1 ≡ 10 ∷ rest = o.1 ∙ c.2 in
    let d = pair_cut s.0 r.1 s.1 s.2 (feed_parted s.1 rest last) in
    let b = end_cut r.0 p.1 r.1 r.2 d.2 in
    let a = head_cut p.0 bs p.1 p.2 (end_parted r.0 p.1 r.1 r.2) in
    let fourth : past (past (past (past bs))) ≡ r.1 = ap past a.0 ∙ b.0 in
    let x : end_in (field_at (past (past (past bs)))) ≡ r.0 = ap (λ zs. end_in (field_at zs)) a.0 ∙ b.1 in
    let v : ◌≡◌ {A = ℕ × ℕ} (number_in (field_at (past (past (past (past bs))))), number_in (field_at (past (past (past (past (past bs))))))) s.0 =
    ap (λ zs. (number_in (field_at zs), number_in (field_at (past zs)))) fourth ∙ d.1 in (
      ap (λ h. Retraction (row_from h (number_in (field_at (past (past (past (past bs))))), number_in (field_at (past (past (past (past (past bs)))))))) (end_in (field_at (past (past (past bs)))))) a.1
          ∙ ap (λ w. Retraction (row_from p.0 w) (end_in (field_at (past (past (past bs)))))) v
          ∙ ap (λ y. Retraction (row_from p.0 s.0) y) x
          ∙ o.0,
      ap tail (ap (λ zs. past (past zs)) fourth ∙ d.0 ∙ last),
    )

cti_separate : (f : Fields) (bs rest : List ℕ) → closed (cti_by number_read bs) ≡ Ok (f, rest) → (Cti (number_in (field_at bs)) ≡ f) × (tail (past bs) ≡ rest)
cti_separate f bs rest e =
    let c = closed_parts (cti_by number_read bs) f rest e in
    let p = bind_parts (number_read bs) (λ t xs. Ok (Cti t, xs)) f c.0 c.1 in
    let o = ok_parts (Cti p.0) f p.1 c.0 p.3 in
    let last : p.1 ≡ 10 ∷ rest = o.1 ∙ c.2 in
    let a = number_cut p.0 bs p.1 p.2 (feed_parted p.1 rest last) in
    (ap (λ t. Cti t) a.1 ∙ o.0, ap tail (a.0 ∙ last))

abbrev Lettered : ℕ → List ℕ → List ℕ → Fields → Type 0
Lettered b bs rest f =
    Kinded (λ xs. closed (insert_by number_read end_read xs)) (λ xs. closed (retraction_by number_read end_read xs)) (λ xs. closed (cti_by number_read xs))
    73 82 67 b bs rest f

lettered_separate : (b : ℕ) (bs rest : List ℕ) (f : Fields) → Lettered b bs rest f → (fields_in (line_cut (b ∷ bs)).0 ≡ f) × ((line_cut (b ∷ bs)).1 ≡ rest)
lettered_separate b bs rest f (inserted p e) =
    let l : line_cut (b ∷ bs) ≡ insert_cut bs = ap (λ x. line_cut (x ∷ bs)) p in
    let s = insert_separate f bs rest e in
    (ap (λ x. fields_in x.0) l ∙ s.0, ap (λ x. x.1) l ∙ s.1)
lettered_separate b bs rest f (retracted p e) =
    let l : line_cut (b ∷ bs) ≡ retraction_cut bs = ap (λ x. line_cut (x ∷ bs)) p in
    let s = retraction_separate f bs rest e in
    (ap (λ x. fields_in x.0) l ∙ s.0, ap (λ x. x.1) l ∙ s.1)
lettered_separate b bs rest f (timed p e) =
    let l : line_cut (b ∷ bs) ≡ (cti (field_at bs), tail (past bs)) = ap (λ x. line_cut (x ∷ bs)) p in
    let s = cti_separate f bs rest e in
    (ap (λ x. fields_in x.0) l ∙ s.0, ap (λ x. x.1) l ∙ s.1)

pub line_separate : (f : Fields) (bs rest : List ℕ) → text_read bs ≡ Ok (f, rest) → (fields_in (line_cut bs).0 ≡ f) × ((line_cut bs).1 ≡ rest)
line_separate f [] rest e = absurd (let z : ◌≡◌ {A = ℕ} 0 1 = cc in omega arith)
line_separate f (b ∷ bs) rest e = lettered_separate b bs rest f (kinded (λ xs. closed (insert_by number_read end_read xs)) (λ xs. closed (retraction_by number_read end_read xs)) (λ xs. closed (cti_by number_read xs)) 73 82 67 b bs rest f e)

-- a line that has no fault is read as the fields that it is cut into
pub line_done : (bs : List ℕ) (l : Line) (rest : List ℕ) (f : Fields) → None ≡ result_err (text_read bs) → (l, rest) ≡ line_cut bs → f ≡ fields_in l → Ok (f, rest) ≡ text_read bs
line_done bs l rest f none cut is =
    let p = part_ok (text_read bs) none in
    let s = line_separate p.0 bs p.1 p.2 in
    let g : f ≡ p.0 = is ∙ ap (λ x. fields_in x.0) cut ∙ s.0 in
    let r : rest ≡ p.1 = ap (λ x. x.1) cut ∙ s.1 in
    ap (λ (x : Fields). Ok (x, rest)) g ∙ ap (λ (zs : List ℕ). Ok (p.0, zs)) r ∙ sym p.2
  where
    part_ok : (r : Part Fields) → None ≡ result_err r → (g : Fields) × (more : List ℕ) × (r ≡ Ok (g, more))
    part_ok (Ok p) e = (p.0, p.1, refl)
    part_ok (Err why) e = absurd (let z : ◌≡◌ {A = ℕ} 0 1 = cc in omega arith)

pub line_refused : (r : Part Fields) (why : Refusal) → Some why ≡ result_err r → Err why ≡ r
line_refused (Ok p) why e = absurd (let z : ◌≡◌ {A = ℕ} 0 1 = cc in omega arith)
line_refused (Err x) why e = cc
