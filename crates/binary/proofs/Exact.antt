-- An event is read from its bytes, and from no others. Assumes nothing.
use Rattle.std.proofs.Common.{◌≡◌, ℕ, suc, ◌+◌, ◌^◌, ◌<◌, List, [], ◌∷◌, ◌++◌, length, Ok, sym, refl, ap, ◌∙◌, subst, arith}
use Rattle.std.proofs.lemmas.List.{append_assoc, get_or-append-add}
use Rattle.files.specs.declared.fields.EndField.{EndField}
use Rattle.files.specs.declared.fields.Fields.{Fields}
use Rattle.files.specs.declared.fields.Fields.TheVariants.{Insert, Retraction, Cti}
use Rattle.files.specs.Judging.{time_of, event_in, field_of, fields_of}
use Rattle.files.specs.Orders.{bind, Head, head_by, pair_by, row_from, insert_by, retraction_by, cti_by}
use Rattle.files.proofs.Binding.{ok_parts, bind_parts}
use Rattle.files.proofs.Exact.{time_field}
use Rattle.groups.specs.Groups.{groups_read, groups_of, Bytes}
use Rattle.groups.proofs.Exactness.{written_read, read_written}
use Rattle.rows.specs.Events.{PlainEvent, insert, retraction, cti}
use Rattle.binary.specs.Binary.{end_read, binary_read}
use Rattle.binary.specs.Writing.{numbers_of, Small, all_groups, event_bytes}
use Rattle.files.proofs.ByKind.{Kinded, inserted, retracted, timed, kinded}

-- reading what is written

number_back : (n : ℕ) (ns rest : List ℕ) → n < 2 ^ 32 → groups_read (all_groups (n ∷ ns) ++ rest) ≡ Ok (n, all_groups ns ++ rest)
number_back n ns rest h = written_read n (all_groups ns ++ rest) (all_groups (n ∷ ns) ++ rest) (h, append_assoc (groups_of n) (all_groups ns) rest)

end_back : (t : ℕ) (ns rest : List ℕ) → t < 2 ^ 32 → end_read (all_groups (t ∷ ns) ++ rest) ≡ Ok (field_of t, all_groups ns ++ rest)
end_back t ns rest h = ap (λ r. bind r (λ x more. Ok (field_of x, more))) (number_back t ns rest h)

pair_back : (key value : ℕ) (ns rest : List ℕ) → key < 2 ^ 32 → value < 2 ^ 32 →
    pair_by groups_read (all_groups (key ∷ value ∷ ns) ++ rest) ≡ Ok ((key, value), all_groups ns ++ rest)
pair_back key value ns rest h k =
    ap (λ r. bind r (λ a xs. bind (groups_read xs) (λ b ys. Ok ((a, b), ys)))) (number_back key (value ∷ ns) rest h)
    ∙ ap (λ r. bind r (λ b ys. Ok ((key, b), ys))) (number_back value ns rest k)

head_back : (id start end : ℕ) (ns rest : List ℕ) → id < 2 ^ 32 → start < 2 ^ 32 → end < 2 ^ 32 →
    head_by groups_read end_read (all_groups (id ∷ start ∷ end ∷ ns) ++ rest) ≡ Ok ((id, start, field_of end), all_groups ns ++ rest)
head_back id start end ns rest h k l =
    ap (λ r. bind r (λ a xs. bind (groups_read xs) (λ b ys. bind (end_read ys) (λ c zs. Ok ((a, b, c), zs))))) (number_back id (start ∷ end ∷ ns) rest h)
    ∙ ap (λ r. bind r (λ b ys. bind (end_read ys) (λ c zs. Ok ((id, b, c), zs)))) (number_back start (end ∷ ns) rest k)
    ∙ ap (λ r. bind r (λ c zs. Ok ((id, start, c), zs))) (end_back end ns rest l)

pub event_back : (e : PlainEvent) (rest : List ℕ) → Small (numbers_of e) → binary_read (event_bytes e ++ rest) ≡ Ok (fields_of e, rest)
event_back (insert r) rest (i, (s, (e, (k, (v, _))))) =
    ap (λ x. bind x (λ h xs. bind (pair_by groups_read xs) (λ p ys. Ok (Insert (row_from h p), ys))))
    (head_back r.id r.start r.end (r.key ∷ r.value ∷ []) rest i s e)
    ∙ ap (λ x. bind x (λ p ys. Ok (Insert (row_from (r.id, r.start, field_of r.end) p), ys))) (pair_back r.key r.value [] rest k v)
event_back (retraction r t) rest (i, (s, (e, (n, (k, (v, _)))))) =
    ap (λ x. bind x (λ h xs. bind (end_read xs) (λ y ys. bind (pair_by groups_read ys) (λ p zs. Ok (Retraction (row_from h p) y, zs)))))
    (head_back r.id r.start r.end (t ∷ r.key ∷ r.value ∷ []) rest i s e)
    ∙ ap (λ x. bind x (λ y ys. bind (pair_by groups_read ys) (λ p zs. Ok (Retraction (row_from (r.id, r.start, field_of r.end) p) y, zs))))
    (end_back t (r.key ∷ r.value ∷ []) rest n)
    ∙ ap (λ x. bind x (λ p zs. Ok (Retraction (row_from (r.id, r.start, field_of r.end) p) (field_of t), zs))) (pair_back r.key r.value [] rest k v)
event_back (cti t) rest (h, _) = ap (λ r. bind r (λ x xs. Ok (Cti x, xs))) (number_back t [] rest h)

-- what is read was written

bytes_after : (xs ys : List ℕ) → Bytes (xs ++ ys) → Bytes ys
bytes_after xs ys b i = subst (λ n. n < 256) (get_or-append-add xs ys i 0) (b (length xs + i))

-- bs is the numbers ns in groups and then rest
abbrev Spelt : List ℕ → List ℕ → List ℕ → Type 0
Spelt ns bs rest = (bs ≡ all_groups ns ++ rest) × Bytes rest

groups_joined : (ns ms : List ℕ) → all_groups (ns ++ ms) ≡ all_groups ns ++ all_groups ms
groups_joined [] ms = refl
groups_joined (n ∷ ns) ms = ap (λ zs. groups_of n ++ zs) (groups_joined ns ms) ∙ sym (append_assoc (groups_of n) (all_groups ns) (all_groups ms))

and_then : (ns ms bs mid rest : List ℕ) → Spelt ns bs mid → Spelt ms mid rest → Spelt (ns ++ ms) bs rest
and_then ns ms bs mid rest s t = (
  s.0 ∙ ap (λ zs. all_groups ns ++ zs) t.0 ∙ sym (append_assoc (all_groups ns) (all_groups ms) rest) ∙ ap (λ zs. zs ++ rest) (sym (groups_joined ns ms)),
  t.1,
)

number_spelt : (n : ℕ) (bs rest : List ℕ) → Bytes bs → groups_read bs ≡ Ok (n, rest) → Spelt (n ∷ []) bs rest
number_spelt n bs rest b e =
    let w = read_written n rest bs b e in
    (w.1 ∙ sym (append_assoc (groups_of n) [] rest), bytes_after (groups_of n) rest (subst Bytes w.1 b))

end_spelt : (x : EndField) (bs rest : List ℕ) → Bytes bs → end_read bs ≡ Ok (x, rest) → Spelt (time_of x ∷ []) bs rest
end_spelt x bs rest b e =
    let p = bind_parts (groups_read bs) (λ t more. Ok (field_of t, more)) x rest e in
    let q = ok_parts (field_of p.0) x p.1 rest p.3 in
    let t : p.0 ≡ time_of x = sym (time_field p.0) ∙ ap time_of q.0 in
    subst (λ n. Spelt (n ∷ []) bs rest) t (subst (Spelt (p.0 ∷ []) bs) q.1 (number_spelt p.0 bs p.1 b p.2))

pair_spelt : (v : ℕ × ℕ) (bs rest : List ℕ) → Bytes bs → pair_by groups_read bs ≡ Ok (v, rest) → Spelt (v.0 ∷ v.1 ∷ []) bs rest
pair_spelt v bs rest b e =
    let p = bind_parts (groups_read bs) (λ key xs. bind (groups_read xs) (λ value ys. Ok ((key, value), ys))) v rest e in
    let s = number_spelt p.0 bs p.1 b p.2 in
    let q = bind_parts (groups_read p.1) (λ value ys. Ok ((p.0, value), ys)) v rest p.3 in
    let t = number_spelt q.0 p.1 q.1 s.1 q.2 in
    let o = ok_parts (p.0, q.0) v q.1 rest q.3 in
    subst (λ (w : ℕ × ℕ). Spelt (w.0 ∷ w.1 ∷ []) bs rest) o.0
    (subst (Spelt (p.0 ∷ q.0 ∷ []) bs) o.1 (and_then (p.0 ∷ []) (q.0 ∷ []) bs p.1 q.1 s t))

head_spelt : (h : Head) (bs rest : List ℕ) → Bytes bs → head_by groups_read end_read bs ≡ Ok (h, rest) → Spelt (h.0 ∷ h.1 ∷ time_of h.2 ∷ []) bs rest
head_spelt h bs rest b e =
    let p = bind_parts (groups_read bs) (λ id xs. bind (groups_read xs) (λ start ys. bind (end_read ys) (λ x zs. Ok ((id, start, x), zs)))) h rest e in
    let s = number_spelt p.0 bs p.1 b p.2 in
    let q = bind_parts (groups_read p.1) (λ start ys. bind (end_read ys) (λ x zs. Ok ((p.0, start, x), zs))) h rest p.3 in
    let t = number_spelt q.0 p.1 q.1 s.1 q.2 in
    let r = bind_parts (end_read q.1) (λ x zs. Ok ((p.0, q.0, x), zs)) h rest q.3 in
    let u = end_spelt r.0 q.1 r.1 t.1 r.2 in
    let o = ok_parts (p.0, q.0, r.0) h r.1 rest r.3 in
    let all = and_then (p.0 ∷ []) (q.0 ∷ time_of r.0 ∷ []) bs p.1 r.1 s (and_then (q.0 ∷ []) (time_of r.0 ∷ []) p.1 q.1 r.1 t u) in
    subst (λ (w : Head). Spelt (w.0 ∷ w.1 ∷ time_of w.2 ∷ []) bs rest) o.0 (subst (Spelt (p.0 ∷ q.0 ∷ time_of r.0 ∷ []) bs) o.1 all)

insert_spelt : (f : Fields) (bs rest : List ℕ) → Bytes bs → insert_by groups_read end_read bs ≡ Ok (f, rest) → (1 ∷ bs ≡ event_bytes (event_in f) ++ rest) × Bytes rest
insert_spelt f bs rest b e =
    let p = bind_parts (head_by groups_read end_read bs) (λ h xs. bind (pair_by groups_read xs) (λ v ys. Ok (Insert (row_from h v), ys))) f rest e in
    let s = head_spelt p.0 bs p.1 b p.2 in
    let q = bind_parts (pair_by groups_read p.1) (λ v ys. Ok (Insert (row_from p.0 v), ys)) f rest p.3 in
    let t = pair_spelt q.0 p.1 q.1 s.1 q.2 in
    let o = ok_parts (Insert (row_from p.0 q.0)) f q.1 rest q.3 in
    let all = and_then (p.0.0 ∷ p.0.1 ∷ time_of p.0.2 ∷ []) (q.0.0 ∷ q.0.1 ∷ []) bs p.1 q.1 s t in
    let made : (1 ∷ bs ≡ event_bytes (event_in (Insert (row_from p.0 q.0))) ++ q.1) × Bytes q.1 = (ap (λ zs. 1 ∷ zs) all.0, all.1) in
    subst (λ x. (1 ∷ bs ≡ event_bytes (event_in x) ++ rest) × Bytes rest) o.0
    (subst (λ zs. (1 ∷ bs ≡ event_bytes (event_in (Insert (row_from p.0 q.0))) ++ zs) × Bytes zs) o.1 made)

retraction_spelt : (f : Fields) (bs rest : List ℕ) → Bytes bs → retraction_by groups_read end_read bs ≡ Ok (f, rest) → (2 ∷ bs ≡ event_bytes (event_in f) ++ rest) × Bytes rest
retraction_spelt f bs rest b e =
    let p = bind_parts (head_by groups_read end_read bs) (λ h xs. bind (end_read xs) (λ x ys. bind (pair_by groups_read ys) (λ v zs. Ok (Retraction (row_from h v) x, zs)))) f rest e in
    let s = head_spelt p.0 bs p.1 b p.2 in
    let q = bind_parts (end_read p.1) (λ x ys. bind (pair_by groups_read ys) (λ v zs. Ok (Retraction (row_from p.0 v) x, zs))) f rest p.3 in
    let t = end_spelt q.0 p.1 q.1 s.1 q.2 in
    let r = bind_parts (pair_by groups_read q.1) (λ v zs. Ok (Retraction (row_from p.0 v) q.0, zs)) f rest q.3 in
    let u = pair_spelt r.0 q.1 r.1 t.1 r.2 in
    let o = ok_parts (Retraction (row_from p.0 r.0) q.0) f r.1 rest r.3 in
    let ends = and_then (time_of q.0 ∷ []) (r.0.0 ∷ r.0.1 ∷ []) p.1 q.1 r.1 t u in
    let all = and_then (p.0.0 ∷ p.0.1 ∷ time_of p.0.2 ∷ []) (time_of q.0 ∷ r.0.0 ∷ r.0.1 ∷ []) bs p.1 r.1 s ends in
    let made : (2 ∷ bs ≡ event_bytes (event_in (Retraction (row_from p.0 r.0) q.0)) ++ r.1) × Bytes r.1 = (ap (λ zs. 2 ∷ zs) all.0, all.1) in
    subst (λ x. (2 ∷ bs ≡ event_bytes (event_in x) ++ rest) × Bytes rest) o.0
    (subst (λ zs. (2 ∷ bs ≡ event_bytes (event_in (Retraction (row_from p.0 r.0) q.0)) ++ zs) × Bytes zs) o.1 made)

cti_spelt : (f : Fields) (bs rest : List ℕ) → Bytes bs → cti_by groups_read bs ≡ Ok (f, rest) → (3 ∷ bs ≡ event_bytes (event_in f) ++ rest) × Bytes rest
cti_spelt f bs rest b e =
    let p = bind_parts (groups_read bs) (λ t xs. Ok (Cti t, xs)) f rest e in
    let s = number_spelt p.0 bs p.1 b p.2 in
    let o = ok_parts (Cti p.0) f p.1 rest p.3 in
    subst (λ x. (3 ∷ bs ≡ event_bytes (event_in x) ++ rest) × Bytes rest) o.0
    (subst (λ zs. (3 ∷ bs ≡ event_bytes (event_in (Cti p.0)) ++ zs) × Bytes zs) o.1 (ap (λ zs. 3 ∷ zs) s.0, s.1))

abbrev Known : ℕ → List ℕ → List ℕ → Fields → Type 0
Known k bs rest f = Kinded (insert_by groups_read end_read) (retraction_by groups_read end_read) (cti_by groups_read) 1 2 3 k bs rest f

known_spelt : (k : ℕ) (bs rest : List ℕ) (f : Fields) → Bytes bs → Known k bs rest f → (k ∷ bs ≡ event_bytes (event_in f) ++ rest) × Bytes rest
known_spelt k bs rest f b (inserted p e) = subst (λ j. (j ∷ bs ≡ event_bytes (event_in f) ++ rest) × Bytes rest) (sym p) (insert_spelt f bs rest b e)
known_spelt k bs rest f b (retracted p e) = subst (λ j. (j ∷ bs ≡ event_bytes (event_in f) ++ rest) × Bytes rest) (sym p) (retraction_spelt f bs rest b e)
known_spelt k bs rest f b (timed p e) = subst (λ j. (j ∷ bs ≡ event_bytes (event_in f) ++ rest) × Bytes rest) (sym p) (cti_spelt f bs rest b e)

pub event_spelt : (bs rest : List ℕ) (f : Fields) → Bytes bs → binary_read bs ≡ Ok (f, rest) → (bs ≡ event_bytes (event_in f) ++ rest) × Bytes rest
event_spelt [] rest f b e = absurd (let z : ◌≡◌ {A = ℕ} 0 1 = cc in omega arith)
event_spelt (k ∷ bs) rest f b e = known_spelt k bs rest f (λ i. b (suc i)) (kinded (insert_by groups_read end_read) (retraction_by groups_read end_read) (cti_by groups_read) 1 2 3 k bs rest f e)
