-- The bytes that are written for some events are read as them, and no other bytes are. Assumes nothing.
use Rattle.std.proofs.Common.{◌≡◌, ℕ, ◌+◌, ◌≤◌, true, ltb, List, [], ◌∷◌, ◌++◌, length, sym, refl, ap, ◌∙◌, inl, inr, arith, Ok, Err}
use Rattle.std.proofs.lemmas.Bool.{and_parts, cases_lt, cond-true, lt-ltb}
use Rattle.refusals.specs.declared.refusal.Refusal.TheVariants.{TooLong}
use Rattle.refusals.specs.Faults.{event_fault}
use Rattle.receipts.specs.Histories.{Entry}
use Rattle.rows.specs.declared.event.Event.{Event}
use Rattle.rows.specs.declared.event.Event.TheVariants.{Insert, Retraction, Cti}
use Rattle.rows.specs.Events.{PlainEvent, plain_event, timely}
use Rattle.rows.specs.Kinds.{Kind, Pair, in_range}
use Rattle.sources.specs.Listing.{numbered, listed_stream}
use Rattle.files.specs.Judging.{event_in, payload_fits, fields_of}
use Rattle.files.specs.Reading.{Course, event, before, one_of, one, gives, course, stream_of, file_stream}
use Rattle.files.proofs.Courses.{course_fault, file_short}
use Rattle.files.proofs.Exact.{fields_judged, judged_fields}
use Rattle.files.proofs.Exact.{event_back as event_of_fields}
use Rattle.files.proofs.Ones.{one_fields, one_standing}
use Rattle.files.proofs.Steps.{one_step}
use Rattle.groups.specs.Groups.{Bytes}
use Rattle.binary.specs.Binary.{binary_read}
use Rattle.binary.specs.Writing.{numbers_of, Small, event_bytes, file_bytes, all_timely, AllSmall}
use Rattle.binary.specs.Canonical.{Spells}
use Rattle.binary.specs.Ends.{binary_ends}
use Rattle.binary.proofs.Exact.{event_back, event_spelt}

-- e is read before rest
one_spelt : (k : Kind) (bs rest : List ℕ) (e : PlainEvent) → Bytes bs → one binary_read k bs ≡ event e rest → (bs ≡ event_bytes e ++ rest) × Bytes rest
one_spelt k bs rest e b h =
    let f = one_fields binary_read k bs rest e h in
    let s = event_spelt bs rest f.0 b f.1 in
    let same : event_in f.0 ≡ e = ap event_in (judged_fields k f.0 e f.2).0 ∙ event_of_fields e in
    (s.0 ∙ ap (λ x. event_bytes x ++ rest) same, s.1)

module _ {P : Type 0} (pair : P → Pair) (k : Kind) (ranged : (x : P) → in_range k (pair x).key (pair x).value ≡ true) where
  fits : (e : Event P) → payload_fits k (fields_of (plain_event pair e)) ≡ true
  fits (Insert r) = ranged r.payload
  fits (Retraction r t) = ranged r.payload
  fits (Cti t) = refl

  one_back : (e : Event P) (rest : List ℕ) → timely (plain_event pair e) ≡ true → Small (numbers_of (plain_event pair e)) →
      one binary_read k (event_bytes (plain_event pair e) ++ rest) ≡ event (plain_event pair e) rest
  one_back e rest t s = ap (one_of k) (event_back (plain_event pair e) rest s) ∙ ap (before rest) (fields_judged k (plain_event pair e) (fits e) t)

  course_back : (es : List (Event P)) (n : ℕ) → all_timely pair es ≡ true → AllSmall pair es → course (one binary_read k) n (file_bytes pair es) ≡ (numbered pair n es, Ok tt)
  course_back [] n t s = refl
  course_back (e ∷ es) n t s =
      let p = and_parts (timely (plain_event pair e)) (all_timely pair es) t in
      one_step binary_read binary_ends k n (file_bytes pair (e ∷ es)) (file_bytes pair es) (plain_event pair e) (one_back e (file_bytes pair es) p.0 s.0)
      ∙ ap (gives n (plain_event pair e)) (course_back es (n + 1) p.1 s.1)

first_same : (x y : Entry) (xs ys : List Entry) → x ∷ xs ≡ y ∷ ys → (x ≡ y) × (xs ≡ ys)
first_same x y xs ys e = (cc, cc)

none_some : {A : Type 0} (x : Entry) (xs : List Entry) → [] ≡ x ∷ xs → A
none_some x xs e = absurd (let z : ◌≡◌ {A = ℕ} 0 1 = cc in omega arith)

module _ {P : Type 0} (pair : P → Pair) (k : Kind) where
  course_only : (es : List (Event P)) (n : ℕ) (bs : List ℕ) → Bytes bs → course (one binary_read k) n bs ≡ (numbered pair n es, Ok tt) → bs ≡ file_bytes pair es
  course_only [] n bs b h =
      elim (one_standing binary_read k bs) [
        | inl z ↦ z
        | inr (inl p) ↦
            none_some (n, p.0) (course (one binary_read k) (n + 1) p.1).0
            (sym (ap (λ c. c.0) (sym (one_step binary_read binary_ends k n bs p.1 p.0 p.2) ∙ h)))
        | inr (inr q) ↦
            let f : Err (event_fault q.0 0 n) ≡ Ok tt = ap (λ c. c.1) (sym (course_fault (one binary_read k) n bs q.0 q.2 q.1) ∙ h) in
            absurd (let z : ◌≡◌ {A = ℕ} 0 1 = cc in omega arith)
      ]
  course_only (x ∷ es) n bs b h =
      elim (one_standing binary_read k bs) [
        | inl z ↦ none_some (n, plain_event pair x) (numbered pair (n + 1) es) (ap (λ c. c.0) (sym (ap (course (one binary_read k) n) z) ∙ h))
        | inr (inl p) ↦
            let g : gives n p.0 (course (one binary_read k) (n + 1) p.1) ≡ (numbered pair n (x ∷ es), Ok tt) = sym (one_step binary_read binary_ends k n bs p.1 p.0 p.2) ∙ h in
            let f = first_same (n, p.0) (n, plain_event pair x) (course (one binary_read k) (n + 1) p.1).0 (numbered pair (n + 1) es) (ap (λ c. c.0) g) in
            let e : p.0 ≡ plain_event pair x = ap (λ z. z.1) f.0 in
            let s = one_spelt k bs p.1 p.0 b p.2 in
            let left : course (one binary_read k) (n + 1) p.1 ≡ (numbered pair (n + 1) es, Ok tt) = ap (λ zs. (zs, (course (one binary_read k) (n + 1) p.1).1)) f.1 ∙ ap (λ w. (numbered pair (n + 1) es, w)) (ap (λ c. c.1) g) in
            s.0 ∙ ap (λ y. event_bytes y ++ p.1) e ∙ ap (λ zs. event_bytes (plain_event pair x) ++ zs) (course_only es (n + 1) p.1 s.1 left)
        | inr (inr q) ↦
            none_some (n, plain_event pair x) (numbered pair (n + 1) es)
            (ap (λ c. c.0) (sym (course_fault (one binary_read k) n bs q.0 q.2 q.1) ∙ h))
      ]

  file_only : (es : List (Event P)) (bs : List ℕ) → Bytes bs → file_stream binary_read k bs ≡ listed_stream pair es 0 → bs ≡ file_bytes pair es
  file_only es bs b h =
      elim (cases_lt 65536 (length bs)) [
        | inl long ↦
            let f : Err (event_fault TooLong 0 1) ≡ Ok tt = sym (ap (λ (c : Course). c.1) (cond-true (ltb 65536 (length bs)) _ _ (lt-ltb 65536 (length bs) long))) ∙ ap (λ src. src.ending) h in
            absurd (let z : ◌≡◌ {A = ℕ} 0 1 = cc in omega arith)
        | inr short ↦
            let s = file_short binary_read k bs short in
            let xs : (course (one binary_read k) 1 bs).0 ≡ numbered pair 1 es = sym (ap (λ (c : Course). c.0) s) ∙ ap (λ src. src.entries) h in
            let w : (course (one binary_read k) 1 bs).1 ≡ Ok tt = sym (ap (λ (c : Course). c.1) s) ∙ ap (λ src. src.ending) h in
            course_only es 1 bs b (ap (λ zs. (zs, (course (one binary_read k) 1 bs).1)) xs ∙ ap (λ v. (numbered pair 1 es, v)) w)
      ]

pub file_spelt : {P : Type 0} (pair : P → Pair) (k : Kind) → ((x : P) → in_range k (pair x).key (pair x).value ≡ true) → (es : List (Event P)) →
    all_timely pair es ≡ true → AllSmall pair es → length (file_bytes pair es) ≤ 65536 → Spells k (listed_stream pair es 0) (file_bytes pair es)
unfolding Spells
file_spelt pair k ranged es t s short = (
  ap stream_of (file_short binary_read k (file_bytes pair es) short ∙ course_back pair k ranged es 1 t s),
  λ cs b h. file_only pair k es cs b h,
)
