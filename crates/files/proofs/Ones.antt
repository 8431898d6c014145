-- An event at the front of some bytes: its fields, and that they take at least one byte. Assumes nothing.
use Rattle.std.proofs.Common.{◌≡◌, ℕ, ◌+◌, ◌-◌, ◌<◌, ◌≤◌, true, ◌⊎◌, List, [], ◌∷◌, length, drop, Ok, Err, Result, sym, refl, ap, ◌∙◌, inl, inr, arith}
use Rattle.std.proofs.lemmas.List.{length-append, length-drop, drop_at, drop-drop}
use Rattle.refusals.specs.declared.refusal.Refusal.{Refusal}
use Rattle.rows.specs.Events.{PlainEvent, timely}
use Rattle.rows.specs.Kinds.{Kind}
use Rattle.files.specs.declared.fields.Fields.{Fields}
use Rattle.files.specs.Judging.{payload_fits, judged, fields_of}
use Rattle.refusals.specs.Parts.{Part}
use Rattle.files.specs.Reading.{Reads, Ends, One, event, fault, before, one_of, one}
use Rattle.files.proofs.Exact.{judged_fields}

before_event : (r : Result PlainEvent Refusal) (after rest : List ℕ) (e : PlainEvent) → before after r ≡ event e rest → (r ≡ Ok e) × (after ≡ rest)
before_event (Ok x) after rest e h = (cc, cc)
before_event (Err why) after rest e h = absurd (let z : ◌≡◌ {A = ℕ} 0 1 = cc in omega arith)

-- an event that stands there is that of some fields
abbrev pub Fielded : Kind → Part Fields → PlainEvent → List ℕ → Type 0
Fielded k r e rest = (f : Fields) × (r ≡ Ok (f, rest)) × (judged k f ≡ Ok e)

of_event : (k : Kind) (r : Part Fields) (e : PlainEvent) (rest : List ℕ) → one_of k r ≡ event e rest → Fielded k r e rest
of_event k (Ok p) e rest h =
    let b = before_event (judged k p.0) p.1 rest e h in
    (p.0, ap (λ (zs : List ℕ). Ok (p.0, zs)) b.1, b.0)
of_event k (Err why) e rest h = absurd (let z : ◌≡◌ {A = ℕ} 0 1 = cc in omega arith)

pub one_fields : (read : Reads) (k : Kind) (bs rest : List ℕ) (e : PlainEvent) → one read k bs ≡ event e rest → Fielded k (read bs) e rest
one_fields read k [] rest e h = absurd (let z : ◌≡◌ {A = ℕ} 0 1 = cc in omega arith)
one_fields read k (b ∷ bs) rest e h = of_event k (read (b ∷ bs)) e rest h

pub one_sound : (read : Reads) (k : Kind) (bs rest : List ℕ) (e : PlainEvent) → one read k bs ≡ event e rest → (timely e ≡ true) × (payload_fits k (fields_of e) ≡ true)
one_sound read k bs rest e h =
    let f = one_fields read k bs rest e h in
    let j = judged_fields k f.0 e f.2 in
    (j.1, sym (ap (payload_fits k) j.0) ∙ j.2)

pub one_some : (read : Reads) (k : Kind) (bs : List ℕ) → 0 < length bs → one read k bs ≡ one_of k (read bs)
one_some read k [] h = absurd (omega arith)
one_some read k (b ∷ bs) h = refl

-- what stands at the front of some bytes, by cases
abbrev pub Standing : One → List ℕ → Type 0
Standing o bs = (bs ≡ []) ⊎ (((e : PlainEvent) × (rest : List ℕ) × (o ≡ event e rest)) ⊎ ((why : Refusal) × (o ≡ fault why) × (0 < length bs)))

before_standing : (b : ℕ) (bs after : List ℕ) (r : Result PlainEvent Refusal) → Standing (before after r) (b ∷ bs)
before_standing b bs after (Ok e) = inr (inl (e, after, refl))
before_standing b bs after (Err why) = inr (inr (why, refl, omega arith))

of_standing : (k : Kind) (b : ℕ) (bs : List ℕ) (r : Part Fields) → Standing (one_of k r) (b ∷ bs)
of_standing k b bs (Ok p) = before_standing b bs p.1 (judged k p.0)
of_standing k b bs (Err why) = inr (inr (why, refl, omega arith))

pub one_standing : (read : Reads) (k : Kind) (bs : List ℕ) → Standing (one read k bs) bs
one_standing read k [] = inl refl
one_standing read k (b ∷ bs) = of_standing k b bs (read (b ∷ bs))

pub ends_shorter : (rest bs : List ℕ) → Ends rest bs → length rest < length bs
ends_shorter rest bs s =
    let some = s.1 in
    let l = simp length-append at (ap length s.2) in
    omega arith

-- where the bytes that are left stand in the file
pub ends_place : (bytes after : List ℕ) (place : ℕ) → place ≤ length bytes → Ends after (drop place bytes) →
    (length after ≤ length bytes) × (place < length bytes - length after) × (drop (length bytes - length after) bytes ≡ after)
ends_place bytes after place within s =
    let some = s.1 in
    let l : length (drop place bytes) ≡ length s.0 + length after = ap length s.2 ∙ length-append s.0 after in
    let m : length (drop place bytes) ≡ length bytes - place = length-drop place bytes in
    let n : length bytes - length after ≡ place + length s.0 = omega arith in (
      omega arith,
      omega arith,
      ap (λ k. drop k bytes) n ∙ sym (drop-drop (length s.0) place bytes) ∙ ap (drop (length s.0)) s.2 ∙ drop_at s.0 after (length s.0) refl,
    )
