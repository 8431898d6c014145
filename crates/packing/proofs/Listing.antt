-- The events of a text file, collected and written. Assumes nothing.
use Rattle.std.proofs.Common.{◌≡◌, ℕ, suc, ◌+◌, true, List, [], ◌∷◌, ◌++◌, length, take, Ok, Err, MatchResult, vec_items, Result, Vec, sym, refl, ap, ◌∙◌, subst, arith}
use Rattle.std.proofs.lemmas.Bool.{and_from, cond-true}
use Rattle.std.specs.declared.alloc.Global.{Global}
use Rattle.refusals.specs.declared.fault.Fault.{Fault}
use Rattle.refusals.specs.declared.fault.Side.{Side}
use Rattle.refusals.specs.declared.refusal.Refusal.{Refusal}
use Rattle.refusals.specs.Faults.{bare_fault, on_side, Ending}
use Rattle.receipts.specs.Histories.{Entry, events}
use Rattle.rewriting.specs.Streams.{Stream}
use Rattle.rows.specs.declared.event.Event.{Event}
use Rattle.rows.specs.Events.{PlainEvent, plain_event, timely}
use Rattle.rows.specs.Kinds.{Kind, Pair}
use Rattle.sources.specs.Listing.{numbered, listed_stream}
use Rattle.files.specs.Reading.{file_course, stream_of, file_stream, ToldFrom, AllSound}
use Rattle.files.proofs.Courses.{file_told, file_sound}
use Rattle.binary.specs.Canonical.{Spells}
use Rattle.binary.specs.Writing.{event_bytes, file_bytes, all_timely, put_front, written}
use Rattle.text.specs.Text.{text_read}
use Rattle.packing.specs.Collecting.{plains, ending_with, collected, collected_as}
use Rattle.packing.specs.Packing.{plain_bytes, counted, put_counted, packed_of, packed, packed_as, Means}
use Rattle.packing.specs.declared.file.Packed.{Packed}

ending_ok : (es vs : List PlainEvent) (w : Ending) → Ok vs ≡ ending_with es w → (es ≡ vs) × (w ≡ Ok tt)
ending_ok es vs (Ok u) h = (cc, refl)
ending_ok es vs (Err f) h = absurd (let z : ◌≡◌ {A = ℕ} 0 1 = cc in omega arith)

-- the events of a slice are those that were collected
pub from_slice : {P : Type 0} (pair : P → Pair) (vs : List (Event P)) (v : Vec (Event P) Global) (all : Result (Vec (Event P) Global) Fault) (src file : Stream) →
    vs ≡ vec_items v → all ≡ Ok v → collected_as pair all ≡ collected src → src ≡ file → Ok (plains pair vs) ≡ collected file
from_slice {P} pair vs v all src file s a c f =
    ap (λ (es : List (Event P)). Ok (plains pair es)) s ∙ sym (ap (collected_as pair) a) ∙ c ∙ ap collected f

firsts : (x y : PlainEvent) (xs ys : List PlainEvent) → x ∷ xs ≡ y ∷ ys → (x ≡ y) × (xs ≡ ys)
firsts x y xs ys e = (cc, cc)

-- what is answered of what the writing answers
abbrev pub packed_by : Side → ℕ → Result ℕ Refusal → Result Packed Fault
packed_by side count (Ok n) = Ok (record { events = count; bytes = n })
packed_by side count (Err why) = Err (on_side side (bare_fault why))

as_counted : (side : Side) (count : ℕ) (w : Result ℕ Refusal) → packed_as (packed_by side count w) ≡ counted side count w
as_counted side count (Ok n) = refl
as_counted side count (Err why) = refl

module _ {P : Type 0} (pair : P → Pair) where
  file_plain : (vs : List (Event P)) → file_bytes pair vs ≡ plain_bytes (plains pair vs)
  file_plain [] = refl
  file_plain (v ∷ vs) = ap (λ zs. event_bytes (plain_event pair v) ++ zs) (file_plain vs)

  plains_length : (vs : List (Event P)) → length (plains pair vs) ≡ length vs
  plains_length [] = refl
  plains_length (v ∷ vs) = ap suc (plains_length vs)

  all_lawful : (k : Kind) (xs : List Entry) (vs : List (Event P)) → AllSound k xs → events xs ≡ plains pair vs → all_timely pair vs ≡ true
  all_lawful k xs [] s e = refl
  all_lawful k [] (v ∷ vs) s e = absurd (let z : ◌≡◌ {A = ℕ} 0 1 = cc in omega arith)
  all_lawful k (x ∷ xs) (v ∷ vs) s e =
      let f = firsts x.1 (plain_event pair v) (events xs) (plains pair vs) e in
      and_from (timely (plain_event pair v)) (all_timely pair vs) (sym (ap timely f.0) ∙ s.0) (all_lawful k xs vs s.2 f.1)

  numbered_is : (n : ℕ) (xs : List Entry) (vs : List (Event P)) → ToldFrom n xs (Ok tt) → events xs ≡ plains pair vs → xs ≡ numbered pair n vs
  numbered_is n [] [] t e = refl
  numbered_is n [] (v ∷ vs) t e = absurd (let z : ◌≡◌ {A = ℕ} 0 1 = cc in omega arith)
  numbered_is n (x ∷ xs) [] t e = absurd (let z : ◌≡◌ {A = ℕ} 0 1 = cc in omega arith)
  numbered_is n (x ∷ xs) (v ∷ vs) t e =
      let f = firsts x.1 (plain_event pair v) (events xs) (plains pair vs) e in
      ap (λ m. (m, x.1) ∷ xs) t.0 ∙ ap (λ y. (n, y) ∷ xs) f.0 ∙ ap (λ ys. (n, plain_event pair v) ∷ ys) (numbered_is (n + 1) xs vs t.1 f.1)

  module _ (k : Kind) (text : List ℕ) (vs : List (Event P)) (col : Ok (plains pair vs) ≡ collected (file_stream text_read k text)) where
    whole : (events (file_course text_read k text).0 ≡ plains pair vs) × ((file_course text_read k text).1 ≡ Ok tt)
    whole = ending_ok (events (file_course text_read k text).0) (plains pair vs) (file_course text_read k text).1 col

    pub listed_is : listed_stream pair vs 0 ≡ file_stream text_read k text
    listed_is =
        let t = subst (ToldFrom 1 (file_course text_read k text).0) whole.1 (file_told text_read k text) in
        sym (ap (λ xs. stream_of (xs, (file_course text_read k text).1)) (numbered_is 1 (file_course text_read k text).0 vs t whole.0)
        ∙ ap (λ w. stream_of (numbered pair 1 vs, w)) whole.1)

    pub spells : (bs : List ℕ) → Spells k (listed_stream pair vs 0) bs → Spells k (file_stream text_read k text) bs
    spells bs s = subst (λ src. Spells k src bs) listed_is s

    lawful : all_timely pair vs ≡ true
    lawful = all_lawful k (file_course text_read k text).0 vs (file_sound text_read k text) whole.0

    packed_is : (side : Side) (out : List ℕ) → packed side k text out ≡ put_counted side (length vs) (written pair vs out)
    packed_is side out =
        ap (packed_of side out) (sym col)
        ∙ ap (λ n. put_counted side n (put_front (plain_bytes (plains pair vs)) out)) (plains_length vs)
        ∙ ap (λ bs. put_counted side (length vs) (put_front bs out)) (sym (file_plain vs))
        ∙ sym (ap (put_counted side (length vs)) (cond-true (all_timely pair vs) _ _ lawful))

    pub packed_told : (side : Side) (out after : List ℕ) (w : Result ℕ Refusal) (r : Result Packed Fault) (count : ℕ) → r ≡ packed_by side count w → (w, after) ≡ written pair vs out → count ≡ length vs →
        (packed_as r, after) ≡ packed side k text out
    packed_told side out after w r count t e c =
        ap (λ x. (packed_as x, after)) t ∙ ap (λ x. (x, after)) (as_counted side count w) ∙ ap (λ m. (counted side m w, after)) c
        ∙ ap (put_counted side (length vs)) e ∙ sym (packed_is side out)

    pub packed_means : (side : Side) (after : List ℕ) (w : Result ℕ Refusal) (r : Result Packed Fault) (count : ℕ) → r ≡ packed_by side count w →
        MatchResult w (λ n. Spells k (listed_stream pair vs 0) (take n after)) (λ _. Unit {0}) → Means k text r after
    packed_means side after (Ok n) r count t m = subst (λ x. Means k text x after) (sym t) (spells (take n after) m)
    packed_means side after (Err why) r count t m = subst (λ x. Means k text x after) (sym t) tt
