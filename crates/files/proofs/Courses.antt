-- The course of some bytes, one event at a time. Assumes nothing.
use Rattle.std.proofs.Common.{◌≡◌, ℕ, zero, suc, ◌+◌, ◌<◌, ◌≤◌, true, ltb, List, [], ◌∷◌, length, sym, refl, ap, ◌∙◌, arith, Err}
use Rattle.std.proofs.lemmas.Bool.{cond_both, cond-false, le-ltb}
use Rattle.refusals.specs.declared.refusal.Refusal.{Refusal}
use Rattle.refusals.specs.declared.refusal.Refusal.TheVariants.{TooLong}
use Rattle.refusals.specs.Faults.{event_fault}
use Rattle.rows.specs.Events.{PlainEvent, timely}
use Rattle.rows.specs.Kinds.{Kind}
use Rattle.files.specs.Judging.{payload_fits, fields_of}
use Rattle.files.specs.Reading.{Reads, One, nothing, event, fault, one, ends, gives, proceed, course_up_to, course, file_course, stream_of, file_stream, Told, Sound}
use Rattle.files.proofs.Ones.{one_sound}

module _ (one : List ℕ → One) (none : one [] ≡ nothing) (shorter : (bs rest : List ℕ) (e : PlainEvent) → one bs ≡ event e rest → length rest < length bs) where
  -- events for which there are no bytes do not matter
  enough : (f g n : ℕ) (bs : List ℕ) → length bs ≤ f → length bs ≤ g → course_up_to one f n bs ≡ course_up_to one g n bs
  enough zero zero n bs p q = refl
  enough zero (suc g) n [] p q = sym (ap (λ o. proceed n o (course_up_to one g (n + 1))) none)
  enough zero (suc g) n (b ∷ bs) p q = absurd (omega arith)
  enough (suc f) zero n [] p q = ap (λ o. proceed n o (course_up_to one f (n + 1))) none
  enough (suc f) zero n (b ∷ bs) p q = absurd (omega arith)
  enough (suc f) (suc g) n bs p q = go (one bs) (λ rest h. enough f g (n + 1) rest (omega arith) (omega arith)) (shorter bs)
    where
      go : (o : One) → ((rest : List ℕ) → length rest < length bs → course_up_to one f (n + 1) rest ≡ course_up_to one g (n + 1) rest) →
          ((rest : List ℕ) (e : PlainEvent) → o ≡ event e rest → length rest < length bs) →
          proceed n o (course_up_to one f (n + 1)) ≡ proceed n o (course_up_to one g (n + 1))
      go nothing ih s = refl
      go (event e rest) ih s = ap (gives n e) (ih rest (s rest e refl))
      go (fault r) ih s = refl

  pub course_step : (n : ℕ) (bs rest : List ℕ) (e : PlainEvent) → one bs ≡ event e rest → course one n bs ≡ gives n e (course one (n + 1) rest)
  course_step n [] rest e h = absurd (let s = shorter [] rest e h in omega arith)
  course_step n (b ∷ bs) rest e h =
      let s = shorter (b ∷ bs) rest e h in
      ap (λ o. proceed n o (course_up_to one (length bs) (n + 1))) h ∙ ap (gives n e) (enough (length bs) (length rest) (n + 1) rest (omega arith) (omega arith))

pub course_fault : (one : List ℕ → One) (n : ℕ) (bs : List ℕ) (r : Refusal) → 0 < length bs → one bs ≡ fault r → course one n bs ≡ ends (Err (event_fault r 0 n))
course_fault one n [] r l h = absurd (omega arith)
course_fault one n (b ∷ bs) r l h = ap (λ o. proceed n o (course_up_to one (length bs) (n + 1))) h

up_to_told : (one : List ℕ → One) (f n : ℕ) (bs : List ℕ) → Told n (stream_of (course_up_to one f n bs))
up_to_told one zero n bs = tt
up_to_told one (suc f) n bs = go (one bs) (up_to_told one f (n + 1))
  where
    go : (o : One) → ((rest : List ℕ) → Told (n + 1) (stream_of (course_up_to one f (n + 1) rest))) → Told n (stream_of (proceed n o (course_up_to one f (n + 1))))
    go nothing ih = tt
    go (event e rest) ih = (refl, ih rest)
    go (fault r) ih = (r, refl)

up_to_sound : (read : Reads) (k : Kind) (f n : ℕ) (bs : List ℕ) → Sound k (stream_of (course_up_to (one read k) f n bs))
up_to_sound read k zero n bs = tt
up_to_sound read k (suc f) n bs = go (one read k bs) (up_to_sound read k f (n + 1)) (λ e rest h. one_sound read k bs rest e h)
  where
    go : (o : One) → ((rest : List ℕ) → Sound k (stream_of (course_up_to (one read k) f (n + 1) rest))) →
        ((e : PlainEvent) (rest : List ℕ) → o ≡ event e rest → (timely e ≡ true) × (payload_fits k (fields_of e) ≡ true)) →
        Sound k (stream_of (proceed n o (course_up_to (one read k) f (n + 1))))
    go nothing ih s = tt
    go (event e rest) ih s = let p = s e rest refl in (p.0, p.1, ih rest)
    go (fault r) ih s = tt

pub file_told : (read : Reads) (k : Kind) (bs : List ℕ) → Told 1 (file_stream read k bs)
file_told read k bs =
    cond_both (ltb 65536 (length bs)) (ends (Err (event_fault TooLong 0 1))) (course (one read k) 1 bs) (λ c. Told 1 (stream_of c))
    (λ e. (TooLong, refl))
    (λ e. up_to_told (one read k) (length bs) 1 bs)

pub file_sound : (read : Reads) (k : Kind) (bs : List ℕ) → Sound k (file_stream read k bs)
file_sound read k bs =
    cond_both (ltb 65536 (length bs)) (ends (Err (event_fault TooLong 0 1))) (course (one read k) 1 bs) (λ c. Sound k (stream_of c))
    (λ e. tt)
    (λ e. up_to_sound read k (length bs) 1 bs)

pub file_short : (read : Reads) (k : Kind) (bs : List ℕ) → length bs ≤ 65536 → file_course read k bs ≡ course (one read k) 1 bs
file_short read k bs h = cond-false (ltb 65536 (length bs)) _ _ (le-ltb 65536 (length bs) h)
