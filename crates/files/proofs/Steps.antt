-- What one take does, over the fields of a reader. Assumes nothing.
use Rattle.std.proofs.Common.{◌≡◌, ℕ, ◌+◌, ◌-◌, ◌<◌, ◌≤◌, List, length, drop, Ok, sym, refl, ap, ◌∙◌, arith, Err}
use Rattle.std.proofs.lemmas.List.{length-drop}
use Rattle.refusals.specs.declared.fault.Fault.{Fault}
use Rattle.refusals.specs.declared.refusal.Refusal.{Refusal}
use Rattle.refusals.specs.Faults.{event_fault}
use Rattle.rows.specs.Events.{PlainEvent}
use Rattle.rows.specs.Kinds.{Kind}
use Rattle.sources.specs.Taking.{next, ended, next_in, rest_of}
use Rattle.files.specs.declared.fields.Fields.{Fields}
use Rattle.files.specs.declared.reader.State.{State}
use Rattle.files.specs.declared.reader.State.TheVariants.{Reading}
use Rattle.files.specs.Reading.{Reads, Ends, event, fault, one_of, one, ends, gives, course, stream_of}
use Rattle.files.specs.Readers.{reader_course, reader_stream}
use Rattle.files.proofs.Ones.{one_fields, one_some, ends_shorter, ends_place}
use Rattle.files.proofs.Courses.{course_step, course_fault}

module _ (read : Reads) (short : (bs rest : List ℕ) (f : Fields) → read bs ≡ Ok (f, rest) → Ends rest bs) (k : Kind) where
  one_ends : (bs rest : List ℕ) (e : PlainEvent) → one read k bs ≡ event e rest → Ends rest bs
  one_ends bs rest e h = let f = one_fields read k bs rest e h in short bs rest f.0 f.1

  pub one_step : (n : ℕ) (bs rest : List ℕ) (e : PlainEvent) → one read k bs ≡ event e rest → course (one read k) n bs ≡ gives n e (course (one read k) (n + 1) rest)
  one_step n bs rest e h = course_step (one read k) refl (λ xs ys x g. ends_shorter ys xs (one_ends xs ys x g)) n bs rest e h

  module _ (bytes : List ℕ) (place number : ℕ) (state : State) (reading : state ≡ Reading) (within : place ≤ length bytes) where
    course_is : reader_course read k state number (drop place bytes) ≡ course (one read k) number (drop place bytes)
    course_is = ap (λ s. reader_course read k s number (drop place bytes)) reading

    module _ (more : place < length bytes) (left : List ℕ) (here : left ≡ drop place bytes) where
      some_left : 0 < length (drop place bytes)
      some_left = simp length-drop (omega arith)

      one_is : one read k (drop place bytes) ≡ one_of k (read left)
      one_is = one_some read k (drop place bytes) some_left ∙ ap (λ bs. one_of k (read bs)) (sym here)

      module _ (e : PlainEvent) (after : List ℕ) (reads : event e after ≡ one_of k (read left)) where
        pub next_place : (length after ≤ length bytes) × (place < length bytes - length after) × (drop (length bytes - length after) bytes ≡ after)
        next_place = ends_place bytes after place within (one_ends (drop place bytes) after e (one_is ∙ sym reads))

        step_is : reader_course read k state number (drop place bytes) ≡ gives number e (course (one read k) (number + 1) after)
        step_is = course_is ∙ one_step number (drop place bytes) after e (one_is ∙ sym reads)

        pub next_value : next number e ≡ next_in (reader_stream read k state number (drop place bytes))
        next_value = sym (ap (λ c. next_in (stream_of c)) step_is)

        pub next_after : reader_stream read k state (number + 1) (drop (length bytes - length after) bytes) ≡ rest_of (reader_stream read k state number (drop place bytes))
        next_after =
            ap (λ s. reader_stream read k s (number + 1) (drop (length bytes - length after) bytes)) reading
            ∙ ap (λ bs. stream_of (course (one read k) (number + 1) bs)) next_place.2
            ∙ sym (ap (λ c. rest_of (stream_of c)) step_is)

      module _ (why : Refusal) (reads : fault why ≡ one_of k (read left)) (f : Fault) (names : f ≡ event_fault why 0 number) where
        fault_is : reader_course read k state number (drop place bytes) ≡ ends (Err f)
        fault_is = course_is ∙ course_fault (one read k) number (drop place bytes) why some_left (one_is ∙ sym reads) ∙ ap (λ x. ends (Err x)) (sym names)

        pub fault_value : ended (Err f) ≡ next_in (reader_stream read k state number (drop place bytes))
        fault_value = sym (ap (λ c. next_in (stream_of c)) fault_is)

        pub fault_after : stream_of (ends (Err f)) ≡ rest_of (reader_stream read k state number (drop place bytes))
        fault_after = sym (ap (λ c. rest_of (stream_of c)) fault_is)
