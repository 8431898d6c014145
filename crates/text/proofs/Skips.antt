-- Where a part ends is what skipping it tells. Assumes nothing.
use Rattle.std.proofs.Common.{Result, ◌≡◌, ℕ, Bool, true, false, cond, eqb, List, [], ◌∷◌, Ok, Err, sym, refl, ap, ◌∙◌}
use Rattle.std.specs.Borrow.{Bor}
use Rattle.std.specs.Result.{result_err}
use Rattle.decimals.specs.Decimals.{decimal_read}
use Rattle.refusals.specs.declared.refusal.Refusal.{Refusal}
use Rattle.refusals.specs.declared.refusal.Refusal.TheVariants.{BadByte}
use Rattle.files.specs.declared.fields.EndField.TheVariants.{At, Forever}
use Rattle.files.specs.declared.fields.Fields.{Fields}
use Rattle.files.specs.declared.fields.Fields.TheVariants.{Insert, Retraction, Cti}
use Rattle.refusals.specs.Parts.{Part, rest_told}
use Rattle.files.specs.Orders.{bind, head_by, pair_by, row_from, insert_by, retraction_by, cti_by}
use Rattle.text.specs.Text.{byte_read, number_read, time_read, end_read, closed, text_read}
use Rattle.text.specs.Skipping.{Skip, after, onward, skip_byte, skip_number, skip_time, skip_end, skip_head, skip_pair, skip_insert, skip_retraction, skip_cti, skip_line}

after_bind : {A B : Type 0} (r : Part A) (go : A → List ℕ → Part B) (skip : List ℕ → Skip) → ((a : A) (bs : List ℕ) → after (go a bs) ≡ skip bs) → after (bind r go) ≡ onward (after r) skip
after_bind (Ok p) go skip same = same p.0 p.1
after_bind (Err why) go skip same = refl

after_made : {A B : Type 0} (r : Part A) (make : A → B) → after (bind r (λ a bs. Ok (make a, bs))) ≡ after r
after_made (Ok p) make = refl
after_made (Err why) make = refl

after_cond : {A : Type 0} (t : Bool) (x y : Part A) → after (cond t x y) ≡ cond t (after x) (after y)
after_cond true x y = refl
after_cond false x y = refl

onward_assoc : (s : Skip) (f g : List ℕ → Skip) → onward (onward s f) g ≡ onward s (λ bs. onward (f bs) g)
onward_assoc (Ok bs) f g = refl
onward_assoc (Err why) f g = refl

after_byte : (b : ℕ) (bs : List ℕ) → after (byte_read b bs) ≡ skip_byte b bs
after_byte b [] = refl
after_byte b (x ∷ xs) = after_cond (eqb x b) (Ok (tt, xs)) (Err BadByte)

after_number : (bs : List ℕ) → after (number_read bs) ≡ skip_number bs
after_number bs =
    after_bind (byte_read 32 bs) (λ _ rest. decimal_read rest) (λ rest. after (decimal_read rest)) (λ a rest. refl)
    ∙ ap (λ s. onward s (λ rest. after (decimal_read rest))) (after_byte 32 bs)

after_time : (bs : List ℕ) → after (time_read bs) ≡ skip_time bs
after_time [] = refl
after_time (b ∷ bs) =
    after_cond (eqb b 42) (Ok (Forever, bs)) (bind (decimal_read (b ∷ bs)) (λ n rest. Ok (At n, rest)))
    ∙ ap (cond (eqb b 42) (Ok bs)) (after_made (decimal_read (b ∷ bs)) (λ n. At n))

after_end : (bs : List ℕ) → after (end_read bs) ≡ skip_end bs
after_end bs = after_bind (byte_read 32 bs) (λ _ rest. time_read rest) skip_time (λ a rest. after_time rest) ∙ ap (λ s. onward s skip_time) (after_byte 32 bs)

after_pair : (bs : List ℕ) → after (pair_by number_read bs) ≡ skip_pair bs
after_pair bs =
    after_bind (number_read bs) (λ key xs. bind (number_read xs) (λ value ys. Ok ((key, value), ys))) skip_number
    (λ key xs. after_made (number_read xs) (λ value. (key, value)) ∙ after_number xs)
    ∙ ap (λ s. onward s skip_number) (after_number bs)

after_head : (bs : List ℕ) → after (head_by number_read end_read bs) ≡ skip_head bs
after_head bs =
    after_bind (number_read bs) (λ id xs. bind (number_read xs) (λ start ys. bind (end_read ys) (λ e zs. Ok ((id, start, e), zs)))) (λ xs. onward (skip_number xs) skip_end)
    (λ id xs.
    after_bind (number_read xs) (λ start ys. bind (end_read ys) (λ e zs. Ok ((id, start, e), zs))) skip_end
    (λ start ys. after_made (end_read ys) (λ e. (id, start, e)) ∙ after_end ys)
    ∙ ap (λ s. onward s skip_end) (after_number xs))
    ∙ ap (λ s. onward s (λ xs. onward (skip_number xs) skip_end)) (after_number bs)

after_insert : (bs : List ℕ) → after (insert_by number_read end_read bs) ≡ onward (skip_head bs) skip_pair
after_insert bs =
    after_bind (head_by number_read end_read bs) (λ h xs. bind (pair_by number_read xs) (λ p ys. Ok (Insert (row_from h p), ys))) skip_pair
    (λ h xs. after_made (pair_by number_read xs) (λ p. Insert (row_from h p)) ∙ after_pair xs)
    ∙ ap (λ s. onward s skip_pair) (after_head bs)

after_retraction : (bs : List ℕ) → after (retraction_by number_read end_read bs) ≡ onward (skip_head bs) (λ xs. onward (skip_end xs) skip_pair)
after_retraction bs =
    after_bind (head_by number_read end_read bs) (λ h xs. bind (end_read xs) (λ e ys. bind (pair_by number_read ys) (λ p zs. Ok (Retraction (row_from h p) e, zs))))
    (λ xs. onward (skip_end xs) skip_pair)
    (λ h xs.
    after_bind (end_read xs) (λ e ys. bind (pair_by number_read ys) (λ p zs. Ok (Retraction (row_from h p) e, zs))) skip_pair
    (λ e ys. after_made (pair_by number_read ys) (λ p. Retraction (row_from h p) e) ∙ after_pair ys)
    ∙ ap (λ s. onward s skip_pair) (after_end xs))
    ∙ ap (λ s. onward s (λ xs. onward (skip_end xs) skip_pair)) (after_head bs)

after_closed : (r : Part Fields) → after (closed r) ≡ onward (after r) (skip_byte 10)
after_closed r =
    after_bind r (λ f rest. bind (byte_read 10 rest) (λ _ more. Ok (f, more))) (skip_byte 10)
    (λ f rest. after_made (byte_read 10 rest) (λ _. f) ∙ after_byte 10 rest)

insert_after : (bs : List ℕ) → after (closed (insert_by number_read end_read bs)) ≡ skip_insert bs
insert_after bs =
    after_closed (insert_by number_read end_read bs)
    ∙ ap (λ s. onward s (skip_byte 10)) (after_insert bs)
    ∙ onward_assoc (skip_head bs) skip_pair (skip_byte 10)

-- going on after an end and a pair
two_after : (s : Skip) → onward (onward s (λ xs. onward (skip_end xs) skip_pair)) (skip_byte 10) ≡ onward s (λ xs. onward (skip_end xs) (λ ys. onward (skip_pair ys) (skip_byte 10)))
two_after (Ok bs) = onward_assoc (skip_end bs) skip_pair (skip_byte 10)
two_after (Err why) = refl

retraction_after : (bs : List ℕ) → after (closed (retraction_by number_read end_read bs)) ≡ skip_retraction bs
retraction_after bs =
    after_closed (retraction_by number_read end_read bs)
    ∙ ap (λ s. onward s (skip_byte 10)) (after_retraction bs)
    ∙ two_after (skip_head bs)

cti_after : (bs : List ℕ) → after (closed (cti_by number_read bs)) ≡ skip_cti bs
cti_after bs =
    after_closed (cti_by number_read bs)
    ∙ ap (λ s. onward s (skip_byte 10)) (after_made (number_read bs) (λ t. Cti t) ∙ after_number bs)

line_after : (bs : List ℕ) → after (text_read bs) ≡ skip_line bs
line_after [] = refl
line_after (b ∷ bs) =
    after_cond (eqb b 73) (closed (insert_by number_read end_read bs)) (cond (eqb b 82) (closed (retraction_by number_read end_read bs)) (cond (eqb b 67) (closed (cti_by number_read bs)) (Err BadByte)))
    ∙ ap (λ s. cond (eqb b 73) s (after (cond (eqb b 82) (closed (retraction_by number_read end_read bs)) (cond (eqb b 67) (closed (cti_by number_read bs)) (Err BadByte))))) (insert_after bs)
    ∙ ap (cond (eqb b 73) (skip_insert bs))
    (after_cond (eqb b 82) (closed (retraction_by number_read end_read bs)) (cond (eqb b 67) (closed (cti_by number_read bs)) (Err BadByte))
    ∙ ap (λ s. cond (eqb b 82) s (after (cond (eqb b 67) (closed (cti_by number_read bs)) (Err BadByte)))) (retraction_after bs)
    ∙ ap (cond (eqb b 82) (skip_retraction bs))
    (after_cond (eqb b 67) (closed (cti_by number_read bs)) (Err BadByte) ∙ ap (λ s. cond (eqb b 67) s (Err BadByte)) (cti_after bs)))

after_fault : {A : Type 0} (r : Part A) → result_err (after r) ≡ result_err r
after_fault (Ok p) = refl
after_fault (Err why) = refl

told_fault : (r : Result (Bor (List ℕ)) Refusal) → result_err r ≡ result_err (rest_told r)
told_fault (Ok rest) = refl
told_fault (Err why) = refl

pub line_faults : (bs : List ℕ) (r : Result (Bor (List ℕ)) Refusal) → rest_told r ≡ skip_line bs → result_err r ≡ result_err (text_read bs)
line_faults bs r e = told_fault r ∙ ap result_err (e ∙ sym (line_after bs)) ∙ after_fault (text_read bs)
