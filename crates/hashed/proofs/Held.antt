-- What the listed slots hold: the row of an id is found through the slot of the id.
use Rattle.std.specs.Prelude.{◌≡◌, ℕ, ◌<◌, true, false, List, [], ◌∷◌, length, is_some, Some, None, Option, ◌==◌, ◌≢◌, slice_index_or, slice_set, refl}
use Rattle.std.proofs.Common.{arith, sym, ap, subst, ◌∙◌, ⊎_elim}
use Rattle.std.proofs.lemmas.List.{get_or-set_same, get_or-set_other}
use Rattle.std.proofs.lemmas.Bool.{cond-true, cond-false, eqb-true, eqb-false, eq-eqb, ne_eqb, or_cases, or_parts, or_left, or_right, cases_Bool, both_ways, false≢true}
use Rattle.rows.specs.Rows.{Plain, with_end}
use Rattle.receipts.specs.Stores.{Above, Rising, found, holds_id, end_set}
use Rattle.stores.specs.Places.{id_of, has_id}
use Rattle.stores.proofs.Places.{found_above, holds_found}
use Rattle.hashed.specs.Listing.{or_blank, row_in, rows_in, listed}

some_row : (c : Option Plain) → is_some c ≡ true → c ≡ Some (or_blank c)
some_row None h = absurd (false≢true h)
some_row (Some r) h = refl

some_has : (id : ℕ) (c : Option Plain) → is_some c ≡ true → has_id id c ≡ ((or_blank c).id == id)
some_has id None h = absurd (false≢true h)
some_has id (Some r) h = refl

pub has_some : (id : ℕ) (c : Option Plain) → has_id id c ≡ true → is_some c ≡ true
has_some id None h = h
has_some id (Some r) h = refl

module _ (cs : List (Option Plain)) where
  pub row_there : (i : ℕ) → is_some (slice_index_or cs i None) ≡ true → slice_index_or cs i None ≡ Some (row_in cs i)
  row_there i h = some_row (slice_index_or cs i None) h

  pub row_has : (id i : ℕ) → is_some (slice_index_or cs i None) ≡ true → has_id id (slice_index_or cs i None) ≡ ((row_in cs i).id == id)
  row_has id i h = some_has id (slice_index_or cs i None) h

  pub has_row : (id i : ℕ) → has_id id (slice_index_or cs i None) ≡ true → (row_in cs i).id ≡ id
  has_row id i h = eqb-true (row_in cs i).id id (sym (row_has id i (has_some id (slice_index_or cs i None) h)) ∙ h)

  pub listed_holds : (i : ℕ) (slots : List ℕ) → listed i slots ≡ true → holds_id (row_in cs i).id (rows_in cs slots) ≡ true
  listed_holds i [] h = absurd (false≢true h)
  listed_holds i (j ∷ slots) h =
      ⊎_elim
      (λ e. or_left _ _ (eq-eqb (row_in cs j).id (row_in cs i).id (ap (λ k. (row_in cs k).id) (eqb-true j i e))))
      (λ e. or_right ((row_in cs j).id == (row_in cs i).id) _ (listed_holds i slots e))
      (or_cases (j == i) (listed i slots) h)

  -- a slot is listed once, since ids rise
  pub not_behind : (i : ℕ) (slots : List ℕ) → Above (row_in cs i).id (rows_in cs slots) → listed i slots ≡ false
  not_behind i slots above =
      ⊎_elim
      (λ h. absurd (both_ways _ (holds_found _ (rows_in cs slots) ∙ ap is_some (found_above _ (row_in cs i).id (rows_in cs slots) above (omega arith))) (listed_holds i slots h)))
      (λ h. h)
      (cases_Bool (listed i slots))

  -- the id of a listed row is not that of a row in front of it
  pub not_before : (i j : ℕ) (slots : List ℕ) → Above (row_in cs j).id (rows_in cs slots) → listed i slots ≡ true → ((row_in cs j).id == (row_in cs i).id) ≡ false
  not_before i j slots above h =
      ne_eqb _ _ (λ same. both_ways _
      (holds_found _ (rows_in cs slots) ∙ ap is_some (found_above _ (row_in cs i).id (rows_in cs slots) above (omega arith))) (listed_holds i slots h))

  pub found_listed : (i : ℕ) (slots : List ℕ) → listed i slots ≡ true → Rising (rows_in cs slots) → found (row_in cs i).id (rows_in cs slots) ≡ Some (row_in cs i)
  found_listed i [] h rising = absurd (false≢true h)
  found_listed i (j ∷ slots) h rising =
      ⊎_elim
      (λ e. let same : row_in cs j ≡ row_in cs i = ap (row_in cs) (eqb-true j i e) in
      cond-true _ _ _ (eq-eqb _ _ (ap id_of same)) ∙ ap Some same)
      (λ e. cond-false _ _ _ (not_before i j slots rising.0 e) ∙ found_listed i slots e rising.1)
      (or_cases (j == i) (listed i slots) h)

  pub found_none : (id : ℕ) (slots : List ℕ) → ((i : ℕ) → listed i slots ≡ true → is_some (slice_index_or cs i None) ≡ true) → ((i : ℕ) → has_id id (slice_index_or cs i None) ≢ true)
      → found id (rows_in cs slots) ≡ None
  found_none id [] there absent = refl
  found_none id (j ∷ slots) there absent =
      cond-false _ _ _ (ne_eqb (row_in cs j).id id (λ e.
      absent j (row_has id j (there j (or_left _ _ (eq-eqb j j refl))) ∙ eq-eqb _ _ e)))
      ∙ found_none id slots (λ i h. there i (or_right (j == i) _ h)) absent

  -- a write to a slot that is not listed
  pub rows_same : (i : ℕ) (c : Option Plain) (slots : List ℕ) → listed i slots ≡ false → rows_in (slice_set cs i c) slots ≡ rows_in cs slots
  rows_same i c [] h = refl
  rows_same i c (j ∷ slots) h =
      let p = or_parts (j == i) (listed i slots) h in
      ap (λ z. or_blank z ∷ rows_in (slice_set cs i c) slots) (get_or-set_other cs i j c None (eqb-false j i p.0))
      ∙ ap (λ z. row_in cs j ∷ z) (rows_same i c slots p.1)

  -- a row that is given another end
  pub rows_ended : (i e : ℕ) (slots : List ℕ) → i < length cs → listed i slots ≡ true → Rising (rows_in cs slots)
      → rows_in (slice_set cs i (Some (with_end e (row_in cs i)))) slots ≡ end_set (row_in cs i).id e (rows_in cs slots)
  rows_ended i e [] within h rising = refl
  rows_ended i e (j ∷ slots) within h rising =
      ⊎_elim
      (λ first.
      let same : j ≡ i = eqb-true j i first in
      ap (λ k. row_in changed k ∷ rows_in changed slots) same
      ∙ ap (λ z. or_blank z ∷ rows_in changed slots) (get_or-set_same cs i (Some ended) None within)
      ∙ ap (λ z. ended ∷ z) (rows_same i (Some ended) slots (not_behind i slots (subst (λ k. Above (row_in cs k).id (rows_in cs slots)) same rising.0)))
      ∙ ap (λ k. with_end e (row_in cs k) ∷ rows_in cs slots) (sym same)
      ∙ sym (cond-true _ _ _ (eq-eqb _ _ (ap (λ k. (row_in cs k).id) same))))
      (λ later.
      let before = not_before i j slots rising.0 later in
      ap (λ z. or_blank z ∷ rows_in changed slots) (get_or-set_other cs i j (Some ended) None (λ same. eqb-false _ _ before (ap (λ k. (row_in cs k).id) same)))
      ∙ ap (λ z. row_in cs j ∷ z) (rows_ended i e slots within later rising.1)
      ∙ sym (cond-false _ _ _ before))
      (or_cases (j == i) (listed i slots) h)
    where
      ended : Plain
      ended = with_end e (row_in cs i)

      changed : List (Option Plain)
      changed = slice_set cs i (Some ended)
