-- What a write to the table, with the entry of the row, leaves of the rows.
--     Good cs ids slots           the lists tell the rows in the cells: their ids, in rising order, and their slots
use Rattle.std.specs.Prelude.{◌≡◌, ℕ, ◌<◌, true, false, ◌||◌, ◌≢◌, List, [], ◌∷◌, map, length, get_or, is_some, Some, None, Option, ◌==◌, nat_eq, slice_index_or, slice_set, refl}
use Rattle.std.proofs.Common.{arith, sym, ap, subst, ◌∙◌, ⊎_elim}
use Rattle.std.proofs.lemmas.List.{get_or-set_same, get_or-set_other, get_or-map, get_or_past, length-map}
use Rattle.std.proofs.lemmas.Bool.{cond_both, eqb-true, eq-eqb, ne_eqb, or_from, cases_eq, cases_lt, cases_Bool, both_ways, false≢true}
use Rattle.std.specs.List.{insert, remove}
use Rattle.rows.specs.Rows.{Plain, with_end}
use Rattle.receipts.specs.Stores.{Rising, found, nth_row, holds_id, placed, end_set, without}
use Rattle.stores.specs.Places.{id_of, place, has_id}
use Rattle.stores.proofs.Edits.{map_inserted, map_removed, placed_place, without_place}
use Rattle.stores.proofs.Order.{rising_placed, rising_without, rising_end_set}
use Rattle.stores.proofs.Places.{found_above, holds_found, holds_place, nth_get_or, nth_past}
use Rattle.tables.specs.Cells.{slot_of}
use Rattle.tables.proofs.Found.{slot_of_has, slot_of_none}
use Rattle.hashed.specs.Listing.{or_blank, row_in, rows_in, listed, Matched}
use Rattle.hashed.proofs.Listed.{listed_inserted, listed_removed, listed_at}
use Rattle.hashed.proofs.Held.{row_there, row_has, has_some, has_row, listed_holds, found_listed, found_none, rows_same, rows_ended}

-- the ids after an end is set, and after a row goes
ids_ended : (id e : ℕ) (m : List Plain) → map id_of (end_set id e m) ≡ map id_of m
ids_ended id e [] = refl
ids_ended id e (x ∷ m) =
    cond_both (x.id == id) (with_end e x ∷ m) (x ∷ end_set id e m) (λ z. map id_of z ≡ x.id ∷ map id_of m) (λ _. refl) (λ _. ap (λ z. x.id ∷ z) (ids_ended id e m))

without_none : (id : ℕ) (m : List Plain) → Rising m → holds_id id (without id m) ≡ false
without_none id [] h = refl
without_none id (x ∷ m) h =
    cond_both (x.id == id) m (x ∷ without id m) (λ z. holds_id id z ≡ false)
    (λ e. let same = eqb-true x.id id e in holds_found id m ∙ ap is_some (found_above x.id id m h.0 (omega arith)))
    (λ e. or_from (x.id == id) (holds_id id (without id m)) e (without_none id m h.1))

pub record Good (cs : List (Option Plain)) (ids slots : List ℕ) : Type 0 where
  pub named : ids ≡ map id_of (rows_in cs slots)
  pub rising : Rising (rows_in cs slots)
  pub matched : Matched cs slots

module _ (cs : List (Option Plain)) (ids slots : List ℕ) (good : Good cs ids slots) where
  abbrev rows : List Plain
  rows = rows_in cs slots

  there : (i : ℕ) → listed i slots ≡ true → is_some (slice_index_or cs i None) ≡ true
  there i h = sym (good.matched i) ∙ h

  -- the row of an id
  pub found_at : (id i : ℕ) → slot_of id cs ≡ Some i → found id rows ≡ slice_index_or cs i None
  found_at id i e =
      let has = slot_of_has id cs i e in
      let here = has_some id (slice_index_or cs i None) has in
      ap (λ k. found k rows) (sym (has_row cs id i has)) ∙ found_listed cs i slots (good.matched i ∙ here) good.rising ∙ sym (row_there cs i here)

  pub held_at : (id i : ℕ) → slot_of id cs ≡ Some i → holds_id id rows ≡ true
  held_at id i e = holds_found id rows ∙ ap is_some (found_at id i e) ∙ has_some id (slice_index_or cs i None) (slot_of_has id cs i e)

  pub absent_at : (id : ℕ) → slot_of id cs ≡ None → found id rows ≡ None
  absent_at id e = found_none cs id slots there (slot_of_none id cs e)

  -- the row at a place
  pub nth_at : (k d : ℕ) → k < length slots → nth_row k rows ≡ slice_index_or cs (slice_index_or slots k d) None
  nth_at k d l =
      let i = get_or slots k d in
      nth_get_or k rows (row_in cs i) (omega (arith, length-map slots (row_in cs)))
      ∙ ap Some (get_or-map (row_in cs) slots k d (row_in cs i) l) ∙ sym (row_there cs i (there i (listed_at slots k d l)))

  -- a row put into a free slot
  module _ (r : Plain) (i : ℕ) (free : is_some (slice_index_or cs i None) ≡ false) (within : i < length cs) (absent : holds_id r.id rows ≡ false) where
    abbrev cells_put : List (Option Plain)
    cells_put = slice_set cs i (Some r)

    pub rows_put : rows_in cells_put (insert slots (place r.id rows) i) ≡ placed r rows
    rows_put =
        map_inserted (row_in cells_put) slots (place r.id rows) i
        ∙ ap (λ m. insert m (place r.id rows) (row_in cells_put i)) (rows_same cs i (Some r) slots (good.matched i ∙ free))
        ∙ ap (λ z. insert rows (place r.id rows) (or_blank z)) (get_or-set_same cs i (Some r) None within)
        ∙ sym (placed_place r rows absent)

    matched_put : (j : ℕ) → listed j (insert slots (place r.id rows) i) ≡ is_some (slice_index_or cells_put j None)
    matched_put j =
        listed_inserted j slots (place r.id rows) i
        ∙ ⊎_elim
        (λ same. ap (λ b. b || listed j slots) (eq-eqb i j (sym same))
        ∙ sym (ap is_some (ap (λ k. get_or cells_put k None) same ∙ get_or-set_same cs i (Some r) None within)))
        (λ other. ap (λ b. b || listed j slots) (ne_eqb i j (λ e. other (sym e))) ∙ good.matched j
        ∙ sym (ap is_some (get_or-set_other cs i j (Some r) None other)))
        (cases_eq j i)

    pub good_put : Good cells_put (insert ids (place r.id rows) r.id) (insert slots (place r.id rows) i)
    good_put = record {
      named = ap (λ z. insert z (place r.id rows) r.id) good.named ∙ sym (map_inserted id_of rows (place r.id rows) r)
          ∙ ap (map id_of) (sym (placed_place r rows absent) ∙ sym rows_put);
      rising = subst Rising (sym rows_put) (rising_placed r rows good.rising absent);
      matched = matched_put;
    }

  -- the row of an id, which stands in one slot
  module _ (id i : ℕ) (here : slot_of id cs ≡ Some i) where
    has : has_id id (slice_index_or cs i None) ≡ true
    has = slot_of_has id cs i here

    in_list : listed i slots ≡ true
    in_list = good.matched i ∙ has_some id (slice_index_or cs i None) has

    pub slot_within : i < length cs
    slot_within =
        ⊎_elim (λ lt. lt) (λ le. absurd (false≢true (sym (ap (has_id id) (get_or_past cs i None le)) ∙ has))) (cases_lt i (length cs))

    matched_over : (c : Option Plain) (j : ℕ) → j ≢ i → is_some (slice_index_or (slice_set cs i c) j None) ≡ listed j slots
    matched_over c j other = ap is_some (get_or-set_other cs i j c None other) ∙ sym (good.matched j)

    matched_here : (c : Option Plain) (j : ℕ) → j ≡ i → is_some (slice_index_or (slice_set cs i c) j None) ≡ is_some c
    matched_here c j same = ap is_some (ap (λ k. get_or (slice_set cs i c) k None) same ∙ get_or-set_same cs i c None slot_within)

    -- given another end
    module _ (e : ℕ) where
      pub rows_end : rows_in (slice_set cs i (Some (with_end e (row_in cs i)))) slots ≡ end_set id e rows
      rows_end = rows_ended cs i e slots slot_within in_list good.rising ∙ ap (λ k. end_set k e rows) (has_row cs id i has)

      pub good_end : Good (slice_set cs i (Some (with_end e (row_in cs i)))) ids slots
      good_end = record {
        named = good.named ∙ sym (ids_ended id e rows) ∙ ap (map id_of) (sym rows_end);
        rising = subst Rising (sym rows_end) (rising_end_set id e rows good.rising);
        matched = λ j. ⊎_elim
            (λ same. ap (λ k. listed k slots) same ∙ in_list ∙ sym (matched_here (Some (with_end e (row_in cs i))) j same))
            (λ other. sym (matched_over (Some (with_end e (row_in cs i))) j other))
            (cases_eq j i);
      }

    -- taken away
    module _ (alone : (j : ℕ) → has_id id (slice_index_or cs j None) ≡ true → j ≡ i) where
      at_place : has_id id (nth_row (place id rows) rows) ≡ true
      at_place = sym (holds_place id rows good.rising) ∙ held_at id i here

      pub place_within : place id rows < length slots
      place_within =
          ⊎_elim (λ lt. omega (arith, length-map slots (row_in cs)))
          (λ le. absurd (false≢true (sym (ap (has_id id) (nth_past (place id rows) rows le)) ∙ at_place)))
          (cases_lt (place id rows) (length rows))

      slot_there : (d : ℕ) → slice_index_or slots (place id rows) d ≡ i
      slot_there d =
          let j = get_or slots (place id rows) d in
          let l = place_within in
          let some = there j (listed_at slots (place id rows) d l) in
          alone j (row_has cs id j some ∙ ap (λ (x : Plain). nat_eq x.id id) (sym (get_or-map (row_in cs) slots (place id rows) d (row_in cs j) l))
          ∙ sym (ap (has_id id) (nth_get_or (place id rows) rows (row_in cs j) (omega (arith, length-map slots (row_in cs))))) ∙ at_place)

      not_left : listed i (remove slots (place id rows)) ≡ false
      not_left =
          ⊎_elim
          (λ h. absurd (both_ways _ (without_none id rows good.rising)
          (sym (ap (holds_id id) (map_removed (row_in cs) slots (place id rows) ∙ sym (without_place id rows at_place)))
          ∙ ap (λ k. holds_id k (rows_in cs (remove slots (place id rows)))) (sym (has_row cs id i has))
          ∙ listed_holds cs i (remove slots (place id rows)) h)))
          (λ h. h)
          (cases_Bool (listed i (remove slots (place id rows))))

      pub rows_cut : rows_in (slice_set cs i None) (remove slots (place id rows)) ≡ without id rows
      rows_cut = rows_same cs i None (remove slots (place id rows)) not_left ∙ map_removed (row_in cs) slots (place id rows) ∙ sym (without_place id rows at_place)

      pub good_cut : Good (slice_set cs i None) (remove ids (place id rows)) (remove slots (place id rows))
      good_cut = record {
        named = ap (λ z. remove z (place id rows)) good.named ∙ sym (map_removed id_of rows (place id rows))
            ∙ ap (map id_of) (sym (without_place id rows at_place) ∙ sym rows_cut);
        rising = subst Rising (sym rows_cut) (rising_without id rows good.rising);
        matched = λ j. ⊎_elim
            (λ same. ap (λ k. listed k (remove slots (place id rows))) same ∙ not_left ∙ sym (matched_here None j same))
            (λ other. listed_removed j slots (place id rows) (λ e. other (sym e ∙ slot_there j)) ∙ sym (matched_over None j other))
            (cases_eq j i);
      }
