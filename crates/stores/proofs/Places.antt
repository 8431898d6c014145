-- What stands at the place of an id.
use Rattle.std.proofs.Common.{◌≡◌, ℕ, zero, suc, ◌<◌, ◌≤◌, Bool, true, false, cond, ◌||◌, eqb, ltb, List, [], ◌∷◌, map, length, get_or, is_some, Some, None, Option, sym, refl, ap, ◌∙◌, ⊎_elim, arith}
use Rattle.std.proofs.lemmas.Bool.{cond-true, cond-false, cond_both, lt-ltb, le-ltb, le-leb, lt-leb, eq-eqb, ne_eqb, cases_lt, true≢false}
use Rattle.std.specs.List.Sorted.{IsNonDecreasingBy}
use Rattle.rows.specs.Rows.{Plain}
use Rattle.receipts.specs.Stores.{Above, Rising, found, first_from, nth_row, holds_id}
use Rattle.stores.specs.Places.{below, id_of, place, has_id}
use Rattle.stores.proofs.Parted.{below_split}

pub below_le : {X : Type 0} (number : X → ℕ) (id : ℕ) (xs : List X) → below number id xs ≤ length xs
below_le number id [] = omega arith
below_le number id (x ∷ xs) =
    let more = below_le number id xs in
    cond_both (ltb (number x) id) (suc (below number id xs)) 0 (λ n. n ≤ suc (length xs)) (λ _. omega arith) (λ _. omega arith)

pub below_map : {X Y : Type 0} (number : Y → ℕ) (f : X → Y) (id : ℕ) (xs : List X) → below number id (map f xs) ≡ below (λ x. number (f x)) id xs
below_map number f id [] = refl
below_map number f id (x ∷ xs) = ap (λ n. cond (ltb (number (f x)) id) (suc n) 0) (below_map number f id xs)

-- the place is behind a row with a lower id, and not behind one with another
pub place_more : (id : ℕ) (x : Plain) (m : List Plain) → x.id < id → place id (x ∷ m) ≡ suc (place id m)
place_more id x m lt = cond-true _ _ _ (lt-ltb x.id id lt)

pub place_here : (id : ℕ) (x : Plain) (m : List Plain) → id ≤ x.id → place id (x ∷ m) ≡ 0
place_here id x m le = cond-false _ _ _ (le-ltb x.id id le)

pub nth_past : (k : ℕ) (m : List Plain) → length m ≤ k → nth_row k m ≡ None
nth_past k [] h = refl
nth_past zero (x ∷ m) h = absurd (omega arith)
nth_past (suc k) (x ∷ m) h = nth_past k m (omega arith)

pub nth_get_or : (k : ℕ) (m : List Plain) (d : Plain) → k < length m → nth_row k m ≡ Some (get_or m k d)
nth_get_or k [] d h = absurd (omega arith)
nth_get_or zero (x ∷ m) d h = refl
nth_get_or (suc k) (x ∷ m) d h = nth_get_or k m d (omega arith)

pub first_place : (id : ℕ) (m : List Plain) → first_from id m ≡ nth_row (place id m) m
first_place id [] = refl
first_place id (x ∷ m) =
    ⊎_elim
    (λ lt. cond-false _ _ _ (lt-leb id x.id lt) ∙ first_place id m ∙ sym (ap (λ n. nth_row n (x ∷ m)) (place_more id x m lt)))
    (λ le. cond-true _ _ _ (le-leb id x.id le) ∙ sym (ap (λ n. nth_row n (x ∷ m)) (place_here id x m le)))
    (cases_lt x.id id)

-- no row has an id that is not above those of all rows
pub found_above : (n id : ℕ) (m : List Plain) → Above n m → id ≤ n → found id m ≡ None
found_above n id [] h le = refl
found_above n id (x ∷ m) h le = cond-false _ _ _ (ne_eqb x.id id (λ e. omega (arith, h.0))) ∙ found_above n id m h.1 le

pub found_place : (id : ℕ) (m : List Plain) → Rising m → (o : Option Plain) → o ≡ nth_row (place id m) m → found id m ≡ cond (has_id id o) o None
found_place id m h o e = from_nth id m h ∙ ap (λ (z : Option Plain). cond (has_id id z) z None) (sym e)
  where
    from_nth : (id : ℕ) (m : List Plain) → Rising m → found id m ≡ cond (has_id id (nth_row (place id m) m)) (nth_row (place id m) m) None
    from_nth id [] h = refl
    from_nth id (x ∷ m) h =
        let at : ℕ → Option Plain = λ n. cond (has_id id (nth_row n (x ∷ m))) (nth_row n (x ∷ m)) None in
        ⊎_elim
        (λ lt. cond-false _ _ _ (ne_eqb x.id id (λ e. omega arith)) ∙ from_nth id m h.1 ∙ sym (ap at (place_more id x m lt)))
        (λ le. ap (cond (eqb x.id id) (Some x)) (found_above x.id id m h.0 le) ∙ sym (ap at (place_here id x m le)))
        (cases_lt x.id id)

pub holds_found : (id : ℕ) (m : List Plain) → holds_id id m ≡ is_some (found id m)
holds_found id [] = refl
holds_found id (x ∷ m) = by_test (eqb x.id id) (holds_found id m)
  where
    by_test : (b : Bool) → holds_id id m ≡ is_some (found id m) → (b || holds_id id m) ≡ is_some (cond b (Some x) (found id m))
    by_test true more = refl
    by_test false more = more

pub holds_place : (id : ℕ) (m : List Plain) → Rising m → holds_id id m ≡ has_id id (nth_row (place id m) m)
holds_place id m h = holds_found id m ∙ ap is_some (found_place id m h _ refl) ∙ some_of (nth_row (place id m) m)
  where
    by_test : (x : Plain) (b : Bool) → is_some (cond b (Some x) None) ≡ b
    by_test x true = refl
    by_test x false = refl

    some_of : (o : Option Plain) → is_some (cond (has_id id o) o None) ≡ has_id id o
    some_of None = refl
    some_of (Some x) = by_test x (eqb x.id id)

-- a row with a lower id stands at each place in front of another
pub rises_apart : (m : List Plain) → Rising m → (i j : ℕ) (d : Plain) → i < j → j < length m → id_of (get_or m i d) < id_of (get_or m j d)
rises_apart [] h i j d l lt = absurd (omega arith)
rises_apart (x ∷ xs) h i zero d l lt = absurd (omega arith)
rises_apart (x ∷ xs) h zero (suc j) d l lt = above_at x.id xs h.0 j (omega arith)
  where
    above_at : (n : ℕ) (m : List Plain) → Above n m → (j : ℕ) → j < length m → n < id_of (get_or m j d)
    above_at n [] h j lt = absurd (omega arith)
    above_at n (x ∷ m) h zero lt = h.0
    above_at n (x ∷ m) h (suc j) lt = above_at n m h.1 j (omega arith)
rises_apart (x ∷ xs) h (suc i) (suc j) d l lt = rises_apart xs h.1 i j d (omega arith) (omega arith)

pub rises_rising : (m : List Plain) → Rising m → IsNonDecreasingBy id_of m
rises_rising m h i j d le lt =
    ⊎_elim (λ l. omega (arith, rises_apart m h i j d l lt)) (λ l. let same : i ≡ j = omega arith in omega (arith, ap (λ k. id_of (get_or m k d)) same)) (cases_lt i j)

-- k is the place of a row of the id, or a place between the lower and the higher ids
module _ (m : List Plain) (up : Rising m) (id k : ℕ) where
  pub at_row : k < length m → ((d : Plain) → id_of (get_or m k d) ≡ id) → (holds_id id m ≡ true) × (k ≡ place id m)
  at_row lt there =
      let here : k ≡ place id m = below_split id_of id k m (omega arith)
      (λ j d l. omega (arith, rises_apart m up j k d l lt, there d))
      (λ j d l n. omega (arith, rises_rising m up k j d l n, there d)) in
      let d : Plain = record { id = 0; start = 0; end = 0; key = 0; value = 0 } in (
        holds_place id m up ∙ ap (λ n. has_id id (nth_row n m)) (sym here) ∙ ap (has_id id) (nth_get_or k m d lt) ∙ eq-eqb _ _ (there d),
        here,
      )

  pub at_gap : k ≤ length m → ((j : ℕ) (d : Plain) → j < k → id_of (get_or m j d) < id) → ((j : ℕ) (d : Plain) → k ≤ j → j < length m → id < id_of (get_or m j d))
      → (holds_id id m ≡ false) × (k ≡ place id m)
  at_gap le front back =
      let here : k ≡ place id m = below_split id_of id k m le front (λ j d l n. omega (arith, back j d l n)) in
      let d : Plain = record { id = 0; start = 0; end = 0; key = 0; value = 0 } in (
        holds_place id m up ∙ ap (λ n. has_id id (nth_row n m)) (sym here)
            ∙ ⊎_elim (λ lt. ap (has_id id) (nth_get_or k m d lt) ∙ ne_eqb _ _ (λ e. omega (arith, back k d (omega arith) lt))) (λ past. ap (has_id id) (nth_past k m past)) (cases_lt k (length m)),
        here,
      )

-- the row of an id that is held stands at its place
module _ (id : ℕ) (m : List Plain) where
  pub found_at_place : Rising m → holds_id id m ≡ true → found id m ≡ nth_row (place id m) m
  found_at_place up h = found_place id m up _ refl ∙ cond-true _ _ _ (sym (holds_place id m up) ∙ h)

  pub found_nothing : holds_id id m ≡ false → found id m ≡ None
  found_nothing h = is_some_none (found id m) (sym (holds_found id m) ∙ h)
    where
      is_some_none : (o : Option Plain) → is_some o ≡ false → o ≡ None
      is_some_none None e = refl
      is_some_none (Some x) e = absurd (true≢false e)

  pub place_within : Rising m → holds_id id m ≡ true → place id m < length m
  place_within up h =
      ⊎_elim (λ lt. lt)
      (λ past. absurd (true≢false (sym h ∙ holds_place id m up ∙ ap (has_id id) (nth_past (place id m) m past)))) (cases_lt (place id m) (length m))
