-- Rows that come, change and go at the place of their id.
use Rattle.std.proofs.Common.{◌≡◌, ℕ, suc, true, false, eqb, List, [], ◌∷◌, ◌++◌, map, take, drop, get_or, set, sym, refl, ap, ◌∙◌, ⊎_elim, arith}
use Rattle.std.proofs.lemmas.List.{map-append, take-map, drop-map}
use Rattle.std.proofs.lemmas.Bool.{cond-true, cond-false, lt-ltb, le-ltb, ne_eqb, eqb-false, or_parts, cases_lt}
use Rattle.std.specs.List.{insert, remove}
use Rattle.rows.specs.Rows.{Plain, with_end}
use Rattle.receipts.specs.Stores.{nth_row, holds_id, placed, end_set, without}
use Rattle.stores.specs.Places.{place, has_id}
use Rattle.stores.proofs.Places.{place_more, place_here}

pub map_inserted : {X Y : Type 0} (f : X → Y) (xs : List X) (k : ℕ) (x : X) → map f (insert xs k x) ≡ insert (map f xs) k (f x)
map_inserted f xs k x =
    map-append f (take k xs) (x ∷ drop k xs) ∙ ap (λ z. z ++ f x ∷ map f (drop k xs)) (sym (take-map f k xs))
    ∙ ap (λ z. take k (map f xs) ++ f x ∷ z) (sym (drop-map f k xs))

pub map_removed : {X Y : Type 0} (f : X → Y) (xs : List X) (k : ℕ) → map f (remove xs k) ≡ remove (map f xs) k
map_removed f xs k =
    map-append f (take k xs) (drop (suc k) xs) ∙ ap (λ z. z ++ map f (drop (suc k) xs)) (sym (take-map f k xs))
    ∙ ap (λ z. take k (map f xs) ++ z) (sym (drop-map f (suc k) xs))

pub placed_place : (r : Plain) (m : List Plain) → holds_id r.id m ≡ false → placed r m ≡ insert m (place r.id m) r
placed_place r [] h = refl
placed_place r (x ∷ m) h =
    let absent = or_parts (eqb x.id r.id) (holds_id r.id m) h in
    let other = eqb-false x.id r.id absent.0 in
    ⊎_elim
    (λ lt. cond-false _ _ _ (le-ltb r.id x.id (omega arith)) ∙ ap (λ z. x ∷ z) (placed_place r m absent.1)
    ∙ sym (ap (λ n. insert (x ∷ m) n r) (place_more r.id x m lt)))
    (λ le. cond-true _ _ _ (lt-ltb r.id x.id (omega arith)) ∙ sym (ap (λ n. insert (x ∷ m) n r) (place_here r.id x m le)))
    (cases_lt x.id r.id)

-- a row of the id stands at its place
module _ (id : ℕ) where
  pub without_place : (m : List Plain) → has_id id (nth_row (place id m) m) ≡ true → without id m ≡ remove m (place id m)
  without_place [] h = refl
  without_place (x ∷ m) h =
      ⊎_elim
      (λ lt. cond-false _ _ _ (ne_eqb x.id id (λ e. omega arith))
      ∙ ap (λ z. x ∷ z) (without_place m (sym (ap (λ n. has_id id (nth_row n (x ∷ m))) (place_more id x m lt)) ∙ h))
      ∙ sym (ap (remove (x ∷ m)) (place_more id x m lt)))
      (λ le. cond-true _ _ _ (sym (ap (λ n. has_id id (nth_row n (x ∷ m))) (place_here id x m le)) ∙ h) ∙ sym (ap (remove (x ∷ m)) (place_here id x m le)))
      (cases_lt x.id id)

  pub end_set_place : (e : ℕ) (d : Plain) (m : List Plain) → has_id id (nth_row (place id m) m) ≡ true
      → end_set id e m ≡ set m (place id m) (with_end e (get_or m (place id m) d))
  end_set_place e d [] h = refl
  end_set_place e d (x ∷ m) h =
      let at : ℕ → List Plain = λ n. set (x ∷ m) n (with_end e (get_or (x ∷ m) n d)) in
      ⊎_elim
      (λ lt. cond-false _ _ _ (ne_eqb x.id id (λ e. omega arith))
      ∙ ap (λ z. x ∷ z) (end_set_place e d m (sym (ap (λ n. has_id id (nth_row n (x ∷ m))) (place_more id x m lt)) ∙ h))
      ∙ sym (ap at (place_more id x m lt)))
      (λ le. cond-true _ _ _ (sym (ap (λ n. has_id id (nth_row n (x ∷ m))) (place_here id x m le)) ∙ h) ∙ sym (ap at (place_here id x m le)))
      (cases_lt x.id id)
