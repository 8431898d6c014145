-- What a search for an id tells.
use Rattle.std.proofs.Common.{◌≡◌, ℕ, ◌<◌, ◌≤◌, zero, suc, List, [], ◌∷◌, map, length, get_or, Ok, Err, Result, sym, ap, ◌∙◌, subst, arith}
use Rattle.std.specs.Cmp.{ranks}
use Rattle.std.specs.List.Sorted.{IsBinarySearchResult, IsSearchInRange}
use Rattle.std.specs.Ordering.{nat_cmp, MatchOrdering, ordering_index}
use Rattle.std.specs.declared.cmp.Ordering.{Ordering}
use Rattle.std.specs.declared.cmp.Ordering.TheVariants.{Less, Equal, Greater}
use Rattle.std.proofs.lemmas.Bool.{cond-true, cond-false}
use Rattle.std.proofs.lemmas.Bool.Decides.{nat_tests}
use Rattle.std.proofs.lemmas.List.{length-map}
use Rattle.rows.specs.declared.row.PlainRow.{PlainRow}
use Rattle.rows.specs.Rows.{Plain, plain}
use Rattle.receipts.specs.Stores.{Rising}
use Rattle.stores.specs.Places.{id_of}
use Rattle.stores.proofs.Places.{at_row, at_gap}
use Rattle.stores.proofs.Plains.{rises_plain}
use Rattle.sorted.specs.Model.{spot}

higher : (a b id : ℕ) → a ≤ b → ordering_index (nat_cmp a id) ≤ ordering_index (nat_cmp b id)
higher a b id le = grind (arith, nat_tests)

-- what holds of the id of a row holds of that of its plain row
there : (P : ℕ → Type 0) (rows : List PlainRow) (k : ℕ) → k < length rows → ((e : PlainRow) → P (get_or rows k e).id) → (d : Plain) → P (id_of (get_or (map plain rows) k d))
there P [] k lt h d = absurd (omega arith)
there P (r ∷ rows) zero lt h d = h r
there P (r ∷ rows) (suc k) lt h d = there P rows k (omega arith) h d

-- a binary search by id
module _ (rows : List PlainRow) (up : Rising (map plain rows)) (id : ℕ) where
  compared : (o : Ordering) (k : ℕ) → k < length rows → ((e : PlainRow) → nat_cmp (get_or rows k e).id id ≡ o) → (d : Plain)
      → let n : ℕ = id_of (get_or (map plain rows) k d) in MatchOrdering o (n < id) (n ≡ id) (id < n)
  compared o k lt h d =
      there (λ n. MatchOrdering o (n < id) (n ≡ id) (id < n)) rows k lt
      (λ e. let n = (get_or rows k e).id in subst (λ r. MatchOrdering r (n < id) (n ≡ id) (id < n)) (h e) (ranks n id)) d

  search_told : (r : Result ℕ ℕ) → IsSearchInRange r (length rows) → IsBinarySearchResult (λ (row : PlainRow). nat_cmp row.id id) rows r → r ≡ spot id (map plain rows)
  search_told (Ok k) within h =
      let t = at_row (map plain rows) up id k (omega (arith, length-map rows plain)) (compared Equal k within h) in
      ap Ok t.1 ∙ sym (cond-true _ _ _ t.0)
  search_told (Err k) within h =
      let parted = h (λ i j d le lt. higher _ _ id (rises_plain rows up i j d le lt)) in
      let long = length-map rows plain in
      let t = at_gap (map plain rows) up id k (omega arith)
      (λ j d lt. compared Less j (omega arith) (λ a. parted.0 j a (omega arith) lt) d)
      (λ j d le lt. compared Greater j (omega arith) (λ a. parted.1 j a le (omega arith)) d) in
      ap Err t.1 ∙ sym (cond-false _ _ _ t.0)

pub spot_told : (rows xs : List PlainRow) → xs ≡ rows → Rising (map plain rows) → (id : ℕ) (r : Result ℕ ℕ)
    → IsSearchInRange r (length xs) → IsBinarySearchResult (λ (row : PlainRow). nat_cmp row.id id) xs r → r ≡ spot id (map plain rows)
spot_told rows xs is up id r within h =
    search_told rows up id r (subst (λ z. IsSearchInRange r (length z)) is within) (subst (λ z. IsBinarySearchResult (λ (row : PlainRow). nat_cmp row.id id) z r) is h)
