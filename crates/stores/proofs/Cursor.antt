-- Walking a store in id order: what is left from an id on.
--     rest id rows                the rows from the first whose id is not below id
use Rattle.std.proofs.Common.{◌≡◌, ℕ, zero, suc, ◌+◌, ◌<◌, ◌≤◌, Bool, true, false, cond, leb, List, [], ◌∷◌, length, drop, Some, None, Option, sym, refl, ap, ◌∙◌, arith}
use Rattle.std.proofs.lemmas.List.{drop-drop, length-drop}
use Rattle.std.proofs.lemmas.Bool.{le-leb, lt-leb, leb-true, leb-false, cond-true, cond-false}
use Rattle.rows.specs.Rows.{Plain}
use Rattle.receipts.specs.Stores.{Above, Rising, first_from, nth_row}
use Rattle.stores.specs.Told.{Numbered}
use Rattle.stores.proofs.Places.{nth_past}

abbrev pub rest : ℕ → List Plain → List Plain
rest id [] = []
rest id (x ∷ xs) = cond (leb id x.id) (x ∷ xs) (rest id xs)

pub rest_zero : (xs : List Plain) → rest 0 xs ≡ xs
rest_zero [] = refl
rest_zero (x ∷ xs) = cond-true _ _ _ (le-leb 0 x.id (omega arith))

rest_above : (id : ℕ) (xs : List Plain) → Above id xs → rest (id + 1) xs ≡ xs
rest_above id [] h = refl
rest_above id (x ∷ xs) h = cond-true _ _ _ (le-leb (id + 1) x.id (omega (arith, h.0)))

-- past every id nothing is left
rest_past : (xs : List Plain) → Numbered xs → rest 4294967296 xs ≡ []
rest_past [] h = refl
rest_past (x ∷ xs) h = cond-false _ _ _ (lt-leb 4294967296 x.id (omega (arith, h.0))) ∙ rest_past xs h.1

first_rest_at : (x : Plain) (xs more : List Plain) (b : Bool) (o : Option Plain) → o ≡ nth_row 0 more → cond b (Some x) o ≡ nth_row 0 (cond b (x ∷ xs) more)
first_rest_at x xs more true o e = refl
first_rest_at x xs more false o e = e

first_rest : (id : ℕ) (xs : List Plain) → first_from id xs ≡ nth_row 0 (rest id xs)
first_rest id [] = refl
first_rest id (x ∷ xs) = first_rest_at x xs (rest id xs) (leb id x.id) (first_from id xs) (first_rest id xs)

low_at : (id : ℕ) (x y : Plain) (more : Option Plain) (b : Bool) → leb id x.id ≡ b → (more ≡ Some y → id ≤ y.id) → cond b (Some x) more ≡ Some y → id ≤ y.id
low_at id x y more true t below e =
    let q : x ≡ y = cc in
    let h : id ≤ x.id = leb-true id x.id t in
    rw q at h
low_at id x y more false t below e = below e

first_low : (id : ℕ) (xs : List Plain) (y : Plain) → first_from id xs ≡ Some y → id ≤ y.id
first_low id [] y e = let z : ◌≡◌ {A = ℕ} 0 1 = cc in omega arith
first_low id (x ∷ xs) y e = low_at id x y (first_from id xs) (leb id x.id) refl (first_low id xs y) e

rest_more_at : (id : ℕ) (x : Plain) (xs : List Plain) → Rising (x ∷ xs) → (y : Plain) (b : Bool) → leb id x.id ≡ b
    → (first_from id xs ≡ Some y → rest id xs ≡ y ∷ rest (y.id + 1) xs)
    → cond b (Some x) (first_from id xs) ≡ Some y → cond b (x ∷ xs) (rest id xs) ≡ y ∷ rest (y.id + 1) (x ∷ xs)
rest_more_at id x xs r y true t below e =
    let q : x ≡ y = cc in
    let past : rest (x.id + 1) (x ∷ xs) ≡ xs = cond-false _ _ _ (lt-leb (x.id + 1) x.id (omega arith)) ∙ rest_above x.id xs r.0 in
    ap (λ zs. x ∷ zs) (sym past) ∙ ap (λ (z : Plain). z ∷ rest (z.id + 1) (x ∷ xs)) q
rest_more_at id x xs r y false t below e =
    let low : id ≤ y.id = first_low id xs y e in
    let up : x.id < id = leb-false id x.id t in
    below e ∙ ap (λ zs. y ∷ zs) (sym (cond-false _ (x ∷ xs) (rest (y.id + 1) xs) (lt-leb (y.id + 1) x.id (omega arith))))

-- the first row from id on, then what is left from behind it
rest_more : (id : ℕ) (xs : List Plain) → Rising xs → (y : Plain) → first_from id xs ≡ Some y → rest id xs ≡ y ∷ rest (y.id + 1) xs
rest_more id [] r y e = cc
rest_more id (x ∷ xs) r y e = rest_more_at id x xs r y (leb id x.id) refl (rest_more id xs r.1 y) e

rest_none_at : (x : Plain) (more : Option Plain) (xs zs : List Plain) (b : Bool) → (more ≡ None → zs ≡ []) → cond b (Some x) more ≡ None → cond b (x ∷ xs) zs ≡ []
rest_none_at x more xs zs true below e = cc
rest_none_at x more xs zs false below e = below e

rest_none : (id : ℕ) (xs : List Plain) → first_from id xs ≡ None → rest id xs ≡ []
rest_none id [] e = refl
rest_none id (x ∷ xs) e = rest_none_at x (first_from id xs) xs (rest id xs) (leb id x.id) (rest_none id xs) e

nth_drop : (i k : ℕ) (xs : List Plain) → nth_row k (drop i xs) ≡ nth_row (i + k) xs
nth_drop zero k xs = ap (λ n. nth_row n xs) (omega arith)
nth_drop (suc i) k [] = refl
nth_drop (suc i) k (x ∷ xs) = nth_drop i k xs ∙ sym (ap (λ n. nth_row n (x ∷ xs)) {x = suc i + k} {y = suc (i + k)} (omega arith))

-- where nothing is left at a place, nothing stands there or behind
nth_none : (i k : ℕ) (xs : List Plain) → i ≤ k → drop i xs ≡ [] → nth_row k xs ≡ None
nth_none i k xs l e = nth_past k xs (omega (arith, length-drop i xs, ap length e))

-- the walk has passed i rows, and from is where it goes on
module _ (from i : ℕ) (xs : List Plain) (walked : rest from xs ≡ drop i xs) where
  pub walked_more : Rising xs → (y : Plain) → Some y ≡ first_from from xs → (next : ℕ) → next ≡ y.id + 1 → rest next xs ≡ drop (i + 1) xs
  walked_more r y e next is = ap (λ id. rest id xs) is ∙ ap (drop 1) (sym (rest_more from xs r y (sym e)) ∙ walked) ∙ drop-drop 1 i xs

  pub walked_here : (place : ℕ) → i ≡ place → first_from from xs ≡ nth_row place xs
  walked_here place e = first_rest from xs ∙ ap (nth_row 0) walked ∙ nth_drop i 0 xs ∙ ap (λ n. nth_row n xs) (omega arith)

  pub walked_out : (place : ℕ) → i ≤ place → None ≡ first_from from xs → None ≡ nth_row place xs
  walked_out place l e = sym (nth_none i place xs l (sym walked ∙ rest_none from xs (sym e)))

  pub walked_last : (place : ℕ) → i < place → Rising xs → Numbered xs → (y : Plain) → Some y ≡ first_from from xs → y.id ≡ 4294967295 → None ≡ nth_row place xs
  walked_last place l r n y e top =
      sym (nth_none (i + 1) place xs (omega arith) (sym (walked_more r y e (y.id + 1) refl) ∙ ap (λ id. rest (id + 1) xs) top ∙ rest_past xs n))
