-- Stores: what a store's edits do to its rows, and that an edit by id is a retraction's move (edited_is_moved).
--     ById x y                    x has the lower id
--     edited r e xs               the row of r's id is removed, or has the end e
use Rattle.std.proofs.Common.{◌≡◌, ℕ, suc, ◌+◌, ◌<◌, ◌≤◌, Bool, true, false, cond, eqb, ltb, List, [], ◌∷◌, length, Some, sym, refl, ap, ◌∙◌, subst, inl, inr, ⊎_elim, arith}
use Rattle.std.proofs.lemmas.Bool.{ltb-true, ltb-false, eqb-false, le-ltb, eq-eqb, ne_eqb, or_parts, cond_both, cond-true, cond-false, cases_Bool, both_ways, true≢false}
use Rattle.rows.specs.Rows.{Plain, same, with_end}
use Rattle.rows.specs.Times.{whole}
use Rattle.receipts.specs.Lists.{In, Once, total, one}
use Rattle.receipts.specs.Histories.{moved}
use Rattle.receipts.specs.Stores.{Above, Rising, found, holds_id, placed, end_set, without, kept, gone}
use Rattle.receipts.proofs.Lists.{Ordered}
use Rattle.receipts.proofs.Rows.{same_true, same_from}
use Rattle.receipts.proofs.Histories.{moved_in, moved_absent}

abbrev pub ById : Plain → Plain → Type 0
ById x y = x.id < y.id

pub by_id_irr : (x : Plain) → ById x x → ⊥
by_id_irr x h = omega (arith, h)

above_from : (n : ℕ) (xs : List Plain) → ((x : Plain) → In x xs → n < x.id) → Above n xs
above_from n [] h = tt
above_from n (x ∷ xs) h = (h x (inl refl), above_from n xs (λ y k. h y (inr k)))

pub rising_from : (xs : List Plain) → Ordered ById xs → Rising xs
rising_from [] h = tt
rising_from (x ∷ xs) h = (above_from x.id xs h.0, rising_from xs h.1)

pub holds_id_false : (id : ℕ) (xs : List Plain) (x : Plain) → holds_id id xs ≡ false → In x xs → x.id ≡ id → ⊥
holds_id_false id [] x h k e = k
holds_id_false id (y ∷ ys) x h (inl p) e = eqb-false _ _ (or_parts _ _ h).0 (ap (λ (z : Plain). z.id) (sym p) ∙ e)
holds_id_false id (y ∷ ys) x h (inr k) e = holds_id_false id ys x (or_parts _ _ h).1 k e

pub placed_in : (r : Plain) (xs : List Plain) (x : Plain) → In x (placed r xs) → In x (r ∷ xs)
placed_in r [] x h = h
placed_in r (y ∷ ys) x h =
    cond_both (ltb r.id y.id) (r ∷ (y ∷ ys)) (y ∷ placed r ys) (λ zs. In x zs → In x (r ∷ (y ∷ ys)))
    (λ t k. k)
    (λ f. ⊎_elim (λ p. inr (inl p)) (λ k. ⊎_elim (λ p. inl p) (λ m. inr (inr m)) (placed_in r ys x k)))
    h

pub placed_has : (r : Plain) (xs : List Plain) (x : Plain) → In x (r ∷ xs) → In x (placed r xs)
placed_has r [] x h = h
placed_has r (y ∷ ys) x h =
    let C : Type 0 = In x (y ∷ placed r ys) in
    cond_both (ltb r.id y.id) (r ∷ (y ∷ ys)) (y ∷ placed r ys) (λ zs. In x zs)
    (λ t. h)
    (λ f. ⊎_elim {C = C} (λ p. inr (placed_has r ys x (inl p))) (⊎_elim {C = C} (λ p. inl p) (λ m. inr (placed_has r ys x (inr m)))) h)

pub placed_ordered : (r : Plain) (xs : List Plain) → Ordered ById xs → ((x : Plain) → In x xs → x.id ≡ r.id → ⊥) → Ordered ById (placed r xs)
placed_ordered r [] h n = (λ z k. absurd k, tt)
placed_ordered r (y ∷ ys) h n =
    cond_both (ltb r.id y.id) (r ∷ (y ∷ ys)) (y ∷ placed r ys) (λ zs. Ordered ById zs)
    (λ t. let lt : r.id < y.id = ltb-true _ _ t in
    (λ z k. ⊎_elim (λ p. subst (λ (v : Plain). r.id < v.id) (sym p) lt) (λ m. omega (arith, lt, h.0 z m)) k, h))
    (λ f. let gt : y.id < r.id = omega (arith, ltb-false _ _ f, n y (inl refl)) in (
      λ z k. ⊎_elim (λ p. subst (λ (v : Plain). y.id < v.id) (sym p) gt) (λ m. h.0 z m) (placed_in r ys z k),
      placed_ordered r ys h.1 (λ x m. n x (inr m)),
    ))

pub placed_length : (r : Plain) (xs : List Plain) → length (placed r xs) ≡ length xs + 1
placed_length r [] = refl
placed_length r (x ∷ xs) =
    cond_both (ltb r.id x.id) (r ∷ (x ∷ xs)) (x ∷ placed r xs) (λ zs. length zs ≡ suc (length xs) + 1) (λ t. omega arith) (λ f. omega (arith, placed_length r xs))

pub found_in : (id : ℕ) (xs : List Plain) (x : Plain) → found id xs ≡ Some x → In x xs
found_in id [] x h = let clash : true ≡ false = cc in absurd (true≢false clash)
found_in id (y ∷ ys) x h =
    cond_both (eqb y.id id) (Some y) (found id ys) (λ o. o ≡ Some x → In x (y ∷ ys))
    (λ t p. let q : x ≡ y = cc in inl q)
    (λ f p. inr (found_in id ys x p))
    h

pub moved_ordered : (r : Plain) (e : ℕ) (xs : List Plain) → Ordered ById xs → Ordered ById (moved r e xs)
moved_ordered r e [] h = tt
moved_ordered r e (y ∷ ys) h =
    let M : List Plain = moved r e ys in
    let m : Ordered ById M = moved_ordered r e ys h.1 in
    let first : (z : Plain) → In z M → y.id < z.id = λ z k.
    ⊎_elim (λ a. h.0 z a.0) (λ b. subst (λ (v : Plain). y.id < v.id) (sym b.0) (h.0 r b.1)) (moved_in r e ys z k) in
    cond_both (same y r) (cond (whole r.start e) M (with_end e y ∷ M)) (y ∷ M) (λ zs. Ordered ById zs)
    (λ t. cond_both (whole r.start e) M (with_end e y ∷ M) (λ zs. Ordered ById zs) (λ u. m) (λ u. (first, m)))
    (λ f. (first, m))

abbrev pub edited : Plain → ℕ → List Plain → List Plain
edited r e xs = cond (whole r.start e) (without r.id xs) (end_set r.id e xs)

cond_cons : (b : Bool) (x : Plain) (xs ys : List Plain) → cond b (x ∷ xs) (x ∷ ys) ≡ x ∷ cond b xs ys
cond_cons true x xs ys = refl
cond_cons false x xs ys = refl

-- in rising id order, the row that has the id of r is r
pub edited_is_moved : (r : Plain) (e : ℕ) (xs : List Plain) → Ordered ById xs → In r xs → edited r e xs ≡ moved r e xs
edited_is_moved r e [] a h = absurd h
edited_is_moved r e (x ∷ xs) a (inl p) =
    let b : Bool = whole r.start e in
    let id : eqb x.id r.id ≡ true = eq-eqb x.id r.id (ap (λ (z : Plain). z.id) (sym p)) in
    let rest : xs ≡ moved r e xs = sym (moved_absent r e xs (λ k. by_id_irr x (a.0 x (subst (λ v. In v xs) p k)))) in
    (λ i. cond b (cond (id i) xs (x ∷ without r.id xs)) (cond (id i) (with_end e x ∷ xs) (x ∷ end_set r.id e xs)))
    ∙ (λ i. cond b (rest i) (with_end e x ∷ rest i))
    ∙ sym (cond-true (same x r) (cond b (moved r e xs) (with_end e x ∷ moved r e xs)) (x ∷ moved r e xs) (same_from x r (sym p)))
edited_is_moved r e (x ∷ xs) a (inr h) =
    let b : Bool = whole r.start e in
    let lt : x.id < r.id = a.0 r h in
    let id : eqb x.id r.id ≡ false = ne_eqb x.id r.id (λ q. omega (arith, q, lt)) in
    let other : same x r ≡ false =
    ⊎_elim (λ t. absurd (both_ways (eqb x.id r.id) id (eq-eqb x.id r.id (ap (λ (z : Plain). z.id) (same_true x r t))))) (λ f. f) (cases_Bool (same x r)) in
    (λ i. cond b (cond (id i) xs (x ∷ without r.id xs)) (cond (id i) (with_end e x ∷ xs) (x ∷ end_set r.id e xs)))
    ∙ cond_cons b x (without r.id xs) (end_set r.id e xs)
    ∙ ap (λ zs. x ∷ zs) (edited_is_moved r e xs a.1 h)
    ∙ sym (cond-false (same x r) (cond b (moved r e xs) (with_end e x ∷ moved r e xs)) (x ∷ moved r e xs) other)

pub moved_length : (r : Plain) (e : ℕ) (xs : List Plain) → Once xs → In r xs → one (whole r.start e) + length (moved r e xs) ≡ length xs
moved_length r e [] o h = absurd h
moved_length r e (x ∷ xs) o (inl p) =
    let rest : moved r e xs ≡ xs = moved_absent r e xs (λ k. o.0 (subst (λ v. In v xs) p k)) in
    let both : (b : Bool) → one b + length (cond b xs (with_end e x ∷ xs)) ≡ suc (length xs) = elim [ true ↦ omega arith | false ↦ omega arith ] in
    ap (λ zs. one (whole r.start e) + length zs)
    (cond-true (same x r) (cond (whole r.start e) (moved r e xs) (with_end e x ∷ moved r e xs)) (x ∷ moved r e xs) (same_from x r (sym p))
    ∙ (λ i. cond (whole r.start e) (rest i) (with_end e x ∷ rest i)))
    ∙ both (whole r.start e)
moved_length r e (x ∷ xs) o (inr h) =
    let M : List Plain = moved r e xs in
    cond_both (same x r) (cond (whole r.start e) M (with_end e x ∷ M)) (x ∷ M) (λ zs. one (whole r.start e) + length zs ≡ suc (length xs))
    (λ t. absurd (o.0 (subst (λ v. In v xs) (sym (same_true x r t)) h)))
    (λ f. omega (arith, moved_length r e xs o.1 h))

pub kept_in : (g : ℕ) (xs : List Plain) (x : Plain) → In x (kept g xs) → In x xs × (g ≤ x.end)
kept_in g [] x h = absurd h
kept_in g (y ∷ ys) x h =
    let C : Type 0 = In x (y ∷ ys) × (g ≤ x.end) in
    let more : In x (kept g ys) → C = λ k. (inr (kept_in g ys x k).0, (kept_in g ys x k).1) in
    cond_both (ltb y.end g) (kept g ys) (y ∷ kept g ys) (λ zs. In x zs → C)
    (λ t. more)
    (λ f. ⊎_elim {C = C} (λ p. (inl p, subst (λ (v : Plain). g ≤ v.end) (sym p) (ltb-false _ _ f))) more) h

pub kept_has : (g : ℕ) (xs : List Plain) (x : Plain) → In x xs → g ≤ x.end → In x (kept g xs)
kept_has g [] x h l = absurd h
kept_has g (y ∷ ys) x (inl p) l =
    cond_both (ltb y.end g) (kept g ys) (y ∷ kept g ys) (λ zs. In x zs)
    (λ t. absurd (both_ways _ (le-ltb _ _ (subst (λ (v : Plain). g ≤ v.end) p l)) t))
    (λ f. inl p)
kept_has g (y ∷ ys) x (inr h) l =
    let k : In x (kept g ys) = kept_has g ys x h l in
    cond_both (ltb y.end g) (kept g ys) (y ∷ kept g ys) (λ zs. In x zs) (λ t. k) (λ f. inr k)

pub kept_ordered : (g : ℕ) (xs : List Plain) → Ordered ById xs → Ordered ById (kept g xs)
kept_ordered g [] h = tt
kept_ordered g (y ∷ ys) h =
    let m : Ordered ById (kept g ys) = kept_ordered g ys h.1 in
    cond_both (ltb y.end g) (kept g ys) (y ∷ kept g ys) (λ zs. Ordered ById zs) (λ t. m) (λ f. (λ z k. h.0 z (kept_in g ys z k).0, m))

pub kept_once : (g : ℕ) (xs : List Plain) → Once xs → Once (kept g xs)
kept_once g [] h = tt
kept_once g (y ∷ ys) h =
    let m : Once (kept g ys) = kept_once g ys h.1 in
    cond_both (ltb y.end g) (kept g ys) (y ∷ kept g ys) (λ zs. Once zs) (λ t. m) (λ f. (λ k. h.0 (kept_in g ys y k).0, m))

-- rows that go add nothing to a sum that is 0 on them
pub kept_total : (g : ℕ) (f : Plain → ℕ) (xs : List Plain) → ((x : Plain) → x.end < g → f x ≡ 0) → total f (kept g xs) ≡ total f xs
kept_total g f [] h = refl
kept_total g f (y ∷ ys) h =
    let m : total f (kept g ys) ≡ total f ys = kept_total g f ys h in
    cond_both (ltb y.end g) (kept g ys) (y ∷ kept g ys) (λ zs. total f zs ≡ f y + total f ys)
    (λ t. omega (arith, m, h y (ltb-true _ _ t)))
    (λ e. ap (λ n. f y + n) m)

pub kept_length : (g : ℕ) (xs : List Plain) → gone g xs + length (kept g xs) ≡ length xs
kept_length g [] = refl
kept_length g (x ∷ xs) =
    let m : gone g xs + length (kept g xs) ≡ length xs = kept_length g xs in
    cond_both (ltb x.end g) (kept g xs) (x ∷ kept g xs) (λ zs. gone g (x ∷ xs) + length zs ≡ suc (length xs))
    (λ t. omega (arith, m, ap one t))
    (λ f. omega (arith, m, ap one f))
