-- Histories: what a retraction moves, and what the history up to a time has.
--     Moved r e xs x              x is a row of xs other than r, or r with the end e
--     cut t x                     x with an end above t cut to t
--     OneLate t xs                rows of one id that end at t or later are one row
use Rattle.std.proofs.Common.{◌≡◌, ℕ, ◌<◌, ◌≤◌, min, cond, ltb, ◌⊎◌, List, [], ◌∷◌, ◌++◌, sym, refl, ap, ◌∙◌, subst, inl, inr, ⊎_elim, arith}
use Rattle.std.proofs.lemmas.Bool.{ltb-true, eqb-true, eqb-false, lt-ltb, le-ltb, cond_both, cond-false, cases_lt, both_ways}
use Rattle.rows.specs.Rows.{Plain, same, with_end}
use Rattle.rows.specs.Events.{PlainEvent}
use Rattle.rows.specs.Times.{whole}
use Rattle.receipts.specs.Lists.{In, Once}
use Rattle.receipts.specs.Histories.{moved, applied, history_from, up_to}
use Rattle.receipts.proofs.Rows.{row_path, same_true, same_false}

pub history_more : (rows : List Plain) (es : List PlainEvent) (e : PlainEvent) → history_from rows (es ++ (e ∷ [])) ≡ applied e (history_from rows es)
history_more rows [] e = refl
history_more rows (f ∷ es) e = history_more (applied f rows) es e

abbrev pub Moved : Plain → ℕ → List Plain → Plain → Type 0
Moved r e xs x = (In x xs × (x ≡ r → ⊥)) ⊎ ((x ≡ with_end e r) × In r xs × (e ≡ r.start → ⊥))

moved_further : (r : Plain) (e : ℕ) (y : Plain) (ys : List Plain) (x : Plain) → Moved r e ys x → Moved r e (y ∷ ys) x
moved_further r e y ys x (inl h) = inl (inr h.0, h.1)
moved_further r e y ys x (inr h) = inr (h.0, inr h.1, h.2)

pub moved_in : (r : Plain) (e : ℕ) (xs : List Plain) (x : Plain) → In x (moved r e xs) → Moved r e xs x
moved_in r e [] x h = absurd h
moved_in r e (y ∷ ys) x h =
    let M : List Plain = moved r e ys in
    let more : In x M → Moved r e (y ∷ ys) x = λ k. moved_further r e y ys x (moved_in r e ys x k) in
    cond_both (same y r) (cond (whole r.start e) M (with_end e y ∷ M)) (y ∷ M) (λ zs. In x zs → Moved r e (y ∷ ys) x)
    (λ t. cond_both (whole r.start e) M (with_end e y ∷ M) (λ zs. In x zs → Moved r e (y ∷ ys) x)
    (λ u. more)
    (λ u. ⊎_elim (λ p. inr (p ∙ ap (with_end e) (same_true y r t), inl (sym (same_true y r t)), eqb-false _ _ u)) more))
    (λ f. ⊎_elim (λ p. inl (inl p, λ q. same_false y r f (sym p ∙ q))) more)
    h

pub moved_has : (r : Plain) (e : ℕ) (xs : List Plain) (x : Plain) → Moved r e xs x → In x (moved r e xs)
moved_has r e [] x (inl h) = absurd h.0
moved_has r e [] x (inr h) = absurd h.1
moved_has r e (y ∷ ys) x h =
    let M : List Plain = moved r e ys in
    cond_both (same y r) (cond (whole r.start e) M (with_end e y ∷ M)) (y ∷ M) (λ zs. In x zs)
    (λ t.
    let p : y ≡ r = same_true y r t in
    cond_both (whole r.start e) M (with_end e y ∷ M) (λ zs. In x zs)
    (λ u. ⊎_elim
    (λ k. moved_has r e ys x (inl (⊎_elim (λ q. absurd (k.1 (q ∙ p))) (λ i. i) k.0, k.1)))
    (λ k. absurd (k.2 (eqb-true _ _ u))) h)
    (λ u. ⊎_elim {C = In x (with_end e y ∷ M)}
    (λ k. inr (moved_has r e ys x (inl (⊎_elim (λ q. absurd (k.1 (q ∙ p))) (λ i. i) k.0, k.1))))
    (λ k. inl (k.0 ∙ ap (with_end e) (sym p))) h))
    (λ f. ⊎_elim {C = In x (y ∷ M)}
    (λ k. ⊎_elim {C = In x (y ∷ M)} (λ q. inl q) (λ i. inr (moved_has r e ys x (inl (i, k.1)))) k.0)
    (λ k. inr (moved_has r e ys x (inr (k.0, ⊎_elim (λ q. absurd (same_false y r f (sym q))) (λ i. i) k.1, k.2))))
    h)

-- a row that is not there is not moved
pub moved_absent : (r : Plain) (e : ℕ) (xs : List Plain) → (In r xs → ⊥) → moved r e xs ≡ xs
moved_absent r e [] n = refl
moved_absent r e (y ∷ ys) n =
    let M : List Plain = moved r e ys in
    cond_both (same y r) (cond (whole r.start e) M (with_end e y ∷ M)) (y ∷ M) (λ zs. zs ≡ y ∷ ys)
    (λ t. absurd (n (inl (sym (same_true y r t)))))
    (λ f. ap (λ zs. y ∷ zs) (moved_absent r e ys (λ k. n (inr k))))

pub moved_once : (r : Plain) (e : ℕ) (xs : List Plain) → Once xs → (In (with_end e r) xs → ⊥) → Once (moved r e xs)
moved_once r e [] o n = tt
moved_once r e (y ∷ ys) o n =
    let M : List Plain = moved r e ys in
    let m : Once M = moved_once r e ys o.1 (λ k. n (inr k)) in
    cond_both (same y r) (cond (whole r.start e) M (with_end e y ∷ M)) (y ∷ M) (λ zs. Once zs)
    (λ t. let p : y ≡ r = same_true y r t in
    cond_both (whole r.start e) M (with_end e y ∷ M) (λ zs. Once zs) (λ u. m)
    (λ u. (
      λ k. ⊎_elim
          (λ a. n (inr (subst (λ v. In v ys) (ap (with_end e) p) a.0)))
          (λ b. o.0 (subst (λ v. In v ys) (sym p) b.1))
          (moved_in r e ys (with_end e y) k),
      m,
    )))
    (λ f. (λ k. ⊎_elim (λ a. o.0 a.0) (λ b. n (inl (sym b.0))) (moved_in r e ys y k), m))

-- a retraction whose two ends are at t or later leaves the history up to t as it is
pub moved_up_to : (t : ℕ) (r : Plain) (e : ℕ) (xs : List Plain) → t ≤ r.end → t ≤ e → up_to t (moved r e xs) ≡ up_to t xs
moved_up_to t r e [] a b = refl
moved_up_to t r e (y ∷ ys) a b =
    let M : List Plain = moved r e ys in
    let U : List Plain = up_to t ys in
    let m : up_to t M ≡ U = moved_up_to t r e ys a b in
    let Y : List Plain = cond (ltb y.start t) (with_end (min y.end t) y ∷ U) U in
    cond_both (same y r) (cond (whole r.start e) M (with_end e y ∷ M)) (y ∷ M) (λ zs. up_to t zs ≡ Y)
    (λ s. let p : y ≡ r = same_true y r s in
    cond_both (whole r.start e) M (with_end e y ∷ M) (λ zs. up_to t zs ≡ Y)
    (λ u. m ∙ sym (cond-false (ltb y.start t) _ U (le-ltb _ _ (omega (arith, b, eqb-true _ _ u, ap (λ (z : Plain). z.start) p)))))
    (λ u. let q : min e t ≡ min y.end t = omega (arith, a, b, ap (λ (z : Plain). z.end) p) in
    λ i. cond (ltb y.start t) (with_end (q i) y ∷ m i) (m i)))
    (λ f. λ i. cond (ltb y.start t) (with_end (min y.end t) y ∷ m i) (m i))

abbrev pub cut : ℕ → Plain → Plain
cut t x = with_end (min x.end t) x

pub up_to_in : (t : ℕ) (xs : List Plain) (x : Plain) → In x (up_to t xs) → (y : Plain) × In y xs × (y.start < t) × (x ≡ cut t y)
up_to_in t [] x h = absurd h
up_to_in t (y ∷ ys) x h =
    let C : Type 0 = (z : Plain) × In z (y ∷ ys) × (z.start < t) × (x ≡ cut t z) in
    let more : In x (up_to t ys) → C = λ k. let w = up_to_in t ys x k in (w.0, inr w.1, w.2, w.3) in
    cond_both (ltb y.start t) (cut t y ∷ up_to t ys) (up_to t ys) (λ zs. In x zs → C)
    (λ u. ⊎_elim {C = C} (λ p. (y, inl refl, ltb-true _ _ u, p)) more)
    (λ f. more) h

pub up_to_has : (t : ℕ) (xs : List Plain) (y : Plain) → In y xs → y.start < t → In (cut t y) (up_to t xs)
up_to_has t [] y h l = absurd h
up_to_has t (x ∷ xs) y (inl p) l =
    cond_both (ltb x.start t) (cut t x ∷ up_to t xs) (up_to t xs) (λ zs. In (cut t y) zs)
    (λ u. inl (ap (cut t) p))
    (λ f. absurd (both_ways _ f (lt-ltb _ _ (subst (λ (v : Plain). v.start < t) p l))))
up_to_has t (x ∷ xs) y (inr h) l =
    let k : In (cut t y) (up_to t xs) = up_to_has t xs y h l in
    cond_both (ltb x.start t) (cut t x ∷ up_to t xs) (up_to t xs) (λ zs. In (cut t y) zs) (λ u. inr k) (λ f. k)

abbrev pub OneLate : ℕ → List Plain → Type 0
OneLate t xs = (x y : Plain) → In x xs → In y xs → t ≤ x.end → t ≤ y.end → x.id ≡ y.id → x ≡ y

pub up_to_once : (t : ℕ) (xs : List Plain) → Once xs → OneLate t xs → Once (up_to t xs)
up_to_once t [] o u = tt
up_to_once t (x ∷ xs) o u =
    let m : Once (up_to t xs) = up_to_once t xs o.1 (λ v w a b. u v w (inr a) (inr b)) in
    let fresh : In (cut t x) (up_to t xs) → ⊥ = λ k.
    let w = up_to_in t xs (cut t x) k in
    let y : Plain = w.0 in
    let p : cut t x ≡ cut t y = w.3 in
    let id : x.id ≡ y.id = ap (λ (z : Plain). z.id) p in
    let e : min x.end t ≡ min y.end t = ap (λ (z : Plain). z.end) p in
    let q : x ≡ y = ⊎_elim
    (λ (early : x.end < t). row_path x y id (ap (λ (z : Plain). z.start) p) (omega (arith, e, early)) (ap (λ (z : Plain). z.key) p) (ap (λ (z : Plain). z.value) p))
    (λ (late : t ≤ x.end). u x y (inl refl) (inr w.1) late (omega (arith, e, late)) id)
    (cases_lt x.end t) in
    o.0 (subst (λ v. In v xs) (sym q) w.1) in
    cond_both (ltb x.start t) (cut t x ∷ up_to t xs) (up_to t xs) (λ zs. Once zs) (λ a. (fresh, m)) (λ f. m)
