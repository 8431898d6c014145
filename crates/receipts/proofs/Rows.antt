-- Rows: when two are equal, and which times a row has.
--     At t x                      the time t is in the row x
--     Apart xs                    rows of one id that share a time are one row
use Rattle.std.proofs.Common.{◌≡◌, ℕ, ◌<◌, ◌≤◌, true, false, ◌&&◌, eqb, ltb, List, refl, subst}
use Rattle.std.proofs.lemmas.Bool.{eqb-true, eq-eqb, ltb-true, and_parts, and_from, both_ways}
use Rattle.rows.specs.Rows.{Plain, same, standing}
use Rattle.rows.specs.Times.{finite, lawful_end}
use Rattle.receipts.specs.Lists.{In}

pub row_path : (x y : Plain) → x.id ≡ y.id → x.start ≡ y.start → x.end ≡ y.end → x.key ≡ y.key → x.value ≡ y.value → x ≡ y
row_path x y a b c d e = λ i. record { id = a i; start = b i; end = c i; key = d i; value = e i }

pub same_true : (x y : Plain) → same x y ≡ true → x ≡ y
same_true x y h =
    let a = and_parts _ _ h in
    let b = and_parts _ _ a.1 in
    let c = and_parts _ _ b.1 in
    let d = and_parts _ _ c.1 in
    row_path x y (eqb-true _ _ a.0) (eqb-true _ _ b.0) (eqb-true _ _ c.0) (eqb-true _ _ d.0) (eqb-true _ _ d.1)

same_refl : (x : Plain) → same x x ≡ true
same_refl x =
    let n : (k : ℕ) → eqb k k ≡ true = λ k. eq-eqb k k refl in
    and_from _ _ (n x.id) (and_from _ _ (n x.start) (and_from _ _ (n x.end) (and_from _ _ (n x.key) (n x.value))))

pub same_from : (x y : Plain) → x ≡ y → same x y ≡ true
same_from x y e = subst (λ z. same x z ≡ true) e (same_refl x)

pub same_false : (x y : Plain) → same x y ≡ false → x ≡ y → ⊥
same_false x y h e = both_ways (same x y) h (same_from x y e)

pub standing_forward : (x : Plain) → standing x ≡ true → x.start < x.end
standing_forward x h =
    let a = and_parts (finite x.start) (lawful_end x.end && ltb x.start x.end) h in
    ltb-true _ _ (and_parts (lawful_end x.end) (ltb x.start x.end) a.1).1

abbrev pub At : ℕ → Plain → Type 0
At t x = (x.start ≤ t) × (t < x.end)

abbrev pub Apart : List Plain → Type 0
Apart xs = (x y : Plain) (t : ℕ) → In x xs → In y xs → x.id ≡ y.id → At t x → At t y → x ≡ y
