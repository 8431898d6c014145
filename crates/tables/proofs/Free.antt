-- Free slots: the search for one ends at a slot without a row, and finds one where there are fewer rows than slots.
use Rattle.std.proofs.Common.{◌≡◌, ℕ, zero, suc, ◌+◌, ◌-◌, ◌%◌, ◌<◌, Bool, true, false, cond, List, [], ◌∷◌, length, get_or, set, is_some, Some, None, Option, sym, refl, ap, ◌∙◌, subst, arith}
use Rattle.std.proofs.lemmas.List.Sums.{sum_by-cons, sum_by-set}
use Rattle.rows.specs.Rows.{Plain}
use Rattle.tables.specs.Cells.{filled, home, next, free_from, free_slot}
use Rattle.tables.proofs.Found.{none_some, no_some}

pub home_within : (id : ℕ) → home id < 512
home_within id = omega arith

free_at : (b : Bool) (on : Option ℕ) (i j : ℕ) (P : ℕ → Type 0) → (b ≡ false → P i) → (on ≡ Some j → P j) → cond b on (Some i) ≡ Some j → P j
free_at true on i j P here more e = more e
free_at false on i j P here more e = let z : i ≡ j = cc in subst P z (here refl)

free_from_free : (n i : ℕ) (cs : List (Option Plain)) (j : ℕ) → i < 512 → free_from n i cs ≡ Some j → (j < 512) × (is_some (get_or cs j None) ≡ false)
free_from_free zero i cs j l e = absurd (none_some j e)
free_from_free (suc n) i cs j l e =
    free_at (is_some (get_or cs i None)) _ i j (λ k. (k < 512) × (is_some (get_or cs k None) ≡ false)) (λ h. (l, h)) (free_from_free n (next i) cs j (omega arith)) e

pub free_slot_free : (id : ℕ) (cs : List (Option Plain)) (j : ℕ) → free_slot id cs ≡ Some j → (j < 512) × (is_some (get_or cs j None) ≡ false)
unfolding free_slot
free_slot_free id cs j e = free_from_free (length cs) (home id) cs j (home_within id) e

-- where no slot is free, each holds a row
held_at : (b : Bool) (on : Option ℕ) (i : ℕ) → cond b on (Some i) ≡ None → (b ≡ true) × (on ≡ None)
held_at true on i e = (refl, e)
held_at false on i e = absurd (none_some i (sym e))

held_from : (n i : ℕ) (cs : List (Option Plain)) → i < 512 → free_from n i cs ≡ None → (d : ℕ) → d < n → is_some (get_or cs ((i + d) % 512) None) ≡ true
held_from zero i cs l e d h = absurd (omega arith)
held_from (suc n) i cs l e zero h =
    let same : i ≡ (i + 0) % 512 = omega arith in
    subst (λ k. is_some (get_or cs k None) ≡ true) same (held_at (is_some (get_or cs i None)) _ i e).0
held_from (suc n) i cs l e (suc d) h =
    let same : ((i + 1) % 512 + d) % 512 ≡ (i + suc d) % 512 = omega arith in
    subst (λ k. is_some (get_or cs k None) ≡ true) same (held_from n (next i) cs (omega arith) (held_at (is_some (get_or cs i None)) _ i e).1 d (omega arith))

all_filled : (cs : List (Option Plain)) → ((j : ℕ) → j < length cs → is_some (get_or cs j None) ≡ true) → filled cs ≡ length cs
all_filled [] h = refl
all_filled (c ∷ cs) h =
    let one : cond {A = ℕ} (is_some c) 1 0 ≡ 1 = ap (λ b. cond b 1 0) (h 0 (omega arith)) in
    let more = all_filled cs (λ j l. h (suc j) (omega arith)) in
    omega (arith, sum_by-cons (λ x. cond (is_some x) 1 0) c cs)

turned : (h j : ℕ) → h < 512 → j < 512 → (h + (j + (512 - h)) % 512) % 512 ≡ j
turned h j a b = omega arith

pub free_slot_some : (id : ℕ) (cs : List (Option Plain)) → length cs ≡ 512 → filled cs < 512 → free_slot id cs ≡ None → ⊥
unfolding free_slot
free_slot_some id cs long few e =
    let full = all_filled cs (λ j h.
    subst (λ k. is_some (get_or cs k None) ≡ true) (turned (home id) j (home_within id) (omega arith))
    (held_from (length cs) (home id) cs (home_within id) e ((j + (512 - home id)) % 512) (omega arith))) in
    omega arith

-- how many rows there are after a write
counted : (cs : List (Option Plain)) (i : ℕ) (c was : Option Plain) → i < length cs → get_or cs i None ≡ was → filled (set cs i c) + cond (is_some was) 1 0 ≡ filled cs + cond (is_some c) 1 0
counted cs i c was l e = ap (λ z. filled (set cs i c) + cond (is_some z) 1 0) (sym e) ∙ sum_by-set (λ z. cond (is_some z) 1 0) cs i c None l

pub filled_more : (cs : List (Option Plain)) (i : ℕ) (r : Plain) → i < length cs → is_some (get_or cs i None) ≡ false → filled (set cs i (Some r)) ≡ filled cs + 1
filled_more cs i r l free = omega (arith, counted cs i (Some r) None l (no_some (get_or cs i None) free))

pub filled_same : (cs : List (Option Plain)) (i : ℕ) (r x : Plain) → i < length cs → get_or cs i None ≡ Some x → filled (set cs i (Some r)) ≡ filled cs
filled_same cs i r x l e = omega (arith, counted cs i (Some r) (Some x) l e)

pub filled_less : (cs : List (Option Plain)) (i : ℕ) (x : Plain) → i < length cs → get_or cs i None ≡ Some x → filled (set cs i None) + 1 ≡ filled cs
filled_less cs i x l e = omega (arith, counted cs i None (Some x) l e)
