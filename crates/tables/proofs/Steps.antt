-- A search, slot by slot, and what the two searches for an id stop at.
use Rattle.std.proofs.Common.{◌≡◌, ℕ, zero, suc, ◌+◌, ◌-◌, ◌%◌, ◌<◌, ◌≤◌, Bool, true, false, cond, not, eqb, List, map, length, get_or, is_some, Some, None, Option, sym, refl, ap, ◌∙◌, arith}
use Rattle.std.proofs.lemmas.List.{length-map}
use Rattle.std.proofs.lemmas.Bool.{cond-true, cond-false}
use Rattle.std.specs.Option.{option_and}
use Rattle.rows.specs.declared.row.PlainRow.{PlainRow}
use Rattle.stores.specs.Told.{seen}
use Rattle.tables.specs.declared.slot.Slot.{Slot}
use Rattle.tables.specs.declared.slot.Slot.TheVariants.{Empty, Deleted, Full}
use Rattle.tables.specs.Cells.{home, next, free_from, free_slot}
use Rattle.tables.specs.Slots.{cell, hit, pass, look, by_look, probed_from, probed, sought_from, sought}
use Rattle.tables.proofs.Found.{cell_at}

-- after k slots, the search from there on for what is left ends as the whole search does
pub record Probing (p : Slot → Bool) (id : ℕ) (slots : List Slot) (k : ℕ) : Type 0 where
  pub left : probed_from p (512 - k) ((home id + k) % 512) slots ≡ probed p id slots

pub probing_none : (p : Slot → Bool) (id : ℕ) (slots : List Slot) → length slots ≡ 512 → Probing p id slots 0
unfolding probed
probing_none p id slots long =
    let here : (home id + 0) % 512 ≡ home id = omega arith in
    record { left = ap (λ i. probed_from p 512 i slots) here ∙ ap (λ n. probed_from p n (home id) slots) (sym long) }

module _ (p : Slot → Bool) (id : ℕ) (slots : List Slot) (k : ℕ) (probing : Probing p id slots k) where
  step : k < 512 → cond (p (get_or slots ((home id + k) % 512) Empty)) (Some ((home id + k) % 512)) (probed_from p (512 - (k + 1)) (next ((home id + k) % 512)) slots) ≡ probed p id slots
  step l =
      let more : 512 - k ≡ suc (512 - (k + 1)) = omega arith in
      sym (ap (λ n. probed_from p n ((home id + k) % 512) slots) more) ∙ probing.left

  pub probing_stop : k < 512 → p (get_or slots ((home id + k) % 512) Empty) ≡ true → Some ((home id + k) % 512) ≡ probed p id slots
  probing_stop l e = sym (cond-true _ _ _ e) ∙ step l

  pub probing_more : k < 512 → p (get_or slots ((home id + k) % 512) Empty) ≡ false → Probing p id slots (k + 1)
  probing_more l e =
      let on : (home id + (k + 1)) % 512 ≡ next ((home id + k) % 512) = omega arith in
      record { left = ap (λ i. probed_from p (512 - (k + 1)) i slots) on ∙ sym (cond-false _ _ _ e) ∙ step l }

  pub probing_all : 512 ≤ k → None ≡ probed p id slots
  probing_all l =
      let none : 512 - k ≡ 0 = omega arith in
      sym (ap (λ n. probed_from p n ((home id + k) % 512) slots) none) ∙ probing.left

-- a search for a free slot stops at one without a row
abbrev pub is_free : Slot → Bool
is_free s = not (is_some (cell s))

free_from_probed : (n i : ℕ) (slots : List Slot) → probed_from is_free n i slots ≡ free_from n i (map cell slots)
free_from_probed zero i slots = refl
free_from_probed (suc n) i slots =
    by_test (is_some (cell (get_or slots i Empty))) (free_from_probed n (next i) slots)
    ∙ ap (λ c. cond (is_some c) (free_from n (next i) (map cell slots)) (Some i)) (sym (cell_at slots i))
  where
    by_test : (b : Bool) {more on : Option ℕ} → more ≡ on → cond (not b) (Some i) more ≡ cond b on (Some i)
    by_test true e = e
    by_test false e = refl

pub free_probed : (id : ℕ) (slots : List Slot) → probed is_free id slots ≡ free_slot id (map cell slots)
unfolding probed free_slot
free_probed id slots = free_from_probed (length slots) (home id) slots ∙ ap (λ n. free_from n (home id) (map cell slots)) (sym (length-map slots cell))

-- a search for an id stops at an empty slot, and at the row of the id
abbrev pub ends : ℕ → Slot → Bool
ends id Empty = true
ends id Deleted = false
ends id (Full r) = eqb r.id id

-- the slot that a search stopped at, where a row stands in it
abbrev pub at_row : List Slot → ℕ → Option ℕ
at_row slots j = cond (is_some (cell (get_or slots j Empty))) (Some j) None

pub row_there : (slots : List Slot) (j : ℕ) (o : Option PlainRow) → seen o ≡ get_or (map cell slots) j None → option_and {U = ℕ} o (Some j) ≡ at_row slots j
row_there slots j None e = ap (λ c. cond {A = Option ℕ} (is_some c) (Some j) None) (e ∙ cell_at slots j)
row_there slots j (Some r) e = ap (λ c. cond {A = Option ℕ} (is_some c) (Some j) None) (e ∙ cell_at slots j)

module _ (id : ℕ) (slots : List Slot) where
  none_step : (s : Slot) (i : ℕ) (on more : Option ℕ) → (None ≡ more → None ≡ on) → None ≡ cond (ends id s) (Some i) more → None ≡ by_look (look id s) (Some i) on
  none_step Empty i on more rec e = refl
  none_step Deleted i on more rec e = rec e
  none_step (Full r) i on more rec e = by_test (eqb r.id id) e
    where
      by_test : (b : Bool) → None ≡ cond b (Some i) more → None ≡ by_look (cond b hit pass) (Some i) on
      by_test true e = cc
      by_test false e = rec e

  some_step : (s : Slot) (i j : ℕ) → get_or slots i Empty ≡ s → (on more : Option ℕ) → (Some j ≡ more → on ≡ at_row slots j) → Some j ≡ cond (ends id s) (Some i) more
      → by_look (look id s) (Some i) on ≡ at_row slots j
  some_step Empty i j there on more rec e =
      let same : j ≡ i = cc in
      sym (ap (at_row slots) same ∙ ap (λ z. cond (is_some (cell z)) (Some i) None) there)
  some_step Deleted i j there on more rec e = rec e
  some_step (Full r) i j there on more rec e = by_test (eqb r.id id) e
    where
      by_test : (b : Bool) → Some j ≡ cond b (Some i) more → by_look (cond b hit pass) (Some i) on ≡ at_row slots j
      by_test true e = let same : j ≡ i = cc in sym (ap (at_row slots) same ∙ ap (λ z. cond (is_some (cell z)) (Some i) None) there)
      by_test false e = rec e

  none_from : (n i : ℕ) → None ≡ probed_from (ends id) n i slots → None ≡ sought_from n i id slots
  none_from zero i e = refl
  none_from (suc n) i e = none_step (get_or slots i Empty) i _ _ (none_from n (next i)) e

  some_from : (n i j : ℕ) → Some j ≡ probed_from (ends id) n i slots → sought_from n i id slots ≡ at_row slots j
  some_from zero i j e = cc
  some_from (suc n) i j e = some_step (get_or slots i Empty) i j refl _ _ (some_from n (next i) j) e

  pub sought_none : None ≡ probed (ends id) id slots → None ≡ sought id slots
  unfolding probed sought
  sought_none e = none_from (length slots) (home id) e

  pub sought_some : (j : ℕ) → Some j ≡ probed (ends id) id slots → sought id slots ≡ at_row slots j
  unfolding probed sought
  sought_some j e = some_from (length slots) (home id) j e
