-- What a store's fields tell of its rows.
use Rattle.std.specs.Prelude.{◌≡◌, ℕ, zero, suc, ◌<◌, true, false, cond, List, [], map, length, get_or, replicate, is_some, Some, None, Option, slice_index_or, refl}
use Rattle.std.proofs.Common.{arith, sym, ap, subst, ◌∙◌}
use Rattle.std.proofs.lemmas.List.{get_or-map, length-map}
use Rattle.std.proofs.lemmas.List.Sums.{sum_by-cons}
use Rattle.std.specs.List.Sorted.{IsNonDecreasingBy}
use Rattle.lists.specs.Lists.{listed}
use Rattle.rows.specs.declared.row.PlainRow.{PlainRow}
use Rattle.rows.specs.Rows.{Plain}
use Rattle.receipts.specs.Stores.{Rising, nth_row}
use Rattle.stores.specs.Told.{seen}
use Rattle.stores.specs.Places.{below, id_of, place}
use Rattle.stores.proofs.Places.{below_map, nth_get_or, rises_rising}
use Rattle.tables.specs.declared.table.Table.{Table}
use Rattle.tables.specs.Cells.{filled}
use Rattle.tables.specs.Tables.{cells}
use Rattle.hashed.specs.declared.store.HashedStore.{HashedStore}
use Rattle.hashed.specs.declared.entry.Entry.{Entry}
use Rattle.hashed.specs.Listing.{ids, slots, or_blank, rows_in}
use Rattle.hashed.specs.Laws.{length_held}
use Rattle.hashed.specs.Model.{held}
use Rattle.hashed.proofs.Changes.{Good, nth_at}

pub good_of : (s : HashedStore) → Good (cells s.table) (ids (listed s.entries)) (slots (listed s.entries))
good_of s = record { named = s.named; rising = s.rising; matched = s.matched }

-- the place of an id among the ids
rises_ids : (m : List Plain) → Rising m → IsNonDecreasingBy (λ (id : ℕ). id) (map id_of m)
rises_ids m rising i j d le lt =
    let n = length-map m id_of in
    let up = rises_rising m rising i j (or_blank None) le (omega arith) in
    omega (arith, up, get_or-map id_of m i (or_blank None) d (omega arith), get_or-map id_of m j (or_blank None) d (omega arith))

pub place_told : (s : HashedStore) (id k : ℕ) (xs : List Entry) → xs ≡ listed s.entries
    → (IsNonDecreasingBy (λ (e : Entry). e.id) xs → k ≡ below (λ (e : Entry). e.id) id xs) → k ≡ place id (held s)
place_told s id k xs is told =
    let es = listed s.entries in
    let up : IsNonDecreasingBy (λ (n : ℕ). n) (ids es) = subst (IsNonDecreasingBy (λ (n : ℕ). n)) (sym s.named) (rises_ids (held s) s.rising) in
    subst (λ z. IsNonDecreasingBy (λ (e : Entry). e.id) z → k ≡ below (λ (e : Entry). e.id) id z) is told (rises_entries es up)
    ∙ sym (below_map (λ (n : ℕ). n) (λ (e : Entry). e.id) id es) ∙ ap (below (λ (n : ℕ). n) id) s.named ∙ below_map (λ (n : ℕ). n) id_of id (held s)
  where
    rises_entries : (es : List Entry) → IsNonDecreasingBy (λ (n : ℕ). n) (ids es) → IsNonDecreasingBy (λ (e : Entry). e.id) es
    rises_entries es up i j d le lt =
        let long = length-map es (λ (e : Entry). e.id) in
        omega (arith, up i j d.id le (omega arith), get_or-map (λ (e : Entry). e.id) es i d d.id (omega arith), get_or-map (λ (e : Entry). e.id) es j d d.id lt)

-- the row at a place, through the entry that was read there
pub nth_told : (s : HashedStore) (xs : List Entry) → xs ≡ listed s.entries → (k : ℕ) (d : Entry) → k < length xs → nth_row k (held s) ≡ slice_index_or (cells s.table) (get_or xs k d).slot None
nth_told s xs is k d l =
    let long = length-map (listed s.entries) (λ (e : Entry). e.slot) in
    let here : k < length (listed s.entries) = omega (arith, ap length is) in
    nth_at (cells s.table) _ _ (good_of s) k d.slot (omega arith)
    ∙ ap (λ i. get_or (cells s.table) i None) (get_or-map (λ (e : Entry). e.slot) (listed s.entries) k d d.slot here ∙ ap (λ zs. (get_or zs k d).slot) (sym is))

-- and there is one
pub there_told : (s : HashedStore) (xs : List Entry) → xs ≡ listed s.entries → (k : ℕ) (d : Entry) → k < length xs → (o : Option PlainRow)
    → seen o ≡ slice_index_or (cells s.table) (get_or xs k d).slot None → is_some o ≡ true
there_told s xs is k d l o e =
    some_seen o _ (e ∙ sym (nth_told s xs is k d l) ∙ nth_get_or k (held s) (or_blank None) (omega (arith, length_held s, s.counted, ap length is)))
  where
    some_seen : (o : Option PlainRow) (x : Plain) → seen o ≡ Some x → is_some o ≡ true
    some_seen None x e = cc
    some_seen (Some r) x e = refl

-- a store without rows
none_filled : (n : ℕ) → filled (replicate n None) ≡ 0
none_filled zero = refl
none_filled (suc n) = let more = none_filled n in omega (arith, sum_by-cons (λ (c : Option Plain). cond (is_some c) 1 0) None (replicate n None))

none_there : (n i : ℕ) → is_some {T = Plain} (slice_index_or (replicate n None) i None) ≡ false
none_there zero i = refl
none_there (suc n) zero = refl
none_there (suc n) (suc i) = none_there n i

pub empty_held : (cs : List (Option Plain)) (es : List Entry) → es ≡ [] → rows_in cs (slots es) ≡ []
empty_held cs es none = ap (λ z. rows_in cs (slots z)) none

pub none_filled_in : (t : Table) → cells t ≡ replicate 512 None → filled (cells t) ≡ 0
none_filled_in t e = ap filled e ∙ none_filled 512

pub empty_good : (t : Table) (es : List Entry) → cells t ≡ replicate 512 None → es ≡ [] → Good (cells t) (ids es) (slots es)
empty_good t es e none =
    subst (λ z. Good (cells t) (ids z) (slots z)) (sym none)
    (record { named = refl; rising = tt; matched = λ i. sym (ap (λ cs. is_some (slice_index_or cs i None)) e ∙ none_there 512 i) })
