-- What the answer of a search tells a call, and what the calls leave.
use Rattle.std.proofs.Common.{◌≡◌, ℕ, ◌<◌, ◌≤◌, Bool, true, false, cond, not, ltb, List, [], ◌∷◌, map, length, get_or, set, Some, None, Ok, Err, Option, Result, filter, Bor, sym, refl, ap, ◌∙◌, subst, ⊎_elim, arith}
use Rattle.std.specs.List.{insert, remove, HoldsAt}
use Rattle.std.specs.List.Sorted.{IsNonDecreasingBy}
use Rattle.std.specs.Option.{MatchOption, option_copied}
use Rattle.std.specs.Result.{MatchResult, result_ok}
use Rattle.std.proofs.lemmas.Bool.{cases_lt, ltb-true, ltb-false}
use Rattle.std.proofs.lemmas.List.{get_or-map, get_or_default, length-map, map-set}
use Rattle.lists.specs.Lists.{Computes}
use Rattle.refusals.specs.declared.refusal.Refusal.{Refusal}
use Rattle.refusals.specs.declared.refusal.Refusal.TheVariants.{StoreFull}
use Rattle.rows.specs.declared.row.PlainRow.{PlainRow}
use Rattle.rows.specs.declared.span.Span.{Span}
use Rattle.rows.specs.Rows.{Plain, plain, with_end}
use Rattle.rows.specs.Spans.{times, span_made}
use Rattle.rows.specs.Times.{lawful}
use Rattle.receipts.specs.Stores.{Rising, found, nth_row, holds_id, placed, end_set, without, kept, accept, refuse, adds, removes, sets}
use Rattle.stores.specs.Told.{seen, outcome}
use Rattle.stores.specs.Places.{below, place, has_id}
use Rattle.stores.proofs.Edits.{map_inserted, map_removed, placed_place, without_place, end_set_place}
use Rattle.stores.proofs.Order.{rising_placed, rising_without, rising_end_set}
use Rattle.stores.proofs.Outcomes.{adds_full, adds_done, removes_done, sets_bad, sets_done}
use Rattle.stores.proofs.Places.{holds_place, found_at_place, place_within, nth_past, nth_get_or}
use Rattle.stores.proofs.Plains.{rises_plain, place_plain}
use Rattle.stores.proofs.Spans.{span_good, span_bad}
use Rattle.sorted.specs.Model.{spot}

-- what the answer of a search tells
by_ok : (b : Bool) (p k : ℕ) → ◌≡◌ {A = Result ℕ ℕ} (Ok k) (cond b (Ok p) (Err p)) → (b ≡ true) × (k ≡ p)
by_ok true p k e = (refl, cc)
by_ok false p k e = (cc, cc)

by_err : (b : Bool) (p k : ℕ) → ◌≡◌ {A = Result ℕ ℕ} (Err k) (cond b (Ok p) (Err p)) → (b ≡ false) × (k ≡ p)
by_err true p k e = (cc, cc)
by_err false p k e = (refl, cc)

module _ (id : ℕ) (m : List Plain) where
  pub spot_err : (k : ℕ) → Err k ≡ spot id m → (holds_id id m ≡ false) × (k ≡ place id m)
  spot_err k e = by_err (holds_id id m) (place id m) k e

  pub some_told : (r : Result ℕ ℕ) → r ≡ spot id m → (k : ℕ) → Some k ≡ result_ok r → (holds_id id m ≡ true) × (k ≡ place id m)
  some_told (Ok p) told k e = let t = by_ok (holds_id id m) (place id m) p told in let same : k ≡ p = cc in (t.0, same ∙ t.1)
  some_told (Err p) told k e = (cc, cc)

  pub none_told : (r : Result ℕ ℕ) → r ≡ spot id m → None ≡ result_ok r → holds_id id m ≡ false
  none_told (Ok p) told e = cc
  none_told (Err p) told e = (spot_err p told).0

  -- the same behind `map_err`, which tells Q of an error
  module _ (Q : ℕ → Type 0) where
    pub ok_told : (r : Result ℕ ℕ) → r ≡ spot id m → (k : ℕ) → MatchResult r (λ p. ◌≡◌ {A = Result ℕ Refusal} (Ok k) (Ok p)) Q → ((p : ℕ) → Q p → ⊥)
        → (holds_id id m ≡ true) × (k ≡ place id m)
    ok_told (Ok p) told k h never = let t = by_ok (holds_id id m) (place id m) p told in let same : k ≡ p = cc in (t.0, same ∙ t.1)
    ok_told (Err p) told k h never = absurd (never p h)

    pub err_told : (r : Result ℕ ℕ) → r ≡ spot id m → (d : Refusal) → MatchResult r (λ p. ◌≡◌ {A = Result ℕ Refusal} (Err d) (Ok p)) Q
        → (why : Refusal) → ((p : ℕ) → Q p → d ≡ why) → (holds_id id m ≡ false) × (d ≡ why)
    err_told (Ok p) told d h why is = (cc, cc)
    err_told (Err p) told d h why is = ((spot_err p told).0, is p h)

pub place_told : (id k : ℕ) (rows xs : List PlainRow) → xs ≡ rows → Rising (map plain rows)
    → (IsNonDecreasingBy (λ (r : PlainRow). r.id) xs → k ≡ below (λ (r : PlainRow). r.id) id xs) → k ≡ place id (map plain rows)
place_told id k rows xs e up told =
    subst (λ zs. IsNonDecreasingBy (λ (r : PlainRow). r.id) zs → k ≡ below (λ (r : PlainRow). r.id) id zs) e told (rises_plain rows up) ∙ place_plain id rows

-- what is read at the place j, when k is asked for: the same place, or both lie behind the end
pub row_told : (rows xs : List PlainRow) → xs ≡ rows → (k j : ℕ) → (k < length xs → j ≡ k) → (length xs ≤ k → length xs ≤ j) → (o : Option (Bor PlainRow))
    → MatchOption o (length xs ≤ j) (λ x. (j < length xs) × HoldsAt (λ (y : PlainRow). x.now ≡ y) xs j) → seen (option_copied o) ≡ nth_row k (map plain rows)
row_told rows xs is k j here past None h =
    let behind : length xs ≤ k = ⊎_elim (λ lt. omega (arith, here lt)) (λ le. le) (cases_lt k (length xs)) in
    sym (nth_past k (map plain rows) (omega (arith, length-map rows plain, ap length is)))
row_told rows xs is k j here past (Some x) h =
    let same : j ≡ k = ⊎_elim here (λ le. omega (arith, past le, h.0)) (cases_lt k (length xs)) in
    let lt : j < length rows = omega (arith, h.0, ap length is) in
    sym (ap (λ n. nth_row n (map plain rows)) (sym same) ∙ nth_get_or j (map plain rows) (plain x.now) (omega (arith, length-map rows plain))
    ∙ ap Some (get_or-map plain rows j x.now (plain x.now) lt ∙ ap plain (ap (λ zs. get_or zs j x.now) (sym is) ∙ sym (h.1 x.now))))

-- an add at the place where the id belongs
module _ (rows new : List PlainRow) (up : Rising (map plain rows)) (row : PlainRow) (k : ℕ)
    (absent : holds_id row.id (map plain rows) ≡ false) (at : k ≡ place row.id (map plain rows)) where
  put_rows : new ≡ insert rows k row → map plain new ≡ placed (plain row) (map plain rows)
  put_rows e =
      ap (map plain) e ∙ map_inserted plain rows k row ∙ ap (λ j. insert (map plain rows) j (plain row)) at ∙ sym (placed_place (plain row) (map plain rows) absent)

  pub add_rising : (b : Bool) → new ≡ cond b (insert rows k row) rows → Rising (map plain new)
  add_rising true e = subst Rising (sym (put_rows e)) (rising_placed (plain row) (map plain rows) up absent)
  add_rising false e = subst Rising (sym (ap (map plain) e)) up

  told_if : (b : Bool) → ltb (length rows) 128 ≡ b → (a : Result (Unit {0}) Refusal) → a ≡ cond b (Ok tt) (Err StoreFull) → new ≡ cond b (insert rows k row) rows
      → outcome a (map plain new) ≡ adds 128 (plain row) (map plain rows)
  told_if true t a h e =
      ap (λ z. outcome z (map plain new)) h ∙ ap accept (put_rows e)
      ∙ adds_done 128 (plain row) (map plain rows) absent (omega (arith, ltb-true (length rows) 128 t, length-map rows plain))
  told_if false t a h e =
      ap (λ z. outcome z (map plain new)) h ∙ ap (λ z. refuse StoreFull (map plain z)) e
      ∙ adds_full 128 (plain row) (map plain rows) absent (omega (arith, ltb-false (length rows) 128 t, length-map rows plain))

  pub add_told : (a : Result (Unit {0}) Refusal) → a ≡ cond (ltb (length rows) 128) (Ok tt) (Err StoreFull) → new ≡ cond (ltb (length rows) 128) (insert rows k row) rows
      → outcome a (map plain new) ≡ adds 128 (plain row) (map plain rows)
  add_told a h e = told_if (ltb (length rows) 128) refl a h e

-- a row of the id stands at k
module _ (rows : List PlainRow) (up : Rising (map plain rows)) (id k : ℕ) (held : holds_id id (map plain rows) ≡ true) (at : k ≡ place id (map plain rows)) where
  pub held_within : k < length rows
  held_within = omega (arith, place_within id (map plain rows) up held, length-map rows plain)

  here : has_id id (nth_row (place id (map plain rows)) (map plain rows)) ≡ true
  here = sym (holds_place id (map plain rows) up) ∙ held

  module _ (new : List PlainRow) (cut : new ≡ remove rows k) where
    cut_rows : map plain new ≡ without id (map plain rows)
    cut_rows = ap (map plain) cut ∙ map_removed plain rows k ∙ ap (remove (map plain rows)) at ∙ sym (without_place id (map plain rows) here)

    pub remove_rising : Rising (map plain new)
    remove_rising = subst Rising (sym cut_rows) (rising_without id (map plain rows) up)

    pub remove_told : accept (map plain new) ≡ removes id (map plain rows)
    remove_told = ap accept cut_rows ∙ removes_done id (map plain rows) held

  module _ (d : PlainRow) (e start : ℕ) (started : start ≡ (get_or rows k d).span.start) where
    row_found : found id (map plain rows) ≡ Some (plain (get_or rows k d))
    row_found =
        found_at_place id (map plain rows) up held ∙ ap (λ n. nth_row n (map plain rows)) (sym at)
        ∙ nth_get_or k (map plain rows) (plain d) (omega (arith, held_within, length-map rows plain)) ∙ ap Some (get_or-map plain rows k d (plain d) held_within)

    pub end_refused : (why : Refusal) → Err why ≡ span_made start e → refuse why (map plain rows) ≡ sets id e (map plain rows)
    end_refused why told =
        let bad = span_bad start e why told in
        ap (λ z. refuse z (map plain rows)) bad.1 ∙ sets_bad id (map plain rows) e _ row_found (ap (λ n. lawful n e) (sym started) ∙ bad.0)

    -- the row r, of the fields of the row at k with another span, is written over it
    module _ (span : Span) (made : Ok (times span) ≡ span_made start e) (xs : List PlainRow) (same : xs ≡ rows) (b row : PlainRow)
        (is : plain row ≡ record { id = (get_or xs k b).id; start = span.start; end = span.end; key = (get_or xs k b).key; value = (get_or xs k b).value })
        (new : List PlainRow) (write : new ≡ set xs k row) where
      moved : plain row ≡ with_end e (get_or (map plain rows) k (plain b))
      moved =
          let good = span_good start e (times span) made in
          let read : get_or (map plain rows) k (plain b) ≡ plain (get_or rows k b) = get_or-map plain rows k b (plain b) held_within in
          let one : get_or rows k d ≡ get_or rows k b = get_or_default rows k d b held_within in
          let there : get_or xs k b ≡ get_or rows k b = ap (λ zs. get_or zs k b) same in
          let ended : plain row ≡ with_end e (plain (get_or rows k b)) = cc in
          ended ∙ sym (ap (with_end e) read)

      end_rows : map plain new ≡ end_set id e (map plain rows)
      end_rows =
          ap (map plain) (write ∙ ap (λ zs. set zs k row) same) ∙ map-set plain rows k row ∙ ap (set (map plain rows) k) moved
          ∙ ap (λ j. set (map plain rows) j (with_end e (get_or (map plain rows) j (plain b)))) at ∙ sym (end_set_place id e (plain b) (map plain rows) here)

      pub end_rising : Rising (map plain new)
      end_rising = subst Rising (sym end_rows) (rising_end_set id e (map plain rows) up)

      pub end_told : accept (map plain new) ≡ sets id e (map plain rows)
      end_told = ap accept end_rows ∙ sets_done id (map plain rows) e _ row_found (ap (λ n. lawful n e) (sym started) ∙ (span_good start e (times span) made).0)

-- the row r with another span, when r is what stands at a place
abbrev pub respanned : Span → PlainRow → Plain
respanned span r = record { id = r.id; start = span.start; end = span.end; key = r.key; value = r.value }

-- the rows that a purge leaves
pub kept_plain : (g : ℕ) (rows : List PlainRow) → map plain (filter (λ (r : PlainRow). not (ltb r.span.end g)) rows) ≡ kept g (map plain rows)
kept_plain g [] = refl
kept_plain g (r ∷ rows) = by_test (ltb r.span.end g) (kept_plain g rows)
  where
    by_test : (b : Bool) → map plain (filter (λ (r : PlainRow). not (ltb r.span.end g)) rows) ≡ kept g (map plain rows)
        → map plain (cond (not b) (r ∷ filter (λ (r : PlainRow). not (ltb r.span.end g)) rows) (filter (λ (r : PlainRow). not (ltb r.span.end g)) rows)) ≡ cond b (kept g (map plain rows)) (plain r ∷ kept g (map plain rows))
    by_test true more = more
    by_test false more = ap (λ z. plain r ∷ z) more

-- new are the rows that the list keeps
pub purge_rows : (R : PlainRow → Bool → Type 0) (g : ℕ) → ((x : PlainRow) (b : Bool) → R x b → b ≡ not (ltb x.span.end g))
    → (rows left new : List PlainRow) → ((p : PlainRow → Bool) → Computes p R → left ≡ filter p rows) → new ≡ left → map plain new ≡ kept g (map plain rows)
purge_rows R g says rows left new h is = ap (map plain) (is ∙ h (λ (r : PlainRow). not (ltb r.span.end g)) says) ∙ kept_plain g rows
