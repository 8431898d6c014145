-- A store after its table and its entries have changed.
use Rattle.std.proofs.Common.{◌≡◌, ℕ, ◌+◌, ◌<◌, ◌≤◌, true, false, List, length, get_or, set, is_some, Some, None, Ok, Err, Option, Result, sym, refl, ap, ◌∙◌, subst, ⊎_elim, arith}
use Rattle.std.proofs.lemmas.List.{length-map}
use Rattle.std.proofs.lemmas.List.Edits.{length-insert, length-remove}
use Rattle.std.proofs.lemmas.Bool.{false≢true, true≢false}
use Rattle.std.specs.List.{insert, remove}
use Rattle.std.specs.Result.{IsOk, OnOk}
use Rattle.lists.specs.Lists.{listed}
use Rattle.refusals.specs.declared.refusal.Refusal.{Refusal}
use Rattle.rows.specs.Rows.{Plain, with_end}
use Rattle.receipts.specs.Stores.{holds_id, end_set, without, accept, refuse, adds}
use Rattle.stores.specs.Places.{id_of, place, has_id}
use Rattle.stores.proofs.Edits.{map_inserted, map_removed}
use Rattle.stores.proofs.Outcomes.{adds_held, adds_full, adds_done}
use Rattle.stores.proofs.Places.{below_le, holds_found}
use Rattle.tables.specs.declared.table.Table.{Table}
use Rattle.tables.specs.Cells.{slot_of, filled, placing, puts}
use Rattle.tables.specs.Tables.{cells}
use Rattle.tables.proofs.Found.{slot_of_has}
use Rattle.tables.proofs.Free.{free_slot_free, filled_more, filled_same, filled_less}
use Rattle.tables.proofs.Laws.{length_cells, alone}
use Rattle.tables.proofs.Puts.{put_told, put_refused}
use Rattle.hashed.specs.declared.entry.Entry.{Entry}
use Rattle.hashed.specs.declared.store.HashedStore.{HashedStore}
use Rattle.hashed.specs.Laws.{length_held}
use Rattle.hashed.specs.Listing.{ids, slots, row_in, rows_in}
use Rattle.hashed.specs.Model.{held}
use Rattle.hashed.proofs.Held.{has_some, row_there}
use Rattle.hashed.proofs.Changes.{Good, held_at, absent_at, rows_put, good_put, slot_within, rows_end, good_end, place_within, rows_cut, good_cut}
use Rattle.hashed.proofs.State.{good_of}

-- what is told of a call that is done
pub done_told : {E P : Type 0} (r : Result (Unit {0}) E) → OnOk r P → IsOk r → P
done_told (Ok x) ok is = ok
done_told (Err e) ok is = absurd (false≢true is)

-- what a store's fields tell, of a table and entries
pub record Kept (t : Table) (es : List Entry) : Type 0 where
  pub counted : length es ≡ filled (cells t)
  pub good : Good (cells t) (ids es) (slots es)

good_is : {cs new : List (Option Plain)} {xs ys : List ℕ} → new ≡ cs → (more fresh : List ℕ) → more ≡ xs → fresh ≡ ys → Good cs xs ys → Good new more fresh
good_is {cs} {new} {xs} {ys} a more fresh b c good =
    subst (λ z. Good z more fresh) (sym a) (subst (λ z. Good cs z fresh) (sym b) (subst (λ z. Good cs xs z) (sym c) good))

-- a table that holds what it held
pub same_kept : (s : HashedStore) (t : Table) → cells t ≡ cells s.table → Kept t (listed s.entries)
same_kept s t e = record { counted = s.counted ∙ ap filled (sym e); good = subst (λ cs. Good cs (ids (listed s.entries)) (slots (listed s.entries))) (sym e) (good_of s) }

pub same_rows : (s : HashedStore) (t : Table) → cells t ≡ cells s.table → rows_in (cells t) (slots (listed s.entries)) ≡ held s
same_rows s t e = ap (λ cs. rows_in cs (slots (listed s.entries))) e

module _ (s : HashedStore) where
  abbrev cs : List (Option Plain)
  cs = cells s.table

  abbrev es : List Entry
  es = listed s.entries

  -- a row that the table refuses
  pub refused : (t : Table) (r : Plain) (why : Refusal) → placing (Err why) (cells t) ≡ puts r cs → (cells t ≡ cs) × (refuse why (held s) ≡ adds 256 r (held s))
  refused t r why e =
      let told = put_refused r cs (cells t) why (length_cells s.table) e in (
        told.same,
        ⊎_elim
            (λ h. ap (λ z. refuse z (held s)) h.0 ∙ adds_held 256 r (held s) (held_told (slot_of r.id cs) refl h.1))
            (λ h. ap (λ z. refuse z (held s)) h.0 ∙ adds_full 256 r (held s) (absent_told (slot_of r.id cs) refl h.1) (omega (arith, length_held s, h.2)))
            told.cause,
      )
    where
      held_told : (o : Option ℕ) → slot_of r.id cs ≡ o → is_some o ≡ true → holds_id r.id (held s) ≡ true
      held_told None e h = absurd (false≢true h)
      held_told (Some i) e h = held_at cs _ _ (good_of s) r.id i e

      absent_told : (o : Option ℕ) → slot_of r.id cs ≡ o → is_some o ≡ false → holds_id r.id (held s) ≡ false
      absent_told None e h = holds_found r.id (held s) ∙ ap is_some (absent_at cs _ _ (good_of s) r.id e)
      absent_told (Some i) e h = absurd (true≢false h)

  -- a row that the table takes
  pub put_slot : (t : Table) (r : Plain) (i : ℕ) → placing (Ok i) (cells t) ≡ puts r cs → i < 512
  put_slot t r i told = (free_slot_free r.id cs i (put_told r cs (cells t) i told).free).0

  module _ (t : Table) (r : Plain) (i : ℕ) (told : placing (Ok i) (cells t) ≡ puts r cs) (at : ℕ) (here : at ≡ place r.id (held s)) where
    absent : holds_id r.id (held s) ≡ false
    absent = holds_found r.id (held s) ∙ ap is_some (absent_at cs _ _ (good_of s) r.id (put_told r cs (cells t) i told).absent)

    pub put_room : (at ≤ length es) × (length es < 256)
    put_room = (omega (arith, below_le id_of r.id (held s), length_held s, s.counted), omega (arith, (put_told r cs (cells t) i told).room, s.counted))

    free : (i < 512) × (is_some (get_or cs i None) ≡ false)
    free = free_slot_free r.id cs i (put_told r cs (cells t) i told).free

    within : i < length cs
    within = omega (arith, free.0, length_cells s.table)

    -- its entry is put in at the place of its id
    module _ (e : Entry) (its : (e.id ≡ r.id) × (e.slot ≡ i)) (mid new : List Entry) (inserted : mid ≡ insert es at e) (left : new ≡ mid) where
      put : new ≡ insert es at e
      put = left ∙ inserted

      one_more : length new ≡ length es + 1
      one_more = ap length put ∙ length-insert es at e put_room.0

      new_ids : ids new ≡ insert (ids es) (place r.id (held s)) r.id
      new_ids = ap ids put ∙ map_inserted (λ (z : Entry). z.id) es at e ∙ ap (λ k. insert (ids es) k e.id) here ∙ ap (insert (ids es) (place r.id (held s))) its.0

      new_slots : slots new ≡ insert (slots es) (place r.id (held s)) i
      new_slots = ap slots put ∙ map_inserted (λ (z : Entry). z.slot) es at e ∙ ap (λ k. insert (slots es) k e.slot) here ∙ ap (insert (slots es) (place r.id (held s))) its.1

      pub put_kept : Kept t new
      put_kept = record {
        counted = omega (arith, one_more, s.counted, ap filled (put_told r cs (cells t) i told).after, filled_more cs i r within free.1);
        good = good_is (put_told r cs (cells t) i told).after _ _ new_ids new_slots (good_put cs _ _ (good_of s) r i free.1 within absent);
      }

      pub put_done : accept (rows_in (cells t) (slots new)) ≡ adds 256 r (held s)
      put_done =
          ap accept (ap (λ z. rows_in z (slots new)) (put_told r cs (cells t) i told).after ∙ ap (rows_in (set cs i (Some r))) new_slots
          ∙ rows_put cs _ _ (good_of s) r i free.1 within absent)
          ∙ adds_done 256 r (held s) absent (omega (arith, length_held s, (put_told r cs (cells t) i told).room))

  module _ (t : Table) (id i : ℕ) (found : slot_of id cs ≡ Some i) where
    there : get_or cs i None ≡ Some (row_in cs i)
    there = row_there cs i (has_some id (get_or cs i None) (slot_of_has id cs i found))

    inside : i < length cs
    inside = slot_within cs _ _ (good_of s) id i found

    -- a row that is given another end
    module _ (e : ℕ) (told : cells t ≡ set cs i (Some (with_end e (row_in cs i)))) where
      pub end_kept : Kept t es
      end_kept = record {
        counted = s.counted ∙ sym (ap filled told ∙ filled_same cs i _ _ inside there);
        good = good_is told _ _ refl refl (good_end cs _ _ (good_of s) id i found e);
      }

      pub end_rows : rows_in (cells t) (slots es) ≡ end_set id e (held s)
      end_rows = ap (λ z. rows_in z (slots es)) told ∙ rows_end cs _ _ (good_of s) id i found e

    -- a row that goes
    module _ (told : cells t ≡ set cs i None) (at : ℕ) (here : at ≡ place id (held s)) where
      lone : (j : ℕ) → has_id id (get_or cs j None) ≡ true → j ≡ i
      lone j h = alone s.table j i id h (slot_of_has id cs i found)

      cut_room : at < length es
      cut_room = omega (arith, place_within cs _ _ (good_of s) id i found lone, length-map es (λ (z : Entry). z.slot))

      module _ (new : List Entry) (cut : new ≡ remove es at) where
        one_less : length new + 1 ≡ length es
        one_less = omega (arith, ap length cut, length-remove es at cut_room)

        left_slots : slots new ≡ remove (slots es) (place id (held s))
        left_slots = ap slots cut ∙ map_removed (λ (z : Entry). z.slot) es at ∙ ap (remove (slots es)) here

        pub cut_kept : Kept t new
        cut_kept = record {
          counted = omega (arith, one_less, s.counted, ap filled told, filled_less cs i _ inside there);
          good = good_is told _ _ (ap ids cut ∙ map_removed (λ (z : Entry). z.id) es at ∙ ap (remove (ids es)) here) left_slots (good_cut cs _ _ (good_of s) id i found lone);
        }

        pub cut_rows : rows_in (cells t) (slots new) ≡ without id (held s)
        cut_rows = ap (λ z. rows_in z (slots new)) told ∙ ap (rows_in (set cs i None)) left_slots ∙ rows_cut cs _ _ (good_of s) id i found lone
