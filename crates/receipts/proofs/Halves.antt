-- Halves: whatever a side accepts, it stays faithful to its history, and the history up to the closed time stays as it is.
--     Faithful k n g h rows       the half h, of kind k and capacity n, holds those rows of its history that end at the
--                                 closed time g or later
use Rattle.std.proofs.Common.{◌≡◌, ℕ, ◌<◌, ◌≤◌, Bool, true, not, ◌&&◌, eqb, ltb, leb, List, [], ◌∷◌, length, sym, refl, ap, ◌∙◌, subst, inl, inr, ⊎_elim, arith}
use Rattle.std.proofs.lemmas.Bool.{leb-true, eqb-false, lt-ltb, le-ltb, and_parts, and_from, cond-false, cases_lt, not-true}
use Rattle.rows.specs.Kinds.{Kind}
use Rattle.rows.specs.Rows.{Plain, standing, with_end, in_kind}
use Rattle.rows.specs.Events.{PlainEvent, insert, retraction, cti}
use Rattle.rows.specs.Times.{finite, lawful_end, retractable}
use Rattle.receipts.specs.Lists.{In, Once, SameMembers}
use Rattle.receipts.specs.Histories.{moved, applied, up_to}
use Rattle.receipts.specs.Stores.{kept}
use Rattle.receipts.specs.Queries.{Half, new_half, purged}
use Rattle.receipts.proofs.Lists.{Ordered, ordered_one, ordered_once}
use Rattle.receipts.proofs.Rows.{At, Apart, standing_forward}
use Rattle.receipts.proofs.Histories.{Moved, moved_in, moved_has, moved_once, moved_up_to, OneLate, up_to_once}
use Rattle.receipts.proofs.Stores.{ById, by_id_irr, holds_id_false, placed_in, placed_has, placed_ordered, placed_length, moved_ordered, moved_length, edited_is_moved, kept_in, kept_has, kept_ordered, kept_length}
use Rattle.receipts.proofs.Calls.{Admitted, half_after}

pub record Faithful (k : Kind) (n g : ℕ) (h : Half) (rows : List Plain) : Type 0 where
  pub above : g ≤ h.cti
  pub room : length h.held ≤ n
  pub ordered : Ordered ById h.held
  pub has : (x : Plain) → In x rows → g ≤ x.end → In x h.held
  pub from : (x : Plain) → In x h.held → In x rows × (g ≤ x.end)
  pub once : Once rows
  pub apart : Apart rows
  pub sound : (x : Plain) → In x rows → (standing x ≡ true) × (in_kind k x ≡ true)

pub faithful_new : (k : Kind) (n : ℕ) → Faithful k n 0 new_half []
faithful_new k n = record {
  above = omega arith;
  room = omega arith;
  ordered = tt;
  has = λ x h l. h;
  from = λ x h. absurd h;
  once = tt;
  apart = λ x y t h. absurd h;
  sound = λ x h. absurd h;
}

module _ (k : Kind) (n g : ℕ) (h : Half) (rows : List Plain) (ok : Faithful k n g h rows) where
  pub one_late : OneLate g rows
  one_late x y a b l m e =
      ordered_one ById h.held x y ok.ordered (ok.has x a l) (ok.has y b m) (λ lt. omega (arith, lt, e)) (λ lt. omega (arith, lt, e))

  pub held_once : Once h.held
  held_once = ordered_once ById by_id_irr h.held ok.ordered

  -- the held rows are those that a purge of the history would leave
  pub held_same : SameMembers h.held (kept g rows)
  held_same x = (
    λ i. kept_has g rows x (ok.from x i).0 (ok.from x i).1,
    λ i. ok.has x (kept_in g rows x i).0 (kept_in g rows x i).1,
  )

  pub cut_once : Once (up_to g rows)
  cut_once = up_to_once g rows ok.once one_late

  pub faithful_purged : (t : ℕ) → g ≤ t → t ≤ h.cti → Faithful k n t (purged t h) rows
  faithful_purged t l m = record {
    above = m;
    room = omega (arith, ok.room, kept_length t h.held);
    ordered = kept_ordered t h.held ok.ordered;
    has = λ x i e. kept_has t h.held x (ok.has x i (omega (arith, l, e))) e;
    from = λ x i. ((ok.from x (kept_in t h.held x i).0).0, (kept_in t h.held x i).1);
    once = ok.once;
    apart = ok.apart;
    sound = ok.sound;
  }

  faithful_insert : (r : Plain) → Admitted k n (insert r) h → Faithful k n g (half_after (insert r) h) (r ∷ rows)
  faithful_insert r a =
      let late : g ≤ r.start = omega (arith, a.due, ok.above) in
      let forward : r.start < r.end = standing_forward r a.lawful_times in
      let fresh : (x : Plain) → In x h.held → x.id ≡ r.id → ⊥ = λ x i. holds_id_false r.id h.held x a.fits.0 i in
      let over : (x : Plain) → In x rows → x.id ≡ r.id → x.end < g = λ x i e.
      ⊎_elim (λ (u : x.end < g). u) (λ (u : g ≤ x.end). absurd (fresh x (ok.has x i u) e)) (cases_lt x.end g) in
      record {
        above = ok.above;
        room = omega (arith, a.fits.1, placed_length r h.held);
        ordered = placed_ordered r h.held ok.ordered fresh;
        has = λ x i l. placed_has r h.held x (⊎_elim {C = In x (r ∷ h.held)} (λ p. inl p) (λ j. inr (ok.has x j l)) i);
        from = λ x i. ⊎_elim {C = In x (r ∷ rows) × (g ≤ x.end)}
            (λ p. (inl p, subst (λ (v : Plain). g ≤ v.end) (sym p) (omega (arith, late, forward))))
            (λ j. (inr (ok.from x j).0, (ok.from x j).1))
            (placed_in r h.held x i);
        once = (λ i. omega (arith, over r i refl, late, forward), ok.once);
        apart = λ x y t i j e u v. ⊎_elim
            (λ p. ⊎_elim
            (λ q. p ∙ sym q)
            (λ j. let w : At t r = subst (At t) p u in
            absurd (omega (arith, over y j (sym e ∙ ap (λ (z : Plain). z.id) p), w.0, v.1, late))) j)
            (λ i. ⊎_elim
            (λ q. let w : At t r = subst (At t) q v in
            absurd (omega (arith, over x i (e ∙ ap (λ (z : Plain). z.id) q), w.0, u.1, late)))
            (λ j. ok.apart x y t i j e u v) j)
            i;
        sound = λ x i. ⊎_elim {C = (standing x ≡ true) × (in_kind k x ≡ true)}
            (λ p. subst (λ v. (standing v ≡ true) × (in_kind k v ≡ true)) (sym p) (a.lawful_times, a.in_range))
            (λ j. ok.sound x j) i;
      }

  module _ (r : Plain) (e : ℕ) (a : Admitted k n (retraction r e) h) where
    allowed : (standing r ≡ true) × (retractable r.start r.end e ≡ true)
    allowed = and_parts (standing r) (retractable r.start r.end e) a.lawful_times

    -- the new end is lawful, another one, and not below the start
    new_end : (lawful_end e ≡ true) × (e ≡ r.end → ⊥) × (r.start ≤ e)
    new_end =
        let other : Bool = not (eqb e r.end) in
        let p = and_parts (lawful_end e) (other && leb r.start e) allowed.1 in
        let q = and_parts other (leb r.start e) p.1 in
        (p.0, eqb-false _ _ (not-true _ q.0), leb-true _ _ q.1)

    standing_after : (e ≡ r.start → ⊥) → standing (with_end e r) ≡ true
    standing_after other =
        let began : finite r.start ≡ true = (and_parts (finite r.start) (lawful_end r.end && ltb r.start r.end) allowed.0).0 in
        and_from (finite r.start) (lawful_end e && ltb r.start e) began
        (and_from (lawful_end e) (ltb r.start e) new_end.0 (lt-ltb r.start e (omega (arith, new_end.2, other))))

    faithful_retraction : Faithful k n g (half_after (retraction r e) h) (moved r e rows)
    faithful_retraction =
        let was : g ≤ r.end = omega (arith, a.due, ok.above) in
        let late : g ≤ e = omega (arith, a.due, ok.above) in
        let there : In r rows = (ok.from r a.fits).0 in
        let other : (x : Plain) → In x rows → (x ≡ r → ⊥) → x.id ≡ r.id → (t : ℕ) → At t x → At t (with_end e r) → ⊥ = λ x i d p t u v.
        ⊎_elim
        (λ (w : x.end < g). d (ok.apart x r t i there p u (v.0, omega (arith, u.1, w, was))))
        (λ (w : g ≤ x.end). d (one_late x r i there w was p))
        (cases_lt x.end g) in
        subst (λ xs. Faithful k n g (record { cti = h.cti; held = xs }) (moved r e rows)) (sym (edited_is_moved r e h.held ok.ordered a.fits)) (record {
          above = ok.above;
          room = omega (arith, ok.room, moved_length r e h.held held_once a.fits);
          ordered = moved_ordered r e h.held ok.ordered;
          has = λ x i l. moved_has r e h.held x (⊎_elim {C = Moved r e h.held x}
              (λ m. inl (ok.has x m.0 l, m.1))
              (λ m. inr (m.0, a.fits, m.2))
              (moved_in r e rows x i));
          from = λ x i. ⊎_elim {C = In x (moved r e rows) × (g ≤ x.end)}
              (λ m. (moved_has r e rows x (inl ((ok.from x m.0).0, m.1)), (ok.from x m.0).1))
              (λ m. (moved_has r e rows x (inr (m.0, there, m.2)), subst (λ (v : Plain). g ≤ v.end) (sym m.0) late))
              (moved_in r e h.held x i);
          once = moved_once r e rows ok.once (λ i. new_end.1 (ap (λ (v : Plain). v.end) (one_late (with_end e r) r i there late was refl)));
          apart = λ x y t i j p u v. ⊎_elim
              (λ m. ⊎_elim
              (λ o. ok.apart x y t m.0 o.0 p u v)
              (λ o. absurd (other x m.0 m.1 (p ∙ ap (λ (z : Plain). z.id) o.0) t u (subst (At t) o.0 v)))
              (moved_in r e rows y j))
              (λ m. ⊎_elim
              (λ o. absurd (other y o.0 o.1 (sym p ∙ ap (λ (z : Plain). z.id) m.0) t v (subst (At t) m.0 u)))
              (λ o. m.0 ∙ sym o.0)
              (moved_in r e rows y j))
              (moved_in r e rows x i);
          sound = λ x i. ⊎_elim {C = (standing x ≡ true) × (in_kind k x ≡ true)}
              (λ m. ok.sound x m.0)
              (λ m. subst (λ v. (standing v ≡ true) × (in_kind k v ≡ true)) (sym m.0) (standing_after m.2, a.in_range))
              (moved_in r e rows x i);
        })

  pub faithful_event : (e : PlainEvent) → Admitted k n e h → Faithful k n g (half_after e h) (applied e rows)
  faithful_event (insert r) a = faithful_insert r a
  faithful_event (retraction r e) a = faithful_retraction r e a
  faithful_event (cti t) a = record {
    above = omega (arith, a.due, ok.above);
    room = ok.room;
    ordered = ok.ordered;
    has = ok.has;
    from = ok.from;
    once = ok.once;
    apart = ok.apart;
    sound = ok.sound;
  }

  -- an accepted event leaves the history up to the closed time
  pub event_up_to : (e : PlainEvent) → Admitted k n e h → up_to g (applied e rows) ≡ up_to g rows
  event_up_to (insert r) a = cond-false (ltb r.start g) _ _ (le-ltb r.start g (omega (arith, a.due, ok.above)))
  event_up_to (retraction r e) a = moved_up_to g r e rows (omega (arith, a.due, ok.above)) (omega (arith, a.due, ok.above))
  event_up_to (cti t) a = refl
