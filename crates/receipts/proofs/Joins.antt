-- Joins: the lines before a time are those of the join, in the order of the rows, and none comes twice.
--     ByIds x y                   x has the lower left id, or the same and the lower right id
--     LineOf ks t l rs x          x is the line of l and a row of rs, and ends before t
use Rattle.std.proofs.Common.{◌≡◌, ℕ, ◌<◌, true, eqb, ltb, ◌⊎◌, List, [], ◌∷◌, sym, refl, ap, ◌∙◌, subst, inl, inr, ⊎_elim, arith}
use Rattle.std.proofs.lemmas.Bool.{ltb-true, lt-ltb, and_parts, and_from, cond_both, both_ways}
use Rattle.refusals.specs.declared.fault.Side.{Side}
use Rattle.refusals.specs.declared.fault.Side.TheVariants.{Left, Right}
use Rattle.rows.specs.Kinds.{Kind}
use Rattle.rows.specs.Rows.{Plain}
use Rattle.receipts.specs.declared.line.Line.{Line}
use Rattle.receipts.specs.Lists.{In, Once, SameMembers}
use Rattle.receipts.specs.Sides.{Both, pick}
use Rattle.receipts.specs.Joins.{join_start, join_end, joins, line, Joined, ends_before, row_lines, lines_before}
use Rattle.receipts.proofs.Lists.{Ordered, gathered_in, gathered_has, gathered_ordered, gathered_once}
use Rattle.receipts.proofs.Rows.{At, Apart}
use Rattle.receipts.proofs.Stores.{ById}

abbrev pub ByIds : Line → Line → Type 0
ByIds x y = (x.left_id < y.left_id) ⊎ ((x.left_id ≡ y.left_id) × (x.right_id < y.right_id))

pub by_ids_irr : (x : Line) → ByIds x x → ⊥
by_ids_irr x (inl h) = omega (arith, h)
by_ids_irr x (inr h) = omega (arith, h.1)

pub by_ids_asym : (x y : Line) → ByIds x y → ByIds y x → ⊥
by_ids_asym x y (inl h) (inl k) = omega (arith, h, k)
by_ids_asym x y (inl h) (inr k) = omega (arith, h, k.0)
by_ids_asym x y (inr h) (inl k) = omega (arith, h.0, k)
by_ids_asym x y (inr h) (inr k) = omega (arith, h.1, k.1)

pub joins_forward : (l r : Plain) → joins l r ≡ true → join_start l r < join_end l r
joins_forward l r h = ltb-true _ _ (and_parts (eqb l.key r.key) (ltb (join_start l r) (join_end l r)) h).1

-- rows of one id whose join rows start together are one row
one_row : (xs : List Plain) → Apart xs → (a b : Plain) (s t : ℕ) → In a xs → In b xs → a.id ≡ b.id → s ≡ t → At s a → At t b → a ≡ b
one_row xs apart a b s t i j e p u v = apart a b t i j e (subst (λ n. At n a) p u) v

module _ (ks : Both Kind) (t : ℕ) where
  pub record LineOf (l : Plain) (rs : List Plain) (x : Line) : Type 0 where
    pub r : Plain
    pub in_rows : In r rs
    pub join : joins l r ≡ true
    pub early : join_end l r < t
    pub is : x ≡ line ks l r

  pub row_lines_in : (l : Plain) (rs : List Plain) (x : Line) → In x (row_lines ks t l rs) → LineOf l rs x
  row_lines_in l [] x h = absurd h
  row_lines_in l (r ∷ rs) x h =
      let R : List Line = row_lines ks t l rs in
      let more : In x R → LineOf l (r ∷ rs) x = λ k. let w = row_lines_in l rs x k in
      record { r = w.r; in_rows = inr w.in_rows; join = w.join; early = w.early; is = w.is } in
      cond_both (ends_before t l r) (line ks l r ∷ R) R (λ zs. In x zs → LineOf l (r ∷ rs) x)
      (λ u. let both = and_parts (joins l r) (ltb (join_end l r) t) u in
      ⊎_elim (λ p. record { r = r; in_rows = inl refl; join = both.0; early = ltb-true _ _ both.1; is = p }) more)
      (λ f. more) h

  row_lines_has : (l : Plain) (rs : List Plain) (r : Plain) → In r rs → joins l r ≡ true → join_end l r < t → In (line ks l r) (row_lines ks t l rs)
  row_lines_has l [] r h j e = absurd h
  row_lines_has l (y ∷ rs) r (inl p) j e =
      let R : List Line = row_lines ks t l rs in
      cond_both (ends_before t l y) (line ks l y ∷ R) R (λ zs. In (line ks l r) zs)
      (λ u. inl (ap (line ks l) p))
      (λ f. absurd (both_ways _ f (subst (λ z. ends_before t l z ≡ true) p (and_from _ _ j (lt-ltb _ _ e)))))
  row_lines_has l (y ∷ rs) r (inr h) j e =
      let R : List Line = row_lines ks t l rs in
      let k : In (line ks l r) R = row_lines_has l rs r h j e in
      cond_both (ends_before t l y) (line ks l y ∷ R) R (λ zs. In (line ks l r) zs) (λ u. inr k) (λ f. k)

  row_lines_ordered : (l : Plain) (rs : List Plain) → Ordered ById rs → Ordered ByIds (row_lines ks t l rs)
  row_lines_ordered l [] h = tt
  row_lines_ordered l (r ∷ rs) h =
      let R : List Line = row_lines ks t l rs in
      let m : Ordered ByIds R = row_lines_ordered l rs h.1 in
      cond_both (ends_before t l r) (line ks l r ∷ R) R (λ zs. Ordered ByIds zs)
      (λ u. (λ z k. let w = row_lines_in l rs z k in subst (λ v. ByIds (line ks l r) v) (sym w.is) (inr (refl, h.0 w.r w.in_rows)), m))
      (λ f. m)

  row_lines_once : (l : Plain) (rs : List Plain) → Once rs → Apart rs → Once (row_lines ks t l rs)
  row_lines_once l [] o a = tt
  row_lines_once l (r ∷ rs) o a =
      let R : List Line = row_lines ks t l rs in
      let m : Once R = row_lines_once l rs o.1 (λ x y u h k. a x y u (inr h) (inr k)) in
      cond_both (ends_before t l r) (line ks l r ∷ R) R (λ zs. Once zs)
      (λ u. (
        λ k.
            let w = row_lines_in l rs (line ks l r) k in
            let here : join_start l r < join_end l r = joins_forward l r (and_parts (joins l r) (ltb (join_end l r) t) u).0 in
            let there : join_start l w.r < join_end l w.r = joins_forward l w.r w.join in
            o.0 (subst (λ v. In v rs)
            (sym (one_row (r ∷ rs) a r w.r (join_start l r) (join_start l w.r) (inl refl) (inr w.in_rows)
            (ap (λ (v : Line). v.right_id) w.is) (ap (λ (v : Line). v.start) w.is)
            (omega arith, omega (arith, here)) (omega arith, omega (arith, there))))
            w.in_rows),
        m,
      ))
      (λ f. m)

  module _ (hs : Both (List Plain)) where
    pub lines_before_in : (x : Line) → In x (lines_before ks t hs) → Joined ks hs x × (x.end < t)
    lines_before_in x h =
        let g = gathered_in (λ l. row_lines ks t l hs.right) hs.left x h in
        let w = row_lines_in g.0 hs.right x g.2 in (
          record { l = g.0; r = w.r; in_left = g.1; in_right = w.in_rows; join = w.join; is = w.is },
          subst (λ (v : Line). v.end < t) (sym w.is) w.early,
        )

    pub lines_before_has : (x : Line) → Joined ks hs x → x.end < t → In x (lines_before ks t hs)
    lines_before_has x j e =
        subst (λ v. In v (lines_before ks t hs)) (sym j.is)
        (gathered_has (λ l. row_lines ks t l hs.right) hs.left j.l (line ks j.l j.r) j.in_left
        (row_lines_has j.l hs.right j.r j.in_right j.join (subst (λ (v : Line). v.end < t) j.is e)))

    pub lines_before_ordered : ((x : Side) → Ordered ById (pick x hs)) → Ordered ByIds (lines_before ks t hs)
    lines_before_ordered o =
        gathered_ordered ById ByIds (λ l. row_lines ks t l hs.right) hs.left (o Left) (λ l. row_lines_ordered l hs.right (o Right))
        (λ l m x y lt h k.
        let u = row_lines_in l hs.right x h in
        let v = row_lines_in m hs.right y k in
        inl (omega (arith, ap (λ (z : Line). z.left_id) u.is, ap (λ (z : Line). z.left_id) v.is, lt)))

    pub lines_before_once : ((x : Side) → Once (pick x hs)) → ((x : Side) → Apart (pick x hs)) → Once (lines_before ks t hs)
    lines_before_once o a =
        gathered_once (λ l. row_lines ks t l hs.right) hs.left (o Left) (λ l. row_lines_once l hs.right (o Right) (a Right))
        (λ l m x i j h k.
        let u = row_lines_in l hs.right x h in
        let v = row_lines_in m hs.right x k in
        let p : line ks l u.r ≡ line ks m v.r = sym u.is ∙ v.is in
        let here : join_start l u.r < join_end l u.r = joins_forward l u.r u.join in
        let there : join_start m v.r < join_end m v.r = joins_forward m v.r v.join in
        one_row hs.left (a Left) l m (join_start l u.r) (join_start m v.r) i j
        (ap (λ (z : Line). z.left_id) p) (ap (λ (z : Line). z.start) p)
        (omega arith, omega (arith, here)) (omega arith, omega (arith, there)))

-- the join depends on the members of both histories alone
pub joined_same : (ks : Both Kind) (hs gs : Both (List Plain)) (x : Line) → ((y : Side) → SameMembers (pick y hs) (pick y gs)) → Joined ks hs x → Joined ks gs x
joined_same ks hs gs x m j =
    record { l = j.l; r = j.r; in_left = (m Left j.l).0 j.in_left; in_right = (m Right j.r).0 j.in_right; join = j.join; is = j.is }
