-- Cuts: up to a time, the join's lines and a window's count are those of the histories up to that time.
use Rattle.std.proofs.Common.{◌≡◌, ℕ, ◌+◌, ◌<◌, ◌≤◌, min, true, ◌&&◌, eqb, ltb, List, [], ◌∷◌, sym, refl, ap, ◌∙◌, subst, ⊎_elim, arith}
use Rattle.std.proofs.lemmas.Bool.{ltb-true, ltb-false, lt-ltb, le-ltb, cond_both, cases_lt}
use Rattle.rows.specs.Kinds.{Kind}
use Rattle.rows.specs.Rows.{Plain}
use Rattle.receipts.specs.declared.line.Line.{Line}
use Rattle.receipts.specs.Lists.{total, one, tally}
use Rattle.receipts.specs.Sides.{Both, mapped}
use Rattle.receipts.specs.Histories.{up_to}
use Rattle.receipts.specs.Joins.{join_start, join_end, joins, line, Joined, in_window, count_in}
use Rattle.receipts.proofs.Lists.{total_zero}
use Rattle.receipts.proofs.Histories.{cut, up_to_in, up_to_has}
use Rattle.receipts.proofs.Joins.{joins_forward}
use Rattle.receipts.proofs.Counts.{window_late}

ltb_min : (a b t : ℕ) → a < t → ltb a (min b t) ≡ ltb a b
ltb_min a b t h = ⊎_elim
    (λ (k : a < b). lt-ltb a (min b t) (omega arith) ∙ sym (lt-ltb a b k))
    (λ (k : b ≤ a). le-ltb a (min b t) (omega arith) ∙ sym (le-ltb a b k))
    (cases_lt a b)

cut_join_end : (t : ℕ) (l r : Plain) → join_end (cut t l) (cut t r) ≡ min (join_end l r) t
cut_join_end t l r = omega arith

joins_cut : (t : ℕ) (l r : Plain) → join_start l r < t → joins (cut t l) (cut t r) ≡ joins l r
joins_cut t l r h =
    ap (λ b. eqb l.key r.key && b) (ap (ltb (join_start l r)) (cut_join_end t l r) ∙ ltb_min (join_start l r) (join_end l r) t h)

line_cut : (ks : Both Kind) (t : ℕ) (l r : Plain) → join_end l r < t → line ks (cut t l) (cut t r) ≡ line ks l r
line_cut ks t l r h =
    let q : join_end (cut t l) (cut t r) ≡ join_end l r = omega arith in
    λ i. record {
      left_id = l.id;
      right_id = r.id;
      start = join_start l r;
      end = q i;
      key = l.key;
      left_least = ks.left.least l.key l.value;
      left_most = ks.left.most l.key l.value;
      right_least = ks.right.least r.key r.value;
      right_most = ks.right.most r.key r.value;
    }

module _ (ks : Both Kind) (t : ℕ) (hs : Both (List Plain)) (x : Line) where
  pub joined_cut : Joined ks hs x → x.end < t → Joined ks (mapped (up_to t) hs) x
  joined_cut j e =
      let l : Plain = j.l in
      let r : Plain = j.r in
      let early : join_end l r < t = subst (λ (v : Line). v.end < t) j.is e in
      let forward : join_start l r < join_end l r = joins_forward l r j.join in
      record {
        l = cut t l;
        r = cut t r;
        in_left = up_to_has t hs.left l j.in_left (omega arith);
        in_right = up_to_has t hs.right r j.in_right (omega arith);
        join = joins_cut t l r (omega arith) ∙ j.join;
        is = j.is ∙ sym (line_cut ks t l r early);
      }

  pub joined_uncut : Joined ks (mapped (up_to t) hs) x → x.end < t → Joined ks hs x
  joined_uncut j e =
      let a = up_to_in t hs.left j.l j.in_left in
      let b = up_to_in t hs.right j.r j.in_right in
      let l : Plain = a.0 in
      let r : Plain = b.0 in
      let is : x ≡ line ks (cut t l) (cut t r) = j.is ∙ (λ i. line ks (a.3 i) (b.3 i)) in
      let join : joins (cut t l) (cut t r) ≡ true = (λ i. joins (sym a.3 i) (sym b.3 i)) ∙ j.join in
      let early : join_end (cut t l) (cut t r) < t = subst (λ (v : Line). v.end < t) is e in
      record {
        l = l;
        r = r;
        in_left = a.1;
        in_right = b.1;
        join = sym (joins_cut t l r (omega (arith, a.2, b.2))) ∙ join;
        is = is ∙ line_cut ks t l r (omega (arith, early));
      }

total_up_to : (t : ℕ) (f g : Plain → ℕ) (xs : List Plain) → ((x : Plain) → x.start < t → f (cut t x) ≡ g x) → ((x : Plain) → t ≤ x.start → g x ≡ 0) →
    total f (up_to t xs) ≡ total g xs
total_up_to t f g [] h k = refl
total_up_to t f g (x ∷ xs) h k =
    let m : total f (up_to t xs) ≡ total g xs = total_up_to t f g xs h k in
    cond_both (ltb x.start t) (cut t x ∷ up_to t xs) (up_to t xs) (λ zs. total f zs ≡ g x + total g xs)
    (λ u. omega (arith, m, h x (ltb-true _ _ u)))
    (λ u. omega (arith, m, k x (ltb-false _ _ u)))

window_cut : (low high t : ℕ) (l r : Plain) → join_start l r < t → low < t → in_window low high (cut t l) (cut t r) ≡ in_window low high l r
window_cut low high t l r a b =
    let p : joins (cut t l) (cut t r) ≡ joins l r = joins_cut t l r a in
    let q : ltb low (join_end (cut t l) (cut t r)) ≡ ltb low (join_end l r) = ap (ltb low) (cut_join_end t l r) ∙ ltb_min low (join_end l r) t b in
    λ i. p i && (ltb (join_start l r) high && q i)

pub count_up_to : (low high t : ℕ) (hs : Both (List Plain)) → low < high → high ≤ t → count_in low high (mapped (up_to t) hs) ≡ count_in low high hs
count_up_to low high t hs a b =
    total_up_to t (λ l. tally (λ r. in_window low high l r) (up_to t hs.right)) (λ l. tally (λ r. in_window low high l r) hs.right) hs.left
    (λ l h. total_up_to t (λ r. one (in_window low high (cut t l) r)) (λ r. one (in_window low high l r)) hs.right
    (λ r k. ap one (window_cut low high t l r (omega arith) (omega arith)))
    (λ r k. ap one (window_late low high l r (omega arith))))
    (λ l h. total_zero (λ r. one (in_window low high l r)) hs.right (λ r. ap one (window_late low high l r (omega arith))))
