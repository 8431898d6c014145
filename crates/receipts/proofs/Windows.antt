-- Windows: what the closings so far handed out, as both histories fix it.
--     Closing ks hs low high xs w     a closing of the window from low to high handed out the lines xs and the record w
--     Further Earlier Last xs ws      xs and ws are those of the earlier closings and of the last one
--     Handed ks width hs k xs ws      k closings at a width handed out the lines xs and the records ws
use Rattle.std.proofs.Common.{◌≡◌, ℕ, zero, suc, ◌+◌, ◌*◌, ◌<◌, ◌≤◌, List, [], ◌∷◌, ◌++◌, sym, ap, ◌∙◌, subst, ⊎_elim, arith}
use Rattle.std.proofs.lemmas.Bool.{cases_lt}
use Rattle.refusals.specs.declared.fault.Side.{Side}
use Rattle.rows.specs.Kinds.{Kind}
use Rattle.rows.specs.Rows.{Plain}
use Rattle.receipts.specs.declared.line.Line.{Line}
use Rattle.receipts.specs.declared.window.Window.{Window}
use Rattle.receipts.specs.Lists.{In, Once, SameMembers, each}
use Rattle.receipts.specs.Sides.{Both, pick, mapped}
use Rattle.receipts.specs.Histories.{up_to}
use Rattle.receipts.specs.Joins.{Joined, count_in}
use Rattle.receipts.proofs.Lists.{Ordered, in_first, in_second, in_either, once_append, each_append, ordered_once, ordered_same}
use Rattle.receipts.proofs.Joins.{ByIds, by_ids_irr, by_ids_asym, joined_same}
use Rattle.receipts.proofs.Counts.{count_same}
use Rattle.receipts.proofs.Cuts.{joined_cut, joined_uncut, count_up_to}

pub record Closing (ks : Both Kind) (hs : Both (List Plain)) (low high : ℕ) (xs : List Line) (w : Window) : Type 0 where
  pub ordered : Ordered ByIds xs
  pub has : (x : Line) → Joined ks hs x → low ≤ x.end → x.end < high → In x xs
  pub from : (x : Line) → In x xs → Joined ks hs x × (low ≤ x.end) × (x.end < high)
  pub starts : w.start ≡ low
  pub ends : w.end ≡ high
  pub counts : w.count ≡ count_in low high hs

pub record Further (Earlier : List Line → List Window → Type 0) (Last : List Line → Window → Type 0) (xs : List Line) (ws : List Window) : Type 0 where
  pub lines : List Line
  pub windows : List Window
  pub earlier : Earlier lines windows
  pub last_lines : List Line
  pub last_window : Window
  pub last : Last last_lines last_window
  pub lines_are : xs ≡ lines ++ last_lines
  pub windows_are : ws ≡ windows ++ (last_window ∷ [])

abbrev pub Handed : Both Kind → ℕ → Both (List Plain) → ℕ → List Line → List Window → Type 0
Handed ks width hs zero xs ws = (xs ≡ []) × (ws ≡ [])
Handed ks width hs (suc k) xs ws = Further (Handed ks width hs k) (Closing ks hs (width * k) (width * k + width)) xs ws

module _ (ks : Both Kind) (width : ℕ) (hs : Both (List Plain)) where
  pub handed_from : (k : ℕ) (xs : List Line) (ws : List Window) (x : Line) → Handed ks width hs k xs ws → In x xs → Joined ks hs x × (x.end < width * k)
  handed_from zero xs ws x h i = absurd (subst (λ v. In x v) h.0 i)
  handed_from (suc k) xs ws x h i = ⊎_elim {C = Joined ks hs x × (x.end < width * suc k)}
      (λ a. let p = handed_from k h.lines h.windows x h.earlier a in (p.0, omega (arith, p.1)))
      (λ b. ((h.last.from x b).0, omega (arith, (h.last.from x b).2)))
      (in_either x h.lines h.last_lines (subst (λ v. In x v) h.lines_are i))

  pub handed_has : (k : ℕ) (xs : List Line) (ws : List Window) (x : Line) → Handed ks width hs k xs ws → Joined ks hs x → x.end < width * k → In x xs
  handed_has zero xs ws x h j e = absurd (omega (arith, e))
  handed_has (suc k) xs ws x h j e = subst (λ v. In x v) (sym h.lines_are) (⊎_elim {C = In x (h.lines ++ h.last_lines)}
      (λ (a : x.end < width * k). in_first x h.lines h.last_lines (handed_has k h.lines h.windows x h.earlier j a))
      (λ (b : width * k ≤ x.end). in_second x h.lines h.last_lines (h.last.has x j b (omega (arith, e))))
      (cases_lt x.end (width * k)))

  pub handed_once : (k : ℕ) (xs : List Line) (ws : List Window) → Handed ks width hs k xs ws → Once xs
  handed_once zero xs ws h = subst (λ v. Once v) (sym h.0) tt
  handed_once (suc k) xs ws h = subst (λ v. Once v) (sym h.lines_are)
      (once_append h.lines h.last_lines (handed_once k h.lines h.windows h.earlier) (ordered_once ByIds by_ids_irr h.last_lines h.last.ordered)
      (λ x a b. omega (arith, (handed_from k h.lines h.windows x h.earlier a).1, (h.last.from x b).1)))

  pub handed_counts : (k : ℕ) (xs : List Line) (ws : List Window) (w : Window) → Handed ks width hs k xs ws → In w ws → w.count ≡ count_in w.start w.end hs
  handed_counts zero xs ws w h i = absurd (subst (λ v. In w v) h.1 i)
  handed_counts (suc k) xs ws w h i = ⊎_elim
      (λ a. handed_counts k h.lines h.windows w h.earlier a)
      (⊎_elim
      (λ p. subst (λ (v : Window). v.count ≡ count_in v.start v.end hs) (sym p)
      (h.last.counts ∙ (λ i. count_in (sym h.last.starts i) (sym h.last.ends i) hs)))
      (λ none. absurd none))
      (in_either w h.windows (h.last_window ∷ []) (subst (λ v. In w v) h.windows_are i))

-- up to a time, the histories up to that time fix what is handed out
module _ (ks : Both Kind) (width : ℕ) (hs : Both (List Plain)) (t : ℕ) (wide : 0 < width) where
  -- both histories up to t
  abbrev early : Both (List Plain)
  early = mapped (up_to t) hs

  closing_cut : (low high : ℕ) (xs : List Line) (w : Window) → low < high → high ≤ t → Closing ks hs low high xs w → Closing ks early low high xs w
  closing_cut low high xs w a b c = record {
    ordered = c.ordered;
    has = λ x j l h. c.has x (joined_uncut ks t hs x j (omega (arith, h, b))) l h;
    from = λ x i. (joined_cut ks t hs x (c.from x i).0 (omega (arith, (c.from x i).2, b)), (c.from x i).1, (c.from x i).2);
    starts = c.starts;
    ends = c.ends;
    counts = c.counts ∙ sym (count_up_to low high t hs a b);
  }

  closing_uncut : (low high : ℕ) (xs : List Line) (w : Window) → low < high → high ≤ t → Closing ks early low high xs w → Closing ks hs low high xs w
  closing_uncut low high xs w a b c = record {
    ordered = c.ordered;
    has = λ x j l h. c.has x (joined_cut ks t hs x j (omega (arith, h, b))) l h;
    from = λ x i. (joined_uncut ks t hs x (c.from x i).0 (omega (arith, (c.from x i).2, b)), (c.from x i).1, (c.from x i).2);
    starts = c.starts;
    ends = c.ends;
    counts = c.counts ∙ count_up_to low high t hs a b;
  }

  pub handed_cut : (k : ℕ) (xs : List Line) (ws : List Window) → width * k ≤ t → Handed ks width hs k xs ws → Handed ks width early k xs ws
  handed_cut zero xs ws l h = h
  handed_cut (suc k) xs ws l h = record {
    lines = h.lines;
    windows = h.windows;
    last_lines = h.last_lines;
    last_window = h.last_window;
    earlier = handed_cut k h.lines h.windows (omega (arith, l)) h.earlier;
    last = closing_cut (width * k) (width * k + width) h.last_lines h.last_window (omega (arith, wide)) (omega (arith, l)) h.last;
    lines_are = h.lines_are;
    windows_are = h.windows_are;
  }

  pub handed_uncut : (k : ℕ) (xs : List Line) (ws : List Window) → width * k ≤ t → Handed ks width early k xs ws → Handed ks width hs k xs ws
  handed_uncut zero xs ws l h = h
  handed_uncut (suc k) xs ws l h = record {
    lines = h.lines;
    windows = h.windows;
    last_lines = h.last_lines;
    last_window = h.last_window;
    earlier = handed_uncut k h.lines h.windows (omega (arith, l)) h.earlier;
    last = closing_uncut (width * k) (width * k + width) h.last_lines h.last_window (omega (arith, wide)) (omega (arith, l)) h.last;
    lines_are = h.lines_are;
    windows_are = h.windows_are;
  }

-- histories with the same rows hand out the same lines and counts
module _ (ks : Both Kind) (width : ℕ) (hs gs : Both (List Plain))
    (o : (x : Side) → Once (pick x hs)) (p : (x : Side) → Once (pick x gs)) (m : (x : Side) → SameMembers (pick x hs) (pick x gs)) where
  closing_same : (low high : ℕ) (xs ys : List Line) (v w : Window) → Closing ks hs low high xs v → Closing ks gs low high ys w → (xs ≡ ys) × (v.count ≡ w.count)
  closing_same low high xs ys v w c d = (
    ordered_same ByIds by_ids_irr by_ids_asym xs ys c.ordered d.ordered
        (λ x. (
          λ i. let f = c.from x i in d.has x (joined_same ks hs gs x m f.0) f.1 f.2,
          λ i. let f = d.from x i in c.has x (joined_same ks gs hs x (λ y z. ((m y z).1, (m y z).0)) f.0) f.1 f.2,
        )),
    c.counts ∙ count_same low high hs gs o p m ∙ sym d.counts,
  )

  abbrev count_list : List Window → List ℕ
  count_list ws = each (λ (w : Window). w.count) ws

  pub handed_same : (k : ℕ) (xs ys : List Line) (vs ws : List Window) → Handed ks width hs k xs vs → Handed ks width gs k ys ws →
      (xs ≡ ys) × (count_list vs ≡ count_list ws)
  handed_same zero xs ys vs ws h g = (h.0 ∙ sym g.0, ap count_list h.1 ∙ sym (ap count_list g.1))
  handed_same (suc k) xs ys vs ws h g =
      let e = handed_same k h.lines g.lines h.windows g.windows h.earlier g.earlier in
      let l = closing_same (width * k) (width * k + width) h.last_lines g.last_lines h.last_window g.last_window h.last g.last in (
        h.lines_are ∙ (λ i. e.0 i ++ l.0 i) ∙ sym g.lines_are,
        ap count_list h.windows_are ∙ each_append (λ (w : Window). w.count) h.windows (h.last_window ∷ [])
            ∙ (λ i. e.1 i ++ (l.1 i ∷ []))
            ∙ sym (ap count_list g.windows_are ∙ each_append (λ (w : Window). w.count) g.windows (g.last_window ∷ [])),
      )
