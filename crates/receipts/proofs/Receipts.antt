-- Receipts: after any calls, both histories up to the closed time fix what the closings handed out (receipts_exact,
-- receipts_determined, counts_true).
--     histories_of l              both canonical histories of the ledger l
--     Final s q l                 the ledger's lines and window records are those of its histories up to the closed time
use Rattle.std.proofs.Common.{◌≡◌, ℕ, zero, suc, ◌+◌, ◌*◌, ◌<◌, ◌↔◌, List, [], ◌∷◌, ◌++◌, sym, refl, ap, ◌∙◌, subst, arith}
use mathlib.Core.Path.{transport}
use Rattle.refusals.specs.declared.fault.Side.{Side}
use Rattle.refusals.specs.declared.fault.Side.TheVariants.{Left, Right}
use Rattle.rows.specs.Kinds.{Kind}
use Rattle.rows.specs.Rows.{Plain}
use Rattle.rows.specs.Events.{PlainEvent}
use Rattle.receipts.specs.declared.line.Line.{Line}
use Rattle.receipts.specs.declared.window.Window.{Window}
use Rattle.receipts.specs.Lists.{In, Once, SameMembers}
use Rattle.receipts.specs.Sides.{Both, pick, mapped}
use Rattle.receipts.specs.Histories.{history, up_to}
use Rattle.receipts.specs.Stores.{kept}
use Rattle.receipts.specs.Joins.{join_end, Joined, lines_before}
use Rattle.receipts.specs.Queries.{Setup, Half, QueryState, Call, window_end, held_rows, closing_lines, closing_window}
use Rattle.receipts.specs.Transcripts.{histories, lines_in, windows_in}
use Rattle.receipts.specs.Laws.{record_of, left_by, closed_time_of, ReceiptsExact, ReceiptsDetermined, CountsTrue}
use Rattle.receipts.proofs.Lists.{Ordered, shuffled_same}
use Rattle.receipts.proofs.Sides.{mapped_all, mapped_pairs, mapped_put}
use Rattle.receipts.proofs.Rows.{Apart}
use Rattle.receipts.proofs.Histories.{history_more}
use Rattle.receipts.proofs.Stores.{ById, kept_once}
use Rattle.receipts.proofs.Joins.{lines_before_in, lines_before_has, lines_before_ordered, lines_before_once}
use Rattle.receipts.proofs.Counts.{count_kept, count_same}
use Rattle.receipts.proofs.Cuts.{joined_cut, joined_uncut, count_up_to}
use Rattle.receipts.proofs.Transcripts.{Ledger, ledger, Invariant, always}
use Rattle.receipts.proofs.Halves.{held_once, held_same, cut_once, event_up_to}
use Rattle.receipts.proofs.Queries.{AllFaithful, new_faithful, faithful_invariant}
use Rattle.receipts.proofs.Windows.{Closing, Handed, handed_from, handed_has, handed_once, handed_counts, handed_cut, handed_uncut, handed_same}

abbrev histories_of : Ledger → Both (List Plain)
histories_of l = mapped history l.events

record Final (s : Setup) (q : QueryState) (l : Ledger) : Type 0 where
  faithful : AllFaithful s q l
  closings : ℕ
  closed_is : q.closed ≡ s.width * closings
  handed : Handed s.kinds s.width (mapped (up_to q.closed) (histories_of l)) closings l.lines l.windows

-- the window that a closing hands out, over the histories up to its end
closing_is : (s : Setup) (q : QueryState) (l : Ledger) → AllFaithful s q l → 0 < s.width →
    Closing s.kinds (mapped (up_to (window_end s q)) (histories_of l)) q.closed (window_end s q) (closing_lines s q) (closing_window s q)
closing_is s q l ok wide =
    let ks : Both Kind = s.kinds in
    let g : ℕ = q.closed in
    let t : ℕ = window_end s q in
    let hs : Both (List Plain) = histories_of l in
    let held : Both (List Plain) = held_rows q in
    let half : Side → Half = λ x. pick x q.halves in
    let rows : Side → List Plain = λ x. history (pick x l.events) in
    let kind : Side → Kind = λ x. pick x s.kinds in
    let capacity : Side → ℕ = λ x. pick x s.capacity in
    let rows_of : Half → List Plain = λ h. h.held in
    record {
      ordered = lines_before_ordered ks t held (mapped_all (λ x xs. Ordered ById xs) rows_of q.halves (λ x. (ok x).ordered));
      has = λ x c low high.
          let j : Joined ks hs x = joined_uncut ks t hs x c high in
          let e : x.end ≡ join_end j.l j.r = ap (λ (v : Line). v.end) j.is in
          lines_before_has ks t held x (record {
            l = j.l;
            r = j.r;
            in_left = (ok Left).has j.l j.in_left (omega (arith, e, low));
            in_right = (ok Right).has j.r j.in_right (omega (arith, e, low));
            join = j.join;
            is = j.is;
          }) high;
      from = λ x i.
          let j : Joined ks held x = (lines_before_in ks t held x i).0 in
          let high : x.end < t = (lines_before_in ks t held x i).1 in
          let e : x.end ≡ join_end j.l j.r = ap (λ (v : Line). v.end) j.is in
          let a = (ok Left).from j.l j.in_left in
          let b = (ok Right).from j.r j.in_right in
          (joined_cut ks t hs x (record { l = j.l; r = j.r; in_left = a.0; in_right = b.0; join = j.join; is = j.is }) high, omega (arith, e, a.1, b.1), high);
      starts = refl;
      ends = refl;
      counts =
          count_same g t held (mapped (kept g) hs)
          (mapped_all (λ x xs. Once xs) rows_of q.halves (λ x. held_once (kind x) (capacity x) g (half x) (rows x) (ok x)))
          (mapped_all (λ x xs. Once xs) (λ es. kept g (history es)) l.events (λ x. kept_once g (rows x) (ok x).once))
          (mapped_pairs SameMembers rows_of (λ es. kept g (history es)) q.halves l.events (λ x. held_same (kind x) (capacity x) g (half x) (rows x) (ok x)))
          ∙ count_kept g t hs ∙ sym (count_up_to g t t hs (omega (arith, wide)) (omega arith));
    }

module _ (s : Setup) (wide : 0 < s.width) where
  final_invariant : Invariant s (Final s)
  final_invariant = record {
    by_event = λ q l x e a f.
        let es : List PlainEvent = pick x l.events in
        let same : up_to q.closed (history (es ++ (e ∷ []))) ≡ up_to q.closed (history es) =
        ap (up_to q.closed) (history_more [] es e)
        ∙ event_up_to (pick x s.kinds) (pick x s.capacity) q.closed (pick x q.halves) (history es) (f.faithful x) e a in
        record {
          faithful = (faithful_invariant s).by_event q l x e a f.faithful;
          closings = f.closings;
          closed_is = f.closed_is;
          handed = subst (λ hs. Handed s.kinds s.width hs f.closings l.lines l.windows)
              (sym (mapped_put (λ es. up_to q.closed (history es)) x (es ++ (e ∷ [])) l.events same)) f.handed;
        };
    by_closing = λ q l due f.
        let ks : Both Kind = s.kinds in
        let w : ℕ = s.width in
        let t : ℕ = window_end s q in
        let hs : Both (List Plain) = histories_of l in
        let k : ℕ = f.closings in
        let e : q.closed ≡ w * k = f.closed_is in
        record {
          faithful = (faithful_invariant s).by_closing q l due f.faithful;
          closings = suc k;
          closed_is = omega (arith, e);
          handed = record {
            lines = l.lines;
            windows = l.windows;
            last_lines = closing_lines s q;
            last_window = closing_window s q;
            earlier = handed_cut ks w hs t wide k l.lines l.windows (omega (arith, e))
                (handed_uncut ks w hs q.closed wide k l.lines l.windows (omega (arith, e)) f.handed);
            last = subst (λ n. Closing ks (mapped (up_to t) hs) n (n + w) (closing_lines s q) (closing_window s q)) e (closing_is s q l f.faithful wide);
            lines_are = refl;
            windows_are = refl;
          };
        };
  }

  final : (cs : List Call) → Final s (left_by s cs) (ledger (record_of s cs))
  final cs = always s (Final s) final_invariant (record { faithful = new_faithful s; closings = zero; closed_is = omega arith; handed = (refl, refl) }) cs

  -- over the whole histories
  whole_handed : (cs : List Call) → Handed s.kinds s.width (histories (record_of s cs)) (final cs).closings (lines_in (record_of s cs)) (windows_in (record_of s cs))
  whole_handed cs =
      let f = final cs in
      let e : closed_time_of s cs ≡ s.width * f.closings = f.closed_is in
      handed_uncut s.kinds s.width (histories (record_of s cs)) (closed_time_of s cs) wide f.closings (lines_in (record_of s cs)) (windows_in (record_of s cs)) (omega (arith, e)) f.handed

pub receipts_exact : ReceiptsExact
receipts_exact s cs wide =
    let ks : Both Kind = s.kinds in
    let g : ℕ = closed_time_of s cs in
    let hs : Both (List Plain) = histories (record_of s cs) in
    let xs : List Line = lines_in (record_of s cs) in
    let ws : List Window = windows_in (record_of s cs) in
    let f = final s wide cs in
    let k : ℕ = f.closings in
    let e : g ≡ s.width * k = f.closed_is in
    let h : Handed ks s.width hs k xs ws = whole_handed s wide cs in
    let once : Once xs = handed_once ks s.width hs k xs ws h in
    let there : (x : Line) → In x xs ↔ (Joined ks hs x × (x.end < g)) = λ x. (
      λ i. let p = handed_from ks s.width hs k xs ws x h i in (p.0, omega (arith, p.1, e)),
      λ p. handed_has ks s.width hs k xs ws x h p.0 (omega (arith, p.1, e)),
    ) in (
      shuffled_same xs (lines_before ks g hs) once
          (lines_before_once ks g hs
          (mapped_all (λ x rows. Once rows) history (ledger (record_of s cs)).events (λ x. (f.faithful x).once))
          (mapped_all (λ x rows. Apart rows) history (ledger (record_of s cs)).events (λ x. (f.faithful x).apart)))
          (λ x. (λ i. lines_before_has ks g hs x ((there x).0 i).0 ((there x).0 i).1, λ i. (there x).1 (lines_before_in ks g hs x i))),
      once,
      there,
    )

pub counts_true : CountsTrue
counts_true s cs wide w i =
    handed_counts s.kinds s.width (histories (record_of s cs)) (final s wide cs).closings (lines_in (record_of s cs)) (windows_in (record_of s cs)) w (whole_handed s wide cs) i

multiples_differ : (w j k : ℕ) → 0 < w → w * j ≡ w * k → j ≡ k
multiples_differ w zero zero h e = refl
multiples_differ w zero (suc k) h e = absurd (omega (arith, h, e))
multiples_differ w (suc j) zero h e = absurd (omega (arith, h, e))
multiples_differ w (suc j) (suc k) h e = ap suc (multiples_differ w j k h (omega (arith, e)))

-- no row of the histories up to the closed time comes twice
final_once : (s : Setup) (q : QueryState) (l : Ledger) → AllFaithful s q l → (x : Side) → Once (pick x (mapped (up_to q.closed) (histories_of l)))
final_once s q l ok =
    mapped_all (λ x rows. Once rows) (λ es. up_to q.closed (history es)) l.events
    (λ x. cut_once (pick x s.kinds) (pick x s.capacity) q.closed (pick x q.halves) (history (pick x l.events)) (ok x))

pub receipts_determined : ReceiptsDetermined
receipts_determined s t cs ds wide ew ek eg same =
    let a = final s wide cs in
    let b = final t (subst (λ n. 0 < n) ew wide) ds in
    let g : ℕ = closed_time_of s cs in
    let hs : Both (List Plain) = histories (record_of s cs) in
    let gs : Both (List Plain) = histories (record_of t ds) in
    let xs : List Line = lines_in (record_of t ds) in
    let ws : List Window = windows_in (record_of t ds) in
    let k : b.closings ≡ a.closings =
    multiples_differ s.width b.closings a.closings wide (ap (λ n. n * b.closings) ew ∙ sym b.closed_is ∙ sym eg ∙ a.closed_is) in
    let other : Handed s.kinds s.width (mapped (up_to g) gs) a.closings xs ws =
    transport (λ i. Handed (sym ek i) (sym ew i) (mapped (up_to (sym eg i)) gs) (k i) xs ws) b.handed in
    handed_same s.kinds s.width (mapped (up_to g) hs) (mapped (up_to g) gs)
    (final_once s (left_by s cs) (ledger (record_of s cs)) a.faithful)
    (transport (λ i. (x : Side) → Once (pick x (mapped (up_to (sym eg i)) gs))) (final_once t (left_by t ds) (ledger (record_of t ds)) b.faithful))
    (mapped_pairs SameMembers (up_to g) (up_to g) hs gs same)
    a.closings (lines_in (record_of s cs)) xs (windows_in (record_of s cs)) ws a.handed other
