-- Accounts: the sums over all inserts, retractions, windows and lines come out even (accounts_balance).
--     Even purges h es            inserts = rows taken away whole + rows purged + rows held
--     Accounts s q l              the sums come out even in the state q, with the ledger l
use Rattle.std.proofs.Common.{◌≡◌, ℕ, suc, ◌+◌, ◌*◌, List, [], ◌∷◌, ◌++◌, length, sym, refl, ap, ◌∙◌, subst, arith, length-append}
use Rattle.refusals.specs.declared.fault.Side.{Side}
use Rattle.refusals.specs.declared.fault.Side.TheVariants.{Left, Right}
use Rattle.rows.specs.Kinds.{Kind}
use Rattle.rows.specs.Rows.{Plain}
use Rattle.rows.specs.Events.{PlainEvent, insert, retraction, cti}
use Rattle.receipts.specs.declared.window.Window.{Window}
use Rattle.receipts.specs.Lists.{total, one, tally, each}
use Rattle.receipts.specs.Sides.{pick}
use Rattle.receipts.specs.Histories.{history}
use Rattle.receipts.specs.Stores.{gone}
use Rattle.receipts.specs.Queries.{Setup, Half, QueryState, new_query, Call, purged, window_end, closing_lines, closing_window}
use Rattle.receipts.specs.Transcripts.{Exchange, windows_in}
use Rattle.receipts.specs.Laws.{record_of, left_by, grid, bounds, inserts, takes_whole, purged_on, AccountsBalance}
use Rattle.receipts.proofs.Lists.{total_append, each_append}
use Rattle.receipts.proofs.Sides.{put_keeps, mapped_all}
use Rattle.receipts.proofs.Stores.{placed_length, moved_length, edited_is_moved, kept_length}
use Rattle.receipts.proofs.Calls.{Admitted, half_after}
use Rattle.receipts.proofs.Transcripts.{Ledger, ledger, side_events, Invariant, always}
use Rattle.receipts.proofs.Halves.{Faithful, held_once}
use Rattle.receipts.proofs.Queries.{AllFaithful, new_faithful, faithful_invariant}

abbrev Even : ℕ → Half → List PlainEvent → Type 0
Even purges h es = tally inserts es ≡ tally takes_whole es + purges + length h.held

record Accounts (s : Setup) (q : QueryState) (l : Ledger) : Type 0 where
  faithful : AllFaithful s q l
  even : (x : Side) → Even (total (purged_on x) l.windows) (pick x q.halves) (pick x l.events)
  closed_is : q.closed ≡ s.width * length l.windows
  bounds_are : each bounds l.windows ≡ grid s.width (length l.windows)
  lines_are : total (λ w. w.lines) l.windows ≡ length l.lines

-- an accepted event adds to the held rows what it inserts, and takes what it takes away whole
event_even : (k : Kind) (n g : ℕ) (h : Half) (rows : List Plain) → Faithful k n g h rows → (e : PlainEvent) → Admitted k n e h →
    one (inserts e) + length h.held ≡ one (takes_whole e) + length (half_after e h).held
event_even k n g h rows ok (insert r) a = omega (arith, placed_length r h.held)
event_even k n g h rows ok (retraction r e) a =
    omega (arith, moved_length r e h.held (held_once k n g h rows ok) a.fits, ap length (edited_is_moved r e h.held ok.ordered a.fits))
event_even k n g h rows ok (cti t) a = refl

purged_is : (s : Setup) (q : QueryState) (x : Side) → purged_on x (closing_window s q) ≡ gone (window_end s q) (pick x q.halves).held
purged_is s q Left = refl
purged_is s q Right = refl

accounts_invariant : (s : Setup) → Invariant s (Accounts s)
accounts_invariant s = record {
  by_event = λ q l x e a c.
      let es : List PlainEvent = pick x l.events in
      let h : Half = pick x q.halves in
      record {
        faithful = (faithful_invariant s).by_event q l x e a c.faithful;
        even = put_keeps (λ y half events. Even (total (purged_on y) l.windows) half events) x (half_after e h) (es ++ (e ∷ [])) q.halves l.events
            (omega (
              arith,
              c.even x,
              total_append (λ f. one (inserts f)) es (e ∷ []),
              total_append (λ f. one (takes_whole f)) es (e ∷ []),
              event_even (pick x s.kinds) (pick x s.capacity) q.closed h (history es) (c.faithful x) e a,
            ))
            c.even;
        closed_is = c.closed_is;
        bounds_are = c.bounds_are;
        lines_are = c.lines_are;
      };
  by_closing = λ q l due c.
      let w : Window = closing_window s q in
      let ws : List Window = l.windows in
      let n : length (ws ++ (w ∷ [])) ≡ suc (length ws) = omega (arith, length-append ws (w ∷ [])) in
      record {
        faithful = (faithful_invariant s).by_closing q l due c.faithful;
        even = mapped_all (λ x half. Even (total (purged_on x) (ws ++ (w ∷ []))) half (pick x l.events)) (purged (window_end s q)) q.halves
            (λ x. omega (arith, c.even x, total_append (purged_on x) ws (w ∷ []), purged_is s q x, kept_length (window_end s q) (pick x q.halves).held));
        closed_is = subst (λ m. q.closed + s.width ≡ s.width * m) (sym n) (omega (arith, c.closed_is));
        bounds_are =
            each_append bounds ws (w ∷ [])
            ∙ (λ i. c.bounds_are i ++ ((c.closed_is i, c.closed_is i + s.width) ∷ []))
            ∙ ap (grid s.width) (sym n);
        lines_are = omega (arith, c.lines_are, total_append (λ (v : Window). v.lines) ws (w ∷ []), length-append l.lines (closing_lines s q));
      };
}

new_even : (x : Side) → Even (total (purged_on x) []) (pick x new_query.halves) (pick x (ledger []).events)
new_even Left = refl
new_even Right = refl

accounts : (s : Setup) (cs : List Call) → Accounts s (left_by s cs) (ledger (record_of s cs))
accounts s cs =
    always s (Accounts s) (accounts_invariant s) (record { faithful = new_faithful s; even = new_even; closed_is = omega arith; bounds_are = refl; lines_are = refl }) cs

pub accounts_balance : AccountsBalance
accounts_balance s cs =
    let ts : List Exchange = record_of s cs in
    let c = accounts s cs in (
      λ x. subst (Even (total (purged_on x) (windows_in ts)) (pick x (left_by s cs).halves)) (side_events ts x) (c.even x),
      c.closed_is,
      c.bounds_are,
      c.lines_are,
    )
