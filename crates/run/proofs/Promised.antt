-- The receipt promise holds of every query, and of every run of one.
use Rattle.std.proofs.Common.{◌≡◌, ℕ, ◌<◌, true, leb, List, sym, refl, ◌∙◌, subst, Ok}
use Rattle.std.proofs.lemmas.Bool.{leb-true, and_parts}
use Rattle.refusals.specs.declared.fault.Side.{Side}
use Rattle.refusals.specs.declared.fault.Side.TheVariants.{Left, Right}
use Rattle.rows.specs.Kinds.{Kind}
use Rattle.rows.specs.Rows.{Plain, standing, in_kind}
use Rattle.receipts.specs.Laws.{record_of}
use Rattle.receipts.specs.Lists.{In}
use Rattle.receipts.specs.Queries.{Setup, Call}
use Rattle.receipts.specs.Sides.{Both, pick}
use Rattle.receipts.specs.Transcripts.{histories}
use Rattle.receipts.proofs.Accounts.{accounts_balance}
use Rattle.receipts.proofs.Queries.{rows_sound}
use Rattle.receipts.proofs.Receipts.{counts_true, receipts_determined}
use Rattle.rewriting.specs.Rules.{Rule, AllKeep}
use Rattle.rewriting.specs.Streams.{Stream}
use Rattle.joining.specs.Guards.{both}
use Rattle.joining.proofs.Guards.{exactly_guarded}
use Rattle.query.specs.Queries.{setting}
use Rattle.query.proofs.Exact.{exact_at_kinds}
use Rattle.run_laws.specs.Laws.{events_of, Made, piled, rewritten_histories, Lawful}
use Rattle.run_laws.specs.Runs.{Places, Report, run}
use Rattle.run_laws.proofs.RunsAccounted.{runs_accounted}
use Rattle.run_laws.proofs.RunsExact.{runs_exact, runs_counted}
use Rattle.run_laws.proofs.RunsMade.{runs_made}
use Rattle.run_laws.proofs.Whole.{histories_same}
use Rattle.run.specs.Promise.{Balanced, Receipts, RunKept, Promise}
use Rattle.run.specs.Reports.{lawful_width}
use Rattle.run.specs.Turns.{shallows}

some_width : (width : ℕ) → lawful_width width ≡ true → 0 < width
some_width width lawful = leb-true 1 width (and_parts (leb 1 width) (leb width 604800) lawful).0

module _ (k m : Kind) (c d width : ℕ) where
  abbrev s : Setup
  s = setting k m c d width

  -- a guard leaves a kind's range as it is
  row_sound : (cs : List Call) (x : Side) (r : Plain) → In r (pick x (histories (record_of s cs))) → (standing r ≡ true) × (in_kind (pick x (both k m)) r ≡ true)
  row_sound cs Left r h = rows_sound s cs Left r h
  row_sound cs Right r h = rows_sound s cs Right r h

  balanced : (cs : List Call) → Balanced s cs
  balanced cs = let all = accounts_balance s cs in record { rows = all.0; closed = all.1; windows = all.2; lines = all.3 }

  pub receipts_kept : 0 < width → Receipts k m c d width
  receipts_kept some = record {
    exact = λ cs. exact_at_kinds k m c d width cs some;
    determined = λ e f cs ds. receipts_determined s (setting k m e f width) cs ds some refl refl;
    counted = λ cs. counts_true s cs some;
    balanced = balanced;
    sound = row_sound;
  }

  -- a report says nothing of the depths of the streams that it is made of
  made_deep : (srcs : Both Stream) (a : Report) → Made s (shallows srcs) a → Made s srcs a
  made_deep srcs a v = record {
    calls = v.calls;
    lines = v.lines;
    windows = v.windows;
    closed = v.closed;
    held = v.held;
    left = v.left;
    fronts = λ x. v.fronts x ∙ same_events x;
    whole = λ ends. (λ x. (((v.whole ends).0 x).0, sym (same_ending x) ∙ ((v.whole ends).0 x).1), (v.whole ends).1);
  }
    where
      same_events : (x : Side) → events_of x (shallows srcs) ≡ events_of x srcs
      same_events Left = refl
      same_events Right = refl

      same_ending : (x : Side) → (pick x (shallows srcs)).ending ≡ (pick x srcs).ending
      same_ending Left = refl
      same_ending Right = refl

  module _ (some : 0 < width) (fs : Both (List Rule)) (feet : Both Stream) (a : Report) (lawful : Lawful fs feet) (v : Made s (piled fs feet) a) (ends : a.ending ≡ Ok tt) where
    -- the rows of the rewritten histories are those of the accepted events
    rewritten_in_kind : (x : Side) (r : Plain) → In r (pick x (rewritten_histories fs feet)) → in_kind (pick x (both k m)) r ≡ true
    rewritten_in_kind x r h = (row_sound v.calls x r ((histories_same fs feet s a lawful v ends x r).1 h)).1

    pub run_kept : RunKept k m s fs feet a
    run_kept = record {
      exact = exactly_guarded k m (rewritten_histories fs feet) (rewritten_in_kind Left) (rewritten_in_kind Right) a.closed a.lines
          (runs_exact s fs feet a some lawful v ends);
      counted = runs_counted s fs feet a some lawful v ends;
      accounted = runs_accounted s (piled fs feet) a v ends;
      made = v;
    }

  pub promise : (p : Places) (fs : Both (List Rule)) (feet srcs : Both Stream) (a : Report) → lawful_width width ≡ true →
      ((x : Side) → AllKeep (pick x fs)) → srcs ≡ piled fs feet → a ≡ run s p (shallows srcs) → Promise k m c d width fs feet a
  promise p fs feet srcs a lawful keep piles is =
      let some : 0 < width = some_width width lawful in
      let v : Made s (piled fs feet) a =
      subst (λ streams. Made s streams a) piles (made_deep srcs a (subst (λ z. Made s (shallows srcs) z) (sym is) (runs_made s p (shallows srcs) some))) in
      record {
        receipts = receipts_kept some;
        run = λ legal ends. run_kept some fs feet a (λ x. (legal x, keep x)) v ends;
      }
