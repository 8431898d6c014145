-- Histories with the same rows: what is exact for one is exact for the other, and up to a time they have the same rows.
use Rattle.std.proofs.Common.{◌≡◌, ℕ, ◌<◌, ◌↔◌, List, Some, sym, ap, ◌∙◌, subst}
use Rattle.refusals.specs.declared.fault.Side.{Side}
use Rattle.rows.specs.Kinds.{Kind}
use Rattle.rows.specs.Rows.{Plain}
use Rattle.receipts.specs.declared.line.Line.{Line}
use Rattle.receipts.specs.Histories.{up_to}
use Rattle.receipts.specs.Joins.{Joined, lines_before, Exactly}
use Rattle.receipts.specs.Lists.{In, SameMembers}
use Rattle.receipts.specs.Sides.{Both, pick}
use Rattle.receipts.proofs.Histories.{up_to_in, up_to_has}
use Rattle.receipts.proofs.Joins.{lines_before_in, lines_before_has, lines_before_once, joined_same}
use Rattle.receipts.proofs.Lists.{shuffled_same}
use Rattle.receipts.proofs.Rows.{Apart}
use Rattle.rewriting.proofs.Held.{held, Distinct, in_held, distinct_once}

pub same_back : {X : Type 0} (xs ys : List X) → SameMembers xs ys → SameMembers ys xs
same_back xs ys same x = ((same x).1, (same x).0)

pub same_then : {X : Type 0} (xs ys zs : List X) → SameMembers xs ys → SameMembers ys zs → SameMembers xs zs
same_then xs ys zs here there x = (λ h. (there x).0 ((here x).0 h), λ h. (here x).1 ((there x).1 h))

distinct_apart : (rows : List Plain) → Distinct rows → Apart rows
distinct_apart rows d x y t h k e _ _ =
    let one : Some x ≡ Some y = sym (in_held rows x d h) ∙ ap (held rows) e ∙ in_held rows y d k in
    cc

module _ (ks : Both Kind) (t : ℕ) (hs gs : Both (List Plain)) (xs : List Line) where
  pub exactly_same : ((x : Side) → SameMembers (pick x hs) (pick x gs)) → ((x : Side) → Distinct (pick x gs)) → Exactly ks t hs xs → Exactly ks t gs xs
  exactly_same same distinct exact =
      let there : (x : Line) → In x xs ↔ (Joined ks gs x × (x.end < t)) = λ x. (
        λ h. let w = (exact.2 x).0 h in (joined_same ks hs gs x same w.0, w.1),
        λ w. (exact.2 x).1 (joined_same ks gs hs x (λ y. same_back (pick y hs) (pick y gs) (same y)) w.0, w.1),
      ) in
      let once = lines_before_once ks t gs (λ x. distinct_once (pick x gs) (distinct x)) (λ x. distinct_apart (pick x gs) (distinct x)) in (
        shuffled_same xs (lines_before ks t gs) exact.1 once
            (λ x. (λ h. let w = (there x).0 h in lines_before_has ks t gs x w.0 w.1, λ h. (there x).1 (lines_before_in ks t gs x h))),
        exact.1,
        there,
      )

up_to_into : (t : ℕ) (xs ys : List Plain) → ((y : Plain) → In y xs → In y ys) → (x : Plain) → In x (up_to t xs) → In x (up_to t ys)
up_to_into t xs ys into x h =
    let w = up_to_in t xs x h in
    subst (λ v. In v (up_to t ys)) (sym w.3) (up_to_has t ys w.0 (into w.0 w.1) w.2)

pub up_to_same : (t : ℕ) (xs ys : List Plain) → SameMembers xs ys → SameMembers (up_to t xs) (up_to t ys)
up_to_same t xs ys same x = (up_to_into t xs ys (λ y. (same y).0) x, up_to_into t ys xs (λ y. (same y).1) x)
