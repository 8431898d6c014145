-- What is written into a slice from a place on, and what is kept behind the written places.
use Rattle.std.proofs.Common.{◌≡◌, ℕ, ◌+◌, ◌-◌, ◌≤◌, List, [], ◌++◌, length, take, drop, sym, ap, ◌∙◌, subst, append-nil, arith, rules}
use borrow.Rule.Slice.PartMut.{put_mid}
use Rattle.std.proofs.lemmas.List.{drop-drop, drop_at, length-take-le}
use Rattle.std.proofs.lemmas.Slice.{overwrites}
use Rattle.receipts.specs.declared.line.Line.{Line}
use Rattle.receipts.specs.declared.window.Window.{Window}
use Rattle.run.specs.declared.closing.Written.{Written}
use Rattle.run.specs.Closings.{Later, Kept, Grows}

module _ {X : Type 0} (a : ℕ) (xs ys : List X) (within : a ≤ length xs) where
  rest_written : put_mid a (length xs - a) xs ys ≡ take a xs ++ ys
  rest_written =
      let none : drop (length xs - a) (drop a xs) ≡ [] = search (rules, overwrites) in
      ap (λ zs. take a xs ++ (ys ++ zs)) none ∙ ap (λ zs. take a xs ++ zs) (append-nil ys)

  front_size : length (take a xs) ≡ a
  front_size = length-take-le a xs within

  rest_is : drop a (put_mid a (length xs - a) xs ys) ≡ ys
  rest_is = ap (drop a) rest_written ∙ drop_at (take a xs) ys a front_size

  -- what is kept behind n places of the part is kept behind a + n places
  pub behind_kept : (n : ℕ) → drop n ys ≡ drop n (drop a xs) → drop (a + n) (put_mid a (length xs - a) xs ys) ≡ drop (a + n) xs
  behind_kept n same =
      sym (drop-drop n a (put_mid a (length xs - a) xs ys)) ∙ ap (drop n) rest_is ∙ same ∙ drop-drop n a xs

-- what is kept behind n places is kept behind m, where m is not below n
pub kept_further : {X : Type 0} (n m : ℕ) (xs ys : List X) → drop n ys ≡ drop n xs → n ≤ m → drop m ys ≡ drop m xs
kept_further n m xs ys same up =
    let split : n + (m - n) ≡ m = omega (arith, up) in
    subst (λ k. drop k ys ≡ drop k xs) split (sym (drop-drop (m - n) n ys) ∙ ap (drop (m - n)) same ∙ drop-drop (m - n) n xs)

-- what is kept behind n places, and then behind m, is kept behind m, where m is not below n
later_then : {X : Type 0} (n m : ℕ) (xs ys zs : List X) → n ≤ m → length ys ≡ length xs → Later n xs ys → Later m ys zs → Later m xs zs
later_then n m xs ys zs up long here there =
    let split : n + (m - n) ≡ m = omega (arith, up) in
    let further : drop (n + (m - n)) ys ≡ drop (n + (m - n)) xs = sym (drop-drop (m - n) n ys) ∙ ap (drop (m - n)) here.1 ∙ drop-drop (m - n) n xs in
    (omega (arith, there.0, long), there.1 ∙ subst (λ k. drop k ys ≡ drop k xs) split further)

-- so with both slices
pub kept_then : (v w : Written) (ls ls' ls'' : List Line) (ws ws' ws'' : List Window) → Grows v w → length ls' ≡ length ls → length ws' ≡ length ws →
    Kept v ls ls' ws ws' → Kept w ls' ls'' ws' ws'' → Kept w ls ls'' ws ws''
kept_then v w ls ls' ls'' ws ws' ws'' more lines windows here there = (
  later_then v.lines w.lines ls ls' ls'' more.0 lines here.0 there.0,
  later_then v.windows w.windows ws ws' ws'' more.1 windows here.1 there.1,
)
