-- One event of a legal list, and what a layer makes of it: it is permitted above, and the history above is still the image of
-- the one below.
use Rattle.std.proofs.Common.{◌≡◌, ℕ, ◌≤◌, true, ap, ◌∙◌, arith}
use Rattle.std.proofs.lemmas.Bool.Decides.{nat_tests}
use Rattle.rows.specs.Rows.{Plain}
use Rattle.rows.specs.Events.{PlainEvent, insert, retraction, cti, sync, timely}
use Rattle.receipts.specs.Histories.{cti_after}
use Rattle.rewriting.specs.Rules.{Image, Rule, Keeps}
use Rattle.rewriting.specs.Layers.{Rewritten, vanishes, is_now, refused, of_retraction, new_image, remade, image_row}
use Rattle.rewriting.proofs.Agree.{Latest, Agree, images_agree}
use Rattle.rewriting.proofs.Events.{ById, remains, put_event, Fits}
use Rattle.rewriting.proofs.Images.{image_of}

-- a legal list with the latest CTI d and the history up may go on with it
abbrev pub Allowed : ℕ → ById → Rewritten → Type 0
Allowed d up vanishes = Unit {0}
Allowed d up (is_now u) = (timely u ≡ true) × (d ≤ sync u) × Fits up u
Allowed d up (refused w) = Unit {0}

-- where e becomes it, the row above under the id j is the image of the one below
abbrev pub ImagedAt : Rule → ById → ById → PlainEvent → Rewritten → ℕ → Type 0
ImagedAt f h up e vanishes j = up j ≡ image_of f (put_event e h j)
ImagedAt f h up e (is_now u) j = put_event u up j ≡ image_of f (put_event e h j)
ImagedAt f h up e (refused w) j = Unit {0}

abbrev pub LatestNow : Rule → ℕ → ℕ → Rewritten → Type 0
LatestNow f c d vanishes = Latest f c d
LatestNow f c d (is_now u) = Latest f c (cti_after d u)
LatestNow f c d (refused w) = Unit {0}

-- the event e below becomes w: h and up are the histories below and above before it, c and d the latest CTIs
pub record Step (f : Rule) (c d : ℕ) (h up : ById) (e : PlainEvent) (w : Rewritten) : Type 0 where
  pub allowed : Allowed d up w
  pub imaged : (j : ℕ) → ImagedAt f h up e w j
  pub latest : LatestNow f (cti_after c e) d w

agreed_allowed : (d : ℕ) (up : ById) (r : Plain) (x y : Image) → Agree d r x y → up r.id ≡ image_row r x → Allowed d up (of_retraction r x y)
agreed_allowed d up r x y agree was = grind (arith, nat_tests)

agreed_imaged : (f : Rule) (h up : ById) (d : ℕ) (r : Plain) (e : ℕ) (x y : Image) → Agree d r x y →
    up r.id ≡ image_row r x → image_of f (remains r e) ≡ image_row r y →
    (j : ℕ) → up j ≡ image_of f (h j) → ImagedAt f h up (retraction r e) (of_retraction r x y) j
agreed_imaged f h up d r e x y agree was new j same = grind (arith, nat_tests)

retraction_latest : (f : Rule) (c d : ℕ) (r : Plain) (x y : Image) → Latest f c d → LatestNow f c d (of_retraction r x y)
retraction_latest f c d r x y latest = grind (arith, nat_tests)

remains_image : (f : Rule) (r : Plain) (e : ℕ) → image_of f (remains r e) ≡ image_row r (new_image f r e)
remains_image f r e = grind (arith, nat_tests)

module _ (f : Rule) (laws : Keeps f) (c d : ℕ) (h up : ById) (latest : Latest f c d) (imaged : (j : ℕ) → up j ≡ image_of f (h j)) where
  pub step : (e : PlainEvent) → timely e ≡ true → c ≤ sync e → Fits h e → Step f c d h up e (remade f e)
  step (insert r) lawful late fits =
      let above : up r.id ≡ image_of f (h r.id) = imaged r.id in
      let rows = laws.rows r in
      let later = laws.later r c d in
      record {
        allowed = grind (arith, nat_tests);
        imaged = λ j. let same = imaged j in grind (arith, nat_tests);
        latest = grind (arith, nat_tests);
      }
  step (retraction r e) lawful late fits =
      let agree : Agree d r (f.image r) (new_image f r e) = images_agree f laws c d latest r e lawful late in
      let was : up r.id ≡ image_row r (f.image r) = imaged r.id ∙ ap (image_of f) fits in
      record {
        allowed = agreed_allowed d up r (f.image r) (new_image f r e) agree was;
        imaged = λ j. agreed_imaged f h up d r e (f.image r) (new_image f r e) agree was (remains_image f r e) j (imaged j);
        latest = retraction_latest f c d r (f.image r) (new_image f r e) latest;
      }
  step (cti t) lawful late fits =
      let times = laws.times t in
      let rises = laws.rises c t d in
      record {
        allowed = grind (arith, nat_tests);
        imaged = λ j. let same = imaged j in grind (arith, nat_tests);
        latest = grind (arith, nat_tests);
      }
