use Rattle.std.proofs.Common.{◌≡◌, ◌+◌, ℕ, Bool, true, false, List, [], ◌∷◌, length, rules, refl, ap, ◌∙◌, arith}
use Rattle.std.specs.List.{fold}
use Rattle.std.specs.Bool.{MatchBool}
use Rattle.std.proofs.lemmas.List.{length-append}
use Rattle.rows.specs.declared.event.Event.{Event}
use Rattle.rows.specs.Events.{plain_event}
use Rattle.rows.specs.Kinds.{Pair}
use Rattle.binary.specs.Writing.{event_bytes, file_bytes}
use Rattle.binary.proofs.writer.fit.Goals as goal

abbrev with_event : {P : Type 0} → (P → Pair) → ℕ → Event P → ℕ
with_event pair n e = n + length (event_bytes (plain_event pair e))

-- the lengths of the events come to that of the file
added : {P : Type 0} (pair : P → Pair) (n : ℕ) (es : List (Event P)) → fold (with_event pair) n es ≡ n + length (file_bytes pair es)
added pair n [] = omega arith
added pair n (e ∷ es) = added pair (with_event pair n e) es ∙ omega (arith, length-append (event_bytes (plain_event pair e)) (file_bytes pair es))

by_whole : {G X Y : Type 0} (b : Bool) → MatchBool b X Y → (b ≡ true → X → G) → (Y → G) → G
by_whole true m all some = all refl m
by_whole false m all some = some m

-- each event was added, or at the last of some the sum was past the room, or past all numbers
pub returns : goal.returns
returns g c =
    let pair = g.P.Payload.pair in
    let ran = c.try_fold.ensures.runs in
    let items = c.iter.ensures.runs ran.0 ran.0.seen in
    let sum = added pair 0 c.args.events.now in
    let here = ap (λ i. fold (with_event pair) 0 i.rest.now) ran.1 ∙ ap (fold (with_event pair) 0) c.iter.ensures.rest in
    by_whole ran.0.whole ran.2
    (λ w all.
    let total = all.2 (λ n e. with_event pair n e.now) (λ b e v t f call goes. search rules) in
    let same = items.5 (with_event pair) 0 w in
    search rules)
    (λ some.
    let total = some.3.9 (λ n e. with_event pair n e.now) (λ b e v t f call goes. search rules) in
    let most = items.7 (with_event pair) 0 (λ n e. omega arith) in
    search rules)
