-- Layers and piles: numbered lists rewritten by row rules.
--     Rewritten                   what becomes of an event: it vanishes, it is another event, or it is refused
--     rewritten f e               what the rule f makes of the event e
--     layer f src                 the stream of a layer by the rule f over the stream src
--     pile fs src                 the stream of layers by the rules fs, lowest first
--     row_image f x               the image of the row x by the rule f, if it has one
--     images f rows               the images of rows, those without one left out
--     rewritten_history fs src    the history of the stream src, its rows put through the rules fs, lowest first
use Rattle.std.specs.Prelude.{ℕ, cond, ◌&&◌, List, [], ◌∷◌, ◌==◌, Option, Some, None, Ok, Err, Result}
use Rattle.std.specs.List.{filter_map}
use Rattle.refusals.specs.declared.refusal.Refusal.{Refusal}
use Rattle.refusals.specs.declared.refusal.Refusal.TheVariants.{BadTime}
use Rattle.refusals.specs.Faults.{event_fault, Ending}
use Rattle.rows.specs.Rows.{Plain, with_end}
use Rattle.rows.specs.Events.{PlainEvent, insert, retraction, cti, timely}
use Rattle.rows.specs.Times.{whole}
use Rattle.receipts.specs.Histories.{Entry, events, history}
use Rattle.rewriting.specs.Rules.{Image, refuses, nothing, to, Rule, spanned}
use Rattle.rewriting.specs.Streams.{Stream, deeper}

pub data Rewritten : Type 0 where
  vanishes : Rewritten
  is_now : PlainEvent → Rewritten
  refused : Refusal → Rewritten

-- an insert becomes the image's insert, or vanishes
abbrev pub of_insert : Plain → Image → Rewritten
of_insert r (refuses w) = refused w
of_insert r nothing = vanishes
of_insert r (to a b) = is_now (insert (spanned r a b))

-- A retraction, by the images of the old and the new row: equal or both absent, it vanishes; new only, it is an insert; old
-- only, it takes the image away whole; else it moves the end.
abbrev pub of_retraction : Plain → Image → Image → Rewritten
of_retraction r (refuses w) y = refused w
of_retraction r nothing (refuses w) = refused w
of_retraction r nothing nothing = vanishes
of_retraction r nothing (to c d) = is_now (insert (spanned r c d))
of_retraction r (to a b) (refuses w) = refused w
of_retraction r (to a b) nothing = is_now (retraction (spanned r a b) a)
of_retraction r (to a b) (to c d) = cond (a == c && b == d) vanishes (is_now (retraction (spanned r a b) d))

abbrev pub of_cti : Result ℕ Refusal → Rewritten
of_cti (Err w) = refused w
of_cti (Ok t) = is_now (cti t)

-- the image of the new row: none where it is taken away
abbrev pub new_image : Rule → Plain → ℕ → Image
new_image f r e = cond (whole r.start e) nothing (f.image (with_end e r))

abbrev pub remade : Rule → PlainEvent → Rewritten
remade f (insert r) = of_insert r (f.image r)
remade f (retraction r e) = of_retraction r (f.image r) (new_image f r e)
remade f (cti t) = of_cti (f.advance t)

-- an event whose times are not lawful has no images: BadTime
abbrev pub rewritten : Rule → PlainEvent → Rewritten
rewritten f e = cond (timely e) (remade f e) (refused BadTime)

-- an event that is left keeps its number; the first refused event ends the list
abbrev pub entries_from : Rewritten → ℕ → List Entry → List Entry
entries_from vanishes n es = es
entries_from (is_now e) n es = (n, e) ∷ es
entries_from (refused w) n es = []

abbrev pub layered : Rule → List Entry → List Entry
layered f [] = []
layered f (x ∷ xs) = entries_from (rewritten f x.1) x.0 (layered f xs)

-- a refused event is told at the layer's depth, under its number
abbrev pub ending_from : Rewritten → ℕ → ℕ → Ending → Ending
ending_from vanishes depth n w = w
ending_from (is_now e) depth n w = w
ending_from (refused why) depth n w = Err (event_fault why depth n)

abbrev pub layered_ending : Rule → ℕ → List Entry → Ending → Ending
layered_ending f depth [] w = w
layered_ending f depth (x ∷ xs) w = ending_from (rewritten f x.1) depth x.0 (layered_ending f depth xs w)

abbrev pub layer : Rule → Stream → Stream
layer f src = record {
  entries = layered f src.entries;
  ending = layered_ending f (deeper src.depth) src.entries src.ending;
  depth = deeper src.depth;
}

abbrev pub pile : List Rule → Stream → Stream
pile [] src = src
pile (f ∷ fs) src = pile fs (layer f src)

abbrev pub image_row : Plain → Image → Option Plain
image_row x (refuses w) = None
image_row x nothing = None
image_row x (to a b) = Some (spanned x a b)

abbrev pub row_image : Rule → Plain → Option Plain
row_image f x = image_row x (f.image x)

abbrev pub images : Rule → List Plain → List Plain
images f rows = filter_map (row_image f) rows

abbrev pub through : List Rule → List Plain → List Plain
through [] rows = rows
through (f ∷ fs) rows = through fs (images f rows)

abbrev pub rewritten_history : List Rule → Stream → List Plain
rewritten_history fs src = through fs (history (events src.entries))
