-- What is left to write, by its first number or event. Assumes nothing.
use Rattle.std.proofs.Common.{◌≡◌, ℕ, ◌+◌, ◌<◌, ◌&&◌, List, [], ◌∷◌, ◌++◌, length, get_or, take, drop, sym, ap, ◌∙◌, subst}
use Rattle.std.proofs.lemmas.List.{at_drop_more, take_more, length-append}
use Rattle.groups.specs.Groups.{groups_of}
use Rattle.groups.specs.Puts.{put_all}
use Rattle.groups.proofs.Putting.{put_all_append}
use Rattle.rows.specs.declared.event.Event.{Event}
use Rattle.rows.specs.Events.{plain_event, timely}
use Rattle.rows.specs.Kinds.{Pair}
use Rattle.binary.specs.Writing.{numbers_of, Small, all_groups, event_bytes, file_bytes, all_timely, AllSmall}

module _ (ns : List ℕ) (i : ℕ) where
  numbers_left : i < length ns → all_groups (drop i ns) ≡ groups_of (get_or ns i 0) ++ all_groups (drop (i + 1) ns)
  numbers_left h = at_drop_more all_groups ns i 0 h

  pub numbers_len : i < length ns → length (all_groups (drop i ns)) ≡ length (groups_of (get_or ns i 0)) + length (all_groups (drop (i + 1) ns))
  numbers_len h = ap length (numbers_left h) ∙ length-append (groups_of (get_or ns i 0)) (all_groups (drop (i + 1) ns))

  pub put_numbers_more : (out : List ℕ) (place : ℕ) → i < length ns →
      put_all (put_all out place (groups_of (get_or ns i 0))) (place + length (groups_of (get_or ns i 0))) (all_groups (drop (i + 1) ns)) ≡ put_all out place (all_groups (drop i ns))
  put_numbers_more out place h =
      sym (ap (put_all out place) (numbers_left h) ∙ put_all_append out place (groups_of (get_or ns i 0)) (all_groups (drop (i + 1) ns)))

-- the first event that is left is e
module _ {P : Type 0} (pair : P → Pair) (es : List (Event P)) (i : ℕ) where
  module _ (e : Event P) (h : i < length es) (here : e ≡ get_or es i e) where
    events_left : file_bytes pair (drop i es) ≡ event_bytes (plain_event pair e) ++ file_bytes pair (drop (i + 1) es)
    events_left = at_drop_more (file_bytes pair) es i e h ∙ ap (λ x. event_bytes (plain_event pair x) ++ file_bytes pair (drop (i + 1) es)) (sym here)

    pub events_len : length (file_bytes pair (drop i es)) ≡ length (event_bytes (plain_event pair e)) + length (file_bytes pair (drop (i + 1) es))
    events_len = ap length events_left ∙ length-append (event_bytes (plain_event pair e)) (file_bytes pair (drop (i + 1) es))

    pub put_events_more : (out : List ℕ) (place : ℕ) →
        put_all (put_all out place (event_bytes (plain_event pair e))) (place + length (event_bytes (plain_event pair e))) (file_bytes pair (drop (i + 1) es))
        ≡ put_all out place (file_bytes pair (drop i es))
    put_events_more out place =
        sym (ap (put_all out place) events_left ∙ put_all_append out place (event_bytes (plain_event pair e)) (file_bytes pair (drop (i + 1) es)))

    pub timely_left : all_timely pair (drop i es) ≡ (timely (plain_event pair e) && all_timely pair (drop (i + 1) es))
    timely_left = at_drop_more (all_timely pair) es i e h ∙ ap (λ x. timely (plain_event pair x) && all_timely pair (drop (i + 1) es)) (sym here)

    pub small_more : AllSmall pair (take i es) → Small (numbers_of (plain_event pair e)) → AllSmall pair (take (i + 1) es)
    small_more a s =
        subst (AllSmall pair) (sym (take_more es i e h)) (joined (take i es) (get_or es i e) a (subst (λ x. Small (numbers_of (plain_event pair x))) here s))
      where
        joined : (xs : List (Event P)) (x : Event P) → AllSmall pair xs → Small (numbers_of (plain_event pair x)) → AllSmall pair (xs ++ x ∷ [])
        joined [] x a s = (s, tt)
        joined (y ∷ ys) x a s = (a.0, joined ys x a.1 s)
