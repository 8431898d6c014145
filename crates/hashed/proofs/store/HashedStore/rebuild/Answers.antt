use Rattle.std.proofs.Common.{◌≡◌, ◌<◌, length, Some, sym, ap, ◌∙◌, arith}
use Rattle.std.proofs.lemmas.List.{take_all}
use Rattle.rows.specs.Rows.{plain}
use Rattle.receipts.specs.Stores.{nth_row, kept}
use Rattle.stores.specs.Told.{seen}
use Rattle.hashed.specs.declared.store.HashedStore.{HashedStore}
use Rattle.hashed.specs.Laws.{length_held, within_held}
use Rattle.hashed.specs.Model.{held}
use Rattle.hashed.proofs.Purges.{gone_more, kept_place, added_ok, kept_added}
use Rattle.hashed.proofs.State.{nth_told, there_told}
use Rattle.hashed.proofs.store.HashedStore.rebuild.Goals as goal
use Rattle.hashed.proofs.store.HashedStore.rebuild.Goals.{then-end-below, else-end-below}

pub unwrap-row-requires : goal.unwrap-row-requires
unwrap-row-requires c = there_told c.args.self.now _ c.as_slice-entry-items.ensures c.loop-entry.entry-index _ c.loop-entry-test.true _ c.row_in.ensures

pub insert-requires : goal.insert-requires
insert-requires c =
    let s = c.args.self.now in
    let i = c.loop-entry.entry-index in
    let is = c.as_slice-entry-items.ensures in
    let read : Some (plain c.unwrap-row.result) ≡ nth_row i (held s) = sym (ap seen c.unwrap-row.ensures) ∙ c.row_in.ensures ∙ sym (nth_told s _ is i _ c.loop-entry-test.true) in
    c.len-last.ensures ∙ c.loop-entry.fresh.counted ∙ sym (length_held c.loop-entry.fresh)
    ∙ kept_place c.args.below i (held s) (plain c.unwrap-row.result) (omega (arith, length_held s, s.counted, ap length is, c.loop-entry-test.true)) read
    s.rising (omega (arith, c.end.ensures, c.if-end-below.true)) (held c.loop-entry.fresh) c.loop-entry.invariant.0

pub unwrap-requires : goal.unwrap-requires
unwrap-requires c =
    let s = c.args.self.now in
    let i = c.loop-entry.entry-index in
    let is = c.as_slice-entry-items.ensures in
    let within : i < length (held s) = omega (arith, length_held s, s.counted, ap length is, c.loop-entry-test.true) in
    let read : Some (plain c.unwrap-row.result) ≡ nth_row i (held s) = sym (ap seen c.unwrap-row.ensures) ∙ c.row_in.ensures ∙ sym (nth_told s _ is i _ c.loop-entry-test.true) in
    added_ok c.args.below i (held s) (plain c.unwrap-row.result) within read s.rising (omega (arith, c.end.ensures, c.if-end-below.true))
    (held c.loop-entry.fresh) c.loop-entry.invariant.0 (within_held s) _ _ c.insert.ensures.told

pub loop-entry-preserved : goal.loop-entry-preserved
loop-entry-preserved c =
    let s = c.args.self.now in
    let i = c.loop-entry.entry-index in
    let is = c.as_slice-entry-items.ensures in
    let within : i < length (held s) = omega (arith, length_held s, s.counted, ap length is, c.loop-entry-test.true) in
    let read : Some (plain c.unwrap-row.result) ≡ nth_row i (held s) = sym (ap seen c.unwrap-row.ensures) ∙ c.row_in.ensures ∙ sym (nth_told s _ is i _ c.loop-entry-test.true) in
    elim c.if-end-below.branch [
      | then-end-below w ↦ (
        ap held w.fresh-is
            ∙ kept_added c.args.below i (held s) (plain c.unwrap-row.result) within read s.rising (omega (arith, c.end.ensures, w.if-end-below.true))
            (held c.loop-entry.fresh) c.loop-entry.invariant.0 (within_held s) _ _ w.insert.ensures.told,
        ap (λ (z : HashedStore). z.removals) w.fresh-is ∙ w.insert.ensures.removals ∙ c.loop-entry.invariant.1,
      )
      | else-end-below w ↦ (
        ap held w.fresh-is ∙ c.loop-entry.invariant.0
            ∙ sym (gone_more c.args.below i (held s) (plain c.unwrap-row.result) within read (omega (arith, c.end.ensures, w.if-end-below.false))),
        ap (λ (z : HashedStore). z.removals) w.fresh-is ∙ c.loop-entry.invariant.1,
      )
    ]

pub returns : goal.returns
returns c =
    let s = c.args.self.now in
    record {
      rows = c.loop-entry.invariant.0
          ∙ ap (kept c.args.below) (take_all c.loop-entry.entry-index (held s) (omega (arith, length_held s, s.counted, ap length c.as_slice-entry-items.ensures, c.loop-entry-test.false)));
      removals = c.loop-entry.invariant.1;
    }
