use Rattle.std.proofs.Common.{◌≡◌, ℕ, ◌≤◌, Bool, true, false, cond, List, length, take, Ok, Err, Result, sym, refl, ap, ◌∙◌, subst, arith}
use Rattle.std.proofs.lemmas.List.{take_at}
use Rattle.std.proofs.lemmas.Bool.{leb-true}
use Rattle.refusals.specs.declared.refusal.Refusal.{Refusal}
use Rattle.refusals.specs.declared.refusal.Refusal.TheVariants.{BadTime}
use Rattle.groups.specs.Puts.{put_all}
use Rattle.groups.proofs.Putting.{put_all_is}
use Rattle.sources.specs.Listing.{listed_stream}
use Rattle.binary.specs.Writing.{all_timely, file_bytes}
use Rattle.binary.specs.Canonical.{Spells}
use Rattle.binary.proofs.Canonical.{file_spelt}
use Rattle.binary.proofs.writer.write.Goals as goal

lawful : (b : Bool) → ◌≡◌ {A = Result (Unit {0}) Refusal} (Ok tt) (cond b (Ok tt) (Err BadTime)) → b ≡ true
lawful true e = refl
lawful false e = absurd (let z : ◌≡◌ {A = ℕ} 0 1 = cc in omega arith)

-- the front of the slice has the bytes
front : (out bs : List ℕ) (n : ℕ) (after : List ℕ) → length bs ≤ length out → n ≡ length bs → after ≡ put_all out 0 bs → take n after ≡ bs
front out bs n after room p q = ap (take n) (q ∙ put_all_is out 0 bs (omega arith)) ∙ take_at bs _ n (sym p)

pub returns-clause-exact : goal.returns-clause-exact
returns-clause-exact g c =
    let pair = g.P.Payload.pair in
    let es = c.args.events.now in
    let t = lawful (all_timely pair es) c.in_ok-judge_all.ensures in
    let room = leb-true _ _ (sym c.if-not-fit.ensures) in
    let m = c.min.ensures in
    let bytes = front c.args.out.now (file_bytes pair es) c.put_events.result c.put_events.new.out (omega arith) c.put_events.ensures.place c.put_events.ensures.after in
    subst (Spells g.P.Payload.kind (listed_stream pair es 0)) (sym bytes)
    (file_spelt pair g.P.Payload.kind g.P.Payload.ranged es t c.put_events.ensures.small (omega arith))
