-- What the answer of a call that makes a span tells.
use Rattle.std.proofs.Common.{◌≡◌, ℕ, Bool, true, false, cond, Ok, Err, refl, ap}
use Rattle.refusals.specs.declared.refusal.Refusal.{Refusal}
use Rattle.refusals.specs.declared.refusal.Refusal.TheVariants.{BadTime}
use Rattle.rows.specs.Spans.{Times, span_made}
use Rattle.rows.specs.Times.{lawful}

made_by : (b : Bool) (t u : Times) → Ok t ≡ cond b (Ok u) (Err BadTime) → (b ≡ true) × (t ≡ u)
made_by true t u e = (refl, cc)
made_by false t u e = (cc, cc)

pub span_good : (start end : ℕ) (t : Times) → Ok t ≡ span_made start end → (lawful start end ≡ true) × (t.start ≡ start) × (t.end ≡ end)
span_good start end t e =
    let told = made_by (lawful start end) t _ e in
    (told.0, ap (λ (u : Times). u.start) told.1, ap (λ (u : Times). u.end) told.1)

refused_by : (b : Bool) (why : Refusal) (u : Times) → Err why ≡ cond b (Ok u) (Err BadTime) → (b ≡ false) × (why ≡ BadTime)
refused_by true why u e = (cc, cc)
refused_by false why u e = (refl, cc)

pub span_bad : (start end : ℕ) (why : Refusal) → Err why ≡ span_made start end → (lawful start end ≡ false) × (why ≡ BadTime)
span_bad start end why e = refused_by (lawful start end) why _ e
