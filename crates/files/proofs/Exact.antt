-- An event has one way to stand as fields: those of the event are judged to be it, and no others are. Assumes nothing.
use Rattle.std.proofs.Common.{◌≡◌, ℕ, Bool, true, false, cond, eqb, Ok, Err, sym, refl, ap, ◌∙◌, inl, inr, arith}
use Rattle.std.proofs.lemmas.Bool.{cases_Bool, cond-true, cond-false, and_parts, and_from, or_cases, leb-true, eqb-true, ne_eqb, both_ways}
use Rattle.refusals.specs.declared.refusal.Refusal.TheVariants.{BadPayload, BadTime}
use Rattle.rows.specs.Events.{PlainEvent, insert, retraction, cti, timely}
use Rattle.rows.specs.Kinds.{Kind}
use Rattle.rows.specs.Rows.{Plain}
use Rattle.rows.specs.Times.{forever, finite, lawful_end}
use Rattle.files.specs.declared.fields.EndField.{EndField}
use Rattle.files.specs.declared.fields.EndField.TheVariants.{At, Forever}
use Rattle.files.specs.declared.fields.RowFields.{RowFields}
use Rattle.files.specs.declared.fields.Fields.{Fields}
use Rattle.files.specs.declared.fields.Fields.TheVariants.{Insert, Retraction, Cti}
use Rattle.files.specs.Judging.{time_of, means_time, row_in, event_in, payload_fits, ends_mean, times_fit, judged, field_of, row_fields, fields_of}

pub time_field : (t : ℕ) → time_of (field_of t) ≡ t
time_field t =
    elim (cases_Bool (eqb t forever)) [
      | inl e ↦ ap time_of (cond-true (eqb t forever) Forever (At t) e) ∙ sym (eqb-true t forever e)
      | inr e ↦ ap time_of (cond-false (eqb t forever) Forever (At t) e)
    ]

means_field : (t : ℕ) → lawful_end t ≡ true → means_time (field_of t) ≡ true
means_field t h =
    elim (cases_Bool (eqb t forever)) [
      | inl e ↦ ap means_time (cond-true (eqb t forever) Forever (At t) e)
      | inr e ↦
          ap means_time (cond-false (eqb t forever) Forever (At t) e)
          ∙ elim (or_cases (finite t) (eqb t forever) h) [ inl f ↦ f | inr f ↦ absurd (both_ways (eqb t forever) e f) ]
    ]

row_back : (r : Plain) → row_in (row_fields r) ≡ r
row_back r = ap (λ t. record { id = r.id; start = r.start; end = t; key = r.key; value = r.value }) (time_field r.end)

pub event_back : (e : PlainEvent) → event_in (fields_of e) ≡ e
event_back (insert r) = ap insert (row_back r)
event_back (retraction r t) = ap (λ x. retraction x (time_of (field_of t))) (row_back r) ∙ ap (retraction r) (time_field t)
event_back (cti t) = refl

ends_back : (e : PlainEvent) → timely e ≡ true → ends_mean (fields_of e) ≡ true
ends_back (insert r) h = means_field r.end (and_parts _ _ (and_parts _ _ h).1).0
ends_back (retraction r t) h =
    let p = and_parts _ _ h in
    and_from _ _ (means_field r.end (and_parts _ _ (and_parts _ _ p.0).1).0) (means_field t (and_parts _ _ p.1).0)
ends_back (cti t) h = refl

pub fields_judged : (k : Kind) (e : PlainEvent) → payload_fits k (fields_of e) ≡ true → timely e ≡ true → judged k (fields_of e) ≡ Ok e
fields_judged k e fits lawful =
    let times : times_fit (fields_of e) ≡ true = and_from (ends_mean (fields_of e)) _ (ends_back e lawful) (ap timely (event_back e) ∙ lawful) in
    cond-true (payload_fits k (fields_of e)) _ _ fits ∙ cond-true (times_fit (fields_of e)) _ _ times ∙ ap (λ (x : PlainEvent). Ok x) (event_back e)

passed : (p q : Bool) (x e : PlainEvent) → cond p (cond q (Ok x) (Err BadTime)) (Err BadPayload) ≡ Ok e → (p ≡ true) × (q ≡ true) × (x ≡ e)
passed true true x e h = (refl, refl, cc)
passed true false x e h = absurd (let z : ◌≡◌ {A = ℕ} 0 1 = cc in omega arith)
passed false q x e h = absurd (let z : ◌≡◌ {A = ℕ} 0 1 = cc in omega arith)

field_back : (x : EndField) → means_time x ≡ true → field_of (time_of x) ≡ x
field_back (At t) h = cond-false (eqb t forever) Forever (At t) (ne_eqb t forever (λ e. let f = leb-true t 4000000000 h in omega arith))
field_back Forever h = refl

fields_row : (r : RowFields) → means_time r.end ≡ true → row_fields (row_in r) ≡ r
fields_row r h = ap (λ x. record { id = r.id; start = r.start; end = x; key = r.key; value = r.value }) (field_back r.end h)

fields_back : (f : Fields) → ends_mean f ≡ true → fields_of (event_in f) ≡ f
fields_back (Insert r) h = ap Insert (fields_row r h)
fields_back (Retraction r x) h =
    let p = and_parts _ _ h in
    ap (λ y. Retraction y (field_of (time_of x))) (fields_row r p.0) ∙ ap (Retraction r) (field_back x p.1)
fields_back (Cti t) h = refl

pub judged_fields : (k : Kind) (f : Fields) (e : PlainEvent) → judged k f ≡ Ok e → (f ≡ fields_of e) × (timely e ≡ true) × (payload_fits k f ≡ true)
judged_fields k f e h =
    let p = passed (payload_fits k f) (times_fit f) (event_in f) e h in
    let q = and_parts (ends_mean f) (timely (event_in f)) p.1 in
    (sym (fields_back f q.0) ∙ ap fields_of p.2, sym (ap timely p.2) ∙ q.1, p.0)
