-- What one more call adds to the record of calls on a new query.
use Rattle.std.proofs.Common.{◌≡◌, List, [], ◌∷◌, ◌++◌, refl, ap}
use Rattle.receipts.specs.Laws.{record_of, left_by}
use Rattle.receipts.specs.Queries.{Setup, QueryState, new_query, Call, called}
use Rattle.receipts.specs.Transcripts.{transcript, after}

module _ (s : Setup) where
  after_more : (q : QueryState) (cs : List Call) (c : Call) → after s q (cs ++ (c ∷ [])) ≡ (called s (after s q cs) c).after
  after_more q [] c = refl
  after_more q (d ∷ cs) c = after_more (called s q d).after cs c

  transcript_more : (q : QueryState) (cs : List Call) (c : Call) →
      transcript s q (cs ++ (c ∷ [])) ≡ transcript s q cs ++ ((c, (called s (after s q cs) c).answer) ∷ [])
  transcript_more q [] c = refl
  transcript_more q (d ∷ cs) c = ap (λ ts. (d, (called s q d).answer) ∷ ts) (transcript_more (called s q d).after cs c)

  pub left_by_more : (cs : List Call) (c : Call) → left_by s (cs ++ (c ∷ [])) ≡ (called s (left_by s cs) c).after
  left_by_more cs c = after_more new_query cs c

  pub record_more : (cs : List Call) (c : Call) → record_of s (cs ++ (c ∷ [])) ≡ record_of s cs ++ ((c, (called s (left_by s cs) c).answer) ∷ [])
  record_more cs c = transcript_more new_query cs c
