-- Spans of lists of which each element has a property, and spans within one another.
use Rattle.std.proofs.Common.{List, [], ◌∷◌, ◌++◌}
use Rattle.std.specs.List.{AllByRecursion as Each}
use Rattle.alg_core.specs.Rings.{Ring, Module}
use Rattle.alg_core.specs.Spans.{InSpan, SameSpan}
use Rattle.alg_core.proofs.SpanLaws as spans
use Rattle.alg_core.proofs.SpanLaws.{span_head, span_tail}
use Rattle.lin_algebra.proofs.EachLaws.{Each_at, Each_from, Each_weaker, Each_append, Each_append_left, Each_append_right}

module _ {K : Type 0} {R : Ring K} {A : Type 0} (X : Module R A) where
  -- what sums and multiples keep, and what each element has, each combination has
  pub span_ind : (P : A → Type 0) → P X.zero → ((u v : A) → P u → P v → P (X.◌+◌ u v)) → ((a : K) (u : A) → P u → P (X.◌·◌ a u))
      → (ws : List A) → Each P ws → (v : A) → InSpan X ws v → P v
  span_ind P none add act ws each = spans.span_ind X P none add act ws (Each_at P ws each)

  -- each element is in the span
  pub span_member : (ws : List A) → Each (InSpan X ws) ws
  span_member ws = Each_from (InSpan X ws) ws (spans.span_member X ws)

  -- where each element of vs is in the span of ws, so is all of the span of vs
  pub span_within : (vs ws : List A) → Each (InSpan X ws) vs → (v : A) → InSpan X vs v → InSpan X ws v
  span_within vs ws each = spans.span_within X vs ws (Each_at (InSpan X ws) vs each)

  pub SameSpan_from : (vs ws : List A) → Each (InSpan X ws) vs → Each (InSpan X vs) ws → SameSpan X vs ws
  SameSpan_from vs ws there back v = (span_within vs ws there v, span_within ws vs back v)

  pub span_append_left : (vs ws : List A) (v : A) → InSpan X vs v → InSpan X (vs ++ ws) v
  span_append_left vs ws v h = span_within vs (vs ++ ws) (Each_append_left (InSpan X (vs ++ ws)) vs ws (span_member (vs ++ ws))) v h

  pub span_append_right : (vs ws : List A) (v : A) → InSpan X ws v → InSpan X (vs ++ ws) v
  span_append_right vs ws v h = span_within ws (vs ++ ws) (Each_append_right (InSpan X (vs ++ ws)) vs ws (span_member (vs ++ ws))) v h

  pub span_append_nil : (vs : List A) (v : A) → InSpan X (vs ++ []) v → InSpan X vs v
  span_append_nil vs v h = span_within (vs ++ []) vs (Each_append (InSpan X vs) vs [] (span_member vs) tt) v h

  -- one element moves from the end of the second list into the span of the first
  pub SameSpan_move : (old new rest whole : List A) (w : A) → SameSpan X (old ++ (rest ++ w ∷ [])) whole → SameSpan X new (w ∷ old) → SameSpan X (new ++ rest) whole
  SameSpan_move old new rest whole w was step v = (there v, back v)
    where
      in_old : (u : A) → InSpan X old u → InSpan X (new ++ rest) u
      in_old u h = span_append_left new rest u ((step u).1 (span_tail X w old u h))

      there : (u : A) → InSpan X (new ++ rest) u → InSpan X whole u
      there u h = (was u).0 (span_within (new ++ rest) (old ++ (rest ++ w ∷ [])) (Each_append (InSpan X (old ++ (rest ++ w ∷ []))) new rest
          (Each_weaker (InSpan X new) (InSpan X (old ++ (rest ++ w ∷ []))) (λ x g. span_within (w ∷ old) (old ++ (rest ++ w ∷ []))
          (span_append_right old (rest ++ w ∷ []) w (span_append_right rest (w ∷ []) w (span_head X w [])), Each_weaker (InSpan X old) (InSpan X (old ++ (rest ++ w ∷ []))) (span_append_left old (rest ++ w ∷ [])) old (span_member old)) x ((step x).0 g)) new (span_member new))
          (Each_weaker (InSpan X rest) (InSpan X (old ++ (rest ++ w ∷ []))) (λ x g. span_append_right old (rest ++ w ∷ []) x (span_append_left rest (w ∷ []) x g)) rest (span_member rest))) u h)

      back : (u : A) → InSpan X whole u → InSpan X (new ++ rest) u
      back u h = span_within (old ++ (rest ++ w ∷ [])) (new ++ rest) (Each_append (InSpan X (new ++ rest)) old (rest ++ w ∷ [])
          (Each_weaker (InSpan X old) (InSpan X (new ++ rest)) in_old old (span_member old))
          (Each_append (InSpan X (new ++ rest)) rest (w ∷ []) (Each_weaker (InSpan X rest) (InSpan X (new ++ rest)) (span_append_right new rest) rest (span_member rest)) (span_append_left new rest w ((step w).1 (span_head X w old)), tt))) u ((was u).1 h)
