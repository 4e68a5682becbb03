-- Elimination by rows, each with a key of its own.
use Rattle.std.proofs.Common.{◌≡◌, inl, inr, suc, List, [], ◌∷◌, ◌++◌, length, ◌⊎◌, sym, ap, ap₂, ◌∙◌, refl, subst, arith}
use Rattle.std.proofs.lemmas.List.{length-append}
use Rattle.alg_core.specs.Fields.{FieldOn, Scalar, scalars, is_field}
use Rattle.alg_core.specs.Keys.{Key}
use Rattle.alg_core.specs.Lists.{In, in_left, in_right}
use Rattle.alg_core.specs.ModuleLaws as modules
use Rattle.alg_core.specs.RingLaws as rings
use Rattle.alg_core.specs.Spans.{combine}
use Rattle.alg_core.specs.Vectors.{Vect, vectors, coef_at, plus, zero_vector}
use Rattle.alg_core.proofs.Members.{in_cases, from_map}
use Rattle.alg_core.proofs.SpanLaws.{span_add, span_act, span_minus, span_member, span_within}
use Rattle.alg_core.proofs.VectorLaws.{coef_at_plus, coef_at_zero}
use Rattle.poly_module.specs.Echelons.{Spans}
use Rattle.poly_module.specs.Signs.{minus}
use Rattle.poly_module.proofs.EchelonLists.{coef_at_act, coef_at_sum, coef_at_nothing}
use Rattle.poly_module.proofs.SpaceVectorLaws.{minus_plus, minus_unique}
use Rattle.secondary_gens.specs.Eliminations.{Line, vectors_in, IsTriangular, IsReducedBy, IsEchelonOf}

module _ {E : Type 0} (k : FieldOn E) where
  abbrev R0 : Scalar k
  R0 = (scalars k).zero

  -- the difference of two vectors with one coefficient
  cancels : (u v : Vect k) (t : Key) → coef_at k u t ≡ coef_at k v t → coef_at k (minus k u v) t ≡ R0
  cancels u v t e =
      let sum : (scalars k).◌+◌ (coef_at k (minus k u v) t) (coef_at k v t) ≡ coef_at k v t = sym (coef_at_plus k (minus k u v) v t) ∙ ap (λ w. coef_at k w t) (minus_plus k u v) ∙ e in
      rings.add_cancel (scalars k) (coef_at k v t) _ R0 ((scalars k).add_comm _ _ ∙ sum ∙ sym ((scalars k).add_zero _))

  -- a sum with one member more at the end
  pub combine_push : (cs : List (Scalar k)) (ws : List (Vect k)) (c : Scalar k) (w : Vect k) → length cs ≡ length ws
      → combine (vectors k) (cs ++ c ∷ []) (ws ++ w ∷ []) ≡ (vectors k).◌+◌ (combine (vectors k) cs ws) ((vectors k).◌·◌ c w)
  combine_push [] [] c w e = (vectors k).add_zero _ ∙ sym (modules.zero_add (vectors k) _)
  combine_push [] (x ∷ ws) c w e = absurd (omega arith)
  combine_push (d ∷ cs) [] c w e = absurd (omega arith)
  combine_push (d ∷ cs) (x ∷ ws) c w e = ap ((vectors k).◌+◌ ((vectors k).◌·◌ d x)) (combine_push cs ws c w (omega arith)) ∙ sym ((vectors k).add_assoc _ _ _)

  vectors_push : (ls : List (Line k)) (l : Line k) → vectors_in k (ls ++ l ∷ []) ≡ vectors_in k ls ++ l.1 ∷ []
  vectors_push [] l = refl
  vectors_push (m ∷ ls) l = ap (λ vs. m.1 ∷ vs) (vectors_push ls l)

  length_vectors : (ls : List (Line k)) → length (vectors_in k ls) ≡ length ls
  length_vectors [] = refl
  length_vectors (m ∷ ls) = ap suc (length_vectors ls)

  -- a line in a triangular list
  pub triangular_at : (xs : List (Line k)) (l : Line k) (ys : List (Line k)) → IsTriangular k (xs ++ l ∷ ys)
      → (coef_at k l.1 l.0 ≡ (scalars k).one) × ((m : Line k) → In m xs → coef_at k l.1 m.0 ≡ R0)
  triangular_at [] l ys h = (h.0, λ m i. absurd i)
  triangular_at (x ∷ xs) l ys h = go (triangular_at xs l ys h.2)
    where
      go : (coef_at k l.1 l.0 ≡ (scalars k).one) × ((m : Line k) → In m xs → coef_at k l.1 m.0 ≡ R0)
          → (coef_at k l.1 l.0 ≡ (scalars k).one) × ((m : Line k) → In m (x ∷ xs) → coef_at k l.1 m.0 ≡ R0)
      go rest = (rest.0, before)
        where
          before : (m : Line k) → In m (x ∷ xs) → coef_at k l.1 m.0 ≡ R0
          before m (inl e) = subst (λ (y : Line k). coef_at k l.1 y.0 ≡ R0) e (h.1 l (in_right l xs (l ∷ ys) (inl refl)))
          before m (inr i) = rest.1 m i

  pub triangular_push : (ls : List (Line k)) (l : Line k) → IsTriangular k ls → coef_at k l.1 l.0 ≡ (scalars k).one
      → ((m : Line k) → In m ls → coef_at k l.1 m.0 ≡ R0) → IsTriangular k (ls ++ l ∷ [])
  triangular_push [] l h one none = (one, λ m i. absurd i, tt)
  triangular_push (x ∷ ls) l h one none = (h.0, later, triangular_push ls l h.2 one (λ m i. none m (inr i)))
    where
      later : (m : Line k) → In m (ls ++ l ∷ []) → coef_at k m.1 x.0 ≡ R0
      later m i = go (in_cases m ls (l ∷ []) i)
        where
          go : In m ls ⊎ In m (l ∷ []) → coef_at k m.1 x.0 ≡ R0
          go (inl j) = h.1 m j
          go (inr (inl e)) = subst (λ y. coef_at k y.1 x.0 ≡ R0) e (none x (inl refl))
          go (inr (inr j)) = absurd j

  -- nothing is taken away at first
  pub reduced_none : (v : Vect k) → IsReducedBy k [] v v []
  unfolding plus
  reduced_none v = record { each = refl; sum = (vectors k).add_zero v; zero = λ l i. absurd i }

  -- and then the multiple of one line more
  pub reduced_more : (xs : List (Line k)) (l : Line k) (ys : List (Line k)) (v w : Vect k) (fs : List (Scalar k)) → IsTriangular k (xs ++ l ∷ ys)
      → IsReducedBy k xs v w fs → IsReducedBy k (xs ++ l ∷ []) v (minus k w ((vectors k).◌·◌ (coef_at k w l.0) l.1)) (fs ++ coef_at k w l.0 ∷ [])
  unfolding plus
  reduced_more xs l ys v w fs h was = record {
    each = let a = length-append fs (c ∷ []) in let b = length-append xs (l ∷ []) in let e = was.each in omega arith;
    sum = ap (plus k (minus k w multiple)) (ap (combine (vectors k) (fs ++ c ∷ [])) (vectors_push xs l) ∙ combine_push fs (vectors_in k xs) c l.1 (was.each ∙ sym (length_vectors xs)))
        ∙ ap ((vectors k).◌+◌ (minus k w multiple)) ((vectors k).add_comm _ _) ∙ sym ((vectors k).add_assoc _ _ _)
        ∙ ap (λ u. (vectors k).◌+◌ u (combine (vectors k) fs (vectors_in k xs))) (minus_plus k w multiple) ∙ was.sum;
    zero = λ m i. go m (in_cases m xs (l ∷ []) i);
  }
    where
      c : Scalar k
      c = coef_at k w l.0

      multiple : Vect k
      multiple = (vectors k).◌·◌ c l.1

      at : (coef_at k l.1 l.0 ≡ (scalars k).one) × ((m : Line k) → In m xs → coef_at k l.1 m.0 ≡ R0)
      at = triangular_at xs l ys h

      go : (m : Line k) → In m xs ⊎ In m (l ∷ []) → coef_at k (minus k w multiple) m.0 ≡ R0
      go m (inl j) = cancels w multiple m.0 (was.zero m j ∙ sym (coef_at_act k c l.1 m.0 ∙ ap ((scalars k).◌*◌ c) (at.1 m j) ∙ rings.mul_zero (scalars k) c))
      go m (inr (inl e)) = subst (λ y. coef_at k (minus k w multiple) y.0 ≡ R0) e
          (cancels w multiple l.0 (sym (coef_at_act k c l.1 l.0 ∙ ap ((scalars k).◌*◌ c) at.0 ∙ (scalars k).mul_one c)))
      go m (inr (inr j)) = absurd j

  -- a sum of multiples of lines that is 0 at their keys is 0
  combine_is_zero : (ls : List (Line k)) → IsTriangular k ls → (cs : List (Scalar k)) → ((l : Line k) → In l ls → coef_at k (combine (vectors k) cs (vectors_in k ls)) l.0 ≡ R0)
      → combine (vectors k) cs (vectors_in k ls) ≡ (vectors k).zero
  combine_is_zero ls h [] none = refl
  combine_is_zero [] h (c ∷ cs) none = refl
  combine_is_zero (l ∷ ls) h (c ∷ cs) none = same ∙ combine_is_zero ls h.2 cs (λ m i. sym (ap (λ w. coef_at k w m.0) same) ∙ none m (inr i))
    where
      rest : Vect k
      rest = combine (vectors k) cs (vectors_in k ls)

      away : (cs : List (Scalar k)) (ms : List (Line k)) → ((m : Line k) → In m ms → coef_at k m.1 l.0 ≡ R0) → coef_at k (combine (vectors k) cs (vectors_in k ms)) l.0 ≡ R0
      away [] ms z = coef_at_nothing k l.0
      away (d ∷ ds) [] z = coef_at_nothing k l.0
      away (d ∷ ds) (m ∷ ms) z = coef_at_sum k _ _ l.0 ∙ ap₂ (scalars k).◌+◌ (coef_at_act k d m.1 l.0 ∙ ap ((scalars k).◌*◌ d) (z m (inl refl)) ∙ rings.mul_zero (scalars k) d) (away ds ms (λ n i. z n (inr i))) ∙ (scalars k).add_zero R0

      first : c ≡ R0
      first = sym (coef_at_sum k _ _ l.0 ∙ ap₂ (scalars k).◌+◌ (coef_at_act k c l.1 l.0 ∙ ap ((scalars k).◌*◌ c) h.0 ∙ (scalars k).mul_one c) (away cs ls h.1) ∙ (scalars k).add_zero c) ∙ none l (inl refl)

      same : combine (vectors k) (c ∷ cs) (vectors_in k (l ∷ ls)) ≡ rest
      same = ap (λ d. (vectors k).◌+◌ ((vectors k).◌·◌ d l.1) rest) first ∙ ap (λ u. (vectors k).◌+◌ u rest) ((vectors k).zero_act l.1) ∙ modules.zero_add (vectors k) rest

  pub zero_in_span : (ls : List (Line k)) → IsTriangular k ls → (w : Vect k) → Spans k (vectors_in k ls) w → ((l : Line k) → In l ls → coef_at k w l.0 ≡ R0) → w ≡ zero_vector k
  unfolding zero_vector
  zero_in_span ls h w a none = sym a.2 ∙ combine_is_zero ls h a.0 (λ l i. ap (λ u. coef_at k u l.0) a.2 ∙ none l i)

  module _ (ls : List (Line k)) (v w : Vect k) (fs : List (Scalar k)) (r : IsReducedBy k ls v w fs) where
    taken : Spans k (vectors_in k ls) (combine (vectors k) fs (vectors_in k ls))
    taken = (fs, r.each ∙ sym (length_vectors ls), refl)

    -- what is left of a vector of the span is 0
    pub reduced_zero : IsTriangular k ls → Spans k (vectors_in k ls) v → w ≡ zero_vector k
    unfolding minus plus
    reduced_zero h a = zero_in_span ls h w (subst (Spans k (vectors_in k ls)) (sym (minus_unique k w v _ r.sum)) (span_add (vectors k) _ v _ a (span_minus (vectors k) _ _ taken))) r.zero

    -- and where nothing is left, it is in the span
    pub reduced_spans : w ≡ zero_vector k → Spans k (vectors_in k ls) v
    unfolding zero_vector plus
    reduced_spans z = subst (Spans k (vectors_in k ls)) (sym (modules.zero_add (vectors k) _) ∙ ap (λ u. (vectors k).◌+◌ u (combine (vectors k) fs (vectors_in k ls))) (sym z) ∙ r.sum) taken

    module _ (vs : List (Vect k)) (e : IsEchelonOf k vs ls) where
      pub lines_in_span : (u : Vect k) → Spans k (vectors_in k ls) u → Spans k vs u
      lines_in_span u a = span_within (vectors k) (vectors_in k ls) vs (λ x i. let f = from_map (λ l. l.1) x ls i in subst (Spans k vs) f.2 (e.inside f.0 f.1)) u a

      pub span_in_lines : (u : Vect k) → Spans k vs u → Spans k (vectors_in k ls) u
      span_in_lines u a = span_within (vectors k) vs (vectors_in k ls) e.outside u a

      longer : (us : List (Vect k)) (x u : Vect k) → Spans k us u → Spans k (us ++ x ∷ []) u
      longer us x u a = span_within (vectors k) us (us ++ x ∷ []) (λ y i. span_member (vectors k) (us ++ x ∷ []) y (in_left y us (x ∷ []) i)) u a

      last : (us : List (Vect k)) (x : Vect k) → Spans k (us ++ x ∷ []) x
      last us x = span_member (vectors k) (us ++ x ∷ []) x (in_right x us (x ∷ []) (inl refl))

      -- a vector of the span changes nothing
      pub echelon_same : w ≡ zero_vector k → IsEchelonOf k (vs ++ v ∷ []) ls
      echelon_same z = record {
        triangular = e.triangular;
        inside = λ l i. longer vs v l.1 (e.inside l i);
        outside = λ u i. go u (in_cases u vs (v ∷ []) i);
      }
        where
          go : (u : Vect k) → In u vs ⊎ In u (v ∷ []) → Spans k (vectors_in k ls) u
          go u (inl j) = e.outside u j
          go u (inr (inl p)) = subst (Spans k (vectors_in k ls)) p (reduced_spans z)
          go u (inr (inr j)) = absurd j

      -- what has a multiple with the coefficient 1 is not in the span
      pub fresh : (b : Scalar k) (t : Key) (x : Vect k) → x ≡ (vectors k).◌·◌ b w → coef_at k x t ≡ (scalars k).one → ¬ Spans k vs v
      fresh b t x is one a = (is_field k).one_not_zero (sym one ∙ ap (λ u. coef_at k u t) is ∙ coef_at_act k b w t
          ∙ ap ((scalars k).◌*◌ b) (ap (λ u. coef_at k u t) (reduced_zero e.triangular (span_in_lines v a)) ∙ coef_at_zero k t) ∙ rings.mul_zero (scalars k) b)

      pub spanned : w ≡ zero_vector k → Spans k vs v
      spanned z = lines_in_span v (reduced_spans z)

      -- what is left of any other gives a line
      pub echelon_more : (b : Scalar k) (t : Key) (x : Vect k) → x ≡ (vectors k).◌·◌ b w → coef_at k x t ≡ (scalars k).one → IsEchelonOf k (vs ++ v ∷ []) (ls ++ (t, x) ∷ [])
      unfolding minus plus
      echelon_more b t x is one = record {
        triangular = triangular_push ls (t, x) e.triangular one (λ m i. ap (λ u. coef_at k u m.0) is ∙ coef_at_act k b w m.0 ∙ ap ((scalars k).◌*◌ b) (r.zero m i) ∙ rings.mul_zero (scalars k) b);
        inside = λ l i. within l (in_cases l ls ((t, x) ∷ []) i);
        outside = λ u i. go u (in_cases u vs (v ∷ []) i);
      }
        where
          left : Spans k (vs ++ v ∷ []) w
          left = subst (Spans k (vs ++ v ∷ [])) (sym (minus_unique k w v _ r.sum))
              (span_add (vectors k) _ v _ (last vs v) (span_minus (vectors k) _ _ (longer vs v _ (lines_in_span _ taken))))

          within : (l : Line k) → In l ls ⊎ In l ((t, x) ∷ []) → Spans k (vs ++ v ∷ []) l.1
          within l (inl j) = longer vs v l.1 (e.inside l j)
          within l (inr (inl p)) = subst (λ y. Spans k (vs ++ v ∷ []) y.1) p (subst (Spans k (vs ++ v ∷ [])) (sym is) (span_act (vectors k) _ b w left))
          within l (inr (inr j)) = absurd j

          grown : (u : Vect k) → Spans k (vectors_in k ls) u → Spans k (vectors_in k (ls ++ (t, x) ∷ [])) u
          grown u a = subst (λ us. Spans k us u) (sym (vectors_push ls (t, x))) (longer (vectors_in k ls) x u a)

          -- the coefficient of w at t is the inverse of b
          back : (vectors k).◌·◌ (coef_at k w t) x ≡ w
          back = ap ((vectors k).◌·◌ (coef_at k w t)) is ∙ sym ((vectors k).mul_act _ b w)
              ∙ ap (λ c. (vectors k).◌·◌ c w) ((scalars k).mul_comm _ b ∙ sym (coef_at_act k b w t) ∙ ap (λ u. coef_at k u t) (sym is) ∙ one) ∙ (vectors k).one_act w

          rest : Spans k (vectors_in k (ls ++ (t, x) ∷ [])) w
          rest = subst (Spans k (vectors_in k (ls ++ (t, x) ∷ []))) back
              (span_act (vectors k) _ (coef_at k w t) x (subst (λ us. Spans k us x) (sym (vectors_push ls (t, x))) (last (vectors_in k ls) x)))

          go : (u : Vect k) → In u vs ⊎ In u (v ∷ []) → Spans k (vectors_in k (ls ++ (t, x) ∷ [])) u
          go u (inl j) = grown u (e.outside u j)
          go u (inr (inl p)) = subst (Spans k (vectors_in k (ls ++ (t, x) ∷ []))) (r.sum ∙ p) (span_add (vectors k) _ w _ rest (grown _ taken))
          go u (inr (inr j)) = absurd j
