-- What the elimination of one degree tells: whether a form of that degree is a combination.
use Rattle.std.proofs.Common.{◌≡◌, ◌⊎◌, inl, inr, ℕ, ◌+◌, ◌<◌, ◌≤◌, List, [], ◌∷◌, ◌++◌, length, map, sym, ap, ap₂, ◌∙◌, refl, subst, arith}
use Rattle.std.proofs.lemmas.List.{length-append}
use Rattle.std.proofs.lemmas.Bool.{cases_lt}
use Rattle.alg_core.specs.Fields.{FieldOn, Scalar}
use Rattle.alg_core.specs.Keys.{Key}
use Rattle.alg_core.specs.KeyOrders.{OrderOn}
use Rattle.alg_core.specs.Lists.{In, in_left, in_right}
use Rattle.alg_core.specs.Monomials.{Mon, monomials}
use Rattle.alg_core.specs.SpaceGrading.{AllPositive, weight, height}
use Rattle.alg_core.specs.Vectors.{Vect, zero_vector}
use Rattle.alg_core.proofs.Members.{in_cases}
use Rattle.poly_module.specs.Combinations.{Over, term_value, combination_degree}
use Rattle.poly_module.specs.Echelons.{Spans}
use Rattle.poly_module.specs.Forms.{IsForm, AreForms}
use Rattle.poly_module.specs.Polynomials.{product, vector_ring}
use Rattle.poly_module.specs.Products.{one_product, ring_one}
use Rattle.poly_module.specs.Substitutions.{monomial_value_one}
use Rattle.poly_module.specs.Variables.{length_one}
use Rattle.poly_module.proofs.OverSpans.{over_span, span_over}
use Rattle.secondary_gens.specs.Eliminations.{Line, IsReducedBy, IsEchelonOf}
use Rattle.secondary_gens.proofs.Lists.{listed_front, listed_last, forms_length, height_front, height_last, weight_zero_is_one}
use Rattle.secondary_gens.proofs.Triangular.{reduced_zero, reduced_spans, lines_in_span, span_in_lines}

module _ {E : Type 0} (k : FieldOn E) (o : OrderOn Key) (θ : List (Vect k)) (ds : List ℕ) where
  -- the lines span the values of all terms of degree d
  pub record InDegree (d : ℕ) (T : List (Vect k)) (es : List ℕ) (ls : List (Line k)) : Type 0 where
    pub L : List Key
    pub whole : (t : Key) → length t.1.0 ≤ length θ → t.0 < length T → combination_degree ds es t ≡ d → In t L
    pub within : (t : Key) → In t L → (length t.1.0 ≤ length θ) × (t.0 < length T)
    pub echelon : IsEchelonOf k (map (term_value k θ T) L) ls

  -- a member itself is a term
  pub member_value : (T : List (Vect k)) (b : Vect k) → term_value k θ (T ++ b ∷ []) (length T, monomials.one) ≡ b
  member_value T b = ap₂ (product k) (monomial_value_one (vector_ring k) θ ∙ ring_one k) (listed_last k T b) ∙ one_product k b

  values_front : (T U : List (Vect k)) (L : List Key) → ((t : Key) → In t L → t.0 < length T) → map (term_value k θ (T ++ U)) L ≡ map (term_value k θ T) L
  values_front T U [] h = refl
  values_front T U (t ∷ L) h = ap₂ ◌∷◌ (ap (product k _) (listed_front k T U t.0 (h t (inl refl)))) (values_front T U L (λ s i. h s (inr i)))

  map_push : (f : Key → Vect k) (L : List Key) (t : Key) → map f (L ++ t ∷ []) ≡ map f L ++ f t ∷ []
  map_push f [] t = refl
  map_push f (s ∷ L) t = ap (λ l. f s ∷ l) (map_push f L t)

  module _ (ws : List ℕ) (h : AreForms k ws ds θ) (d : ℕ) (T : List (Vect k)) (es : List ℕ) (g : AreForms k ws es T) (ls : List (Line k)) (s : InDegree d T es ls) (f : Vect k) where
    -- a form of the degree is a combination exactly where it lies in the span
    pub spanned_over : Spans k (map (term_value k θ T) s.L) f → Over k θ T f
    spanned_over a = span_over k o θ T s.L s.within f a

    pub over_spanned : IsForm k ws d f → Over k θ T f → Spans k (map (term_value k θ T) s.L) f
    over_spanned form a = over_span k o θ T ws ds es h g d s.L s.whole s.within f form a

    -- what is left of it tells
    module _ (w : Vect k) (fs : List (Scalar k)) (r : IsReducedBy k ls f w fs) where
      pub left_nothing : w ≡ zero_vector k → Over k θ T f
      left_nothing z = spanned_over (lines_in_span k ls f w fs r _ s.echelon f (reduced_spans k ls f w fs r z))

      pub left_something : IsForm k ws d f → ¬ (w ≡ zero_vector k) → ¬ Over k θ T f
      left_something form n a = n (reduced_zero k ls f w fs r s.echelon.triangular (span_in_lines k ls f w fs r _ s.echelon f (over_spanned form a)))

    -- a form that is none becomes a member
    pub one_more : (ns : List (Line k)) → AllPositive ds → IsEchelonOf k (map (term_value k θ T) s.L ++ f ∷ []) ns → InDegree d (T ++ f ∷ []) (es ++ d ∷ []) ns
    one_more ns positive echelon = record {
      L = s.L ++ (length T, monomials.one) ∷ [];
      whole = λ t l q e. go t l e (cases_lt t.0 (length T)) q;
      within = λ t i. inside t (in_cases t s.L ((length T, monomials.one) ∷ []) i);
      echelon = subst (λ vs. IsEchelonOf k vs ns) (sym values) echelon;
    }
      where
        values : map (term_value k θ (T ++ f ∷ [])) (s.L ++ (length T, monomials.one) ∷ []) ≡ map (term_value k θ T) s.L ++ f ∷ []
        values = map_push (term_value k θ (T ++ f ∷ [])) s.L (length T, monomials.one) ∙ ap₂ (λ vs v. vs ++ v ∷ []) (values_front T (f ∷ []) s.L (λ t i. (s.within t i).1)) (member_value T f)

        lengths : length es ≡ length T
        lengths = forms_length k ws es T g

        longer : length (T ++ f ∷ []) ≡ length T + 1
        longer = length-append T (f ∷ [])

        go : (t : Key) → length t.1.0 ≤ length θ → combination_degree ds (es ++ d ∷ []) t ≡ d → (t.0 < length T) ⊎ (length T ≤ t.0) → t.0 < length (T ++ f ∷ []) → In t (s.L ++ (length T, monomials.one) ∷ [])
        go t l e (inl q) m = in_left t s.L _ (s.whole t l q (let n = lengths in let a = height_front es (d ∷ []) t.0 (omega arith) in omega arith))
        go t l e (inr q) m = in_right t s.L _ (inl (sym (ap₂ (λ (i : ℕ) (a : Mon). (i, a)) last (weight_zero_is_one ds t.1 positive none))))
          where
            last : t.0 ≡ length T
            last = let n = longer in omega arith

            there : height (es ++ d ∷ []) t.0 ≡ d
            there = ap (height (es ++ d ∷ [])) (last ∙ sym lengths) ∙ height_last es d

            none : weight ds 0 t.1.0 ≡ 0
            none = let a = there in omega arith

        inside : (t : Key) → In t s.L ⊎ In t ((length T, monomials.one) ∷ []) → (length t.1.0 ≤ length θ) × (t.0 < length (T ++ f ∷ []))
        inside t (inl i) = let a = s.within t i in (a.0, let q = a.1 in let n = longer in omega arith)
        inside t (inr (inl e)) = (subst (λ (u : Key). length u.1.0 ≤ length θ) e (length_one (length θ)), let q : length T ≡ t.0 = ap (λ (u : Key). u.0) e in let n = longer in omega arith)
        inside t (inr (inr i)) = absurd i
