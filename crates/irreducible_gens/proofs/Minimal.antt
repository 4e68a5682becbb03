-- Among forms whose degrees do not fall, generators none of which is a polynomial in those before it: none is one in the others.
use Rattle.std.proofs.Common.{◌≡◌, ℕ, zero, suc, ◌+◌, ◌<◌, ◌≤◌, List, [], ◌∷◌, ◌++◌, length, take, drop, sym, ap, ap₂, ◌∙◌, subst, arith, append_assoc}
use Rattle.std.proofs.lemmas.List.{length-append, length-drop, length-take-le}
use Rattle.alg_core.specs.Fields.{FieldOn}
use Rattle.alg_core.specs.Keys.{Key}
use Rattle.alg_core.specs.KeyOrders.{OrderOn}
use Rattle.alg_core.specs.ModuleLaws as modules
use Rattle.alg_core.specs.Monomials.{Mon, monomials}
use Rattle.alg_core.specs.SpaceGrading.{AllPositive, height}
use Rattle.alg_core.specs.Vectors.{Vect, vectors, plus}
use Rattle.alg_core.proofs.MonomialLists.{length_one}
use Rattle.alg_core.proofs.SpanLaws.{span_parts, span_one, span_append}
use Rattle.poly_module.specs.Combinations.{Over, combination_value}
use Rattle.poly_module.specs.Echelons.{Spans}
use Rattle.poly_module.specs.Forms.{IsForm, AreForms, OfDegree}
use Rattle.poly_module.specs.Modules.{listed}
use Rattle.poly_module.specs.Parts.{supp_act, linear_unique_supp}
use Rattle.poly_module.specs.Polynomials.{vector_ring, single_vector}
use Rattle.poly_module.specs.Products.{one_vector_single, ring_one}
use Rattle.poly_module.specs.Substitutions.{monomial_value, monomial_value_one}
use Rattle.poly_module.proofs.CombinationLaws.{combination_value_linear, combination_value_single, over_plus, over_act}
use Rattle.poly_module.proofs.MarkValues.{forms_append}
use Rattle.poly_module.proofs.SpaceVectorLaws.{minus_unique, supp_minus}
use Rattle.secondary_gens.proofs.Irredundant.{never_parted}
use Rattle.secondary_gens.proofs.Lists.{forms_length, forms_at, forms_push, forms_remove, height_drop, split_at, weight_zero_is_one}
use Rattle.irreducible_gens.specs.Algebras.{IsPolynomialIn, InAlgebra}
use Rattle.irreducible_gens.specs.Irreducibles.{AreNeeded}
use Rattle.irreducible_gens.proofs.Generators.{unit, unit_term, over_polynomial, polynomial_over, over_wider, over_generator, mixed_over, listed_back}
use Rattle.irreducible_gens.proofs.Parted.{halves}

module _ {E : Type 0} (k : FieldOn E) where
  -- a constant is a polynomial in anything
  pub constant_over : (ws : List ℕ) → AllPositive ws → (G : List (Vect k)) (f : Vect k) → IsForm k ws 0 f → Over k G (unit k) f
  constant_over ws positive G f form = (f, λ t n. place t (form t n), same f form)
    where
      one : (t : Key) → OfDegree k ws 0 t → t.1 ≡ monomials.one
      one t q = weight_zero_is_one ws t.1 positive q.1

      place : (t : Key) → OfDegree k ws 0 t → (length t.1.0 ≤ length G) × (t.0 < 1)
      place t q = (subst (λ (m : Mon). length m.0 ≤ length G) (sym (one t q)) (length_one (length G)), let z = q.0 in omega arith)

      key : (t : Key) → OfDegree k ws 0 t → t ≡ (0, monomials.one)
      key t q = ap₂ (λ (i : ℕ) (m : Mon). (i, m)) q.0 (one t q)

      same : (f : Vect k) → IsForm k ws 0 f → combination_value k G (unit k) f ≡ f
      same = linear_unique_supp k (vectors k) (combination_value k G (unit k)) (λ v. v) (combination_value_linear k G (unit k)) (modules.linear_same (vectors k)) (OfDegree k ws 0)
          (λ t q. combination_value_single k G (unit k) t ∙ unit_term k G t q.0 ∙ ap (λ (m : Mon). monomial_value (vector_ring k) G m.0) (one t q) ∙ monomial_value_one (vector_ring k) G ∙ ring_one k
          ∙ one_vector_single k ∙ ap (single_vector k) (sym (key t q)))

  -- one generator more, of the degree in which there was an elimination
  module _ (o : OrderOn Key) (ws es : List ℕ) (G : List (Vect k)) (h : AreForms k ws es G) (positive : AllPositive es) (d : ℕ) (above : 0 < d) (q : Vect k) (form : IsForm k ws d q) (vs : List (Vect k)) where
    longer_positive : AllPositive (es ++ d ∷ [])
    longer_positive = go es positive
      where
        go : (es : List ℕ) → AllPositive es → AllPositive (es ++ d ∷ [])
        go [] p = (above, tt)
        go (e ∷ es) p = (p.0, go es p.1)

    high : (j : ℕ) → j < length (q ∷ []) → d ≤ height (d ∷ []) j
    unfolding height
    high zero l = omega arith
    high (suc j) l = absurd (omega arith)

    own : Over k (G ++ q ∷ []) (unit k) q
    own = subst (Over k (G ++ q ∷ []) (unit k)) (listed_back k G (q ∷ []) 0) (over_generator k (G ++ q ∷ []) (length G + 0) (let l = length-append G (q ∷ []) in omega arith))

    multiple : (w : Vect k) → Spans k (q ∷ []) w → Over k (G ++ q ∷ []) (unit k) w
    multiple w s = let c = span_one (vectors k) q w s in subst (Over k (G ++ q ∷ []) (unit k)) c.1 (over_act k (G ++ q ∷ []) (unit k) c.0 q own)

    pub longer_inside : ((f : Vect k) → Spans k vs f → IsPolynomialIn k G f) → (f : Vect k) → Spans k (vs ++ q ∷ []) f → IsPolynomialIn k (G ++ q ∷ []) f
    unfolding plus
    longer_inside inside f s =
        let p = span_parts (vectors k) vs (q ∷ []) f s in
        over_polynomial k (G ++ q ∷ []) f (subst (Over k (G ++ q ∷ []) (unit k)) p.4
        (over_plus k (G ++ q ∷ []) (unit k) p.0 p.1 (over_wider k G (q ∷ []) (unit k) p.0 (polynomial_over k G p.0 (inside p.0 p.2))) (multiple p.1 p.3)))

    pub longer_whole : ((f : Vect k) → IsForm k ws d f → IsPolynomialIn k G f → Spans k vs f) → (f : Vect k) → IsForm k ws d f → IsPolynomialIn k (G ++ q ∷ []) f → Spans k (vs ++ q ∷ []) f
    unfolding plus
    longer_whole whole f g a =
        let p = halves k G (q ∷ []) o ws es (d ∷ []) (forms_push k ws es G d q h form) (forms_length k ws es G h) longer_positive d high f g (polynomial_over k (G ++ q ∷ []) f a) in
        let c = span_one (vectors k) q p.rest p.spans in
        let rest : IsForm k ws d p.rest = subst (IsForm k ws d) c.1 (supp_act k (OfDegree k ws d) c.0 q form) in
        let over : IsForm k ws d p.over = subst (IsForm k ws d) (sym (minus_unique k p.over f p.rest p.sum)) (supp_minus k (OfDegree k ws d) f p.rest g rest) in
        subst (Spans k (vs ++ q ∷ [])) p.sum (span_append (vectors k) vs (q ∷ []) p.over p.rest (whole p.over over (over_polynomial k G p.over p.is_over)) p.spans)

  positive_both : (ds es : List ℕ) → AllPositive ds → AllPositive es → AllPositive (ds ++ es)
  positive_both [] es p q = q
  positive_both (d ∷ ds) es p q = (p.0, positive_both ds es p.1 q)

  positive_remove : (es : List ℕ) (j : ℕ) → AllPositive es → AllPositive (take j es ++ drop (suc j) es)
  positive_remove [] zero p = tt
  positive_remove [] (suc j) p = tt
  positive_remove (e ∷ es) zero p = p.1
  positive_remove (e ∷ es) (suc j) p = (p.0, positive_remove es j p.1)

  -- none is a polynomial in those before it
  abbrev pub AreNew : List (Vect k) → List (Vect k) → Type 0
  AreNew θ T = (P : List (Vect k)) (s : Vect k) (U : List (Vect k)) → T ≡ P ++ s ∷ U → ¬ InAlgebra k θ P s

  -- so none is one in the others
  pub new_needed : (o : OrderOn Key) (ws ds es : List ℕ) (θ T : List (Vect k)) → AreForms k ws ds θ → AllPositive ds → AreForms k ws es T → AllPositive es
      → ((i j : ℕ) → i ≤ j → j < length es → height es i ≤ height es j) → AreNew θ T → AreNeeded k θ T
  new_needed o ws ds es θ T h p g r rise new l inside a =
      let n = forms_length k ws es T g in
      let m = forms_length k ws ds θ h in
      let G = θ ++ take l T in
      let U = drop (suc l) T in
      let s = listed k T l in
      never_parted k G (unit k) U s
      (λ b. new (take l T) s U (split_at k T l inside) (over_polynomial k G s b))
      (λ j q b. new (take l T ++ s ∷ take j U) (listed k U j) (drop (suc j) U)
      (split_at k T l inside ∙ ap (λ u. take l T ++ s ∷ u) (split_at k U j q) ∙ sym (append_assoc (take l T) (s ∷ take j U) _))
      (subst (λ l. IsPolynomialIn k l (listed k U j)) (append_assoc θ (take l T) (s ∷ take j U)) (over_polynomial k (G ++ s ∷ take j U) (listed k U j) (mixed_over k G (s ∷ take j U) (listed k U j) b))))
      (halves k G U o ws (ds ++ take l es) (drop (suc l) es)
      (subst (λ u. AreForms k ws u (G ++ U)) (sym (append_assoc ds (take l es) (drop (suc l) es)))
      (subst (AreForms k ws (ds ++ (take l es ++ drop (suc l) es))) (sym (append_assoc θ (take l T) U)) (forms_append k ws ds (take l es ++ drop (suc l) es) θ (take l T ++ U) h (forms_remove k ws es T l g))))
      (length-append ds (take l es) ∙ ap₂ (λ x y. x + y) m (length-take-le l es (omega arith) ∙ sym (length-take-le l T (omega arith))) ∙ sym (length-append θ (take l T)))
      (subst AllPositive (sym (append_assoc ds (take l es) (drop (suc l) es))) (positive_both ds (take l es ++ drop (suc l) es) p (positive_remove es l r)))
      (height es l)
      (λ i q. let d = length-drop (suc l) T in subst (λ u. height es l ≤ u) (sym (height_drop es (suc l) i (omega arith))) (rise l (suc l + i) (omega arith) (omega arith)))
      s (forms_at k ws es T g l inside) (subst (λ u. Over k u (unit k) s) (sym (append_assoc θ (take l T) U)) (polynomial_over k (θ ++ (take l T ++ U)) s a)))
