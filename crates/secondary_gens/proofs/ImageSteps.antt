-- Invariants over which each invariant is a combination: what they tell of each degree.
use Rattle.std.proofs.Common.{◌≡◌, ◌⊎◌, inl, inr, ℕ, zero, suc, ◌+◌, ◌<◌, ◌≤◌, List, [], ◌∷◌, length, map, sym, ap, ◌∙◌, refl, subst, arith, eq-eqb}
use native.Mathlib.Decide.{dec_le}
use Rattle.alg_core.specs.Keys.{Key, keys}
use Rattle.alg_core.specs.KeyLists.{keys_of_degree}
use Rattle.alg_core.specs.Lists.{In}
use Rattle.alg_core.specs.SpaceGrading.{AllPositive, weight, height, degree}
use Rattle.alg_core.specs.SpaceOrder.{key_order}
use Rattle.alg_core.specs.Spaces.{SpaceOver}
use Rattle.alg_core.specs.Vectors.{Vect, vectors, plus, zero_vector}
use Rattle.alg_core.proofs.KeyLists.{keys_of_degree_exact}
use Rattle.alg_core.proofs.Members.{from_map}
use Rattle.alg_core.proofs.SpanLaws.{span_ind}
use Rattle.poly_module.specs.Combinations.{Over, term_value, combination_degree}
use Rattle.poly_module.specs.Echelons.{Spans, IsEchelon}
use Rattle.poly_module.specs.Forms.{IsForm, AreForms}
use Rattle.poly_module.specs.Modules.{listed}
use Rattle.poly_module.specs.Parts.{InVariables, supp_single, supp_product}
use Rattle.poly_module.specs.Polynomials.{product, vector_ring, single_vector}
use Rattle.poly_module.specs.Products.{product_zero, one_vector_single, ring_product, ring_one}
use Rattle.poly_module.specs.Substitutions.{power, monomial_value, substitute_single}
use Rattle.poly_module.specs.Variables.{length_mul, length_one}
use Rattle.poly_module.proofs.CombinationLaws.{over_zero, over_plus, over_act, over_product, over_within, combination_value_form, combination_value_single}
use Rattle.poly_module.proofs.Echelon.{echelon_exists}
use Rattle.poly_module.proofs.OverSpans.{over_span}
use Rattle.lin_algebra.specs.declared.matrix.Matrix.{Matrix}
use Rattle.matrix_group.specs.Actions.{Invariant}
use Rattle.matrix_group.proofs.InvariantLaws.{invariant_one, invariant_product}
use Rattle.invariant_space.specs.InvariantSpaces.{IsEchelonBasis, IsInvariantForm}
use Rattle.invariant_space.proofs.EchelonBasis.{invariant_subspace}
use Rattle.secondary_gens.specs.Forms.{unit_weights}
use Rattle.secondary_gens.specs.PrintedCombinations.{combination_space}
use Rattle.secondary_gens.specs.Secondaries.{IsComplete, AreSecondaries}
use Rattle.secondary_gens.proofs.Lists.{forms_length, forms_at, listed_in}
use Rattle.secondary_gens.proofs.WalkSteps.{Form, Walked, walked_more, keeps_none}

-- the list of another set with the same members
module _ {E : Type 0} (S : SpaceOver E) (U V : Vect S.field → Type 0) (to : (v : Vect S.field) → U v → V v) (back : (v : Vect S.field) → V v → U v) where
  pub echelon_of : (vs : List (Vect S.field)) → IsEchelon S.field (key_order S) U vs → IsEchelon S.field (key_order S) V vs
  echelon_of vs e = record {
    reduced = record {
      inside = λ v i. to v (e.reduced.inside v i);
      lead = e.reduced.lead;
      monic = e.reduced.monic;
      covers = λ v t h l. e.reduced.covers v t (back v h) l;
      apart = e.reduced.apart;
      falling = e.reduced.falling;
    };
    spans = λ v h. e.spans v (back v h);
  }

module _ {E : Type 0} (S : SpaceOver E) (gens : List (Matrix E)) where
  -- a vector in the variables that each generator fixes
  abbrev pub IsFixed : Vect S.field → Type 0
  IsFixed v = InVariables S.field (length S.weights) v × Invariant S.field gens v

  fixed_one : IsFixed (vector_ring S.field).one
  fixed_one = subst IsFixed (sym (ring_one S.field))
      (subst (InVariables S.field (length S.weights)) (sym (one_vector_single S.field)) (supp_single S.field (λ t. length t.1.0 ≤ length S.weights) (0, _) (length_one (length S.weights))), invariant_one S.field gens)

  fixed_product : (u v : Vect S.field) → IsFixed u → IsFixed v → IsFixed (product S.field u v)
  unfolding keys
  fixed_product u v h g = (
    supp_product S.field (λ t. length t.1.0 ≤ length S.weights) (λ t. length t.1.0 ≤ length S.weights) (λ t. length t.1.0 ≤ length S.weights) (λ t. dec_le (length t.1.0) (length S.weights))
        (λ s t p q. length_mul (length S.weights) s.1 t.1 p q) u v h.0 g.0,
    invariant_product S.field gens u v h.1 g.1,
  )

  fixed_times : (u v : Vect S.field) → IsFixed u → IsFixed v → IsFixed ((vector_ring S.field).◌*◌ u v)
  fixed_times u v h g = subst IsFixed (sym (ring_product S.field u v)) (fixed_product u v h g)

  fixed_power : (u : Vect S.field) → IsFixed u → (n : ℕ) → IsFixed (power (vector_ring S.field) u n)
  fixed_power u h zero = fixed_one
  fixed_power u h (suc n) = fixed_times u _ h (fixed_power u h n)

  pub fixed_monomial : (xs : List (Vect S.field)) → ((v : Vect S.field) → In v xs → IsFixed v) → (a : List ℕ) → IsFixed (monomial_value (vector_ring S.field) xs a)
  fixed_monomial [] h a = fixed_one
  fixed_monomial (v ∷ xs) h [] = fixed_one
  fixed_monomial (v ∷ xs) h (e ∷ a) = fixed_times _ _ (fixed_power v (h v (inl refl)) e) (fixed_monomial xs (λ w i. h w (inr i)) a)

  -- primary invariants and invariants over which each invariant is a combination
  pub record Generate (θ I : List (Vect S.field)) (ds es : List ℕ) : Type 0 where
    pub primaries : AreForms S.field (unit_weights S) ds θ
    pub positive : AllPositive ds
    pub images : AreForms S.field (unit_weights S) es I
    pub fixed : (v : Vect S.field) → In v θ → IsFixed v
    pub fixed_images : (v : Vect S.field) → In v I → IsFixed v
    pub complete : IsComplete S.field (length S.weights) gens θ I

  module _ (θ I : List (Vect S.field)) (ds es : List ℕ) (h : Generate θ I ds es) (d : ℕ) where
    abbrev C : SpaceOver E
    C = combination_space S.field ds es

    abbrev L : List Key
    L = keys_of_degree C d

    lengths : length ds ≡ length θ
    lengths = forms_length S.field (unit_weights S) ds θ h.primaries

    lengths_images : length es ≡ length I
    lengths_images = forms_length S.field (unit_weights S) es I h.images

    has : (t : Key) → length t.1.0 ≤ length θ → t.0 < length I → combination_degree ds es t ≡ d → In t L
    unfolding degree
    has t l q w = (keys_of_degree_exact C h.positive d t).1 (record { fits = eq-eqb (length ds) (length ds) refl; variables = let n = lengths in omega arith; position = let n = lengths_images in omega arith }, w)

    inside : (t : Key) → In t L → (length t.1.0 ≤ length θ) × (t.0 < length I) × (combination_degree ds es t ≡ d)
    unfolding degree
    inside t i = let r = (keys_of_degree_exact C h.positive d t).0 i in let v = r.0.variables in let p = r.0.position in let n = lengths in let m = lengths_images in (omega arith, omega arith, r.1)

    -- the value of a term is an invariant form
    term_form : (t : Key) → In t L → IsInvariantForm S.field (length S.weights) gens d (term_value S.field θ I t)
    term_form t i =
        let r = inside t i in
        let value = fixed_product _ _ (fixed_monomial θ h.fixed t.1.0) (h.fixed_images _ (listed_in S.field I t.0 r.1)) in
        record {
          form = subst (IsForm S.field (unit_weights S) d) (combination_value_single S.field θ I t)
              (combination_value_form S.field (unit_weights S) ds es θ I h.primaries h.images d (single_vector S.field t) (supp_single S.field (λ s. combination_degree ds es s ≡ d) t r.2) (supp_single S.field (λ s. length s.1.0 ≤ length θ) t r.0));
          variables = value.0;
          invariant = value.1;
        }

    -- so the invariant forms of the degree are what these values span
    span_form : (v : Vect S.field) → Spans S.field (map (term_value S.field θ I) L) v → Form S gens θ d v
    unfolding plus zero_vector
    span_form = let sub = invariant_subspace S.field (length S.weights) gens d in
        span_ind (vectors S.field) (IsInvariantForm S.field (length S.weights) gens d) sub.zero (λ u v a b. sub.plus u v a b) (λ c u a. sub.act c u a) (map (term_value S.field θ I) L)
        (λ w i. let f = from_map (term_value S.field θ I) w L i in subst (IsInvariantForm S.field (length S.weights) gens d) f.2 (term_form f.0 f.1))

    form_over : (e : ℕ) (f : Vect S.field) → Form S gens θ e f → Over S.field θ I f
    form_over e f a = h.complete f (λ t n. (a.form t n).0) a.variables a.invariant

    form_span : (v : Vect S.field) → Form S gens θ d v → Spans S.field (map (term_value S.field θ I) L) v
    form_span v a = over_span S.field (key_order S) θ I (unit_weights S) ds es h.primaries h.images d L has (λ t i. let r = inside t i in (r.0, r.1)) v a.form (form_over d v a)

    -- and there is an echelon basis
    pub basis_exists : (basis : List (Vect S.field)) × IsEchelonBasis S gens d basis
    basis_exists = let e = echelon_exists S.field (key_order S) (map (term_value S.field θ I) L) in (e.0, echelon_of S _ _ span_form form_span e.0 e.1)

    -- where no image has the degree, each invariant form of it is a combination over what was kept before
    pub passed_over : (T : List (Vect S.field)) → Walked S gens θ d T → ((j : ℕ) → j < length I → (listed S.field I j ≡ zero_vector S.field) ⊎ (¬ (height es j ≡ d)))
        → (f : Vect S.field) → Form S gens θ d f → Over S.field θ T f
    unfolding plus zero_vector
    passed_over T w none f a = span_ind (vectors S.field) (Over S.field θ T) (over_zero S.field θ T) (λ u v x y. over_plus S.field θ T u v x y) (over_act S.field θ T) (map (term_value S.field θ I) L)
        (λ v i. let r = from_map (term_value S.field θ I) v L i in subst (Over S.field θ T) r.2 (over r.0 (inside r.0 r.1))) f (form_span f a)
      where
        lower : (t : Key) → (length t.1.0 ≤ length θ) × (t.0 < length I) × (combination_degree ds es t ≡ d) → ¬ (height es t.0 ≡ d) → Over S.field θ T (term_value S.field θ I t)
        lower t r n = subst (λ u. Over S.field θ T (product S.field u (listed S.field I t.0))) (substitute_single S.field θ (0, t.1))
            (over_product S.field θ T (single_vector S.field (0, t.1)) (listed S.field I t.0) (supp_single S.field (λ s. s.0 ≡ 0) (0, t.1) refl) (supp_single S.field (λ s. length s.1.0 ≤ length θ) (0, t.1) r.0)
            (w.covers (height es t.0) (listed S.field I t.0) (below (weight ds 0 t.1.0) (height es t.0) r.2 n) (image_form t.0 r.1)))
          where
            below : (x y : ℕ) → x + y ≡ d → ¬ (y ≡ d) → y < d
            below zero y e m = absurd (m (omega arith))
            below (suc x) y e m = omega arith

            image_form : (j : ℕ) → j < length I → IsInvariantForm S.field (length S.weights) gens (height es j) (listed S.field I j)
            image_form j l = let g = h.fixed_images _ (listed_in S.field I j l) in record { form = forms_at S.field (unit_weights S) es I h.images j l; variables = g.0; invariant = g.1 }

        over : (t : Key) → (length t.1.0 ≤ length θ) × (t.0 < length I) × (combination_degree ds es t ≡ d) → Over S.field θ T (term_value S.field θ I t)
        over t r = go (none t.0 r.1)
          where
            go : (listed S.field I t.0 ≡ zero_vector S.field) ⊎ (¬ (height es t.0 ≡ d)) → Over S.field θ T (term_value S.field θ I t)
            go (inl z) = subst (Over S.field θ T) (sym (ap (product S.field _) z ∙ product_zero S.field _)) (over_zero S.field θ T)
            go (inr n) = lower t r n

    -- the walk passes over the degree
    pub walked_past : (T : List (Vect S.field)) → Walked S gens θ d T → ((j : ℕ) → j < length I → (listed S.field I j ≡ zero_vector S.field) ⊎ (¬ (height es j ≡ d))) → Walked S gens θ (suc d) T
    walked_past T w none =
        let b = basis_exists in
        walked_more S gens θ d T T b.0 w b.1 (keeps_none (Over S.field θ) T b.0 (λ x i. passed_over T w none x (b.1.reduced.inside x i)))

    -- past the degrees of all images each invariant is a combination
    pub walked_complete : (T : List (Vect S.field)) → Walked S gens θ d T → ((j : ℕ) → j < length I → (listed S.field I j ≡ zero_vector S.field) ⊎ (height es j < d))
        → IsComplete S.field (length S.weights) gens θ T
    walked_complete T w low f p v a = over_within S.field θ I T (λ j l. each j l (low j l)) f (h.complete f p v a)
      where
        each : (j : ℕ) → j < length I → (listed S.field I j ≡ zero_vector S.field) ⊎ (height es j < d) → Over S.field θ T (listed S.field I j)
        each j l (inl z) = subst (Over S.field θ T) (sym z) (over_zero S.field θ T)
        each j l (inr m) = let g = h.fixed_images _ (listed_in S.field I j l) in
            w.covers (height es j) (listed S.field I j) m (record { form = forms_at S.field (unit_weights S) es I h.images j l; variables = g.0; invariant = g.1 })

    pub are_secondaries : (T : List (Vect S.field)) → Walked S gens θ d T → IsComplete S.field (length S.weights) gens θ T → AreSecondaries S gens θ T
    are_secondaries T w complete = record {
      bound = d;
      forms = w.forms;
      bases = w.bases;
      kept = w.kept;
      later = λ e f l a. complete f (λ t n. (a.form t n).0) a.variables a.invariant;
    }
