-- Forms: homogeneous polynomials, whose degree is by the weights of the variables alone; degrees of products and values.
--
--   key_weight ws t        the weighted degree of the monomial of a key
--   OfDegree k ws d t      the key t has position 0 and the degree d by the weights ws
--   IsForm k ws d f        f is a homogeneous polynomial of degree d by the weights ws
--   form_part k ws d f     the part of f of degree d by the weights ws
--   AreForms k ws ds fs    the polynomials fs are forms of the degrees ds
use Rattle.std.specs.Prelude.{◌≡◌, ℕ, zero, suc, ◌+◌, ◌*◌, ◌<◌, ◌≤◌, List, [], ◌∷◌, length}
use mathlib.Core.Path.{sym, ap, ◌∙◌, refl, subst}
use native.Mathlib.Decide.{ℕ_discrete}
use native.Mathlib.Omega.{arith}
use Rattle.alg_core.specs.Rings.{Linear}
use Rattle.alg_core.specs.Fields.{FieldOn}
use Rattle.alg_core.specs.Monomials.{Mon, monomials}
use Rattle.alg_core.specs.Keys.{Key, keys, times_key_product}
use Rattle.alg_core.specs.Vectors.{Vect, vectors, zero_vector, shift}
use Rattle.alg_core.specs.Spaces.{SpaceOver}
use Rattle.alg_core.specs.SpaceGrading.{weight, height, weight_mul, degree, degree_times_key}
use Rattle.poly_module.specs.Polynomials.{polynomials, polynomial_algebra, single_vector, one_vector, product, vector_ring}
use Rattle.poly_module.specs.Products.{product_linear, product_linear_left, one_vector_single, ring_product, ring_one}
use Rattle.poly_module.specs.Values.{module_of}
use Rattle.poly_module.specs.Substitutions.{power, monomial_value, substitute, substitute_homomorphism, substitute_single}
use Rattle.poly_module.specs.Parts.{Supp, IsPolynomial, InVariables, supp_weaken, supp_single, supp_product, supp_shift, linear_supp}
use Rattle.poly_module.specs.Degrees.{IsGraded, graded_part, graded_part_graded, graded_part_supp, graded_map, graded_map_below, IsHomogeneous, part}

-- the weighted degree of the monomial
abbrev pub key_weight : List ℕ → Key → ℕ
key_weight ws t = weight ws 0 t.1.0

-- two decided facts are decided together
pub dec_both : {A B : Type 0} → Dec A → Dec B → Dec (A × B)
dec_both (yes a) (yes b) = yes (a, b)
dec_both (yes a) (no b) = no (λ p. b p.1)
dec_both (no a) b = no (λ p. a p.0)

module _ {E : Type 0} (k : FieldOn E) (ws : List ℕ) where
  -- position 0 and degree d
  abbrev pub OfDegree : ℕ → Key → Type 0
  OfDegree d t = (t.0 ≡ 0) × (key_weight ws t ≡ d)

  pub of_degree : (d : ℕ) (t : Key) → Dec (OfDegree d t)
  of_degree d t = dec_both (ℕ_discrete t.0 0) (ℕ_discrete (key_weight ws t) d)

  -- a homogeneous polynomial of degree d
  abbrev pub IsForm : ℕ → Vect k → Type 0
  IsForm d f = Supp k (OfDegree d) f

  -- the part of degree d
  abbrev pub form_part : ℕ → Vect k → Vect k
  form_part d f = graded_part k (key_weight ws) d f

  -- forms of these degrees
  abbrev pub AreForms : List ℕ → List (Vect k) → Type 0
  AreForms [] [] = Unit {0}
  AreForms [] (f ∷ fs) = ⊥
  AreForms (d ∷ ds) [] = ⊥
  AreForms (d ∷ ds) (f ∷ fs) = IsForm d f × AreForms ds fs

  pub form_part_form : (d : ℕ) (f : Vect k) → IsPolynomial k f → IsForm d (form_part d f)
  form_part_form d f p t c = (graded_part_supp k (key_weight ws) d (λ s. s.0 ≡ 0) f p t c, graded_part_graded k (key_weight ws) d f t c)

  weight_keys : (s t : Key) → s.0 ≡ 0 → t.0 ≡ 0 → ((keys.◌·◌ s t).0 ≡ 0) × (key_weight ws (keys.◌·◌ s t) ≡ key_weight ws s + key_weight ws t)
  unfolding keys
  weight_keys s t p q = (omega arith, weight_mul ws s.1 t.1)

  pub form_one : IsForm 0 (one_vector k)
  unfolding weight monomials
  form_one = subst (IsForm 0) (sym (one_vector_single k)) (supp_single k (OfDegree 0) (0, monomials.one) (refl, refl))

  -- degrees of products add
  pub form_product : (d e : ℕ) (f g : Vect k) → IsForm d f → IsForm e g → IsForm (d + e) (product k f g)
  form_product d e = supp_product k (OfDegree d) (OfDegree e) (OfDegree (d + e)) (of_degree (d + e))
      (λ s t p q. let w = weight_keys s t p.0 q.0 in let a = p.1 in let b = q.1 in (w.0, omega (arith, w.1)))

  form_mul : (d e : ℕ) (f g : Vect k) → IsForm d f → IsForm e g → IsForm (d + e) ((vector_ring k).◌*◌ f g)
  form_mul d e f g h j = subst (IsForm (d + e)) (sym (ring_product k f g)) (form_product d e f g h j)

  ring_one_form : IsForm 0 (vector_ring k).one
  ring_one_form = subst (IsForm 0) (sym (ring_one k)) form_one

  pub form_power : (d : ℕ) (f : Vect k) → IsForm d f → (n : ℕ) → IsForm (d * n) (power (vector_ring k) f n)
  form_power d f h zero = subst (λ e. IsForm e (vector_ring k).one) (omega arith) ring_one_form
  form_power d f h (suc n) = subst (λ e. IsForm e ((vector_ring k).◌*◌ f (power (vector_ring k) f n))) (omega arith) (form_mul d (d * n) f _ h (form_power d f h n))

  -- a monomial at forms is a form, whose degree is the degree of the monomial by the degrees of the forms
  pub form_monomial : (ds : List ℕ) (fs : List (Vect k)) → AreForms ds fs → (i : ℕ) (a : List ℕ) → length a ≤ length fs → IsForm (weight ds i a) (monomial_value (vector_ring k) fs a)
  unfolding weight
  form_monomial [] [] h i [] l = ring_one_form
  form_monomial [] [] h i (x ∷ a) l = absurd (omega arith)
  form_monomial [] (f ∷ fs) h i a l = absurd h
  form_monomial (d ∷ ds) [] h i a l = absurd h
  form_monomial (d ∷ ds) (f ∷ fs) h i [] l = ring_one_form
  form_monomial (d ∷ ds) (f ∷ fs) h i (x ∷ a) l = form_mul (d * x) (weight ds (suc i) a) _ _ (form_power d f h.0 x) (form_monomial ds fs h.1 (suc i) a (omega arith))

  substitute_linear : (fs : List (Vect k)) → Linear (vectors k) (vectors k) (substitute k fs)
  unfolding module_of polynomial_algebra polynomials
  substitute_linear fs = record { add = (substitute_homomorphism k fs).add; act = (substitute_homomorphism k fs).act }

  form_key : (ds : List ℕ) (fs : List (Vect k)) → AreForms ds fs → (t : Key) → length t.1.0 ≤ length fs → IsForm (key_weight ds t) (substitute k fs (single_vector k t))
  form_key ds fs h t l = subst (IsForm (key_weight ds t)) (sym (substitute_single k fs t)) (form_monomial ds fs h 0 t.1.0 l)

  -- forms for the variables: a form of degree d by their degrees goes to a form of degree d
  pub form_substitute : (ds : List ℕ) (fs : List (Vect k)) → AreForms ds fs → (d : ℕ) (u : Vect k) → IsGraded k (key_weight ds) d u → InVariables k (length fs) u → IsForm d (substitute k fs u)
  form_substitute ds fs h d u g v = linear_supp k (substitute k fs) (substitute_linear fs) (λ t. (key_weight ds t ≡ d) × (length t.1.0 ≤ length fs)) (OfDegree d) (of_degree d)
      (λ t q. subst (λ e. IsForm e (substitute k fs (single_vector k t))) q.0 (form_key ds fs h t q.1)) u (λ t c. (g t c, v t c))

  -- and parts go to parts
  pub part_substitute : (ds : List ℕ) (fs : List (Vect k)) → AreForms ds fs → (d : ℕ) (u : Vect k) → InVariables k (length fs) u → form_part d (substitute k fs u) ≡ substitute k fs (graded_part k (key_weight ds) d u)
  part_substitute ds fs h d u v = subst (λ e. form_part e (substitute k fs u) ≡ substitute k fs (graded_part k (key_weight ds) d u)) (omega arith)
      (graded_map k (key_weight ds) (key_weight ws) 0 (substitute k fs) (substitute_linear fs) (λ t. length t.1.0 ≤ length fs)
      (λ t l. subst (λ e. IsGraded k (key_weight ws) e (substitute k fs (single_vector k t))) (omega arith) (λ s c. (form_key ds fs h t l s c).1)) d u v)

module _ {E : Type 0} (S : SpaceOver E) where
  abbrev k : FieldOn E
  k = S.field

  -- a form is homogeneous in a space whose position 0 has the shift 0
  pub form_homogeneous : height S.shifts 0 ≡ 0 → (d : ℕ) (f : Vect S.field) → IsForm S.field S.weights d f → IsHomogeneous S d f
  unfolding degree
  form_homogeneous z d = supp_weaken k (λ t. (t.0 ≡ 0) × (key_weight S.weights t ≡ d)) (λ t. degree S t ≡ d)
      (λ t p. let q : height S.shifts t.0 ≡ 0 = ap (height S.shifts) p.0 ∙ z in let w = p.1 in omega arith)

  pub homogeneous_form : height S.shifts 0 ≡ 0 → (d : ℕ) (f : Vect S.field) → IsPolynomial S.field f → IsHomogeneous S d f → IsForm S.field S.weights d f
  unfolding degree
  homogeneous_form z d f p h t c = (p t c, let q : height S.shifts t.0 ≡ 0 = ap (height S.shifts) (p t c) ∙ z in let w = h t c in omega arith)

  degree_keys : (s t : Key) → s.0 ≡ 0 → degree S (keys.◌·◌ s t) ≡ key_weight S.weights s + degree S t
  degree_keys s t z = ap (degree S) (ap (λ i. keys.◌·◌ (i, s.1) t) z ∙ sym (times_key_product s.1 t)) ∙ degree_times_key S s.1 t

  -- a form times a homogeneous vector
  pub homogeneous_product : (d e : ℕ) (f v : Vect S.field) → IsForm S.field S.weights d f → IsHomogeneous S e v → IsHomogeneous S (d + e) (product S.field f v)
  homogeneous_product d e = supp_product k (λ t. (t.0 ≡ 0) × (key_weight S.weights t ≡ d)) (λ t. degree S t ≡ e) (λ t. degree S t ≡ d + e) (λ t. ℕ_discrete (degree S t) (d + e))
      (λ s t p q. let w = degree_keys s t p.0 in let a = p.1 in omega arith)

  pub homogeneous_shift : (m : Mon) (e : ℕ) (v : Vect S.field) → IsHomogeneous S e v → IsHomogeneous S (weight S.weights 0 m.0 + e) (shift S.field m v)
  homogeneous_shift m e = supp_shift k (λ t. degree S t ≡ e) (λ t. degree S t ≡ weight S.weights 0 m.0 + e) (λ t. ℕ_discrete (degree S t) _) m
      (λ t q. let w = degree_times_key S m t in omega arith)

  -- the parts of a multiple by a form
  pub part_product : (d : ℕ) (f : Vect S.field) → IsForm S.field S.weights d f → (e : ℕ) (v : Vect S.field) → part S (d + e) (product S.field f v) ≡ product S.field f (part S e v)
  part_product d f h e v = graded_map k (degree S) (degree S) d (product k f) (product_linear k f) (λ t. Unit {0})
      (λ t q. homogeneous_product d (degree S t) f _ h (supp_single k (λ s. degree S s ≡ degree S t) t refl)) e v (λ t c. tt)

  pub part_product_below : (d : ℕ) (f : Vect S.field) → IsForm S.field S.weights d f → (e : ℕ) → e < d → (v : Vect S.field) → part S e (product S.field f v) ≡ zero_vector S.field
  part_product_below d f h e low v = graded_map_below k (degree S) (degree S) d (product k f) (product_linear k f) (λ t. Unit {0})
      (λ t q. homogeneous_product d (degree S t) f _ h (supp_single k (λ s. degree S s ≡ degree S t) t refl)) e low v (λ t c. tt)

  -- the parts of a multiple of a homogeneous vector
  multiple_degree : (e : ℕ) (v : Vect S.field) → IsHomogeneous S e v → (t : Key) → t.0 ≡ 0 → IsHomogeneous S (e + key_weight S.weights t) (product S.field (single_vector S.field t) v)
  multiple_degree e v h t z = subst (λ n. IsHomogeneous S n (product k (single_vector k t) v)) (omega arith)
      (homogeneous_product (key_weight S.weights t) e _ v (supp_single k (λ s. (s.0 ≡ 0) × (key_weight S.weights s ≡ key_weight S.weights t)) t (z, refl)) h)

  pub product_part : (e : ℕ) (v : Vect S.field) → IsHomogeneous S e v → (d : ℕ) (f : Vect S.field) → IsPolynomial S.field f → part S (e + d) (product S.field f v) ≡ product S.field (form_part S.field S.weights d f) v
  product_part e v h = graded_map k (key_weight S.weights) (degree S) e (λ f. product k f v) (product_linear_left k v) (λ t. t.0 ≡ 0) (multiple_degree e v h)

  pub product_part_below : (e : ℕ) (v : Vect S.field) → IsHomogeneous S e v → (d : ℕ) → d < e → (f : Vect S.field) → IsPolynomial S.field f → part S d (product S.field f v) ≡ zero_vector S.field
  product_part_below e v h = graded_map_below k (key_weight S.weights) (degree S) e (λ f. product k f v) (product_linear_left k v) (λ t. t.0 ≡ 0) (multiple_degree e v h)
