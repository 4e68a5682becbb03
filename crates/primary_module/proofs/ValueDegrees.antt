-- The degrees of values: what keeps the degree of homogeneous polynomials keeps bounds of degrees, and the values of polynomials do so.
use Rattle.std.proofs.Common.{◌≡◌, ◌∙◌, ◌+◌, ◌≤◌, ℕ, zero, suc, List, ◌++◌, length, replicate, refl, sym, ap, subst, inl, inr, ◌⊎◌, arith}
use native.Mathlib.Decide.{dec_le}
use Rattle.alg_core.specs.Rings.{Linear}
use Rattle.alg_core.specs.Fields.{FieldOn}
use Rattle.alg_core.specs.Keys.{Key}
use Rattle.alg_core.specs.Lists.{In}
use Rattle.alg_core.specs.Spaces.{SpaceOver}
use Rattle.alg_core.specs.SpaceGrading.{degree}
use Rattle.alg_core.specs.Vectors.{Vect, vectors}
use Rattle.alg_core.proofs.Members.{in_cases}
use Rattle.poly_module.specs.MonomialVariables.{variable}
use Rattle.poly_module.specs.Polynomials.{single_vector}
use Rattle.poly_module.specs.Substitutions.{variable_vector}
use Rattle.poly_module.specs.Parts.{Supp, IsPolynomial, InVariables, supp_single, linear_supp}
use Rattle.poly_module.specs.Degrees.{IsHomogeneous}
use Rattle.poly_module.specs.Forms.{key_weight, IsForm, form_homogeneous, homogeneous_form}
use Rattle.poly_module.specs.Variables.{variables, variables_from, substitute_linear, substitute_polynomial, substitute_in_variables}
use Rattle.poly_module.specs.Combinations.{mark_value}
use Rattle.poly_module.specs.Marks.{IsMixed}
use Rattle.poly_module.specs.SpaceVectors.{IsUpTo}
use Rattle.matrix_group.proofs.LinearForms.{variable_polynomial, variable_in_variables}
use Rattle.finite_certificate.specs.MarkSpaces.{IsMarkSpace, ArePositiveForms}
use Rattle.finite_certificate.proofs.ModuleTerms.{weight_variables}
use Rattle.finite_certificate.proofs.PowerForms.{value_form}

module _ {E : Type 0} (k : FieldOn E) where
  -- the variables themselves
  variables_from_each : (i m n : ℕ) → i + m ≤ n → (x : Vect k) → In x (variables_from k i m) → IsPolynomial k x × InVariables k n x
  unfolding variables_from
  variables_from_each i zero n h x j = absurd j
  variables_from_each i (suc m) n h x (inl e) = (subst (IsPolynomial k) e (variable_polynomial k i), subst (InVariables k n) e (variable_in_variables k i n (omega arith)))
  variables_from_each i (suc m) n h x (inr j) = variables_from_each (suc i) m n (omega arith) x j

  module _ (n : ℕ) (θ : List (Vect k)) (each : (f : Vect k) → In f θ → IsPolynomial k f × InVariables k n f) where
    images_each : (x : Vect k) → In x (variables k n ++ θ) → IsPolynomial k x × InVariables k n x
    unfolding variables
    images_each x i = go (in_cases x (variables k n) θ i)
      where
        go : In x (variables k n) ⊎ In x θ → IsPolynomial k x × InVariables k n x
        go (inl j) = variables_from_each 0 n n (omega arith) x j
        go (inr j) = each x j

    -- a value is a polynomial in the variables
    pub value_polynomial : (u : Vect k) → IsPolynomial k (mark_value k n θ u)
    value_polynomial u = substitute_polynomial k (variables k n ++ θ) (λ x i. (images_each x i).0) u

    pub value_variables : (u : Vect k) → InVariables k n (mark_value k n θ u)
    value_variables u = substitute_in_variables k n (variables k n ++ θ) (λ x i. (images_each x i).1) u

module _ {E : Type 0} (S : SpaceOver E) (n r : ℕ) where
  -- what keeps degrees keeps bounds of degrees
  pub up_to : (f : Vect S.field → Vect S.field) → Linear (vectors S.field) (vectors S.field) f
      → ((d : ℕ) (u : Vect S.field) → IsMixed S.field n r u → IsHomogeneous S d u → IsHomogeneous S d (f u))
      → (d : ℕ) (u : Vect S.field) → IsMixed S.field n r u → IsUpTo S d u → IsUpTo S d (f u)
  up_to f linear keeps d u mixed low = linear_supp S.field f linear (λ t. (t.0 ≡ 0) × (length t.1.0 ≤ n + r) × (degree S t ≤ d)) (λ t. degree S t ≤ d) (λ t. dec_le (degree S t) d) single u (λ t c. (mixed.polynomial t c, mixed.variables t c, low t c))
    where
      single : (t : Key) → (t.0 ≡ 0) × (length t.1.0 ≤ n + r) × (degree S t ≤ d) → IsUpTo S d (f (single_vector S.field t))
      single t q s c =
          let one : IsMixed S.field n r (single_vector S.field t) = record { polynomial = supp_single S.field (λ s. s.0 ≡ 0) t q.0; variables = supp_single S.field (λ s. length s.1.0 ≤ n + r) t q.1 } in
          let e = keeps (degree S t) (single_vector S.field t) one (supp_single S.field (λ s. degree S s ≡ degree S t) t refl) s c in
          let bound = q.2 in
          omega arith

module _ {E : Type 0} (S : SpaceOver E) (n : ℕ) (ds : List ℕ) (space : IsMarkSpace S n ds) (θ : List (Vect S.field)) (primaries : ArePositiveForms S.field n ds θ)
    (each : (f : Vect S.field) → In f θ → IsPolynomial S.field f × InVariables S.field n f) where
  pub value_homogeneous : (d : ℕ) (u : Vect S.field) → IsMixed S.field n (length θ) u → IsHomogeneous S d u → IsHomogeneous S d (mark_value S.field n θ u)
  value_homogeneous d u mixed h = form_homogeneous S space.shift d (mark_value S.field n θ u) (subst (λ (ws : List ℕ). IsForm S.field ws d (mark_value S.field n θ u)) (sym space.weights) whole)
    where
      form : IsForm S.field (replicate n 1) d (mark_value S.field n θ u)
      form = value_form S.field n ds θ primaries.forms d u (subst (λ (ws : List ℕ). IsForm S.field ws d u) space.weights (homogeneous_form S space.shift d u mixed.polynomial h)) mixed.variables

      whole : IsForm S.field (replicate n 1 ++ ds) d (mark_value S.field n θ u)
      whole t c = ((form t c).0, weight_variables n ds 0 t.1.0 (value_variables S.field n θ each u t c) ∙ (form t c).1)

  pub value_up_to : (d : ℕ) (u : Vect S.field) → IsMixed S.field n (length θ) u → IsUpTo S d u → IsUpTo S d (mark_value S.field n θ u)
  value_up_to = up_to S n (length θ) (mark_value S.field n θ) (substitute_linear S.field _) value_homogeneous
