-- Coordinates and differences are additive, and multiples by polynomials in the values of the marks go to multiples by those in the marks.
use Rattle.std.proofs.Common.{◌≡◌, ◌∙◌, ◌+◌, ◌<◌, ◌≤◌, ℕ, List, length, sym, ap, ap₂, subst, inl, inr, ◌⊎◌}
use Rattle.alg_core.specs.Fields.{FieldOn}
use Rattle.alg_core.specs.Keys.{Key, keys}
use Rattle.alg_core.specs.Monomials.{Mon, monomials, mon_same}
use Rattle.alg_core.specs.MonomialParts.{variable_part, key_as_marks}
use Rattle.alg_core.specs.PolynomialSpaces.{plain_space}
use Rattle.alg_core.specs.SpaceOrder.{key_order}
use Rattle.alg_core.specs.Vectors.{Vect, plus, zero_vector, scale}
use Rattle.alg_core.proofs.MonomialParts.{variable_part_mul, variable_part_as_marks, length_variable_part}
use Rattle.alg_core.proofs.VectorLaws.{plus_swap}
use Rattle.poly_module.specs.Polynomials.{product}
use Rattle.poly_module.specs.Products.{product_plus}
use Rattle.poly_module.specs.Parts.{Supp, IsPolynomial, InVariables, supp_zero, supp_plus, supp_scale, supp_single, supp_product, linear_supp}
use Rattle.poly_module.specs.Modules.{LeadBy, listed}
use Rattle.poly_module.specs.Substitutions.{substitute, substitute_zero, substitute_plus, substitute_scale, substitute_product}
use Rattle.poly_module.specs.Variables.{product_polynomial, product_in_variables}
use Rattle.poly_module.specs.Marks.{in_marks}
use Rattle.poly_module.proofs.Marks.{in_marks_linear, in_marks_single, in_marks_polynomial, in_marks_variables, mark_value_in_marks}
use Rattle.lin_algebra.specs.declared.matrix.Matrix.{Matrix}
use Rattle.lin_algebra.specs.Matrices.{entries as cells_of}
use Rattle.matrix_group.specs.Actions.{act_by}
use Rattle.matrix_group.proofs.ActionLaws.{act_plus, act_product}
use Rattle.finite_certificate.specs.Ideals.{InIdeal}
use Rattle.finite_certificate.specs.MarkSpaces.{ArePositiveForms}
use Rattle.finite_certificate.specs.StandardMonomials.{IsStandard, IsCoordinates}
use Rattle.finite_certificate.proofs.Coordinates.{standard_decided}
use Rattle.primary_module.specs.PrimaryModules.{IsDifference}
use Rattle.primary_module.proofs.ImageValues.{marks_fixed}

module _ {E : Type 0} (k : FieldOn E) (n : ℕ) (θ : List (Vect k)) where
  abbrev Standard : Key → Type 0
  Standard t = IsStandard k n θ (variable_part n t.1)

  pub coordinates_zero : IsCoordinates k n θ (zero_vector k) (zero_vector k)
  coordinates_zero = record {
    mixed = record { polynomial = supp_zero k (λ t. t.0 ≡ 0); variables = supp_zero k (λ t. length t.1.0 ≤ n + length θ) };
    standard = supp_zero k Standard;
    value = substitute_zero k _;
  }

  pub coordinates_plus : (f g u v : Vect k) → IsCoordinates k n θ f u → IsCoordinates k n θ g v → IsCoordinates k n θ (plus k f g) (plus k u v)
  coordinates_plus f g u v a b = record {
    mixed = record {
      polynomial = supp_plus k (λ t. t.0 ≡ 0) u v a.mixed.polynomial b.mixed.polynomial;
      variables = supp_plus k (λ t. length t.1.0 ≤ n + length θ) u v a.mixed.variables b.mixed.variables;
    };
    standard = supp_plus k Standard u v a.standard b.standard;
    value = substitute_plus k _ u v ∙ ap₂ (plus k) a.value b.value;
  }

  pub coordinates_scale : (c : E) (f u : Vect k) → IsCoordinates k n θ f u → IsCoordinates k n θ (scale k c f) (scale k c u)
  coordinates_scale c f u a = record {
    mixed = record {
      polynomial = supp_scale k (λ t. t.0 ≡ 0) c u a.mixed.polynomial;
      variables = supp_scale k (λ t. length t.1.0 ≤ n + length θ) c u a.mixed.variables;
    };
    standard = supp_scale k Standard c u a.standard;
    value = substitute_scale k _ c u ∙ ap (scale k c) a.value;
  }

  -- polynomials in the marks have no variable
  marks_alone : (c : Vect k) → Supp k (λ t. variable_part n t.1 ≡ monomials.one) (in_marks k n c)
  marks_alone c = linear_supp k (in_marks k n) (in_marks_linear k n) (λ t. Unit {0}) (λ t. variable_part n t.1 ≡ monomials.one) (λ t. mon_same (variable_part n t.1) monomials.one)
      (λ t q. subst (Supp k (λ t. variable_part n t.1 ≡ monomials.one)) (sym (in_marks_single k n t)) (supp_single k (λ t. variable_part n t.1 ≡ monomials.one) (key_as_marks n t) (variable_part_as_marks n t.1))) c (λ t h. tt)

  module _ (ds : List ℕ) (primaries : ArePositiveForms k n ds θ) where
    standard_test : (t : Key) → Dec (Standard t)
    standard_test t = go (standard_decided k n ds θ primaries (variable_part n t.1) (length_variable_part n t.1))
      where
        go : IsStandard k n θ (variable_part n t.1) ⊎ ((f : Vect k) × InIdeal k θ f × LeadBy k (key_order (plain_space k n)) f (0, variable_part n t.1)) → Dec (Standard t)
        go (inl s) = yes s
        go (inr l) = no (λ s. s l.0 l.1 l.2)

    marks_standard : (s t : Key) → variable_part n s.1 ≡ monomials.one → Standard t → Standard (keys.◌·◌ s t)
    unfolding keys
    marks_standard s t one standard = subst (IsStandard k n θ)
        (sym (variable_part_mul n s.1 t.1 ∙ ap (λ (m : Mon). monomials.◌·◌ m (variable_part n t.1)) one ∙ monomials.comm monomials.one (variable_part n t.1) ∙ monomials.mul_one (variable_part n t.1))) standard

    pub coordinates_marks : (c f u : Vect k) → IsPolynomial k c → InVariables k (length θ) c → IsCoordinates k n θ f u → IsCoordinates k n θ (product k (substitute k θ c) f) (product k (in_marks k n c) u)
    coordinates_marks c f u poly vars a = record {
      mixed = record {
        polynomial = product_polynomial k (in_marks k n c) u (in_marks_polynomial k n c poly) a.mixed.polynomial;
        variables = product_in_variables k (n + length θ) (in_marks k n c) u (in_marks_variables k n (length θ) c vars) a.mixed.variables;
      };
      standard = supp_product k (λ t. variable_part n t.1 ≡ monomials.one) Standard Standard standard_test marks_standard (in_marks k n c) u (marks_alone c) a.standard;
      value = substitute_product k _ (in_marks k n c) u ∙ ap₂ (product k) (mark_value_in_marks k n θ c) a.value;
    }

  module _ (m : Matrix E) where
    pub difference_plus : (f g u v : Vect k) → IsDifference k n θ m f u → IsDifference k n θ m g v → IsDifference k n θ m (plus k f g) (plus k u v)
    difference_plus f g u v a b = record {
      difference = plus k a.difference b.difference;
      is = plus_swap k a.difference b.difference f g ∙ ap₂ (plus k) a.is b.is ∙ sym (act_plus k m.rows (cells_of k m) f g);
      coordinates = coordinates_plus a.difference b.difference u v a.coordinates b.coordinates;
    }

    -- where the matrix fixes the values of the marks
    pub difference_marks : (ds : List ℕ) → ArePositiveForms k n ds θ → m.rows ≡ n → ((j : ℕ) → j < length θ → act_by k m (listed k θ j) ≡ listed k θ j)
        → (c f u : Vect k) → IsPolynomial k c → InVariables k (length θ) c → IsDifference k n θ m f u → IsDifference k n θ m (product k (substitute k θ c) f) (product k (in_marks k n c) u)
    difference_marks ds primaries square fixed c f u poly vars a =
        let value = substitute k θ c in
        record {
          difference = product k value a.difference;
          is = sym (product_plus k value a.difference f) ∙ ap (product k value) a.is
              ∙ ap (λ w. product k w (act_by k m f)) (sym (marks_fixed k n θ m.rows square (cells_of k m) fixed c)) ∙ sym (act_product k m.rows (cells_of k m) value f);
          coordinates = coordinates_marks ds primaries c a.difference u poly vars a.coordinates;
        }
