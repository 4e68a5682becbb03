-- The action of a matrix on the variables keeps the degrees of polynomials in variables and marks.
use Rattle.std.proofs.Common.{◌≡◌, ◌∙◌, ◌+◌, ◌*◌, ◌<◌, ◌≤◌, ℕ, zero, suc, List, [], ◌∷◌, ◌++◌, length, get_or, replicate, refl, sym, ap, subst, arith}
use Rattle.alg_core.specs.Fields.{FieldOn, Scalar}
use Rattle.alg_core.specs.Keys.{Key}
use Rattle.alg_core.specs.SpaceGrading.{weight}
use Rattle.alg_core.specs.Spaces.{SpaceOver}
use Rattle.alg_core.specs.Vectors.{Vect}
use Rattle.poly_module.specs.Polynomials.{vector_ring}
use Rattle.poly_module.specs.Products.{ring_one, ring_product}
use Rattle.poly_module.specs.Substitutions.{variable_vector}
use Rattle.poly_module.specs.Parts.{InVariables, linear_supp}
use Rattle.poly_module.specs.Degrees.{IsHomogeneous}
use Rattle.poly_module.specs.Forms.{OfDegree, of_degree, IsForm, form_one, form_product, form_power, form_homogeneous, homogeneous_form}
use Rattle.poly_module.specs.Variables.{variables, variables_image, length_variables}
use Rattle.poly_module.specs.Marks.{IsMixed}
use Rattle.poly_module.specs.SpaceVectors.{IsUpTo}
use Rattle.poly_module.proofs.MarkValues.{variables_forms}
use Rattle.matrix_group.specs.Actions.{image, act}
use Rattle.matrix_group.specs.Families.{power_product, family_value}
use Rattle.matrix_group.proofs.ActionLaws.{act_linear}
use Rattle.matrix_group.proofs.FamilyLaws.{family_linear, family_single}
use Rattle.matrix_group.proofs.LinearForms.{linear_form_supp, image_has}
use Rattle.finite_certificate.specs.MarkSpaces.{IsMarkSpace}
use Rattle.finite_certificate.proofs.LowImages.{marked_length}
use Rattle.finite_certificate.proofs.ModuleTerms.{forms_at, image_member}
use Rattle.primary_module.proofs.ValueDegrees.{up_to}

-- the first n variables have the degree 1
ones_at : (n : ℕ) (ds : List ℕ) (j : ℕ) → j < n → get_or (replicate n 1 ++ ds) j 0 ≡ 1
ones_at zero ds j h = absurd (omega arith)
ones_at (suc n) ds zero h = refl
ones_at (suc n) ds (suc j) h = ones_at n ds j (omega arith)

module _ {E : Type 0} (k : FieldOn E) (W : List ℕ) where
  variable_form_at : (j : ℕ) → j < length W → IsForm k W (get_or W j 0) (variable_vector k j)
  variable_form_at j h =
      let count = length_variables k (length W) in
      let below : j < length (variables k (length W)) = omega arith in
      subst (IsForm k W (get_or W j 0)) (sym (image_member k (variables k (length W)) j below) ∙ variables_image k (length W) j h) (forms_at k W W (variables k (length W)) (variables_forms k W) j below)

  -- a product of powers of forms
  powers : (ws : List ℕ) (f : ℕ → Vect k) (i : ℕ) (a : List ℕ) → length a ≤ length ws → ((j : ℕ) → j < length ws → IsForm k W (get_or ws j 0) (f j)) → IsForm k W (weight ws i a) (power_product (vector_ring k) f a)
  unfolding weight
  powers ws f i [] l h = subst (IsForm k W 0) (sym (ring_one k)) (form_one k W)
  powers [] f i (x ∷ a) l h = absurd (omega arith)
  powers (w ∷ ws) f i (x ∷ a) l h = subst (IsForm k W (w * x + weight ws (suc i) a)) (sym (ring_product k _ _))
      (form_product k W (w * x) (weight ws (suc i) a) _ _ (form_power k W w (f 0) (h 0 (omega arith)) x) (powers ws (λ j. f (suc j)) (suc i) a (omega arith) (λ j l. h (suc j) (omega arith))))

  module _ (n : ℕ) (short : n ≤ length W) (ones : (j : ℕ) → j < n → get_or W j 0 ≡ 1) (a : ℕ → ℕ → Scalar k) where
    image_form_at : (j : ℕ) → j < length W → IsForm k W (get_or W j 0) (image k n a j)
    image_form_at j l = image_has k (IsForm k W (get_or W j 0)) n a j
        (λ h. linear_form_supp k (OfDegree k W (get_or W j 0)) n (a j) (λ i low. subst (λ (d : ℕ). IsForm k W d (variable_vector k i)) (ones i low ∙ sym (ones j h)) (variable_form_at i (omega arith))))
        (λ h. variable_form_at j l)

    pub act_form_at : (d : ℕ) (u : Vect k) → InVariables k (length W) u → IsForm k W d u → IsForm k W d (act k n a u)
    unfolding act
    act_form_at d u vars form = linear_supp k (family_value k (image k n a)) (family_linear k (image k n a)) (λ t. OfDegree k W d t × (length t.1.0 ≤ length W)) (OfDegree k W d) (of_degree k W d)
        (λ t q. subst (IsForm k W d) (sym (family_single k (image k n a) t)) (subst (λ (e : ℕ). IsForm k W e (power_product (vector_ring k) (image k n a) t.1.0)) q.0.1 (powers W (image k n a) 0 t.1.0 q.1 image_form_at)))
        u (λ t c. (form t c, vars t c))

module _ {E : Type 0} (S : SpaceOver E) (n : ℕ) (ds : List ℕ) (space : IsMarkSpace S n ds) (r : ℕ) (count : r ≡ length ds) (rows : ℕ) (square : rows ≡ n) (a : ℕ → ℕ → Scalar S.field) where
  pub act_homogeneous : (d : ℕ) (u : Vect S.field) → IsMixed S.field n r u → IsHomogeneous S d u → IsHomogeneous S d (act S.field rows a u)
  act_homogeneous d u mixed h =
      let wide = marked_length S n ds space in
      let same : n + r ≡ length S.weights = omega arith in
      let ones : (j : ℕ) → j < rows → get_or S.weights j 0 ≡ 1 = λ j l. ap (λ (ws : List ℕ). get_or ws j 0) space.weights ∙ ones_at n ds j (omega arith) in
      form_homogeneous S space.shift d (act S.field rows a u)
      (act_form_at S.field S.weights rows (omega arith) ones a d u (subst (λ (m : ℕ). InVariables S.field m u) same mixed.variables) (homogeneous_form S space.shift d u mixed.polynomial h))

  pub act_up_to : (d : ℕ) (u : Vect S.field) → IsMixed S.field n r u → IsUpTo S d u → IsUpTo S d (act S.field rows a u)
  act_up_to = up_to S n r (act S.field rows a) (act_linear S.field rows a) act_homogeneous
