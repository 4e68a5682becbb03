-- Values of polynomials in the first marks: they lie in the ideal of the first members of a list of forms.
use Rattle.std.proofs.Common.{◌≡◌, ◌∙◌, ◌⊎◌, ◌+◌, ◌<◌, ◌≤◌, ℕ, zero, suc, List, [], ◌∷◌, ◌++◌, length, replicate, append_assoc, refl, sym, ap, ap₂, subst, inl, inr, arith}
use Rattle.std.specs.Prelude.{All}
use Rattle.std.proofs.lemmas.List.{length-append}
use Rattle.std.proofs.lemmas.List.Elements.{All-nil}
use Rattle.alg_core.specs.Fields.{FieldOn}
use Rattle.alg_core.specs.KeyOrders.{OrderOn}
use Rattle.alg_core.specs.Keys.{Key, keys}
use Rattle.alg_core.specs.Lists.{In}
use Rattle.alg_core.specs.ModuleLaws as modules
use Rattle.alg_core.specs.Vectors.{Vect, vectors, plus}
use Rattle.alg_core.proofs.Members.{in_cases}
use Rattle.poly_module.specs.Combinations.{mark_value}
use Rattle.poly_module.specs.Forms.{AreForms}
use Rattle.poly_module.specs.Modules.{IsSubspace, listed}
use Rattle.poly_module.specs.MonomialVariables.{variable}
use Rattle.poly_module.specs.Parts.{Supp, IsPolynomial, InVariables, supp_single}
use Rattle.poly_module.specs.Polynomials.{single_vector, product, vector_ring}
use Rattle.poly_module.specs.Products.{product_single, product_comm}
use Rattle.poly_module.specs.Signs.{minus}
use Rattle.poly_module.specs.Substitutions.{image, variable_vector, substitute_product}
use Rattle.poly_module.specs.Variables.{variables, variables_from, length_variables, substitute_linear, substitute_agree, substitute_polynomial, substitute_in_variables}
use Rattle.poly_module.proofs.MarkValues.{mark_value_mark}
use Rattle.poly_module.proofs.ModuleElements.{module_subspace, module_product, module_member}
use Rattle.poly_module.proofs.RelationIdeals.{linear_in_subspace}
use Rattle.poly_module.proofs.SpaceVectorLaws.{minus_unique}
use Rattle.module_groebner.proofs.Families.{all_in, in_all}
use Rattle.finite_certificate.specs.Ideals.{InIdeal}
use Rattle.finite_certificate.specs.MarkSpaces.{ArePositiveForms}
use Rattle.finite_certificate.proofs.ModuleTerms.{variable_length}
use Rattle.groebner_hom.proofs.MarkedKeys.{MarkBelow, the_mark, variable_divides}

module _ {E : Type 0} (k : FieldOn E) where
  pub image_front : (xs ys : List (Vect k)) (i : ℕ) → i < length xs → image (vector_ring k) (xs ++ ys) i ≡ image (vector_ring k) xs i
  image_front [] ys i h = absurd (omega arith)
  image_front (x ∷ xs) ys zero h = refl
  image_front (x ∷ xs) ys (suc i) h = image_front xs ys i (omega arith)

  pub image_at : (xs : List (Vect k)) (y : Vect k) (ys : List (Vect k)) → image (vector_ring k) (xs ++ y ∷ ys) (length xs) ≡ y
  image_at [] y ys = refl
  image_at (x ∷ xs) y ys = image_at xs y ys

  -- the other summand of an element
  pub other_summand : (U : Vect k → Type 0) → IsSubspace k U → (x y z : Vect k) → plus k y x ≡ z → U z → U x → U y
  unfolding minus
  other_summand U sub x y z e uz ux = subst U (sym (minus_unique k y z x e)) (sub.plus z _ uz (subst U (sym (modules.minus_is (vectors k) x)) (sub.act _ x ux)))

  variable_given : (i m : ℕ) (x : Vect k) → In x (variables_from k i m) → (l : ℕ) × (l < i + m) × (variable_vector k l ≡ x)
  unfolding variables_from
  variable_given i zero x p = absurd p
  variable_given i (suc m) x (inl e) = (i, omega arith, e)
  variable_given i (suc m) x (inr p) = let r = variable_given (suc i) m x p in (r.0, (let l = r.1 in omega arith), r.2)

  module _ (n : ℕ) where
    abbrev Plain : Vect k → Type 0
    Plain x = IsPolynomial k x × InVariables k n x

    variable_plain : (x : Vect k) → In x (variables k n) → Plain x
    unfolding variables variable_vector
    variable_plain x p =
        let r = variable_given 0 n x p in
        let l = r.1 in
        subst Plain r.2 (supp_single k (λ t. t.0 ≡ 0) (0, variable r.0) refl, supp_single k (λ t. length t.1.0 ≤ n) (0, variable r.0) (variable_length n r.0 (omega arith)))

    -- the members of a list of forms
    pub form_plain : (ds : List ℕ) (θ : List (Vect k)) → ArePositiveForms k n ds θ → (f : Vect k) → In f θ → IsPolynomial k f × InVariables k n f
    form_plain ds θ h f i = (go ds θ h.forms i, all_in (InVariables k n) θ h.variables f i)
      where
        go : (es : List ℕ) (fs : List (Vect k)) → AreForms k (replicate n 1) es fs → In f fs → IsPolynomial k f
        go [] [] h i = absurd i
        go [] (g ∷ fs) h i = absurd h
        go (d ∷ es) [] h i = absurd h
        go (d ∷ es) (g ∷ fs) h (inl e) = subst (IsPolynomial k) e (λ t c. (h.0 t c).0)
        go (d ∷ es) (g ∷ fs) h (inr i) = go es fs h.1 i

    -- values are polynomials in the variables
    module _ (θ : List (Vect k)) (given : (f : Vect k) → In f θ → IsPolynomial k f × InVariables k n f) where
      image_plain : (x : Vect k) → In x (variables k n ++ θ) → Plain x
      image_plain x i = at (in_cases x (variables k n) θ i)
        where
          at : In x (variables k n) ⊎ In x θ → Plain x
          at (inl p) = variable_plain x p
          at (inr p) = given x p

      pub value_polynomial : (u : Vect k) → IsPolynomial k (mark_value k n θ u)
      value_polynomial = substitute_polynomial k (variables k n ++ θ) (λ x i. (image_plain x i).0)

      pub value_variables : (u : Vect k) → InVariables k n (mark_value k n θ u)
      value_variables = substitute_in_variables k n (variables k n ++ θ) (λ x i. (image_plain x i).1)

      -- the value of a polynomial with one of the first marks in each term
      pub value_ideal : OrderOn Key → (before : List (Vect k)) (j : ℕ) → ((i : ℕ) → i < j → image (vector_ring k) θ i ≡ listed k before i)
          → (u : Vect k) → Supp k (MarkBelow n j) u → InIdeal k before (mark_value k n θ u)
      unfolding variable_vector keys
      value_ideal o before j images = linear_in_subspace k o (mark_value k n θ) (substitute_linear k _) (InIdeal k before) (module_subspace k (listed k before)) (MarkBelow n j) single
        where
          single : (t : Key) → MarkBelow n j t → InIdeal k before (mark_value k n θ (single_vector k t))
          single t m =
              let r = the_mark n j t m in
              let d = variable_divides (n + r.0) t.1 r.2 in
              let c = single_vector k (t.0, d.0) in
              let mark = variable_vector k (n + r.0) in
              let zero_first : t.0 ≡ 0 + t.0 = omega arith in
              let split : single_vector k t ≡ product k mark c = ap₂ (λ i a. single_vector k (i, a)) zero_first (sym d.1) ∙ sym (product_single k (0, variable (n + r.0)) (t.0, d.0)) in
              subst (InIdeal k before)
              (sym (ap (mark_value k n θ) split ∙ substitute_product k _ mark c ∙ ap (λ x. product k x (mark_value k n θ c)) (mark_value_mark k n θ r.0 ∙ images r.0 r.1) ∙ product_comm k _ _))
              (module_product k (listed k before) (mark_value k n θ c) (listed k before r.0) (value_polynomial c) (module_member k (listed k before) r.0))

    -- values by the first members of a list alone
    pub value_before : (before rest : List (Vect k)) (u : Vect k) → InVariables k (n + length before) u → mark_value k n before u ≡ mark_value k n (before ++ rest) u
    value_before before rest = substitute_agree k (n + length before) (variables k n ++ before) (variables k n ++ (before ++ rest)) (λ i h.
        let a = length-append (variables k n) before in
        let b = length_variables k n in
        sym (ap (λ l. image (vector_ring k) l i) (sym (append_assoc (variables k n) before rest)) ∙ image_front (variables k n ++ before) rest i (omega arith)))

    -- a list of forms before and after a member
    pub record Cut (ds : List ℕ) (θ : List (Vect k)) (j : ℕ) : Type 0 where
      pub before : List (Vect k)
      pub member : Vect k
      pub after : List (Vect k)
      pub degrees : List ℕ
      pub others : List ℕ
      pub is : before ++ member ∷ after ≡ θ
      pub weights : degrees ++ others ≡ ds
      pub count : length before ≡ j
      pub forms : ArePositiveForms k n degrees before

    all_cons : (x : Vect k) (xs : List (Vect k)) → InVariables k n x → All (InVariables k n) xs → All (InVariables k n) (x ∷ xs)
    all_cons x xs p h = in_all (InVariables k n) (x ∷ xs) each
      where
        each : (y : Vect k) → In y (x ∷ xs) → InVariables k n y
        each y (inl e) = subst (InVariables k n) e p
        each y (inr i) = all_in (InVariables k n) xs h y i

    pub cut : (ds : List ℕ) (θ : List (Vect k)) (j : ℕ) → ArePositiveForms k n ds θ → j < length θ → Cut ds θ j
    cut ds [] j h l = absurd (omega arith)
    cut [] (f ∷ fs) j h l = absurd h.forms
    cut (d ∷ ds) (f ∷ fs) zero h l = record {
      before = [];
      member = f;
      after = fs;
      degrees = [];
      others = d ∷ ds;
      is = refl;
      weights = refl;
      count = refl;
      forms = record { forms = tt; variables = All-nil (InVariables k n); positive = tt };
    }
    cut (d ∷ ds) (f ∷ fs) (suc j) h l =
        let tail : All (InVariables k n) fs = λ i y w. h.variables (suc i) y (omega arith) in
        let r = cut ds fs j (record { forms = h.forms.1; variables = tail; positive = h.positive.1 }) (omega arith) in
        record {
          before = f ∷ r.before;
          member = r.member;
          after = r.after;
          degrees = d ∷ r.degrees;
          others = r.others;
          is = ap (λ l. f ∷ l) r.is;
          weights = ap (λ l. d ∷ l) r.weights;
          count = ap suc r.count;
          forms = record { forms = (h.forms.0, r.forms.forms); variables = all_cons f r.before (h.variables 0 f (omega arith)) r.forms.variables; positive = (h.positive.0, r.forms.positive) };
        }
