-- Values of polynomials in variables and marks: polynomials in the variables stay, each mark has its value, degrees are kept.
use Rattle.std.proofs.Common.{◌≡◌, ℕ, zero, suc, ◌+◌, ◌<◌, List, [], ◌∷◌, ◌++◌, length, sym, ap, ◌∙◌, refl, subst, append_assoc, arith}
use Rattle.std.proofs.lemmas.List.{length-append}
use Rattle.alg_core.specs.Rings.{Ring}
use Rattle.alg_core.specs.Fields.{FieldOn}
use Rattle.alg_core.specs.Monomials.{trimmed, trimmed_cons, mono}
use Rattle.alg_core.specs.SpaceGrading.{weight}
use Rattle.alg_core.specs.Vectors.{Vect}
use Rattle.poly_module.specs.MonomialVariables.{after_zeros, variable}
use Rattle.poly_module.specs.Polynomials.{vector_ring}
use Rattle.poly_module.specs.Substitutions.{image, substitute_variable, variable_vector}
use Rattle.poly_module.specs.Parts.{IsPolynomial, InVariables, supp_single}
use Rattle.poly_module.specs.Variables.{variables, variables_from, variables_image, length_variables, substitute_fixed}
use Rattle.poly_module.specs.Degrees.{IsGraded}
use Rattle.poly_module.specs.Forms.{key_weight, OfDegree, IsForm, AreForms, form_substitute}
use Rattle.poly_module.specs.Combinations.{mark_value}

module _ {S : Type 0} (Y : Ring S) where
  image_left : (xs ys : List S) (i : ℕ) → i < length xs → image Y (xs ++ ys) i ≡ image Y xs i
  image_left [] ys i h = absurd (omega arith)
  image_left (x ∷ xs) ys zero h = refl
  image_left (x ∷ xs) ys (suc i) h = image_left xs ys i (omega arith)

  image_right : (xs ys : List S) (n i : ℕ) → length xs ≡ n → image Y (xs ++ ys) (n + i) ≡ image Y ys i
  image_right [] ys n i e = ap (image Y ys) (omega arith)
  image_right (x ∷ xs) ys zero i e = absurd (omega arith)
  image_right (x ∷ xs) ys (suc n) i e = ap (image Y (x ∷ (xs ++ ys))) (suc_first n i) ∙ image_right xs ys n i (omega arith)
    where
      suc_first : (n i : ℕ) → suc n + i ≡ suc (n + i)
      suc_first n i = omega arith

-- the exponents of a variable
variable_exponents : (i : ℕ) → (variable i).0 ≡ after_zeros i (1 ∷ [])
unfolding variable mono trimmed trimmed_cons after_zeros
variable_exponents i = go i
  where
    one_more : (l a : List ℕ) (x : ℕ) → l ≡ x ∷ a → trimmed_cons 0 l ≡ 0 ∷ l
    one_more [] a x e = cc
    one_more (y ∷ l) a x e = refl

    begins : (i : ℕ) → (x : ℕ) × (a : List ℕ) × (after_zeros i (1 ∷ []) ≡ x ∷ a)
    begins zero = (1, [], refl)
    begins (suc i) = (0, after_zeros i (1 ∷ []), refl)

    go : (i : ℕ) → trimmed (after_zeros i (1 ∷ [])) ≡ after_zeros i (1 ∷ [])
    go zero = refl
    go (suc i) = let b = begins i in ap (trimmed_cons 0) (go i) ∙ one_more (after_zeros i (1 ∷ [])) b.1 b.0 b.2

-- the weight of a variable
weight_variable : (us : List ℕ) (w : ℕ) (vs : List ℕ) (j : ℕ) → weight (us ++ (w ∷ vs)) j (after_zeros (length us) (1 ∷ [])) ≡ w
unfolding weight after_zeros
weight_variable [] w vs j = omega arith
weight_variable (u ∷ us) w vs j = let h = weight_variable us w vs (suc j) in omega arith

module _ {E : Type 0} (k : FieldOn E) where
  -- polynomials in the first n variables stay
  pub mark_value_polynomial : (n : ℕ) (θ : List (Vect k)) (u : Vect k) → IsPolynomial k u → InVariables k n u → mark_value k n θ u ≡ u
  mark_value_polynomial n θ = substitute_fixed k n (variables k n ++ θ) (λ i h. let l : length (variables k n) ≡ n = length_variables k n in image_left (vector_ring k) (variables k n) θ i (omega arith) ∙ variables_image k n i h)

  -- the variable after the first n and j more is a mark, whose value is the j-th
  pub mark_value_mark : (n : ℕ) (θ : List (Vect k)) (j : ℕ) → mark_value k n θ (variable_vector k (n + j)) ≡ image (vector_ring k) θ j
  mark_value_mark n θ j = substitute_variable k (variables k n ++ θ) (n + j) ∙ image_right (vector_ring k) (variables k n) θ n j (length_variables k n)

  pub forms_append : (ws ds es : List ℕ) (fs gs : List (Vect k)) → AreForms k ws ds fs → AreForms k ws es gs → AreForms k ws (ds ++ es) (fs ++ gs)
  forms_append ws [] es [] gs h j = j
  forms_append ws [] es (f ∷ fs) gs h j = absurd h
  forms_append ws (d ∷ ds) es [] gs h j = absurd h
  forms_append ws (d ∷ ds) es (f ∷ fs) gs h j = (h.0, forms_append ws ds es fs gs h.1 j)

  variable_form : (us : List ℕ) (w : ℕ) (vs : List ℕ) → IsForm k (us ++ (w ∷ vs)) w (variable_vector k (length us))
  unfolding variable_vector
  variable_form us w vs = supp_single k (OfDegree k (us ++ (w ∷ vs)) w) (0, variable (length us)) (refl, ap (weight (us ++ (w ∷ vs)) 0) (variable_exponents (length us)) ∙ weight_variable us w vs 0)

  variables_from_forms : (us vs : List ℕ) → AreForms k (us ++ vs) vs (variables_from k (length us) (length vs))
  unfolding variables_from
  variables_from_forms us [] = tt
  variables_from_forms us (w ∷ vs) = (
    variable_form us w vs,
    subst (λ ws. AreForms k ws vs (variables_from k (suc (length us)) (length vs))) (append_assoc us (w ∷ []) vs)
        (subst (λ n. AreForms k ((us ++ (w ∷ [])) ++ vs) vs (variables_from k n (length vs))) (longer us) (variables_from_forms (us ++ (w ∷ [])) vs)),
  )
    where
      longer : (us : List ℕ) → length (us ++ (w ∷ [])) ≡ suc (length us)
      longer us = omega (arith, length-append us (w ∷ []))

  -- the variables are forms, whose degrees are their weights
  pub variables_forms : (ws : List ℕ) → AreForms k ws ws (variables k (length ws))
  unfolding variables
  variables_forms ws = variables_from_forms [] ws

  -- where the marks have forms as values, the value of a homogeneous polynomial is a form
  pub mark_value_form : (ws ds : List ℕ) (θ : List (Vect k)) → AreForms k ws ds θ → (d : ℕ) (u : Vect k) → IsGraded k (key_weight (ws ++ ds)) d u → InVariables k (length ws + length θ) u → IsForm k ws d (mark_value k (length ws) θ u)
  mark_value_form ws ds θ h d u g v = form_substitute k ws (ws ++ ds) (variables k (length ws) ++ θ) (forms_append ws ws ds (variables k (length ws)) θ (variables_forms ws) h) d u g
      (subst (λ n. InVariables k n u) (sym (length-append (variables k (length ws)) θ ∙ ap (λ n. n + length θ) (length_variables k (length ws)))) v)
