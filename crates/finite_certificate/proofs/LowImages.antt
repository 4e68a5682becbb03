-- The images of the variables and marks are of low degree, and constants are polynomials of a space with marks.
use Rattle.std.proofs.Common.{◌≡◌, ◌∙◌, ◌+◌, ◌≤◌, ◌<◌, ℕ, zero, suc, true, List, [], ◌∷◌, ◌++◌, length, replicate, refl, sym, ap, subst, arith}
use Rattle.std.specs.Prelude.{All, ◌==◌}
use Rattle.std.proofs.lemmas.Bool.Decides.{nat_tests}
use Rattle.std.proofs.lemmas.List.{length-map, length-append, get_or-map}
use Rattle.std.proofs.lemmas.List.Elements.{All-nil, All-cons, All-append, All-map}
use Rattle.alg_core.specs.Fields.{FieldOn}
use Rattle.alg_core.specs.PlaceOrders.{PlaceOrder}
use Rattle.alg_core.specs.Vectors.{Vect}
use Rattle.alg_core.specs.declared.term.Term.{Term}
use Rattle.alg_core.specs.Spaces.{SpaceOver}
use Rattle.alg_core.specs.SpaceGrading.{degree}
use Rattle.poly_module.specs.Parts.{supp_weaken}
use Rattle.poly_module.specs.Forms.{IsForm, AreForms, form_homogeneous}
use Rattle.poly_module.specs.Substitutions.{variable_vector}
use Rattle.poly_module.specs.Variables.{variables, variables_from, length_variables}
use Rattle.poly_module.specs.SpaceVectors.{HasPolynomials, IsUpTo, vector_of, vectors_of}
use Rattle.poly_module.proofs.ConstantSteps.{length_zeros}
use Rattle.poly_module.proofs.MarkValues.{variables_forms}
use Rattle.finite_certificate.specs.MarkSpaces.{IsMarkSpace, degree_limit}
use Rattle.finite_certificate.specs.Finiteness.{AreLow}
use Rattle.finite_certificate.proofs.ImageSteps.{AreImages}

variables_append : {E : Type 0} (k : FieldOn E) (i n r : ℕ) → variables_from k i (n + r) ≡ variables_from k i n ++ variables_from k (i + n) r
unfolding variables_from
variables_append k i zero r = ap (λ m. variables_from k i m) (omega arith) ∙ ap (λ j. variables_from k j r) (omega arith)
variables_append k i (suc n) r =
    let e : suc n + r ≡ suc (n + r) = omega arith in
    ap (λ m. variables_from k i m) e
    ∙ ap (λ l. variable_vector k i ∷ l) (variables_append k (suc i) n r ∙ ap (λ j. variables_from k (suc i) n ++ variables_from k j r) (omega arith))

ones_front : {E : Type 0} (k : FieldOn E) (ws : List ℕ) (n : ℕ) (ds : List ℕ) (fs gs : List (Vect k)) → length fs ≡ n → AreForms k ws (replicate n 1 ++ ds) (fs ++ gs) → All (IsForm k ws 1) fs
ones_front k ws zero ds [] gs e h = All-nil (IsForm k ws 1)
ones_front k ws zero ds (f ∷ fs) gs e h = absurd (omega arith)
ones_front k ws (suc n) ds [] gs e h = absurd (omega arith)
ones_front k ws (suc n) ds (f ∷ fs) gs e h = All-cons (IsForm k ws 1) f fs h.0 (ones_front k ws n ds fs gs (omega arith) h.1)

module _ {E : Type 0} (S : SpaceOver E) (n : ℕ) (ds : List ℕ) (space : IsMarkSpace S n ds) where
  pub marked_length : length S.weights ≡ n + length ds
  marked_length = ap length space.weights ∙ length-append (replicate n 1) ds ∙ ap (λ m. m + length ds) (length_ones n)
    where
      length_ones : (m : ℕ) → length {A = ℕ} (replicate m 1) ≡ m
      length_ones zero = refl
      length_ones (suc m) = ap suc (length_ones m)

  pub marked_polynomials : HasPolynomials S
  marked_polynomials =
      let zeros = length_zeros (length S.weights) in
      let wide = marked_length in
      let test : (length {A = ℕ} (replicate (length S.weights) 0) == n + length ds) ≡ true = equal (omega arith) in
      record {
        constants = record {
          fits = ap (λ (o : PlaceOrder). o.fits 0 (length {A = ℕ} (replicate (length S.weights) 0))) space.order ∙ test;
          wide = zeros;
          low = space.position;
        };
      }
    where
      equal : {a b : ℕ} → a ≡ b → (a == b) ≡ true
      equal e = grind (arith, nat_tests)

  variables_low : All (IsUpTo S degree_limit) (variables S.field n)
  unfolding variables
  variables_low i d below =
      let all = variables_forms S.field S.weights in
      let split = ap (λ m. variables_from S.field 0 m) marked_length ∙ variables_append S.field 0 n (length ds) in
      let forms = subst (λ us. AreForms S.field S.weights us (variables_from S.field 0 n ++ variables_from S.field (0 + n) (length ds))) space.weights (subst (AreForms S.field S.weights S.weights) split all) in
      let one = ones_front S.field S.weights n ds (variables_from S.field 0 n) _ (length_variables S.field n) forms i d below in
      supp_weaken S.field (λ t. degree S t ≡ 1) (λ t. degree S t ≤ degree_limit) (λ t e. omega arith) _ (form_homogeneous S space.shift 1 _ one)

  -- polynomials of low degree and the variables
  pub images_low : (images θ : List (List (Term E (List ℕ)))) → AreImages S images (variables S.field n ++ vectors_of S (λ m. m) θ) → AreLow S θ → AreLow S images
  images_low images θ h low i d below = (h.polys i d below, subst (IsUpTo S degree_limit) (get_or-map (vector_of S (λ m. m)) images i d (vector_of S (λ m. m) d) below) (ups i (vector_of S (λ m. m) d) within))
    where
      thetas : All (IsUpTo S degree_limit) (vectors_of S (λ m. m) θ)
      thetas = All-of (λ j e b. (low j e b).1)
        where
          All-of : All (λ p. IsUpTo S degree_limit (vector_of S (λ m. m) p)) θ → All (IsUpTo S degree_limit) (vectors_of S (λ m. m) θ)
          All-of all = All-map (IsUpTo S degree_limit) (vector_of S (λ m. m)) θ all

      ups : All (IsUpTo S degree_limit) (vectors_of S (λ m. m) images)
      ups = subst (All (IsUpTo S degree_limit)) (sym h.are) (All-append (IsUpTo S degree_limit) (variables S.field n) (vectors_of S (λ m. m) θ) variables_low thetas)

      within : i < length (vectors_of S (λ m. m) images)
      within = subst (λ k. i < k) (sym (length-map images (vector_of S (λ m. m)))) below

  pub images_count : (images θ : List (List (Term E (List ℕ)))) → AreImages S images (variables S.field n ++ vectors_of S (λ m. m) θ) → length ds ≡ length θ → length images ≡ length S.weights
  images_count images θ h e =
      sym (length-map images (vector_of S (λ m. m))) ∙ ap length h.are ∙ length-append (variables S.field n) (vectors_of S (λ m. m) θ)
      ∙ ap (λ m. m + length (vectors_of S (λ m. m) θ)) (length_variables S.field n) ∙ ap (λ m. n + m) (length-map θ (vector_of S (λ m. m)) ∙ sym e) ∙ sym marked_length
