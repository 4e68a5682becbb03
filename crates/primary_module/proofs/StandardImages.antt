-- The coordinates of the images of monomials, from those of their divisors, and less the monomials.
use Rattle.std.proofs.Common.{◌≡◌, ◌∙◌, ◌+◌, ◌<◌, ◌≤◌, ℕ, true, List, [], ◌∷◌, length, sym, ap, ap₂, subst, refl, arith, lit≤, Bool}
use Rattle.std.proofs.lemmas.List.{length-map}
use Rattle.std.specs.Prelude.{IsTrue}
use Rattle.alg_core.specs.ExponentLists.{quotient, divides}
use Rattle.alg_core.specs.Keys.{Key, keys}
use Rattle.alg_core.specs.Monomials.{Mon, monomials, mono}
use Rattle.alg_core.specs.MonomialParts.{variable_part}
use Rattle.alg_core.specs.SpaceGrading.{degree}
use Rattle.alg_core.specs.Spaces.{SpaceOver}
use Rattle.alg_core.specs.Vectors.{Vect, plus}
use Rattle.alg_core.specs.declared.term.Term.{Term}
use Rattle.alg_core.proofs.MonomialLists.{mono_quotient}
use Rattle.alg_core.proofs.MonomialParts.{variable_part_same}
use Rattle.poly_module.specs.Polynomials.{single_vector, product}
use Rattle.poly_module.specs.Products.{product_single}
use Rattle.poly_module.specs.Parts.{IsPolynomial, InVariables, supp_weaken, supp_single}
use Rattle.poly_module.specs.Degrees.{IsHomogeneous}
use Rattle.poly_module.specs.Forms.{IsForm, homogeneous_form, homogeneous_product}
use Rattle.poly_module.specs.GreatestExponents.{total}
use Rattle.poly_module.specs.Modules.{listed}
use Rattle.poly_module.specs.Signs.{minus}
use Rattle.poly_module.specs.Sizes.{IsLow, HasRoom}
use Rattle.poly_module.specs.Substitutions.{substitute_product}
use Rattle.poly_module.specs.Variables.{product_polynomial, substitute_linear}
use Rattle.poly_module.specs.Combinations.{mark_value}
use Rattle.poly_module.specs.Marks.{IsMixed}
use Rattle.poly_module.specs.SpaceVectors.{IsPositive, IsPoly, IsPolyOf, IsVectorOf, IsUpTo, vector_of, vectors_of}
use Rattle.poly_module.proofs.MarkValues.{mark_value_polynomial}
use Rattle.poly_module.proofs.Room.{low, room}
use Rattle.poly_module.proofs.SpaceVectorLaws.{minus_plus, supp_minus, poly_given, poly_of}
use Rattle.lin_algebra.specs.declared.matrix.Matrix.{Matrix}
use Rattle.lin_algebra.specs.Matrices.{entries as cells_of}
use Rattle.matrix_group.specs.Actions.{IsSquare, act_by}
use Rattle.matrix_group.proofs.ActionLaws.{act_polynomial, act_in_variables, act_product}
use Rattle.finite_certificate.specs.MarkSpaces.{IsMarkSpace, degree_limit}
use Rattle.finite_certificate.specs.StandardMonomials.{IsStandard, IsCoordinates}
use Rattle.finite_certificate.proofs.ModuleTerms.{linear_less}
use Rattle.primary_module.specs.PrimaryModules.{IsLowPoly, IsDifference, IsLowMonomial, IsStandardImage, IsStandardDifference}
use Rattle.primary_module.proofs.ImageDegrees.{act_homogeneous}
use Rattle.primary_module.proofs.StandardDegrees.{monomial_short, monomial_form, monomial_homogeneous, total_quotient, length_quotient}

module _ {E : Type 0} (S : SpaceOver E) (n : ℕ) (ds : List ℕ) (space : IsMarkSpace S n ds) where
  abbrev Terms : Type 0
  Terms = List (Term E (List ℕ))

  abbrev single : List ℕ → Vect S.field
  single a = single_vector S.field (0, mono a)

  -- homogeneous polynomials of a small degree
  homogeneous_low : (d : ℕ) → d ≤ degree_limit → (p : Terms) → IsHomogeneous S d (vector_of S (λ m. m) p) → IsUpTo S degree_limit (vector_of S (λ m. m) p)
  homogeneous_low d small p = supp_weaken S.field (λ t. degree S t ≡ d) (λ t. degree S t ≤ degree_limit) (λ t e. omega arith) (vector_of S (λ m. m) p)

  pub monomial_room : IsPositive S → (a : List ℕ) → length a ≡ n → total a ≤ degree_limit → (p : Terms) → IsPolyOf S (λ m. m) (single a) p → IsLow 4294967295 (λ m. m) p
  monomial_room positive a wide small p is =
      low S positive.weights (λ m. m) 4294967295 degree_limit p (lit≤ tt) is.fits (homogeneous_low (total a) small p (subst (IsHomogeneous S (total a)) (sym is.is) (monomial_homogeneous S n ds space a wide)))

  module _ (m : Matrix E) (square : IsSquare S.field n m) where
    abbrev image : List ℕ → Vect S.field
    image a = act_by S.field m (single a)

    -- the image of a monomial in the variables
    module _ (a : List ℕ) (wide : length a ≡ n) where
      image_homogeneous : IsHomogeneous S (total a) (image a)
      image_homogeneous = act_homogeneous S n ds space (length ds) refl m.rows square.rows (cells_of S.field m) (total a) (single a)
          (record {
            polynomial = supp_single S.field (λ t. t.0 ≡ 0) (0, mono a) refl;
            variables = supp_single S.field (λ t. length t.1.0 ≤ n + length ds) (0, mono a) (let h = monomial_short S n ds space a wide in omega arith);
          })
          (monomial_homogeneous S n ds space a wide)

      image_polynomial : IsPolynomial S.field (image a)
      image_polynomial = act_polynomial S.field m.rows (cells_of S.field m) (single a)

      image_value : (θ : List (Vect S.field)) → mark_value S.field n θ (image a) ≡ image a
      image_value θ =
          let rows = square.rows in
          mark_value_polynomial S.field n θ (image a) image_polynomial
          (act_in_variables S.field m.rows (cells_of S.field m) n (omega arith) (single a) (supp_single S.field (λ t. length t.1.0 ≤ n) (0, mono a) (monomial_short S n ds space a wide)))

      pub image_low : total a ≤ degree_limit → (p : Terms) → IsPolyOf S (λ m. m) (image a) p → IsLowPoly S p
      image_low small p is = record { poly = poly_of S (λ m. m) (image a) p is; low = homogeneous_low (total a) small p (subst (IsHomogeneous S (total a)) (sym is.is) image_homogeneous) }

      -- its coordinates
      pub image_reduced : (θ : List (Vect S.field)) (p r : Terms) → IsPolyOf S (λ m. m) (image a) p → IsLowPoly S r
          → IsCoordinates S.field n θ (mark_value S.field n θ (vector_of S (λ m. m) p)) (vector_of S (λ m. m) r)
          → ((d : ℕ) → IsHomogeneous S d (vector_of S (λ m. m) p) → IsHomogeneous S d (vector_of S (λ m. m) r)) → IsStandardImage S n θ m a r
      image_reduced θ p r is up coordinates keeps = record {
        low = up;
        coordinates = subst (λ f. IsCoordinates S.field n θ f (vector_of S (λ m. m) r)) (ap (mark_value S.field n θ) is.is ∙ image_value θ) coordinates;
        homogeneous = keeps (total a) (subst (IsHomogeneous S (total a)) (sym is.is) image_homogeneous);
      }

      -- less the monomial, where it is standard
      pub image_less : (θ : List (Vect S.field)) (p s r : Terms) → IsStandard S.field n θ (mono a) → total a ≤ degree_limit → IsStandardImage S n θ m a p
          → IsPolyOf S (λ m. m) (single a) s → IsVectorOf S (λ m. m) (minus S.field (vector_of S (λ m. m) p) (vector_of S (λ m. m) s)) r → IsStandardDifference S n θ m a r
      image_less θ p s r standard small h is less = record {
        low = record {
          poly = poly_of S (λ m. m) _ r (poly_given S (λ m. m) _ r less (supp_minus S.field (λ t. t.0 ≡ 0) (vector_of S (λ m. m) p) (vector_of S (λ m. m) s) h.coordinates.mixed.polynomial (subst (IsPolynomial S.field) (sym is.is) single_mixed.polynomial)));
          low = homogeneous_low (total a) small r same_degree;
        };
        difference = record {
          difference = minus S.field (image a) (single a);
          is = minus_plus S.field (image a) (single a);
          coordinates = subst (IsCoordinates S.field n θ (minus S.field (image a) (single a))) (sym whole) (record {
            mixed = record {
              polynomial = supp_minus S.field (λ t. t.0 ≡ 0) (vector_of S (λ m. m) p) (single a) h.coordinates.mixed.polynomial single_mixed.polynomial;
              variables = supp_minus S.field (λ t. length t.1.0 ≤ n + length θ) (vector_of S (λ m. m) p) (single a) h.coordinates.mixed.variables single_mixed.variables;
            };
            standard = supp_minus S.field (λ t. IsStandard S.field n θ (variable_part n t.1)) (vector_of S (λ m. m) p) (single a) h.coordinates.standard
                (supp_single S.field (λ t. IsStandard S.field n θ (variable_part n t.1)) (0, mono a) (subst (IsStandard S.field n θ) (sym (variable_part_same n (mono a) short)) standard));
            value = linear_less S.field (mark_value S.field n θ) (substitute_linear S.field _) (vector_of S (λ m. m) p) (single a)
                ∙ ap₂ (minus S.field) h.coordinates.value (mark_value_polynomial S.field n θ (single a) single_mixed.polynomial (supp_single S.field (λ t. length t.1.0 ≤ n) (0, mono a) short));
          });
        };
        homogeneous = same_degree;
      }
        where
          short : length (mono a).0 ≤ n
          short = monomial_short S n ds space a wide

          single_mixed : IsMixed S.field n (length θ) (single a)
          single_mixed = record {
            polynomial = supp_single S.field (λ t. t.0 ≡ 0) (0, mono a) refl;
            variables = supp_single S.field (λ t. length t.1.0 ≤ n + length θ) (0, mono a) (let l = short in omega arith);
          }

          whole : vector_of S (λ m. m) r ≡ minus S.field (vector_of S (λ m. m) p) (single a)
          whole = less.is ∙ ap (minus S.field (vector_of S (λ m. m) p)) is.is

          same_degree : IsHomogeneous S (total a) (vector_of S (λ m. m) r)
          same_degree = subst (IsHomogeneous S (total a)) (sym whole) (supp_minus S.field (λ t. degree S t ≡ total a) (vector_of S (λ m. m) p) (single a) h.homogeneous (monomial_homogeneous S n ds space a wide))

    -- a multiple of a monomial whose image is known, and what is left of it
    module _ (b a rest : List ℕ) (monomial : IsLowMonomial n b) (wide : length a ≡ n) (divisor : IsTrue (divides a b)) (left : rest ≡ quotient b a) where
      divided : divides a b ≡ true
      divided = is_true (divides a b) divisor
        where
          is_true : (t : Bool) → IsTrue t → t ≡ true
          is_true t h = grind arith

      rest_wide : length rest ≡ n
      rest_wide = ap length left ∙ length_quotient n b a monomial.wide wide

      degrees : total rest + total a ≡ total b
      degrees = ap (λ (q : List ℕ). total q + total a) left ∙ total_quotient n b a monomial.wide wide (length_quotient n b a monomial.wide wide) divided

      rest_small : total rest ≤ degree_limit
      rest_small = let d = degrees in let s = monomial.low in omega arith

      pub rest_low : IsLowMonomial n rest
      rest_low = record { wide = rest_wide; low = rest_small }

      module _ (θ : List (Vect S.field)) (f u : Terms) (is : IsPolyOf S (λ m. m) (image rest) f) (known : IsStandardImage S n θ m a u) where
        pub product_room : IsPositive S → HasRoom 4294967295 (λ m. m) f u
        product_room positive = room S positive.weights (λ m. m) 4294967295 degree_limit degree_limit f u (lit≤ tt) is.fits (image_low rest rest_wide rest_small f is).low known.low.poly.fits known.low.low

        module _ (p : Terms) (made : IsVectorOf S (λ m. m) (product S.field (vector_of S (λ m. m) f) (vector_of S (λ m. m) u)) p) where
          abbrev v : Vect S.field
          v = vector_of S (λ m. m) u

          made_is : vector_of S (λ m. m) p ≡ product S.field (image rest) v
          made_is = made.is ∙ ap (λ w. product S.field w v) is.is

          product_homogeneous : IsHomogeneous S (total b) (vector_of S (λ m. m) p)
          product_homogeneous = subst (IsHomogeneous S (total b)) (sym made_is) (subst (λ (d : ℕ). IsHomogeneous S d (product S.field (image rest) v)) degrees
              (homogeneous_product S (total rest) (total a) (image rest) v (homogeneous_form S space.shift (total rest) (image rest) (image_polynomial rest rest_wide) (image_homogeneous rest rest_wide)) known.homogeneous))

          pub product_low : IsLowPoly S p
          product_low = record {
            poly = poly_of S (λ m. m) _ p (poly_given S (λ m. m) _ p made
                (product_polynomial S.field (vector_of S (λ m. m) f) v (subst (IsPolynomial S.field) (sym is.is) (image_polynomial rest rest_wide)) known.coordinates.mixed.polynomial));
            low = homogeneous_low (total b) monomial.low p product_homogeneous;
          }

          singles : product S.field (single rest) (single a) ≡ single b
          unfolding keys
          singles = product_single S.field (0, mono rest) (0, mono a) ∙ ap (λ (c : Mon). single_vector S.field (0, c)) (ap (λ (q : List ℕ). monomials.◌·◌ (mono q) (mono a)) left ∙ monomials.comm (mono (quotient b a)) (mono a) ∙ mono_quotient b a (monomial.wide ∙ sym wide) divided)

          product_value : mark_value S.field n θ (vector_of S (λ m. m) p) ≡ image b
          product_value = ap (mark_value S.field n θ) made_is ∙ substitute_product S.field _ (image rest) v ∙ ap₂ (product S.field) (image_value rest rest_wide θ) known.coordinates.value
              ∙ sym (act_product S.field m.rows (cells_of S.field m) (single rest) (single a)) ∙ ap (act_by S.field m) singles

          pub product_reduced : (r : Terms) → IsLowPoly S r
              → IsCoordinates S.field n θ (mark_value S.field n θ (vector_of S (λ m. m) p)) (vector_of S (λ m. m) r)
              → ((d : ℕ) → IsHomogeneous S d (vector_of S (λ m. m) p) → IsHomogeneous S d (vector_of S (λ m. m) r)) → IsStandardImage S n θ m b r
          product_reduced r up coordinates keeps = record {
            low = up;
            coordinates = subst (λ f. IsCoordinates S.field n θ f (vector_of S (λ m. m) r)) product_value coordinates;
            homogeneous = keeps (total b) product_homogeneous;
          }
