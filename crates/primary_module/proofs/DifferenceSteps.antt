-- The coordinates of the image of a value less the value: what their computation asks for, and what it gives.
use Rattle.std.proofs.Common.{◌≡◌, ◌∙◌, ◌+◌, ◌<◌, ◌≤◌, ℕ, List, [], ◌∷◌, length, sym, ap, ap₂, subst, refl, arith, lit≤}
use Rattle.std.proofs.lemmas.List.{length-map}
use Rattle.std.specs.Prelude.{All}
use Rattle.alg_core.specs.Vectors.{Vect, plus}
use Rattle.alg_core.specs.declared.term.Term.{Term}
use Rattle.alg_core.specs.Spaces.{SpaceOver}
use Rattle.alg_core.specs.SpaceGrading.{degree}
use Rattle.poly_module.specs.Parts.{IsPolynomial}
use Rattle.poly_module.specs.Degrees.{IsHomogeneous}
use Rattle.poly_module.specs.Modules.{listed}
use Rattle.poly_module.specs.Signs.{minus}
use Rattle.poly_module.specs.Sizes.{IsLow}
use Rattle.poly_module.specs.Substitutions.{substitute_plus}
use Rattle.poly_module.specs.Combinations.{mark_value}
use Rattle.poly_module.specs.SpaceVectors.{IsPoly, IsPolyOf, IsVectorOf, IsUpTo, vector_of, vectors_of}
use Rattle.poly_module.proofs.Room.{low}
use Rattle.poly_module.proofs.SpaceVectorLaws.{minus_plus, supp_minus}
use Rattle.lin_algebra.specs.declared.matrix.Matrix.{Matrix}
use Rattle.lin_algebra.specs.Matrices.{entries as cells_of}
use Rattle.matrix_group.specs.Actions.{IsSquare, Invariant, act_by}
use Rattle.matrix_group.proofs.ActionLaws.{act_polynomial}
use Rattle.finite_certificate.specs.MarkSpaces.{degree_limit}
use Rattle.finite_certificate.specs.StandardMonomials.{IsCoordinates}
use Rattle.finite_certificate.proofs.ModuleTerms.{listed_all}
use Rattle.primary_module.specs.PrimaryModules.{IsLowPoly, IsDifference, AreForModule}
use Rattle.primary_module.proofs.LiftLaws.{mixed_of}
use Rattle.primary_module.proofs.ValueSteps.{marks_count}
use Rattle.primary_module.proofs.ImageDegrees.{act_homogeneous, act_up_to}
use Rattle.primary_module.proofs.ImageValues.{value_of_image}

module _ {E : Type 0} (S : SpaceOver E) (n : ℕ) (ds : List ℕ) (θ ls : List (List (Term E (List ℕ)))) (given : AreForModule S n ds θ ls) where
  abbrev Terms : Type 0
  Terms = List (Term E (List ℕ))

  abbrev θs : List (Vect S.field)
  θs = vectors_of S (λ m. m) θ

  pub image_room : (u : Terms) → IsLowPoly S u → IsLow 4294967295 (λ m. m) u
  image_room u h = low S given.positive.weights (λ m. m) 4294967295 degree_limit u (lit≤ tt) h.poly.fits h.low

  module _ (m : Matrix E) (square : IsSquare S.field n m) where
    count : length θs ≡ length ds
    count = let c = marks_count S n ds θ ls given in let l = length-map θ (vector_of S (λ m. m)) in omega arith

    module _ (u : Terms) (up : IsLowPoly S u) where
      abbrev v : Vect S.field
      v = vector_of S (λ m. m) u

      pub image_keeps : (d : ℕ) → IsHomogeneous S d v → IsHomogeneous S d (act_by S.field m v)
      image_keeps d = act_homogeneous S n ds given.space (length θs) count m.rows square.rows (cells_of S.field m) d v (mixed_of S n ds θ ls given u up.poly)

      pub image_bound : (d : ℕ) → IsUpTo S d v → IsUpTo S d (act_by S.field m v)
      image_bound d = act_up_to S n ds given.space (length θs) count m.rows square.rows (cells_of S.field m) d v (mixed_of S n ds θ ls given u up.poly)

      -- the image less the polynomial
      module _ (image moved : Terms) (acted : IsPolyOf S (λ m. m) (act_by S.field m v) image) (less : IsVectorOf S (λ m. m) (minus S.field (vector_of S (λ m. m) image) v) moved) where
        moved_is : vector_of S (λ m. m) moved ≡ minus S.field (act_by S.field m v) v
        moved_is = less.is ∙ ap (λ w. minus S.field w v) acted.is

        pub moved_keeps : (d : ℕ) → IsHomogeneous S d v → IsHomogeneous S d (vector_of S (λ m. m) moved)
        moved_keeps d h = subst (IsHomogeneous S d) (sym moved_is) (supp_minus S.field (λ t. degree S t ≡ d) (act_by S.field m v) v (image_keeps d h) h)

        pub moved_low : IsLowPoly S moved
        moved_low = record {
          poly = record {
            fits = less.fits;
            position = less.position (supp_minus S.field (λ t. t.0 ≡ 0) (vector_of S (λ m. m) image) v (subst (IsPolynomial S.field) (sym acted.is) (act_polynomial S.field m.rows (cells_of S.field m) v)) (mixed_of S n ds θ ls given u up.poly).polynomial);
          };
          low = subst (IsUpTo S degree_limit) (sym moved_is) (supp_minus S.field (λ t. degree S t ≤ degree_limit) (act_by S.field m v) v (image_bound degree_limit up.low) up.low);
        }

        module _ (invariant : All (Invariant S.field (m ∷ [])) θs) where
          fixed : (j : ℕ) → j < length θs → act_by S.field m (listed S.field θs j) ≡ listed S.field θs j
          fixed j h = listed_all S.field (Invariant S.field (m ∷ [])) θs invariant j h 0 m (omega arith)

          pub moved_difference : (d : Vect S.field) → IsCoordinates S.field n θs (mark_value S.field n θs (vector_of S (λ m. m) moved)) d → IsDifference S.field n θs m (mark_value S.field n θs v) d
          moved_difference d coordinates = record {
            difference = mark_value S.field n θs (vector_of S (λ m. m) moved);
            is = sym (substitute_plus S.field _ (vector_of S (λ m. m) moved) v) ∙ ap (mark_value S.field n θs) (ap (λ w. plus S.field w v) moved_is ∙ minus_plus S.field (act_by S.field m v) v)
                ∙ value_of_image S.field n θs m.rows square.rows (cells_of S.field m) fixed v;
            coordinates = coordinates;
          }
