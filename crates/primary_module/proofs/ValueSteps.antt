-- The value of a polynomial of a module as a list of terms: what its computation asks for, and what it gives.
use Rattle.std.proofs.Common.{◌≡◌, ◌∙◌, ◌+◌, ℕ, List, ◌++◌, length, sym, ap, subst, refl, arith}
use Rattle.std.proofs.lemmas.List.{length-map}
use Rattle.alg_core.specs.Vectors.{Vect}
use Rattle.alg_core.specs.declared.term.Term.{Term}
use Rattle.alg_core.specs.Spaces.{SpaceOver}
use Rattle.poly_module.specs.Parts.{InVariables}
use Rattle.poly_module.specs.Degrees.{IsHomogeneous}
use Rattle.poly_module.specs.Substitutions.{substitute}
use Rattle.poly_module.specs.Variables.{variables}
use Rattle.poly_module.specs.Combinations.{mark_value}
use Rattle.poly_module.specs.Marks.{IsMixed}
use Rattle.poly_module.specs.Sizes.{HasRoomIn}
use Rattle.poly_module.specs.SpaceVectors.{IsPolyOf, IsUpTo, HasVariables, vector_of, vectors_of}
use Rattle.finite_certificate.specs.Finiteness.{AreLow}
use Rattle.finite_certificate.specs.MarkSpaces.{degree_limit}
use Rattle.finite_certificate.specs.StandardMonomials.{IsStandardForm, IsCoordinates}
use Rattle.finite_certificate.proofs.ImageSteps.{AreImages}
use Rattle.finite_certificate.proofs.LowImages.{marked_length, images_low, images_count}
use Rattle.finite_certificate.proofs.PowerForms.{forms_count}
use Rattle.finite_certificate.proofs.PowerTests.{form_variables, form_room}
use Rattle.primary_module.specs.PrimaryModules.{IsLowPoly, AreForModule}
use Rattle.primary_module.proofs.LiftLaws.{wide, each, mixed_of}
use Rattle.primary_module.proofs.ValueDegrees.{value_variables, value_homogeneous, value_up_to}

-- the terms f are those of the value of u
pub record IsValueOf {E : Type 0} (S : SpaceOver E) (n : ℕ) (θ : List (Vect S.field)) (u f : List (Term E (List ℕ))) : Type 0 where
  pub fits : IsLowPoly S f
  pub variables : InVariables S.field n (vector_of S (λ m. m) f)
  pub value : vector_of S (λ m. m) f ≡ mark_value S.field n θ (vector_of S (λ m. m) u)
  pub homogeneous : (d : ℕ) → IsHomogeneous S d (vector_of S (λ m. m) u) → IsHomogeneous S d (vector_of S (λ m. m) f)
  pub degrees : (d : ℕ) → IsUpTo S d (vector_of S (λ m. m) u) → IsUpTo S d (vector_of S (λ m. m) f)
  pub back : IsStandardForm S.field n θ (vector_of S (λ m. m) u) → IsCoordinates S.field n θ (vector_of S (λ m. m) f) (vector_of S (λ m. m) u)

module _ {E : Type 0} (S : SpaceOver E) (n : ℕ) (ds : List ℕ) (θ ls : List (List (Term E (List ℕ)))) (given : AreForModule S n ds θ ls) where
  abbrev Terms : Type 0
  Terms = List (Term E (List ℕ))

  abbrev θs : List (Vect S.field)
  θs = vectors_of S (λ m. m) θ

  pub marks_count : length ds ≡ length θ
  marks_count = let c = forms_count S.field _ ds θs given.forms.forms in let l = length-map θ (vector_of S (λ m. m)) in omega arith

  -- of the calls
  pub images_wide : (seen : List Terms) → seen ≡ θ → length S.weights ≡ n + length seen
  images_wide seen same = let w = marked_length S n ds given.space in let c = marks_count in let e = ap length same in omega arith

  module _ (images seen : List Terms) (are : AreImages S images (variables S.field n ++ vectors_of S (λ m. m) seen)) (same : seen ≡ θ) where
    images_of : AreImages S images (variables S.field n ++ θs)
    images_of = subst (λ l. AreImages S images (variables S.field n ++ vectors_of S (λ m. m) l)) same are

    module _ (given_images : List Terms) (slice : given_images ≡ images) (u : Terms) (low : IsLowPoly S u) where
      pub value_wide : HasVariables S.field (λ m. m) (length given_images) u
      value_wide = form_variables S (length given_images) u (ap length slice ∙ images_count S n ds given.space images θ images_of marks_count) low.poly.fits

      pub value_room : HasRoomIn 4294967295 (λ m. m) u given_images
      value_room = form_room S given.positive u given_images low.poly.fits low.low (subst (AreLow S) (sym slice) (images_low S n ds given.space images θ images_of given.theta))

      module _ (f : Terms) (value : IsPolyOf S (λ m. m) (substitute S.field (vectors_of S (λ m. m) given_images) (vector_of S (λ m. m) u)) f) where
        abbrev v : Vect S.field
        v = vector_of S (λ m. m) u

        value_is : vector_of S (λ m. m) f ≡ mark_value S.field n θs v
        value_is = value.is ∙ ap (λ l. substitute S.field (vectors_of S (λ m. m) l) v) slice ∙ ap (λ us. substitute S.field us v) images_of.are

        mixed : IsMixed S.field n (length θs) v
        mixed = mixed_of S n ds θ ls given u low.poly

        bound : (d : ℕ) → IsUpTo S d v → IsUpTo S d (vector_of S (λ m. m) f)
        bound d h = subst (IsUpTo S d) (sym value_is) (value_up_to S n ds given.space θs given.forms (each S n ds θ ls given) d v mixed h)

        pub value_made : IsValueOf S n θs u f
        value_made = record {
          fits = record { poly = record { fits = value.fits; position = value.position }; low = bound degree_limit low.low };
          variables = subst (InVariables S.field n) (sym value_is) (value_variables S.field n θs (each S n ds θ ls given) v);
          value = value_is;
          homogeneous = λ d h. subst (IsHomogeneous S d) (sym value_is) (value_homogeneous S n ds given.space θs given.forms (each S n ds θ ls given) d v mixed h);
          degrees = bound;
          back = λ standard. record { mixed = mixed; standard = standard; value = sym value_is };
        }
