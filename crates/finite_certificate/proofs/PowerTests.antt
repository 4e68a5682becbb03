-- The test of a power of a variable: what its calls ask for, and what it tells.
use Rattle.std.proofs.Common.{◌≡◌, ◌∙◌, ◌+◌, ◌<◌, ℕ, Bool, List, ◌++◌, length, replicate, slice_set, sym, ap, subst, lit≤, arith}
use Rattle.std.specs.Prelude.{IsTrue, ◌↔◌}
use Rattle.std.proofs.lemmas.List.{length-map, length-append}
use Rattle.alg_core.specs.Monomials.{mono}
use Rattle.alg_core.specs.Vectors.{Vect, scale}
use Rattle.alg_core.specs.declared.term.Term.{Term}
use Rattle.alg_core.specs.Spaces.{SpaceOver, entries}
use Rattle.poly_module.specs.Parts.{Supp, InVariables}
use Rattle.poly_module.specs.Polynomials.{single_vector}
use Rattle.poly_module.specs.Substitutions.{substitute}
use Rattle.poly_module.specs.Variables.{variables, length_variables}
use Rattle.poly_module.specs.Combinations.{mark_value}
use Rattle.poly_module.specs.Sizes.{HasRoomIn}
use Rattle.poly_module.specs.SpaceVectors.{IsPositive, IsVector, IsPoly, IsPolyOf, HasVariables, IsUpTo, vector_of, vectors_of}
use Rattle.poly_module.proofs.EntryCoefficients.{term_at_index}
use Rattle.poly_module.proofs.FittingKeys.{vec_in_variables}
use Rattle.poly_module.proofs.PowerSteps.{scale_one}
use Rattle.poly_module.proofs.Room.{low, room_in}
use Rattle.poly_module.proofs.SpaceVectorLaws.{is_polynomial}
use Rattle.finite_certificate.specs.MarkSpaces.{HasMark, degree_limit}
use Rattle.finite_certificate.specs.Finiteness.{AreLow, IsPower}
use Rattle.finite_certificate.specs.Ideals.{variable_power}
use Rattle.finite_certificate.specs.declared.power.Power.{Power}
use Rattle.finite_certificate.proofs.VariablePowers.{power_exponents}

module _ {E : Type 0} (S : SpaceOver E) where
  abbrev Terms : Type 0
  Terms = List (Term E (List ℕ))

  pub form_variables : (m : ℕ) (p : Terms) → m ≡ length S.weights → IsVector S (λ m. m) p → HasVariables S.field (λ m. m) m p
  form_variables m p e fits = record {
    values = λ i d below. (term_at_index S (entries (λ m. m) p) i d below fits).has;
    wide = λ i d below. (term_at_index S (entries (λ m. m) p) i d below fits).place.wide ∙ sym e;
  }

  pub form_room : IsPositive S → (p : Terms) (images : List Terms) → IsVector S (λ m. m) p → IsUpTo S degree_limit (vector_of S (λ m. m) p) → AreLow S images → HasRoomIn 4294967295 (λ m. m) p images
  form_room positive p images fits up all =
      room_in S positive.weights (λ m. m) 4294967295 degree_limit degree_limit p images (lit≤ tt) (low S positive.weights (λ m. m) degree_limit degree_limit p (omega arith) fits up)
      (λ i d below. (all i d below).0.fits) (λ i d below. (all i d below).1)

  -- equal to the power of the variable exactly where that is the value
  pub power_exact : (n i : ℕ) (θ : List (Vect S.field)) (images : List Terms) (p : Power E) (value wanted : Terms) (one : E) (exps : List ℕ) (equal : Bool)
      → vectors_of S (λ m. m) images ≡ variables S.field n ++ θ → length images ≡ length S.weights → IsPoly S (λ m. m) p.form → Supp S.field (HasMark n) (vector_of S (λ m. m) p.form)
      → IsPolyOf S (λ m. m) (substitute S.field (vectors_of S (λ m. m) images) (vector_of S (λ m. m) p.form)) value
      → IsPolyOf S (λ m. m) (scale S.field one (single_vector S.field (0, mono exps))) wanted → one ≡ S.field.one
      → exps ≡ slice_set (replicate (length S.weights) 0) i p.exponent → i < length S.weights
      → IsTrue equal ↔ (vector_of S (λ m. m) value ≡ vector_of S (λ m. m) wanted)
      → IsTrue equal ↔ IsPower S.field n θ i (p.exponent, vector_of S (λ m. m) p.form)
  power_exact n i θ images p value wanted one exps equal are count poly marks is power unit zeros below exact =
      let f = vector_of S (λ m. m) p.form in
      let here : vector_of S (λ m. m) value ≡ mark_value S.field n θ f = is.is ∙ ap (λ us. substitute S.field us f) are in
      let there : vector_of S (λ m. m) wanted ≡ variable_power S.field i p.exponent =
      power.is ∙ scale_one S (λ (m : List ℕ). m) one unit _ ∙ ap (λ a. single_vector S.field (0, mono a)) zeros ∙ power_exponents S.field (length S.weights) i p.exponent below in
      let wide : length S.weights ≡ n + length θ =
      sym count ∙ sym (length-map images (vector_of S (λ m. m))) ∙ ap length are ∙ length-append (variables S.field n) θ ∙ ap (λ m. m + length θ) (length_variables S.field n) in (
        λ e. record {
          mixed = record { polynomial = is_polynomial S (λ m. m) p.form poly; variables = subst (λ m. InVariables S.field m f) wide (vec_in_variables S (entries (λ m. m) p.form) poly.fits) };
          marks = marks;
          value = sym here ∙ exact.0 e ∙ there;
        },
        λ h. exact.1 (here ∙ h.value ∙ sym there),
      )
