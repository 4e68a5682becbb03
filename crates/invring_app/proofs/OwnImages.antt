-- The averages, and the values of the fixed members, with which `ring` works are invariants over which all are combinations.
use Rattle.std.proofs.Common.{◌≡◌, ◌⊎◌, inl, inr, ℕ, ◌<◌, List, [], ◌∷◌, length, sym, subst, arith}
use Rattle.std.specs.Prelude.{All}
use Rattle.alg_core.specs.Lists.{In}
use Rattle.alg_core.specs.Monomials.{mono}
use Rattle.alg_core.specs.Spaces.{SpaceOver}
use Rattle.alg_core.specs.Vectors.{Vect}
use Rattle.alg_core.specs.declared.limits.Limits.{Limits}
use Rattle.alg_core.specs.declared.term.Term.{Term}
use Rattle.alg_core.proofs.Members.{from_map}
use Rattle.poly_module.specs.Parts.{InVariables}
use Rattle.poly_module.specs.Polynomials.{single_vector}
use Rattle.poly_module.specs.SpaceVectors.{vector_of, vectors_of}
use Rattle.lin_algebra.specs.declared.matrix.Matrix.{Matrix}
use Rattle.matrix_group.specs.Actions.{Invariant, IsSquare}
use Rattle.matrix_group.specs.Groups.{size as rows_of}
use Rattle.reynolds_op.specs.Averages.{IsAverage}
use Rattle.reynolds_op.proofs.AverageLaws.{generated_invariant}
use Rattle.finvar_text.specs.Problems.{Problem}
use Rattle.primary_search.specs.Walks.{FirstPrimaries}
use Rattle.primary_search.proofs.FirstLaws.{first_small, first_invariant, first_forms}
use Rattle.secondary_gens.specs.Forms.{degrees_of, IsSmallForm}
use Rattle.secondary_gens.specs.Lists.{Each}
use Rattle.secondary_gens.specs.Secondaries.{IsComplete}
use Rattle.secondary_gens.proofs.ChoiceSteps.{all_in}
use Rattle.secondary_gens.proofs.FormDegrees.{are_forms, form_image}
use Rattle.secondary_gens.proofs.ImageSteps.{Generate}
use Rattle.syzygy_kernel.specs.Kernels.{fixed_values}
use Rattle.syzygy_kernel.proofs.FixedMembers.{values_complete, values_invariant}
use Rattle.cert_check.proofs.AveragesGenerate.{IsAverageOf, averages_generate}
use Rattle.invring_app.specs.Commands.Rings.{AreAverages, AreFixedValues, AreImages}

abbrev Terms : Type 0
Terms = List (Term ℕ (List ℕ))

-- the averages, or the values of the fixed members, are invariants over which all are combinations
module _ (S : SpaceOver ℕ) (ms : List (Matrix ℕ)) (some : 0 < length ms) (square : All (IsSquare S.field (length S.weights)) ms) where
  abbrev x : Terms → Vect S.field
  x f = vector_of S (λ m. m) f

  abbrev xs : List Terms → List (Vect S.field)
  xs fs = vectors_of S (λ m. m) fs

  abbrev single : List ℕ → Vect S.field
  single b = single_vector S.field (0, mono b)

  sizes : (os : List (Matrix ℕ)) → 0 < length os → All (IsSquare S.field (length S.weights)) os → length S.weights ≡ rows_of os
  sizes [] h all = absurd (omega arith)
  sizes (o ∷ os) h all = sym (all 0 o (omega arith)).rows

  average-fixed : (f h : Vect S.field) → IsAverage S.field ms f h → Invariant S.field ms h
  average-fixed f h a =
      let own = subst (λ (n : ℕ). All (IsSquare S.field n) ms) (sizes ms some square) square in
      subst (Invariant S.field ms) a.is (generated_invariant S.field (rows_of ms) a.averaging a.group ms own a.generated f)

  averages-fixed : (bs : List (List ℕ)) (fs : List Terms) → Each (λ b f. IsAverage S.field ms (single_vector S.field (0, mono b)) (vector_of S (λ m. m) f)) bs fs → (v : Vect S.field) → In v (vectors_of S (λ m. m) fs) → Invariant S.field ms v
  averages-fixed [] [] h v i = absurd i
  averages-fixed [] (f ∷ fs) h v i = absurd h
  averages-fixed (b ∷ bs) [] h v i = absurd h
  averages-fixed (b ∷ bs) (f ∷ fs) h v (inl e) = subst (Invariant S.field ms) e (average-fixed (single b) (x f) h.0)
  averages-fixed (b ∷ bs) (f ∷ fs) h v (inr i) = averages-fixed bs fs h.1 v i

  on-vectors : (bs : List (List ℕ)) (fs : List Terms) → Each (λ b f. IsAverage S.field ms (single_vector S.field (0, mono b)) (vector_of S (λ m. m) f)) bs fs → Each (IsAverageOf S.field ms) bs (vectors_of S (λ m. m) fs)
  on-vectors [] [] h = h
  on-vectors [] (f ∷ fs) h = absurd h
  on-vectors (b ∷ bs) [] h = absurd h
  on-vectors (b ∷ bs) (f ∷ fs) h = (h.0, on-vectors bs fs h.1)

  module _ (q : Problem) (l : Limits) (θ : List (Vect S.field)) (B : List (List ℕ)) (fs : List Terms) (a : AreImages q l S ms θ B fs) (first : FirstPrimaries S ms l.tries θ) where
    fixed : All (Invariant S.field ms) θ
    fixed = first_invariant S ms l.tries θ first

    abbrev Generating : Type 0
    Generating = ((v : Vect S.field) → In v (vectors_of S (λ m. m) fs) → Invariant S.field ms v) × IsComplete S.field (length S.weights) ms θ (vectors_of S (λ m. m) fs)

    by-averages : AreAverages q l S ms B fs → Generating
    by-averages v =
        let forms = first_forms S ms l.tries θ first in
        (averages-fixed B fs v.averages, averages_generate S.field ms (length S.weights) forms.0 θ forms.1 fixed some square B a.ranked.standard (xs fs) (on-vectors B fs v.averages))

    by-values : AreFixedValues q l S ms θ B fs → Generating
    by-values v =
        let n = length S.weights in
        let values = fixed_values S.field (length S.weights) θ v.members in
        let invariant = values_invariant S.field θ ms B n v.degrees v.forms fixed square a.ranked.standard v.members v.kernel in (
          λ w i. all_in (Invariant S.field ms) values w invariant (subst (In w) v.values i),
          subst (IsComplete S.field (length S.weights) ms θ) (sym v.values) (values_complete S.field θ ms B n v.degrees v.forms fixed square a.ranked.standard v.members v.kernel),
        )

    generating : AreAverages q l S ms B fs ⊎ AreFixedValues q l S ms θ B fs → Generating
    generating (inl v) = by-averages v
    generating (inr v) = by-values v

    in-variables : (v : Vect S.field) → In v (vectors_of S (λ m. m) fs) → InVariables S.field (length S.weights) v
    in-variables v i =
        let m = from_map x v fs i in
        subst (InVariables S.field (length S.weights)) m.2 (λ t n. ((form_image S m.0 (all_in (IsSmallForm S) fs m.0 a.forms m.1)).form t n).variables)

    pub images-generate : Generate S ms θ (vectors_of S (λ m. m) fs) (first_forms S ms l.tries θ first).0 (degrees_of fs)
    images-generate =
        let forms = first_forms S ms l.tries θ first in
        let all = generating a.generating in
        record {
          primaries = forms.1.forms;
          positive = forms.1.positive;
          images = are_forms S fs a.forms;
          fixed = λ v i. let f = (first_small S ms l.tries θ first v i).form in (f.variables, f.invariant);
          fixed_images = λ v i. (in-variables v i, all.0 v i);
          complete = all.1;
        }
