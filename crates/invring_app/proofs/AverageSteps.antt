-- The averages of the standard monomials are invariants that generate all.
use Rattle.std.proofs.Common.{◌≡◌, ◌∙◌, ◌<◌, ℕ, List, [], ◌∷◌, Result, Ok, Err, length, map, suc, refl, sym, ap, subst, arith}
use Rattle.std.specs.Prelude.{All, IsErrAnd}
use Rattle.std.proofs.lemmas.List.Elements.{All-nil, All-cons}
use Rattle.alg_core.specs.Monomials.{mono}
use Rattle.alg_core.specs.Spaces.{SpaceOver}
use Rattle.alg_core.specs.Vectors.{Vect}
use Rattle.alg_core.specs.declared.term.Term.{Term}
use Rattle.poly_module.specs.Polynomials.{single_vector}
use Rattle.poly_module.specs.SpaceVectors.{vector_of, vectors_of}
use Rattle.lin_algebra.specs.declared.matrix.Matrix.{Matrix}
use Rattle.matrix_group.specs.Actions.{Invariant, IsSquare}
use Rattle.matrix_group.specs.Groups.{size}
use Rattle.reynolds_op.specs.Averages.{Averaging, IsAverage, IsAveraging, reynolds}
use Rattle.reynolds_op.proofs.AverageLaws.{generated_invariant}
use Rattle.secondary_gens.specs.Lists.{Each}
use Rattle.secondary_gens.specs.Secondaries.{IsComplete}
use Rattle.groebner_hom.proofs.PolynomialLists.{all_map}
use Rattle.cert_check.proofs.AveragesGenerate.{averages_generate}
use Rattle.invring_app.specs.AveragedOver.{IsAveragedOver}

-- the error that a result has
pub told : {X F : Type 0} (r : Result X F) (e : F) → IsErrAnd r (λ x. x ≡ e) → (b : F) → r ≡ Err b → e ≡ b
told (Ok x) e t b q = absurd t
told (Err x) e t b q = sym t ∙ ap (error_or b) q
  where
    error_or : {X E : Type 0} → E → Result X E → E
    error_or d (Ok y) = d
    error_or d (Err y) = y

module _ {E : Type 0} (S : SpaceOver E) (gens : List (Matrix E)) (R : Averaging E) (θ : List (List (Term E (List ℕ)))) (B : List (List ℕ)) (given : IsAveragedOver S gens R θ B) where
  abbrev Terms : Type 0
  Terms = List (Term E (List ℕ))

  abbrev x : Terms → Vect S.field
  x v = vector_of S (λ m. m) v

  abbrev single : List ℕ → Vect S.field
  single b = single_vector S.field (0, mono b)

  group : IsAveraging S.field (size gens) R
  group = subst (λ n. IsAveraging S.field n R) given.sizes given.averages.averaging

  square : All (IsSquare S.field (size gens)) gens
  square = subst (λ n. All (IsSquare S.field n) gens) (sizes gens given.generators given.square) given.square
    where
      sizes : (ms : List (Matrix E)) → 0 < length ms → All (IsSquare S.field (length S.weights)) ms → length S.weights ≡ size ms
      sizes [] h all = absurd (omega arith)
      sizes (m ∷ ms) h all = sym (all 0 m (omega arith)).rows

  average : (b : List ℕ) (f : Vect S.field) → f ≡ reynolds S.field (size R.elements) R (single b) → IsAverage S.field gens (single b) f
  average b f is = record { averaging = R; group = group; generated = given.generated; is = ap (λ n. reynolds S.field n R (single b)) (sym given.sizes) ∙ sym is }

  pub are_averages : (bs : List (List ℕ)) (fs : List Terms) → Each (λ b f. x f ≡ reynolds S.field (size R.elements) R (single b)) bs fs → Each (λ b f. IsAverage S.field gens (single b) (x f)) bs fs
  are_averages [] [] h = h
  are_averages [] (f ∷ fs) h = absurd h
  are_averages (b ∷ bs) [] h = absurd h
  are_averages (b ∷ bs) (f ∷ fs) h = (average b (x f) h.0, are_averages bs fs h.1)

  on_vectors : (bs : List (List ℕ)) (fs : List Terms) → Each (λ b f. IsAverage S.field gens (single b) (x f)) bs fs → Each (λ b f. IsAverage S.field gens (single b) f) bs (map x fs)
  on_vectors [] [] h = h
  on_vectors [] (f ∷ fs) h = absurd h
  on_vectors (b ∷ bs) [] h = absurd h
  on_vectors (b ∷ bs) (f ∷ fs) h = (h.0, on_vectors bs fs h.1)

  pub images_each : (bs : List (List ℕ)) (fs : List Terms) → Each (λ b f. x f ≡ reynolds S.field (size R.elements) R (single b)) bs fs → length bs ≡ length fs
  images_each [] [] h = refl
  images_each [] (f ∷ fs) h = absurd h
  images_each (b ∷ bs) [] h = absurd h
  images_each (b ∷ bs) (f ∷ fs) h = ap suc (images_each bs fs h.1)

  pub images_fixed : (bs : List (List ℕ)) (fs : List Terms) → Each (λ b f. x f ≡ reynolds S.field (size R.elements) R (single b)) bs fs → All (λ p. Invariant S.field gens (x p)) fs
  images_fixed [] [] h = All-nil (λ p. Invariant S.field gens (x p))
  images_fixed [] (f ∷ fs) h = absurd h
  images_fixed (b ∷ bs) [] h = absurd h
  images_fixed (b ∷ bs) (f ∷ fs) h =
      All-cons (λ p. Invariant S.field gens (x p)) f fs
      (subst (Invariant S.field gens) (ap (λ n. reynolds S.field n R (single b)) (sym given.sizes) ∙ sym h.0) (generated_invariant S.field (size gens) R group gens square given.generated (single b)))
      (images_fixed bs fs h.1)

  pub images_generate : (fs : List Terms) → Each (λ b f. x f ≡ reynolds S.field (size R.elements) R (single b)) B fs → IsComplete S.field (length S.weights) gens (vectors_of S (λ m. m) θ) (vectors_of S (λ m. m) fs)
  images_generate fs h =
      averages_generate S.field gens (length S.weights) given.degrees (vectors_of S (λ m. m) θ) given.forms (all_map (λ p. Invariant S.field gens (x p)) (Invariant S.field gens) x (λ p h. h) θ given.fixed) given.generators given.square B given.standard
      (vectors_of S (λ m. m) fs) (on_vectors B fs (are_averages B fs h))
