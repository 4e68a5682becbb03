-- What the items of the conditions say of all members of a list, and what the parts of a certificate are by their spaces.
use Rattle.std.proofs.Common.{◌≡◌, ◌∙◌, ◌+◌, ◌-◌, ◌<◌, ℕ, List, ◌++◌, length, get_or, refl, sym, subst, arith}
use Rattle.std.specs.Prelude.{All}
use Rattle.std.proofs.lemmas.List.{length-map, length-append}
use Rattle.std.proofs.lemmas.List.Elements.{All-map}
use Rattle.std.proofs.lemmas.Option.{slice_get-get_or}
use Rattle.alg_core.specs.BlockOrder.{length_ones}
use Rattle.alg_core.specs.Fields.{FieldOn}
use Rattle.alg_core.specs.Spaces.{SpaceOver, entries}
use Rattle.alg_core.specs.Vectors.{Vect}
use Rattle.alg_core.specs.declared.term.Term.{Term}
use Rattle.poly_module.specs.Combinations.{IsCombination}
use Rattle.poly_module.specs.Parts.{InVariables}
use Rattle.poly_module.specs.SpaceVectors.{IsPoly, IsVector, vector_of}
use Rattle.poly_module.proofs.FittingKeys.{vec_in_variables, vec_positions}
use Rattle.poly_module.proofs.SpaceVectorLaws.{is_polynomial}
use Rattle.lin_algebra.specs.declared.matrix.Matrix.{Matrix}
use Rattle.secondary_gens.specs.Forms.{degree_of}
use Rattle.irreducible_gens.specs.Algebras.{IsWord}
use Rattle.certificate_io.specs.Certificates.{CertificateOf}
use Rattle.cert_check.specs.Parts.{At, size, polynomial, primaries, secondaries, irreducibles, words, degrees, secondary_degrees, irreducible_degrees}
use Rattle.cert_check.specs.WellFormed.{IsWellFormed, plain, combined, worded}

-- the member at a place, from 0, is the one at the next place, from 1
pub at_place : {A : Type 0} (xs : List A) (i : ℕ) (d : A) → i < length xs → At xs (i + 1) (get_or xs i d)
at_place xs i d h = (i, refl, slice_get-get_or xs i d h)

pub all_at : {A : Type 0} (P : A → Type 0) (xs : List A) → ((i : ℕ) (x : A) → At xs i x → P x) → All P xs
all_at P xs h i d l = h (i + 1) (get_or xs i d) (at_place xs i d l)

-- what no member has, counted from 1, none has, counted from 0
pub none_at : {A : Type 0} (P : ℕ → Type 0) (xs : List A) (d : A) → ((i : ℕ) (x : A) → At xs i x → ¬ P (i - 1)) → (i : ℕ) → i < length xs → ¬ P i
none_at P xs d h i l =
    let e : i + 1 - 1 ≡ i = omega arith in
    subst (λ (j : ℕ). ¬ P j) e (h (i + 1) (get_or xs i d) (at_place xs i d l))

module _ {E : Type 0} (S : SpaceOver E) where
  -- the polynomials of a space, with the variables of its weights
  pub poly_word : (p : List (Term E (List ℕ))) → IsPoly S (λ m. m) p → IsWord S.field (length S.weights) (vector_of S (λ m. m) p)
  poly_word p h = record { polynomial = is_polynomial S (λ m. m) p h; variables = vec_in_variables S (entries (λ m. m) p) h.fits }

  pub vector_combination : (v : List (Term E (List ℕ))) → IsVector S (λ m. m) v → IsCombination S.field (length S.weights) (length S.shifts) (vector_of S (λ m. m) v)
  vector_combination v h t c = (vec_in_variables S (entries (λ m. m) v) h t c, vec_positions S (entries (λ m. m) v) h t c)

module _ (k : FieldOn ℕ) (gens : List (Matrix ℕ)) (c : CertificateOf ℕ) (given : IsWellFormed k c gens) where
  abbrev θ : List (Vect k)
  θ = primaries k c

  pub primaries_in_variables : All (InVariables k (size c)) θ
  primaries_in_variables = All-map (InVariables k (size c)) (polynomial k) c.primaries
      (λ i d l. subst (λ (m : ℕ). InVariables k m (polynomial k (get_or c.primaries i d))) (length_ones (size c)) (poly_word (plain k c) (get_or c.primaries i d) (given.primaries i d l)).variables)

  marks_count : length (degrees c) ≡ length θ
  marks_count = length-map c.primaries degree_of ∙ sym (length-map c.primaries (polynomial k))

  -- a combination of the certificate has a variable for each primary and a position for each secondary invariant
  pub combination_keys : (v : List (Term ℕ (List ℕ))) → IsVector (combined k c) (λ m. m) v → IsCombination k (length θ) (length (secondaries k c)) (polynomial k v)
  combination_keys v fits =
      let places : length (secondary_degrees c) ≡ length (secondaries k c) = length-map c.secondaries degree_of ∙ sym (length-map c.secondaries (polynomial k)) in
      let h = vector_combination (combined k c) v fits in
      λ t n. (let q = (h t n).0 in omega (arith, marks_count), let q = (h t n).1 in omega arith)

  -- a word has a variable for each primary invariant and each irreducible generator
  pub words_fit : All (IsWord k (length (θ ++ irreducibles k c))) (words k c)
  words_fit = All-map (IsWord k (length (θ ++ irreducibles k c))) (polynomial k) c.words
      (λ i d l. subst (λ (m : ℕ). IsWord k m (polynomial k (get_or c.words i d))) count (poly_word (worded k c) (get_or c.words i d) (given.words i d l)))
    where
      count : length (degrees c ++ irreducible_degrees c) ≡ length (θ ++ irreducibles k c)
      count =
          let irr : length (irreducible_degrees c) ≡ length (irreducibles k c) = length-map c.irreducibles degree_of ∙ sym (length-map c.irreducibles (polynomial k)) in
          let a = length-append (degrees c) (irreducible_degrees c) in
          let b = length-append θ (irreducibles k c) in
          omega (arith, marks_count)
