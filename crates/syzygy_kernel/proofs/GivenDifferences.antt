-- The differences of the standard monomials, as they are handed in, and the vectors over the standard monomials.
use Rattle.std.proofs.Common.{◌≡◌, ◌∙◌, ◌+◌, ◌<◌, ℕ, zero, suc, List, [], ◌∷◌, ◌++◌, length, map, get_or, replicate, refl, sym, ap, subst, arith}
use Rattle.std.specs.Prelude.{All, Some, None, Option, slice_get}
use Rattle.alg_core.specs.Keys.{key}
use Rattle.alg_core.specs.MonomialParts.{variable_part}
use Rattle.alg_core.specs.Monomials.{mono}
use Rattle.alg_core.specs.Spaces.{SpaceOver, entries}
use Rattle.alg_core.specs.Vectors.{Vect}
use Rattle.alg_core.specs.declared.term.Term.{Term}
use Rattle.poly_module.specs.Forms.{IsForm, homogeneous_form}
use Rattle.poly_module.specs.GreatestExponents.{total}
use Rattle.poly_module.specs.Marks.{IsMixed}
use Rattle.poly_module.specs.Modules.{listed}
use Rattle.poly_module.specs.Polynomials.{single_vector}
use Rattle.poly_module.specs.SpaceVectors.{vector_of, vectors_of}
use Rattle.poly_module.proofs.EntryCoefficients.{term_at_index}
use Rattle.poly_module.proofs.ExponentBounds.{fits_keys}
use Rattle.lin_algebra.specs.declared.matrix.Matrix.{Matrix}
use Rattle.module_groebner.proofs.Families.{length_map}
use Rattle.finite_certificate.proofs.LowImages.{marked_length}
use Rattle.primary_module.specs.Positions.{IsPart, HasParts, part_at}
use Rattle.primary_module.specs.PrimaryModules.{Primaries, StandsOver, IsDifference, IsStandardDifference}
use Rattle.primary_module.proofs.Places.{standard_parts}
use Rattle.primary_module.proofs.ValueSteps.{marks_count}
use Rattle.syzygy_kernel.specs.GraphVectors.{HasPlaces, AreAllDifferences}

pub part_read : (B : List (List ℕ)) (j : ℕ) → j < length B → part_at B j ≡ mono (get_or B j [])
unfolding part_at
part_read [] j h = absurd (omega arith)
part_read (b ∷ B) zero h = refl
part_read (b ∷ B) (suc j) h = part_read B j (omega arith)

-- the member that is there
found : {A : Type 0} → A → Option A → A
found d (Some x) = x
found d None = d

pub all_items : {A C : Type 0} (items : A → C) (P : C → Type 0) (xs : List A) → All P (map items xs) → All (λ x. P (items x)) xs
all_items items P [] h i d w = absurd (omega arith)
all_items items P (x ∷ xs) h zero d w = h 0 (items x) (omega arith)
all_items items P (x ∷ xs) h (suc i) d w = all_items items P xs (λ j e v. h (suc j) e (omega arith)) i d (omega arith)

module _ {E : Type 0} (S : SpaceOver E) (n : ℕ) (ds : List ℕ) (P : Primaries E) (stands : StandsOver S n ds P) where
  abbrev Terms : Type 0
  Terms = List (Term E (List ℕ))

  abbrev θ : List (Vect S.field)
  θ = vectors_of S (λ m. m) P.theta

  abbrev B : List (List ℕ)
  B = P.monomials

  abbrev IsGiven : Matrix E → List ℕ → List (Term E (List ℕ)) → Type 0
  IsGiven = IsStandardDifference S n (vectors_of S (λ m. m) P.theta)

  given_parts : (m : Matrix E) (a : List ℕ) (p : List (Term E (List ℕ))) → IsStandardDifference S n (vectors_of S (λ m. m) P.theta) m a p → HasParts S.field n P.monomials (vector_of S (λ m. m) p)
  given_parts m a p h = (standard_parts n S.field θ B stands.monomials _).0 h.difference.coordinates.standard

  given_places : (m : Matrix E) (a : List ℕ) (p : List (Term E (List ℕ))) → IsStandardDifference S n (vectors_of S (λ m. m) P.theta) m a p → HasPlaces S.field n (length ds) P.monomials p
  unfolding key
  given_places m a p h =
      let wide : length S.weights ≡ n + length ds = marked_length S n ds stands.is.space in
      record {
        values = λ i d w. (term_at_index S (entries (λ m. m) p) i d w h.low.poly.fits).has;
        wide = λ i d w. (term_at_index S (entries (λ m. m) p) i d w h.low.poly.fits).place.wide ∙ wide;
        position = h.low.poly.position;
        parts = fits_keys S (λ t. IsPart B (variable_part n t.1)) (entries (λ m. m) p) h.low.poly.fits (given_parts m a p h);
      }

  pub all_counted : (gens : List (Matrix E)) (pss : List (List (List (Term E (List ℕ))))) → AreAllDifferences S n (vectors_of S (λ m. m) P.theta) P.monomials gens pss → length pss ≡ length gens
  all_counted [] [] h = refl
  all_counted [] (ps ∷ pss) h = absurd h
  all_counted (m ∷ gens) [] h = absurd h
  all_counted (m ∷ gens) (ps ∷ pss) h = ap suc (all_counted gens pss h.1)

  module _ (j : ℕ) (inside : j < length P.monomials) where
    pub all_places : (gens : List (Matrix E)) (pss : List (List (List (Term E (List ℕ))))) → AreAllDifferences S n (vectors_of S (λ m. m) P.theta) P.monomials gens pss
        → All (λ ps. (length ps ≡ length P.monomials) × HasPlaces S.field n (length ds) P.monomials (get_or ps j [])) pss
    all_places [] [] h i d w = absurd (omega arith)
    all_places [] (ps ∷ pss) h i d w = absurd h
    all_places (m ∷ gens) [] h i d w = absurd h
    all_places (m ∷ gens) (ps ∷ pss) h zero d w = (h.0.count, given_places m _ _ (h.0.each j inside))
    all_places (m ∷ gens) (ps ∷ pss) h (suc i) d w = all_places gens pss h.1 i d (omega arith)

    -- the coordinates of the differences of the monomial at the place
    abbrev at_place : List (List (Term E (List ℕ))) → Vect S.field
    at_place ps = vector_of S (λ m. m) (get_or ps j [])

    pub all_given : (gens : List (Matrix E)) (pss : List (List (List (Term E (List ℕ))))) → AreAllDifferences S n (vectors_of S (λ m. m) P.theta) P.monomials gens pss
        → (i : ℕ) (m : Matrix E) → slice_get gens i ≡ Some m → IsDifference S.field n (vectors_of S (λ m. m) P.theta) m (single_vector S.field (0, part_at P.monomials j)) (listed S.field (map at_place pss) i)
    unfolding found
    all_given [] [] h i m e = absurd (grind arith)
    all_given [] (ps ∷ pss) h i m e = absurd h
    all_given (g ∷ gens) [] h i m e = absurd h
    all_given (g ∷ gens) (ps ∷ pss) h zero m e =
        subst (λ x. IsDifference S.field n θ x (single_vector S.field (0, part_at B j)) (at_place ps)) (ap (found g) e)
        (subst (λ t. IsDifference S.field n θ g (single_vector S.field (0, t)) (at_place ps)) (sym (part_read B j inside)) (h.0.each j inside).difference)
    all_given (g ∷ gens) (ps ∷ pss) h (suc i) m e = all_given gens pss h.1 i m e

    pub all_forms : (gens : List (Matrix E)) (pss : List (List (List (Term E (List ℕ))))) → AreAllDifferences S n (vectors_of S (λ m. m) P.theta) P.monomials gens pss
        → (q : ℕ) → q < length pss → IsMixed S.field n (length ds) (listed S.field (map at_place pss) q)
        × HasParts S.field n P.monomials (listed S.field (map at_place pss) q) × IsForm S.field (replicate n 1 ++ ds) (total (get_or P.monomials j [])) (listed S.field (map at_place pss) q)
    all_forms [] [] h q l = absurd (omega arith)
    all_forms [] (ps ∷ pss) h q l = absurd h
    all_forms (g ∷ gens) [] h q l = absurd h
    all_forms (g ∷ gens) (ps ∷ pss) h zero l =
        let d = h.0.each j inside in
        let mixed = d.difference.coordinates.mixed in
        let many : length θ ≡ length ds = length_map (vector_of S (λ m. m)) P.theta ∙ sym (marks_count S n ds P.theta P.lifts stands.is) in (
          subst (λ (r : ℕ). IsMixed S.field n r (at_place ps)) many mixed,
          given_parts g _ _ d,
          subst (λ (ws : List ℕ). IsForm S.field ws (total (get_or B j [])) (at_place ps)) stands.is.space.weights
              (homogeneous_form S stands.is.space.shift (total (get_or B j [])) (at_place ps) mixed.polynomial d.homogeneous),
        )
    all_forms (g ∷ gens) (ps ∷ pss) h (suc q) l = all_forms gens pss h.1 q (omega arith)
