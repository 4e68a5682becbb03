-- Averages and secondary invariants can be written, and what is written of them.
use Rattle.std.proofs.Common.{◌≡◌, ℕ, suc, ◌<◌, ◌≤◌, ◌-◌, List, [], ◌∷◌, map, length, get_or, inl, inr, refl, sym, ap, subst}
use Rattle.std.specs.Prelude.{All, Some}
use Rattle.std.proofs.lemmas.List.Elements.{All-nil, All-cons}
use Rattle.alg_core.specs.Lists.{In}
use Rattle.alg_core.specs.SpaceGrading.{height}
use Rattle.alg_core.specs.Spaces.{SpaceOver, entries}
use Rattle.alg_core.specs.Vectors.{Vect}
use Rattle.alg_core.specs.declared.term.Term.{Term}
use Rattle.poly_module.specs.Combinations.{Over}
use Rattle.poly_module.specs.SpaceVectors.{ArePolys, vector_of, vectors_of}
use Rattle.poly_module.proofs.FittingKeys.{vec_in_variables}
use Rattle.poly_module.proofs.SpaceVectorLaws.{is_polynomial}
use Rattle.lin_algebra.specs.declared.matrix.Matrix.{Matrix}
use Rattle.matrix_group.specs.Actions.{Invariant}
use Rattle.poly_module.specs.declared.vector.Comb.{Comb}
use Rattle.certificate_io.specs.declared.evidence.Image.{Image}
use Rattle.secondary_gens.specs.Combined.{IsCombined}
use Rattle.secondary_gens.specs.Lists.{Each}
use Rattle.secondary_gens.specs.Forms.{degrees_of, unit_weights, IsSmallForm, IsPositiveForm}
use Rattle.secondary_gens.specs.Secondaries.{IsComplete}
use Rattle.irreducible_gens.specs.Algebras.{InAlgebra}
use Rattle.irreducible_gens.specs.Irreducibles.{IsIrreducible, members}
use Rattle.invring_app.specs.WrittenParts.{AreWritable}
use Rattle.invring_app.proofs.CopiedForms.{at_vectors, at_small, positive_forms}

-- beside each other, lists have one length
pub each_length : {A B : Type 0} (P : A → B → Type 0) (xs : List A) (ys : List B) → Each P xs ys → length xs ≡ length ys
each_length P [] [] h = refl
each_length P [] (y ∷ ys) h = absurd h
each_length P (x ∷ xs) [] h = absurd h
each_length P (x ∷ xs) (y ∷ ys) h = ap suc (each_length P xs ys h.1)

module _ {E : Type 0} (S : SpaceOver E) where
  abbrev Terms : Type 0
  Terms = List (Term E (List ℕ))

  abbrev x : List Terms → List (Vect S.field)
  x vs = vectors_of S (λ m. m) vs

  pub small_polys : (ps : List Terms) → All (IsSmallForm S) ps → ArePolys S (λ m. m) ps
  small_polys ps h i d l = (h i d l).polynomial

  -- invariants are combinations
  combined : (gens : List (Matrix E)) (θ T fs : List Terms) → IsComplete S.field (length S.weights) gens (vectors_of S (λ m. m) θ) (vectors_of S (λ m. m) T) → All (IsSmallForm S) fs
      → All (λ f. Invariant S.field gens (vector_of S (λ m. m) f)) fs → All (λ f. Over S.field (vectors_of S (λ m. m) θ) (vectors_of S (λ m. m) T) (vector_of S (λ m. m) f)) fs
  combined gens θ T fs complete small fixed i d l =
      let p = (small i d l).polynomial in
      complete _ (is_polynomial S (λ m. m) _ p) (vec_in_variables S (entries (λ m. m) _) p.fits) (fixed i d l)

  pub writable : (gens : List (Matrix E)) (θ fs T : List Terms) → All (IsPositiveForm S) θ → All (IsSmallForm S) fs → All (IsSmallForm S) T
      → All (λ f. Invariant S.field gens (vector_of S (λ m. m) f)) fs → ((i j : ℕ) → i ≤ j → j < length (degrees_of T) → height (degrees_of T) i ≤ height (degrees_of T) j)
      → IsComplete S.field (length S.weights) gens (vectors_of S (λ m. m) θ) (vectors_of S (λ m. m) T) → AreWritable S θ fs T
  writable gens θ fs T positive forms small fixed rise complete = record {
    primaries = positive;
    forms = forms;
    secondaries = small;
    rise = rise;
    over = combined gens θ T fs complete forms fixed;
  }

  -- the combinations of lines
  pub each_image : (θ T fs : List Terms) (ks : List (Comb E)) (xs : List (Image E)) → Each (λ f k. IsCombined S θ T f (Some k)) fs ks → map (λ x. x.comb) xs ≡ ks → Each (λ f x. IsCombined S θ T f (Some x.comb)) fs xs
  each_image θ T [] [] [] h e = tt
  each_image θ T [] [] (x ∷ xs) h e = absurd cc
  each_image θ T [] (k ∷ ks) xs h e = absurd h
  each_image θ T (f ∷ fs) [] xs h e = absurd h
  each_image θ T (f ∷ fs) (k ∷ ks) [] h e = absurd cc
  each_image θ T (f ∷ fs) (k ∷ ks) (x ∷ xs) h e =
      let first : x.comb ≡ k = cc in
      let rest : map (λ x. x.comb) xs ≡ ks = cc in
      (subst (λ c. IsCombined S θ T f (Some c)) (sym first) h.0, each_image θ T fs ks xs h.1 rest)

  module _ (θ T : List Terms) (small : All (IsSmallForm S) T) (ps : List ℕ) (qs : List Terms) (copies : map (entries (λ m. m)) qs ≡ map (λ p. entries (λ m. m) (get_or T (p - 1) [])) ps) (within : All (λ p. (0 < p) × (p ≤ length T)) ps)
      (irreducible : IsIrreducible S.field (vectors_of S (λ m. m) θ) (unit_weights S) (vectors_of S (λ m. m) T) (members S.field (vectors_of S (λ m. m) T) ps)) where
    pub generator_vectors : vectors_of S (λ m. m) qs ≡ members S.field (vectors_of S (λ m. m) T) ps
    generator_vectors = at_vectors S T small qs ps copies within

    are_irreducible : IsIrreducible S.field (vectors_of S (λ m. m) θ) (unit_weights S) (vectors_of S (λ m. m) T) (vectors_of S (λ m. m) qs)
    are_irreducible = subst (IsIrreducible S.field (x θ) (unit_weights S) (x T)) (sym generator_vectors) irreducible

    generators_small : All (IsSmallForm S) qs
    generators_small = at_small S T small qs ps copies within

    pub generators_positive : All (IsPositiveForm S) qs
    generators_positive = positive_forms S qs generators_small (λ v i. (are_irreducible.members v i).1)

    pub generator_polys : ArePolys S (λ m. m) qs
    generator_polys = small_polys qs generators_small

    pub generated : (ts : List Terms) → ((v : Vect S.field) → In v (vectors_of S (λ m. m) ts) → In v (vectors_of S (λ m. m) T))
        → All (λ f. InAlgebra S.field (vectors_of S (λ m. m) θ) (vectors_of S (λ m. m) qs) (vector_of S (λ m. m) f)) ts
    generated [] inside = All-nil (λ f. InAlgebra S.field (x θ) (x qs) (vector_of S (λ m. m) f))
    generated (t ∷ ts) inside = All-cons (λ f. InAlgebra S.field (x θ) (x qs) (vector_of S (λ m. m) f)) t ts (are_irreducible.generate _ (inside _ (inl refl))) (generated ts (λ v i. inside v (inr i)))
