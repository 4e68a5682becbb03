-- What a walk keeps is among the members along which it goes, so that secondary invariants are invariants.
use Rattle.std.proofs.Common.{◌⊎◌, inl, inr, ℕ, zero, suc, List, [], ◌∷◌, ◌++◌, refl, subst}
use Rattle.std.specs.Prelude.{All}
use Rattle.std.proofs.lemmas.List.Elements.{All-nil, All-cons}
use Rattle.alg_core.specs.Lists.{In}
use Rattle.alg_core.specs.Spaces.{SpaceOver}
use Rattle.alg_core.specs.Vectors.{Vect}
use Rattle.alg_core.specs.declared.term.Term.{Term}
use Rattle.alg_core.proofs.Members.{in_cases}
use Rattle.poly_module.specs.SpaceVectors.{vector_of, vectors_of}
use Rattle.poly_module.specs.Walks.{Keeps}
use Rattle.lin_algebra.specs.declared.matrix.Matrix.{Matrix}
use Rattle.matrix_group.specs.Actions.{Invariant}
use Rattle.secondary_gens.specs.Secondaries.{AreBases, AreSecondaries}

module _ {A : Type 0} (Skips : List A → A → Type 0) where
  pub keeps_in : (kept xs all : List A) → Keeps Skips kept xs all → (x : A) → In x all → In x kept ⊎ In x xs
  keeps_in kept [] all h x i = inl (subst (In x) h i)
  keeps_in kept (y ∷ xs) all (inl h) x i = go (keeps_in kept xs all h.1 x i)
    where
      go : In x kept ⊎ In x xs → In x kept ⊎ In x (y ∷ xs)
      go (inl j) = inl j
      go (inr j) = inr (inr j)
  keeps_in kept (y ∷ xs) all (inr h) x i = go (keeps_in (kept ++ y ∷ []) xs all h.1 x i)
    where
      first : In x kept ⊎ In x (y ∷ []) → In x kept ⊎ In x (y ∷ xs)
      first (inl j) = inl j
      first (inr (inl e)) = inr (inl e)
      first (inr (inr j)) = absurd j

      go : In x (kept ++ y ∷ []) ⊎ In x xs → In x kept ⊎ In x (y ∷ xs)
      go (inl j) = first (in_cases x kept (y ∷ []) j)
      go (inr j) = inr (inr j)

module _ {E : Type 0} (S : SpaceOver E) (gens : List (Matrix E)) where
  pub bases_fixed : (d : ℕ) (fs : List (Vect S.field)) → AreBases S gens d fs → (v : Vect S.field) → In v fs → Invariant S.field gens v
  bases_fixed zero fs e v i = absurd (subst (In v) e i)
  bases_fixed (suc d) fs b v i =
      elim (in_cases v b.0 b.1 (subst (In v) b.4 i)) [ inl j ↦ bases_fixed d b.0 b.2 v j | inr j ↦ (b.3.reduced.inside v j).invariant ]

  -- secondary invariants are invariants
  pub secondaries_fixed : (θ : List (Vect S.field)) (ps : List (List (Term E (List ℕ)))) → AreSecondaries S gens θ (vectors_of S (λ m. m) ps) → All (λ p. Invariant S.field gens (vector_of S (λ m. m) p)) ps
  secondaries_fixed θ ps h = each ps (λ v i. member v (keeps_in _ [] h.forms (vectors_of S (λ m. m) ps) h.kept v i))
    where
      member : (v : Vect S.field) → In v [] ⊎ In v h.forms → Invariant S.field gens v
      member v (inl j) = absurd j
      member v (inr j) = bases_fixed h.bound h.forms h.bases v j

      each : (qs : List (List (Term E (List ℕ)))) → ((v : Vect S.field) → In v (vectors_of S (λ m. m) qs) → Invariant S.field gens v) → All (λ p. Invariant S.field gens (vector_of S (λ m. m) p)) qs
      each [] g = All-nil (λ p. Invariant S.field gens (vector_of S (λ m. m) p))
      each (q ∷ qs) g = All-cons (λ p. Invariant S.field gens (vector_of S (λ m. m) p)) q qs (g _ (inl refl)) (each qs (λ v i. g v (inr i)))
