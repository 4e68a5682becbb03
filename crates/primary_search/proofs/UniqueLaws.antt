-- There is at most one list of first primary invariants.
use Rattle.std.proofs.Common.{◌≡◌, ◌⊎◌, inl, inr, ◌∙◌, ℕ, zero, suc, ◌≤◌, List, [], ◌∷◌, ◌++◌, sym, ap, ap₂, subst, refl, arith, append_assoc, append-nil}
use native.Mathlib.Decide.{dec_le}
use Rattle.alg_core.specs.Spaces.{SpaceOver}
use Rattle.alg_core.specs.Vectors.{Vect}
use Rattle.lin_algebra.specs.declared.matrix.Matrix.{Matrix}
use Rattle.invariant_space.proofs.EchelonBasis.{echelon_basis_unique}
use Rattle.primary_search.specs.Candidates.{candidates}
use Rattle.primary_search.specs.Walks.{Taken, ArePlaces, FirstPrimaries}
use Rattle.primary_search.proofs.TakenLaws.{same_first, same_rest, taken_unique}

-- two fronts of one list: one is a front of the other
compare_fronts : {A : Type 0} (xs ys us vs : List A) → xs ++ us ≡ ys ++ vs → ((m : List A) × (xs ++ m ≡ ys)) ⊎ ((m : List A) × (ys ++ m ≡ xs))
compare_fronts [] ys us vs e = inl (ys, refl)
compare_fronts (x ∷ xs) [] us vs e = inr (x ∷ xs, refl)
compare_fronts {A = A} (x ∷ xs) (y ∷ ys) us vs e = go (compare_fronts xs ys us vs (same_rest x y (xs ++ us) (ys ++ vs) e))
  where
    same : x ≡ y
    same = same_first x y (xs ++ us) (ys ++ vs) e

    go : ((m : List A) × (xs ++ m ≡ ys)) ⊎ ((m : List A) × (ys ++ m ≡ xs)) → ((m : List A) × ((x ∷ xs) ++ m ≡ y ∷ ys)) ⊎ ((m : List A) × ((y ∷ ys) ++ m ≡ x ∷ xs))
    go (inl p) = inl (p.0, ap₂ ◌∷◌ same p.1)
    go (inr p) = inr (p.0, ap₂ ◌∷◌ (sym same) p.1)

module _ {E : Type 0} (S : SpaceOver E) (gens : List (Matrix E)) (tries : ℕ) where
  one_places : (d : ℕ) (cs ds : List (Vect S.field)) → ArePlaces S gens tries d cs → ArePlaces S gens tries d ds → cs ≡ ds
  one_places zero cs ds h g = h ∙ sym g
  one_places (suc d) cs ds h g =
      let before = one_places d h.0 g.0 h.2 g.2 in
      let basis = echelon_basis_unique S gens (suc d) h.1 g.1 h.3 g.3 in
      sym h.4 ∙ ap₂ (λ x y. x ++ candidates S.field tries y) before basis ∙ g.4

  -- the places of fewer degrees are a front of those of more
  more_places : (d e : ℕ) (cs ds : List (Vect S.field)) → d ≤ e → ArePlaces S gens tries d cs → ArePlaces S gens tries e ds → (m : List (Vect S.field)) × (cs ++ m ≡ ds)
  more_places d zero cs ds l h g = ([], append-nil cs ∙ one_places 0 cs ds (subst (λ n. ArePlaces S gens tries n cs) (let z : d ≡ 0 = omega arith in z) h) g)
  more_places d (suc e) cs ds l h g = go (dec_le d e) (λ q. more_places d e cs g.0 q h g.2)
    where
      go : Dec (d ≤ e) → (d ≤ e → (m : List (Vect S.field)) × (cs ++ m ≡ g.0)) → (m : List (Vect S.field)) × (cs ++ m ≡ ds)
      go (yes q) fewer = let r = fewer q in (r.0 ++ candidates S.field tries g.1, sym (append_assoc cs r.0 (candidates S.field tries g.1)) ∙ ap (λ x. x ++ candidates S.field tries g.1) r.1 ∙ g.4)
      go (no q) fewer = ([], append-nil cs ∙ one_places (suc e) cs ds (subst (λ n. ArePlaces S gens tries n cs) (let z : d ≡ suc e = omega arith in z) h) g)

  module _ (T U : List (Vect S.field)) (h : FirstPrimaries S gens tries T) (g : FirstPrimaries S gens tries U) where
    -- one walk is not longer than the other
    not_longer : (m : List (Vect S.field)) → h.passed ++ m ≡ g.passed → T ≡ U
    not_longer [] e = taken_unique S.field [] g.passed T U (subst (λ l. Taken S.field [] l T) (sym (append-nil h.passed) ∙ e) h.taken) g.taken
    not_longer (x ∷ m) e = absurd (g.first h.passed (x ∷ m) T e (omega arith) h.taken h.ended)

  one_first_from : (T U : List (Vect S.field)) (h : FirstPrimaries S gens tries T) (g : FirstPrimaries S gens tries U) → h.degree ≤ g.degree → T ≡ U
  one_first_from T U h g l = go (compare_fronts h.passed g.passed (h.rest ++ m.0) g.rest (sym (append_assoc h.passed h.rest m.0) ∙ m.1))
    where
      m : (m : List (Vect S.field)) × ((h.passed ++ h.rest) ++ m ≡ g.passed ++ g.rest)
      m = more_places h.degree g.degree (h.passed ++ h.rest) (g.passed ++ g.rest) l h.places g.places

      go : ((m : List (Vect S.field)) × (h.passed ++ m ≡ g.passed)) ⊎ ((m : List (Vect S.field)) × (g.passed ++ m ≡ h.passed)) → T ≡ U
      go (inl p) = not_longer T U h g p.0 p.1
      go (inr p) = sym (not_longer U T g h p.0 p.1)

  pub one_first : (T U : List (Vect S.field)) → FirstPrimaries S gens tries T → FirstPrimaries S gens tries U → T ≡ U
  one_first T U h g = go (dec_le h.degree g.degree)
    where
      go : Dec (h.degree ≤ g.degree) → T ≡ U
      go (yes l) = one_first_from T U h g l
      go (no n) = sym (one_first_from U T g h (omega arith))
