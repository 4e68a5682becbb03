-- What becomes of a candidate, told by the kept basis of the ideal of what was taken.
use Rattle.std.proofs.Common.{◌≡◌, ◌∙◌, ◌⊎◌, inl, inr, ℕ, List, [], ◌∷◌, ◌++◌, sym, ap, subst, refl}
use Rattle.alg_core.specs.Spaces.{SpaceOver, entries}
use Rattle.alg_core.specs.Vectors.{Vect, vec}
use Rattle.alg_core.specs.declared.term.Term.{Term}
use Rattle.poly_module.specs.ReducedLists.{IsReducedBasisOf}
use Rattle.poly_module.specs.SpaceVectors.{vector_of, vectors_of}
use Rattle.module_groebner.specs.declared.bound.BasisBound.{BasisBound}
use Rattle.finite_certificate.specs.Ideals.{InIdeal, Nonzerodivisor}
use Rattle.groebner_hom.specs.Colons.{NoColonAbove, IsColonBound}
use Rattle.groebner_hom.specs.IdealBases.{NoIdealAbove, IsIdealBound}
use Rattle.primary_search.specs.KeptBases.{IsKept}
use Rattle.primary_search.specs.Searches.{Passes, IsStop}
use Rattle.primary_search.proofs.KeptLaws.{push_same, nonzerodivisor_same, no_colon_same, colon_bound_same, no_ideal_same, ideal_bound_same, reduced_same, kept_ideal}
use Rattle.primary_search.proofs.OfferSteps.{offer_passed, offer_colon_stop, offer_ideal_stop, vectors_push}

module _ {E : Type 0} (S : SpaceOver E) (cap : ℕ) (T bs : List (List (Term E (List ℕ)))) (kept : IsKept S cap T bs) where
  abbrev Terms : Type 0
  Terms = List (Term E (List ℕ))

  abbrev xs : List Terms → List (Vect S.field)
  xs ps = vectors_of S (λ m. m) ps

  module _ (v : Vect S.field) where
    pub kept_colon : NoColonAbove S (vectors_of S (λ m. m) bs) v cap → NoColonAbove S (vectors_of S (λ m. m) T) v cap
    kept_colon = no_colon_same S (xs bs) (xs T) (kept_ideal S cap T bs kept) v cap

    pub kept_nonzerodivisor : Nonzerodivisor S.field (vectors_of S (λ m. m) bs) v → Nonzerodivisor S.field (vectors_of S (λ m. m) T) v
    kept_nonzerodivisor = (nonzerodivisor_same S.field (xs bs) (xs T) (kept_ideal S cap T bs kept) v).0

    pub kept_passed : NoColonAbove S (vectors_of S (λ m. m) bs) v cap → ¬ Nonzerodivisor S.field (vectors_of S (λ m. m) bs) v → Passes S cap (vectors_of S (λ m. m) T) (v ∷ []) (vectors_of S (λ m. m) T)
    kept_passed colon none = offer_passed S cap (xs T) v (kept_colon colon) (λ n. none ((nonzerodivisor_same S.field (xs bs) (xs T) (kept_ideal S cap T bs kept) v).1 n))

    pub kept_colon_stop : (b : BasisBound E) → NoIdealAbove S (vectors_of S (λ m. m) T) cap
        → IsColonBound S (vectors_of S (λ m. m) bs) v cap b ⊎ (NoColonAbove S (vectors_of S (λ m. m) bs) v cap × IsIdealBound S (vectors_of S (λ m. m) bs) cap b) → IsStop S cap (vectors_of S (λ m. m) T) (v ∷ []) b
    kept_colon_stop b none (inl h) = offer_colon_stop S cap (xs T) v b none (inl (colon_bound_same S (xs bs) (xs T) (kept_ideal S cap T bs kept) v cap b h))
    kept_colon_stop b none (inr h) = offer_colon_stop S cap (xs T) v b none (inr (kept_colon h.0, ideal_bound_same S (xs bs) (xs T) (kept_ideal S cap T bs kept) cap b h.1))

  -- the kept basis and the candidate generate the ideal of what is taken with it
  module _ (p c : List (Term E (List ℕ))) (copied : entries (λ m. m) c ≡ entries (λ m. m) p) (gs V : List (List (Term E (List ℕ)))) (are : gs ≡ bs ++ c ∷ []) (whole : V ≡ T ++ p ∷ []) where
    abbrev v : Vect S.field
    v = vector_of S (λ m. m) p

    generators : vectors_of S (λ m. m) gs ≡ vectors_of S (λ m. m) bs ++ vector_of S (λ m. m) p ∷ []
    generators = ap xs are ∙ vectors_push S bs c ∙ ap (λ es. xs bs ++ vec S.field es ∷ []) copied

    pub taken_whole : vectors_of S (λ m. m) V ≡ vectors_of S (λ m. m) T ++ vector_of S (λ m. m) p ∷ []
    taken_whole = ap xs whole ∙ vectors_push S T p

    pub grown_ideal : NoIdealAbove S (vectors_of S (λ m. m) gs) cap → NoIdealAbove S (vectors_of S (λ m. m) V) cap
    grown_ideal n = subst (λ l. NoIdealAbove S l cap) (sym taken_whole) (no_ideal_same S (xs bs ++ v ∷ []) (xs T ++ v ∷ []) (push_same S.field (xs bs) (xs T) (kept_ideal S cap T bs kept) v) cap (subst (λ l. NoIdealAbove S l cap) generators n))

    pub grown_reduced : (ns : List (List (Term E (List ℕ)))) → IsReducedBasisOf S (InIdeal S.field (vectors_of S (λ m. m) gs)) (vectors_of S (λ m. m) ns) → IsReducedBasisOf S (InIdeal S.field (vectors_of S (λ m. m) V)) (vectors_of S (λ m. m) ns)
    grown_reduced ns r = subst (λ l. IsReducedBasisOf S (InIdeal S.field l) (xs ns)) (sym taken_whole)
        (reduced_same S (xs bs ++ v ∷ []) (xs T ++ v ∷ []) (push_same S.field (xs bs) (xs T) (kept_ideal S cap T bs kept) v) (xs ns) (subst (λ l. IsReducedBasisOf S (InIdeal S.field l) (xs ns)) generators r))

    pub grown_stop : NoColonAbove S (vectors_of S (λ m. m) bs) (vector_of S (λ m. m) p) cap → Nonzerodivisor S.field (vectors_of S (λ m. m) bs) (vector_of S (λ m. m) p) → (b : BasisBound E) → IsIdealBound S (vectors_of S (λ m. m) gs) cap b
        → IsStop S cap (vectors_of S (λ m. m) T) (vector_of S (λ m. m) p ∷ []) b
    grown_stop colon n b h = offer_ideal_stop S cap (xs T) (xs T ++ v ∷ []) v refl (kept_colon v colon) (kept_nonzerodivisor v n) b
        (ideal_bound_same S (xs bs ++ v ∷ []) (xs T ++ v ∷ []) (push_same S.field (xs bs) (xs T) (kept_ideal S cap T bs kept) v) cap b (subst (λ l. IsIdealBound S l cap b) generators h))
