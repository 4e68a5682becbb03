-- What becomes of one candidate.
use Rattle.std.proofs.Common.{◌≡◌, ◌⊎◌, Bool, Option, Some, None, Result, Ok, Err, inl, inr, ◌∙◌, ℕ, ◌<◌, true, false, List, [], ◌∷◌, ◌++◌, length, replicate, sym, ap, subst, refl}
use Rattle.std.specs.Prelude.{IfNone, IfSome, IsErrAnd, IsTrue, not}
use Rattle.std.specs.Option.{is_some}
use Rattle.std.proofs.lemmas.List.{map-append}
use Rattle.alg_core.specs.Fields.{FieldOn}
use Rattle.alg_core.specs.Lists.{In}
use Rattle.alg_core.specs.SpaceGrading.{height}
use Rattle.alg_core.specs.Spaces.{SpaceOver}
use Rattle.alg_core.specs.Vectors.{Vect}
use Rattle.alg_core.specs.declared.term.Term.{Term}
use Rattle.alg_core.proofs.Members.{from_map, in_cases}
use Rattle.poly_module.specs.Parts.{IsPolynomial}
use Rattle.poly_module.specs.ReducedLists.{IsReducedBasisOf}
use Rattle.poly_module.specs.SpaceVectors.{IsPositive, vector_of, vectors_of}
use Rattle.poly_module.proofs.SpaceVectorLaws.{is_polynomial}
use Rattle.poly_module.specs.Degrees.{IsHomogeneous}
use Rattle.module_groebner.specs.declared.bound.BasisBound.{BasisBound}
use Rattle.module_groebner.specs.declared.bound.BasisFault.{BasisFault}
use Rattle.module_groebner.specs.declared.bound.BasisFault.TheVariants as faults
use Rattle.module_groebner.proofs.Families.{all_in, in_all}
use Rattle.finite_certificate.specs.Ideals.{InIdeal, Nonzerodivisor, Ended}
use Rattle.groebner_hom.specs.Colons.{NoColonAbove, IsColonBound}
use Rattle.groebner_hom.specs.IdealBases.{IsHomogeneousPoly, AreHomogeneousPolys, NoIdealAbove, IsIdealBound}
use Rattle.groebner_hom.proofs.SecondParts.{not_true}
use Rattle.groebner_hom.specs.LeadPowers.{HasPowerLead}
use Rattle.primary_search.specs.Searches.{IsUnfinished, Passes, Reaches, IsStop, IsLast}
use Rattle.primary_search.proofs.EndedLaws.{no_power, all_powers}

-- a list that has some variable without a power has not each variable with one
pub not_ended : {E : Type 0} (k : FieldOn E) (n : ℕ) (T : List (Vect k)) → IsUnfinished k n T → ¬ Ended k n T
not_ended k n T u e = let p = e u.variable u.within in u.powerless p.0 p.1

-- the fault that is handed on
pub told : {X E : Type 0} (r : Result X (BasisFault E)) (e : BasisFault E) → IsErrAnd r (λ x. x ≡ e) → (b : BasisBound E) → r ≡ Err (faults.Above b) → e ≡ faults.Above b
told (Ok x) e t b q = absurd t
told (Err x) e t b q = sym t ∙ ap (error_or (faults.Above b)) q
  where
    error_or : {X E : Type 0} → E → Result X E → E
    error_or d (Ok y) = d
    error_or d (Err y) = y

module _ {E : Type 0} (S : SpaceOver E) where
  abbrev Terms : Type 0
  Terms = List (Term E (List ℕ))

  abbrev xs : List Terms → List (Vect S.field)
  xs ps = vectors_of S (λ m. m) ps

  module _ (cap : ℕ) where
    -- it is the only one of a list
    only_one : (T : List (Vect S.field)) (c : Vect S.field) → Reaches S cap T (c ∷ []) T c
    only_one T c = record { front = []; back = []; place = refl; walked = refl }

    pub offer_passed : (T : List (Vect S.field)) (c : Vect S.field) → NoColonAbove S T c cap → ¬ Nonzerodivisor S.field T c → Passes S cap T (c ∷ []) T
    offer_passed T c n z = (n, inr (z, refl))

    module _ (T V : List (Vect S.field)) (c : Vect S.field) (whole : V ≡ T ++ c ∷ []) (colon : NoColonAbove S T c cap) (nonzero : Nonzerodivisor S.field T c) where
      pub offer_taken : NoIdealAbove S V cap → IsUnfinished S.field (length S.weights) V → Passes S cap T (c ∷ []) V
      offer_taken i u = (colon, inl (nonzero, subst (λ l. NoIdealAbove S l cap) whole i, subst (λ l. ¬ Ended S.field (length S.weights) l) whole (not_ended S.field (length S.weights) V u), whole))

      pub offer_last : NoIdealAbove S V cap → Ended S.field (length S.weights) V → IsLast S cap T (c ∷ []) V
      offer_last i e = record { taken = T; candidate = c; reaches = only_one T c; takes = record { colon = colon; nonzerodivisor = nonzero }; ideal = i; whole = sym whole; ended = e }

      pub offer_ideal_stop : (b : BasisBound E) → IsIdealBound S V cap b → IsStop S cap T (c ∷ []) b
      offer_ideal_stop b h = record { taken = T; candidate = c; reaches = only_one T c; bound = inr (record { colon = colon; nonzerodivisor = nonzero }, subst (λ l. IsIdealBound S l cap b) whole h) }

    pub offer_colon_stop : (T : List (Vect S.field)) (c : Vect S.field) (b : BasisBound E) → NoIdealAbove S T cap
        → IsColonBound S T c cap b ⊎ (NoColonAbove S T c cap × IsIdealBound S T cap b) → IsStop S cap T (c ∷ []) b
    offer_colon_stop T c b none (inl h) = record { taken = T; candidate = c; reaches = only_one T c; bound = inl h }
    offer_colon_stop T c b none (inr h) = absurd (let i = h.1 in none (vector_of S (λ m. m) b.vector) i.lead i.above)

  -- one polynomial more
  pub vectors_push : (ps : List (List (Term E (List ℕ)))) (p : List (Term E (List ℕ))) → vectors_of S (λ m. m) (ps ++ p ∷ []) ≡ vectors_of S (λ m. m) ps ++ vector_of S (λ m. m) p ∷ []
  vectors_push ps p = map-append (vector_of S (λ m. m)) ps (p ∷ [])

  pub polys_push : (d : ℕ) (ps : List (List (Term E (List ℕ)))) (p : List (Term E (List ℕ))) → AreHomogeneousPolys S d ps → IsHomogeneousPoly S d p → AreHomogeneousPolys S d (ps ++ p ∷ [])
  polys_push d ps p h g = in_all (IsHomogeneousPoly S d) (ps ++ p ∷ []) (λ q i. go q (in_cases q ps (p ∷ []) i))
    where
      go : (q : Terms) → In q ps ⊎ In q (p ∷ []) → IsHomogeneousPoly S d q
      go q (inl i) = all_in (IsHomogeneousPoly S d) ps h q i
      go q (inr (inl e)) = subst (IsHomogeneousPoly S d) e g
      go q (inr (inr i)) = absurd i

  module _ (positive : IsPositive S) (ones : S.weights ≡ replicate (length S.weights) 1) (shift : height S.shifts 0 ≡ 0) (θ : List (Vect S.field)) (cap : ℕ) (basis : List (List (Term E (List ℕ))))
      (polys : AreHomogeneousPolys S cap basis) (reduced : IsReducedBasisOf S (InIdeal S.field θ) (vectors_of S (λ m. m) basis)) where
    member_polynomial : (w : Vect S.field) → In w (vectors_of S (λ m. m) basis) → IsPolynomial S.field w
    member_polynomial w i = let p = from_map (vector_of S (λ m. m)) w basis i in subst (IsPolynomial S.field) p.2 (is_polynomial S (λ m. m) p.0 (all_in (IsHomogeneousPoly S cap) basis polys p.0 p.1).polynomial)

    member_homogeneous : (w : Vect S.field) → In w (vectors_of S (λ m. m) basis) → (d : ℕ) × IsHomogeneous S d w
    member_homogeneous w i =
        let p = from_map (vector_of S (λ m. m)) w basis i in
        let h = (all_in (IsHomogeneousPoly S cap) basis polys p.0 p.1).homogeneous in
        (h.0, subst (IsHomogeneous S h.0) p.2 h.2)

    -- where each variable has a lead
    pub leads_ended : ((i : ℕ) → i < length S.weights → HasPowerLead S (vectors_of S (λ m. m) basis) i) → Ended S.field (length S.weights) θ
    leads_ended powers = all_powers S positive.weights θ (vectors_of S (λ m. m) basis) reduced ones shift member_polynomial member_homogeneous powers

    -- and where one has none
    pub leads_unfinished : (i : ℕ) → i < length S.weights → ¬ HasPowerLead S (vectors_of S (λ m. m) basis) i → IsUnfinished S.field (length S.weights) θ
    leads_unfinished i h n = record { variable = i; within = h; powerless = λ e. no_power S positive.weights θ (vectors_of S (λ m. m) basis) reduced i e n }

    -- what the answer of the last test says
    pub outcome : (seen : List (List (Term E (List ℕ)))) (o : Option ℕ) (b : Bool) → seen ≡ basis → is_some o ≡ not b
        → IfNone o ((i : ℕ) → i < length S.weights → HasPowerLead S (vectors_of S (λ m. m) seen) i)
        → IfSome o (λ i. (i < length S.weights) × (¬ HasPowerLead S (vectors_of S (λ m. m) seen) i))
        → (IsTrue b → Ended S.field (length S.weights) θ) × (b ≡ false → IsUnfinished S.field (length S.weights) θ)
    outcome seen None true same e none some = (λ t. leads_ended (subst (λ l. (i : ℕ) → i < length S.weights → HasPowerLead S (vectors_of S (λ m. m) l) i) same none), λ f. absurd (not_true true f refl))
    outcome seen None false same e none some = absurd (not_true false refl e)
    outcome seen (Some i) true same e none some = absurd (not_true true e refl)
    outcome seen (Some i) false same e none some = (λ t. absurd (not_true false refl t), λ f. leads_unfinished i some.0 (subst (λ l. ¬ HasPowerLead S (vectors_of S (λ m. m) l) i) same some.1))
