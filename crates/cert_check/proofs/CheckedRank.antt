-- The free module over the primary invariants of a certificate, and its rank.
use Rattle.std.proofs.Common.{◌≡◌, ◌∙◌, ℕ, ◌+◌, ◌-◌, ◌<◌, ◌≤◌, List, [], ◌∷◌, ◌++◌, length, map, take, get_or, inl, inr, refl, sym, ap, ap₂, subst, Result, Ok, Err, arith}
use Rattle.std.specs.Prelude.{All, IfErr, IsErrAnd}
use Rattle.std.proofs.lemmas.List.{take_more}
use Rattle.alg_core.specs.Fields.{FieldOn}
use Rattle.alg_core.specs.Lists.{map_in}
use Rattle.alg_core.specs.SpaceGrading.{height}
use Rattle.alg_core.specs.Spaces.{SpaceOver, entries}
use Rattle.alg_core.specs.Vectors.{Entry}
use Rattle.alg_core.specs.declared.limits.Limits.{Limits}
use Rattle.alg_core.specs.declared.term.Term.{Term}
use Rattle.poly_module.specs.Forms.{form_homogeneous}
use Rattle.poly_module.specs.SpaceVectors.{ArePolys, vectors_of}
use Rattle.lin_algebra.specs.declared.matrix.Matrix.{Matrix}
use Rattle.module_groebner.proofs.Families.{all_in, in_all}
use Rattle.finite_certificate.specs.Finiteness.{FiniteBy}
use Rattle.finite_certificate.specs.MarkSpaces.{degree_limit}
use Rattle.finite_certificate.specs.StandardMonomials.{AreStandardMonomials, IsOverRank}
use Rattle.groebner_hom.specs.IdealBases.{IsHomogeneousPoly, AreHomogeneousPolys}
use Rattle.groebner_hom.specs.Lifts.{AreUnmarkedLifts, HavePowers}
use Rattle.groebner_hom.proofs.LiftLeads.{have_powers}
use Rattle.primary_module.specs.PrimaryModules.{Primaries as PrimariesOf, AreForModule, StandsOver}
use Rattle.primary_module.specs.declared.fault.RankFault.{RankFault}
use Rattle.primary_module.specs.declared.fault.RankFault.TheVariants as ranks
use Rattle.certificate_io.specs.Certificates.{CertificateOf}
use Rattle.cert_check.specs.Conditions.{Primaries, Lifts, Powers, LiftBasis, Rank, Secondaries, K2, K6, HasLifts, IsNonzeroForm, Meets}
use Rattle.cert_check.specs.Endings.{IsGiven, IsMarkedOf, IsModuleOf, IsTold, ending_of_rank}
use Rattle.cert_check.specs.Parts.{size, ones, degrees, polynomial, primaries, lifts, powers}
use Rattle.cert_check.specs.SmallPolynomials.{most_degree, IsSmallPoly}
use Rattle.cert_check.specs.WellFormed.{marked}
use Rattle.cert_check.specs.Work.{Reached, Fails, GroupStop, RankStop, TermStop, Keeps, MeetsBefore, KeepsBefore}
use Rattle.cert_check.specs.declared.ending.Ending.{Ending}
use Rattle.cert_check.specs.declared.ending.Ending.TheVariants.{Rejected, RankBound}
use Rattle.cert_check.proofs.CheckedPowers.{finite_met}
use Rattle.cert_check.proofs.CheckedPrimaries.{up, down, primary_forms, positive_is, space_is, low_is, forms_are, degree_within}
use Rattle.cert_check.proofs.GivenParts.{given_well, given_lifts}
use Rattle.cert_check.proofs.HoldsParts.{all_at}
use Rattle.cert_check.proofs.MadeLifts.{is_mark_space}
use Rattle.cert_check.proofs.MadeLists.{one_standard}
use Rattle.cert_check.proofs.PowersInIdeal.{powers_end}
use Rattle.cert_check.proofs.WorkSteps.{one_number, rank_passed, rank_fails}

-- copies of lists of terms
module _ {E : Type 0} where
  term-of : Entry E → Term E (List ℕ)
  term-of e = record { coef = e.1; at = record { pos = e.0.0; mono = e.0.1 } }

  terms-back : (v : List (Term E (List ℕ))) → map term-of (entries (λ m. m) v) ≡ v
  unfolding term-of
  terms-back [] = refl
  terms-back (t ∷ v) = ap (λ l. t ∷ l) (terms-back v)

  pub same_terms : (v w : List (Term E (List ℕ))) → entries (λ m. m) v ≡ entries (λ m. m) w → v ≡ w
  same_terms v w e = sym (terms-back v) ∙ ap (map term-of) e ∙ terms-back w

  pub copies_more : (fs made now : List (List (Term E (List ℕ)))) (i : ℕ) (f p : List (Term E (List ℕ))) → i < length fs → f ≡ get_or fs i f → entries (λ m. m) p ≡ entries (λ m. m) f
      → now ≡ made ++ p ∷ [] → made ≡ take i fs → now ≡ take (i + 1) fs
  copies_more fs made now i f p below read same pushed h =
      pushed ∙ ap₂ (λ xs x. xs ++ x ∷ []) h (same_terms p f same ∙ read) ∙ sym (take_more fs i f below)

abbrev Terms : Type 0
Terms = List (Term ℕ (List ℕ))

-- the ending of a fault of the standard monomials
pub rank_ending : {X : Type 0} (c : CertificateOf ℕ) (l : Limits) (r : Result X Ending) (f : RankFault) → IsErrAnd r (λ e. e ≡ ending_of_rank f)
    → ((counted : ℕ) → f ≡ ranks.RankBound counted → IsTold c l (RankBound counted)) → IfErr r (IsTold c l)
rank_ending c l (Ok x) f e told = tt
rank_ending c l (Err e) f same told = subst (IsTold c l) (sym same) (by f told)
  where
    by : (f : RankFault) → ((counted : ℕ) → f ≡ ranks.RankBound counted → IsTold c l (RankBound counted)) → IsTold c l (ending_of_rank f)
    by (ranks.RankBound counted) told = told counted refl
    by ranks.Memory told = tt

module _ (S : SpaceOver ℕ) (gens : List (Matrix ℕ)) (c : CertificateOf ℕ) (l : Limits) (given : IsGiven S gens c) (reached : Reached S.field gens c l (Rank, 0)) where
  abbrev k : FieldOn ℕ
  k = S.field

  abbrev M : SpaceOver ℕ
  M = marked S.field c

  pub primaries_met : (j : ℕ) → K2 S.field gens c j
  primaries_met j = reached.met Primaries j (inl (omega arith))

  has-lifts : HasLifts k gens c
  has-lifts = reached.met LiftBasis 0 (inl (omega arith)) refl

  finite : FiniteBy k (size c) (primaries k c) (powers k c)
  finite = finite_met k c (given_well S gens c given).power_each gens (λ i. reached.met Powers i (inl (omega arith)))

  have : HavePowers (marked S.field c) (size c) (lifts S.field c)
  have = have_powers M (size c) (degrees c) (primaries k c) (is_mark_space k (size c) (degrees c)) (primary_forms S gens c given primaries_met) (lifts k c) has-lifts.basis
      (powers_end k (size c) (degrees c) (primaries k c) (primary_forms S gens c given primaries_met) (powers k c) finite)

  lift-forms : All (IsNonzeroForm k (ones c ++ degrees c)) (lifts k c)
  lift-forms = all_at (IsNonzeroForm k (ones c ++ degrees c)) (lifts k c) (λ j f at. (reached.met Lifts j (inl (omega arith)) f at).0)

  lift-polys : AreHomogeneousPolys (marked S.field c) degree_limit c.lifts
  unfolding height
  lift-polys = in_all (IsHomogeneousPoly M degree_limit) c.lifts (λ p i.
      let small = all_in (IsSmallPoly M) c.lifts (given_lifts S gens c given) p i in
      let f = all_in (IsNonzeroForm k (ones c ++ degrees c)) (lifts k c) lift-forms (polynomial k p) (map_in (polynomial k) p c.lifts i) in
      let is = form_homogeneous M refl f.degree (polynomial k p) f.form in
      let low = degree_within M most_degree f.degree (polynomial k p) small.up_to is f.not_zero in
      record { polynomial = small.poly; homogeneous = (f.degree, omega arith, is) })

  leads-met : (j : ℕ) → ¬ (j ≡ size c + 1) → K6 k gens c j
  leads-met j other = record { lead = λ low high. have (j - 1) (omega (arith, low, high)); rank = λ e. absurd (other e) }

  told-fails : Fails k gens c l Rank (size c + 1) → IsTold c l (Rejected 6 (size c + 1))
  told-fails fails = (Rank, refl, record { field = k; matrices = gens; well_formed = given_well S gens c given; fails = fails })

  -- the limit on the standard monomials
  pub over_rank : (counted : ℕ) → counted ≡ l.max_rank + 1 → IsOverRank k (size c) (primaries k c) l.max_rank → IsTold c l (RankBound counted)
  over_rank counted e over = (e, record { field = k; matrices = gens; well_formed = given_well S gens c given; stops = record { met = met-before; kept = kept-before; exceeded = over } })
    where
      met-before : MeetsBefore k gens c (Rank, size c + 1)
      met-before x j (inl h) = reached.met x j (inl h)
      met-before x j (inr (e, h)) = subst (λ y. Meets k gens c y j) (sym (one_number x Rank e)) (leads-met j (λ q. omega (arith, h, q)))

      kept-before : KeepsBefore k gens c l (Rank, size c + 1)
      kept-before s (inl h) = reached.kept s (inl h)
      kept-before GroupStop (inr (e, h)) = absurd (omega (arith, e))
      kept-before RankStop (inr (e, h)) = absurd (omega (arith, h))
      kept-before TermStop (inr (e, h)) = absurd (omega (arith, e))

  module _ (T : SpaceOver ℕ) (m : ℕ) (es : List ℕ) (beside : IsMarkedOf c S T m es) (θ : List Terms) (polys : ArePolys T (λ m. m) θ)
      (same : vectors_of T (λ m. m) θ ≡ vectors_of T (λ m. m) c.primaries) where
    same-marked : vectors_of (marked S.field c) (λ m. m) θ ≡ primaries k c
    same-marked = down S gens c given primaries_met T m es beside (λ U i ws. vectors_of U (λ m. m) θ ≡ vectors_of U (λ m. m) c.primaries) same

    unmarked : AreUnmarkedLifts (marked S.field c) (size c) (vectors_of (marked S.field c) (λ m. m) θ) c.lifts
    unmarked = subst (λ vs. AreUnmarkedLifts M (size c) vs c.lifts) (sym same-marked)
        (record { polynomials = lift-polys; lifts = has-lifts.basis; unmarked = has-lifts.leads })

    pub for_module : AreForModule T m es θ c.lifts
    for_module = record {
      positive = positive_is S gens c given primaries_met T m es beside;
      space = space_is S gens c given primaries_met T m es beside;
      theta = low_is S gens c given primaries_met T m es beside θ polys same;
      forms = forms_are S gens c given primaries_met T m es beside θ polys same;
      lifts = up S gens c given primaries_met T m es beside (λ U i ws. AreUnmarkedLifts U i (vectors_of U (λ m. m) θ) c.lifts) unmarked;
      powers = up S gens c given primaries_met T m es beside (λ U i ws. HavePowers U i (vectors_of U (λ m. m) c.lifts)) have;
    }

    pub rank_bound : (counted : ℕ) → (counted ≡ l.max_rank + 1) × IsOverRank T.field m (vectors_of T (λ m. m) θ) l.max_rank → IsTold c l (RankBound counted)
    rank_bound counted h = over_rank counted h.0
        (subst (λ vs. IsOverRank k (size c) vs l.max_rank) same-marked
        (down S gens c given primaries_met T m es beside (λ U i ws. IsOverRank U.field i (vectors_of U (λ m. m) θ) l.max_rank) h.1))

    module _ (P : PrimariesOf ℕ) (stands : StandsOver T m es P) (theta : P.theta ≡ θ) (few : length P.monomials ≤ l.max_rank) where
      standard : AreStandardMonomials k (size c) (primaries k c) P.monomials
      standard = subst (λ vs. AreStandardMonomials k (size c) vs P.monomials) (ap (vectors_of M (λ m. m)) theta ∙ same-marked)
          (down S gens c given primaries_met T m es beside (λ U i ws. AreStandardMonomials U.field i (vectors_of U (λ m. m) P.theta) P.monomials) stands.monomials)

      kept : Keeps k gens c l RankStop
      kept = (P.monomials, standard, few)

      pub module_is : IsModuleOf c S T m es P
      module_is = record { stands = stands; theta = ap (vectors_of T (λ m. m)) theta ∙ same; monomials = standard }

      pub rank_holds : c.rank ≡ length P.monomials → Reached S.field gens c l (Secondaries, 0)
      rank_holds e = rank_passed k gens c l reached kept (λ i. record { lead = λ low high. have (i - 1) (omega (arith, low, high)); rank = λ q. (P.monomials, standard, e) })

      pub rank_told : ¬ (c.rank ≡ length P.monomials) → IsTold c l (Rejected 6 (size c + 1))
      rank_told other = told-fails (rank_fails k gens c l (size c + 1) reached kept (λ j low. leads-met j (λ q. omega (arith, low, q)))
          (λ met. let B = met.rank refl in other (B.2 ∙ ap length (one_standard k (size c) (primaries k c) B.0 P.monomials B.1 standard))))
