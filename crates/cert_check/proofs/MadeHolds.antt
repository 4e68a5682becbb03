-- A certificate that is made meets the conditions.
use Rattle.std.proofs.Common.{◌≡◌, ℕ, ◌-◌, ◌<◌, List, ◌++◌, length, replicate, sym, subst, arith}
use Rattle.std.specs.Prelude.{All, IfSome, Option, Some, None, slice_get}
use Rattle.alg_core.specs.BlockOrder.{length_ones}
use Rattle.alg_core.specs.Fields.{FieldOn}
use Rattle.alg_core.specs.Lists.{In}
use Rattle.alg_core.specs.Monomials.{mono}
use Rattle.alg_core.specs.SpaceOrder.{key_order}
use Rattle.alg_core.specs.Spaces.{entries}
use Rattle.alg_core.specs.Vectors.{Vect}
use Rattle.alg_core.proofs.Members.{from_map}
use Rattle.alg_core.proofs.PolynomialSpaces.{plain_positive}
use Rattle.poly_module.specs.declared.vector.Comb.{Comb}
use Rattle.poly_module.specs.Combinations.{mark_value}
use Rattle.poly_module.specs.Forms.{IsForm, AreForms}
use Rattle.poly_module.specs.Parts.{IsPolynomial, InVariables}
use Rattle.poly_module.specs.Polynomials.{single_vector}
use Rattle.poly_module.specs.SpaceVectors.{IsPoly}
use Rattle.poly_module.proofs.FittingKeys.{vec_in_variables}
use Rattle.poly_module.proofs.SpaceVectorLaws.{is_polynomial}
use Rattle.lin_algebra.specs.declared.matrix.Matrix.{Matrix}
use Rattle.matrix_group.specs.Actions.{Invariant}
use Rattle.matrix_group.specs.Groups.{IsNonsingular}
use Rattle.module_groebner.proofs.Families.{all_in, in_all}
use Rattle.reynolds_op.specs.Averages.{IsAverage}
use Rattle.finite_certificate.specs.Finiteness.{IsPower}
use Rattle.finite_certificate.specs.Ideals.{Ended, Regular}
use Rattle.finite_certificate.specs.MarkSpaces.{ArePositiveForms}
use Rattle.groebner_hom.specs.Lifts.{IsLeastPower}
use Rattle.groebner_hom.proofs.LiftLeads.{leads_unmarked, have_powers}
use Rattle.primary_search.proofs.FirstLaws.{IsSmallInvariant, first_small, first_regular}
use Rattle.secondary_gens.specs.Secondaries.{IsIrredundant}
use Rattle.secondary_gens.proofs.SecondaryDegrees.{Risen, secondaries_rise, secondaries_fixed_not_zero, secondaries_irredundant}
use Rattle.irreducible_gens.specs.Irreducibles.{IsOfPositiveDegree, IsIrreducible}
use Rattle.irreducible_gens.proofs.Chosen.{irreducible}
use Rattle.certificate_io.specs.Certificates.{CertificateOf, EvidenceOf, Averages, Members}
use Rattle.finite_certificate.specs.declared.power.Power.{Power}
use Rattle.cert_check.specs.Parts.{size, ones, polynomial, primaries, lifts, powers, secondaries, irreducibles, words, degrees}
use Rattle.cert_check.specs.WellFormed.{IsWellFormed, plain, marked}
use Rattle.cert_check.specs.Makings.{IsMade, IsPrinted, IsEvidenceOf}
use Rattle.cert_check.specs.Conditions.{K1, K2, K3, K4, K5, K6, K7, IsValue, MeetsEvidence, K9, K10, K11, Group, Primaries, Lifts, Powers, LiftBasis, Rank, Secondaries, Evidence, Redundance, Words, Reducibility, Holds}
use Rattle.cert_check.proofs.MadePlaces.{place_in, place_within, place_read, place_map}
use Rattle.cert_check.proofs.MadeForms.{IsProperForm, forms_known, positive_proper, positive_known, form_member}
use Rattle.cert_check.proofs.MadeLifts.{is_mark_space, lift_form, lift_value}
use Rattle.cert_check.proofs.MadePowers.{coordinates_power}

module _ (k : FieldOn ℕ) (gens : List (Matrix ℕ)) (c : CertificateOf ℕ) (tries : ℕ) (well : IsWellFormed k c gens) (made : IsMade k gens c tries) where
  abbrev n : ℕ
  n = size c

  small : (f : Vect k) → In f (primaries k c) → IsSmallInvariant (plain k c) gens made.first_primaries.degree f
  small = first_small (plain k c) gens tries (primaries k c) made.first_primaries

  positive_form : (f : Vect k) → In f (primaries k c) → IsOfPositiveDegree k (ones c) f
  positive_form f i =
      let s = small f i in
      record { degree = s.degree; positive = s.positive; form = subst (λ m. IsForm k (replicate m 1) s.degree f) (length_ones n) s.form.form; not_zero = s.not_zero }

  pub primary_forms : ArePositiveForms k (size c) (degrees c) (primaries k c)
  primary_forms = record {
    forms = forms_known k n c.primaries well.primaries (λ f i. positive_proper k n f (positive_form f i));
    variables = in_all (InVariables k n) (primaries k c) (λ f i. subst (λ m. InVariables k m f) (length_ones n) (small f i).form.variables);
    positive = positive_known k n c.primaries well.primaries positive_form;
  }

  pub primaries_regular : Regular k (primaries k c)
  primaries_regular = first_regular (plain k c) gens tries (primaries k c) made.first_primaries

  pub primaries_end : Ended k (size c) (primaries k c)
  primaries_end = subst (λ m. Ended k m (primaries k c)) (length_ones n) made.first_primaries.ended

  lift_polynomial : (v : Vect k) → In v (lifts k c) → IsPolynomial k v
  lift_polynomial v i =
      let x = from_map (polynomial k) v c.lifts i in
      subst (IsPolynomial k) x.2 (is_polynomial (marked k c) (λ m. m) x.0 (all_in (IsPoly (marked k c) (λ m. m)) c.lifts well.lifts x.0 x.1))

  lift_variables : (v : Vect k) → In v (lifts k c) → InVariables k (length (replicate n 1 ++ degrees c)) v
  lift_variables v i =
      let x = from_map (polynomial k) v c.lifts i in
      subst (InVariables k (length (replicate n 1 ++ degrees c))) x.2 (vec_in_variables (marked k c) (entries (λ m. m) x.0) (all_in (IsPoly (marked k c) (λ m. m)) c.lifts well.lifts x.0 x.1).fits)

  made_group : ((m : Matrix ℕ) → In m gens → IsNonsingular k m) → (i : ℕ) → K1 k gens c i
  made_group nonsingular i = record { matrix = λ m h. nonsingular m (place_in gens h.0 m h.2); order = λ e. made.order }

  pub primaries_fixed : All (Invariant k gens) (primaries k c)
  primaries_fixed = in_all (Invariant k gens) (primaries k c) (λ f i. (small f i).form.invariant)

  made_primaries : (j : ℕ) → K2 k gens c j
  made_primaries j f h = let i = place_in (primaries k c) h.0 f h.2 in (positive_form f i, (small f i).form.invariant)

  made_lifts : (j : ℕ) → K3 k gens c j
  made_lifts j f h =
      let i = place_in (lifts k c) h.0 f h.2 in (
        lift_form k n (degrees c) (primaries k c) primary_forms (lifts k c) made.are_lifts f i (lift_polynomial f i),
        lift_value k n (degrees c) (primaries k c) primary_forms (lifts k c) made.are_lifts f i (lift_polynomial f i),
      )

  made_powers : (i : ℕ) → K4 k gens c i
  made_powers i x h =
      let j = h.0 in
      let same : j ≡ i - 1 = let e = h.1 in omega arith in
      let within : j < n = let l = place_within c.powers j x h.2 in let e = well.power_each in omega arith in
      let read = place_read _ (powers k c) j (x.exponent, polynomial k x.form) (place_map (λ (p : Power ℕ). (p.exponent, polynomial k p.form)) c.powers j x h.2) in
      let p : IsLeastPower k n (primaries k c) j (x.exponent, polynomial k x.form) = subst (IsLeastPower k n (primaries k c) j) read (made.least_powers.each j within) in
      subst (λ m. IsPower k n (primaries k c) m (x.exponent, polynomial k x.form)) same
      (coordinates_power k n (degrees c) (primaries k c) primary_forms j x.exponent within p.exponent.inside (polynomial k x.form) p.form)

  made_lift_basis : (i : ℕ) → K5 k gens c i
  made_lift_basis i e = record {
    basis = made.are_lifts;
    leads = leads_unmarked (marked k c) n (degrees c) (primaries k c) (is_mark_space k n (degrees c)) primary_forms (lifts k c) made.are_lifts primaries_regular lift_polynomial lift_variables;
  }

  made_rank : (i : ℕ) → K6 k gens c i
  made_rank i = record {
    lead = λ low high. have_powers (marked k c) n (degrees c) (primaries k c) (is_mark_space k n (degrees c)) primary_forms (lifts k c) made.are_lifts primaries_end (i - 1) (omega arith);
    rank = λ e. (made.basis, made.standard, made.rank);
  }

  risen : Risen (plain k c) gens (primaries k c) made.are_secondaries.bound (secondaries k c)
  risen = secondaries_rise (plain k c) gens (primaries k c) (secondaries k c) made.are_secondaries

  secondary_forms : AreForms k (ones c) risen.degrees (secondaries k c)
  secondary_forms = subst (λ m. AreForms k (replicate m 1) risen.degrees (secondaries k c)) (length_ones n) risen.forms

  pub proper_secondary : (f : Vect k) → In f (secondaries k c) → IsProperForm k (size c) f
  proper_secondary f i =
      let d = form_member k (ones c) risen.degrees (secondaries k c) secondary_forms f i in
      record { degree = d.0; form = d.1; not_zero = (secondaries_fixed_not_zero (plain k c) gens (primaries k c) (secondaries k c) made.are_secondaries f i).1 }

  made_secondaries : (j : ℕ) → K7 k gens c j
  made_secondaries j f h =
      let i = place_in (secondaries k c) h.0 f h.2 in
      let p = proper_secondary f i in
      (record { not_zero = p.not_zero; degree = p.degree; form = p.form }, (secondaries_fixed_not_zero (plain k c) gens (primaries k c) (secondaries k c) made.are_secondaries f i).0)

  value_printed : (f : Vect k) (x : Option (Comb ℕ)) → IfSome x (IsPrinted k gens c f) → IsValue k gens c f x
  value_printed f None h = tt
  value_printed f (Some y) h = h.value

  made_evidence : (e : EvidenceOf ℕ) → IsEvidenceOf k gens c e → (i : ℕ) → MeetsEvidence k gens c e i
  made_evidence (Averages xs) h i = record {
    whole = λ e. (h.characteristic, h.standard);
    line = λ x at. let m = h.images at.0 x at.2 in subst (IsAverage k gens (single_vector k (0, mono x.mono))) (sym m.printed.value) m.is;
  }
  made_evidence (Members ls) h i = record {
    whole = λ e. (h.basis, h.standard, h.kernel);
    line = λ l at. value_printed (mark_value k (size c) (primaries k c) (polynomial k l.u)) l.comb (h.lines at.0 l at.2);
  }

  irredundant : IsIrredundant k (primaries k c) (secondaries k c)
  irredundant = secondaries_irredundant (plain k c) gens (primaries k c) (secondaries k c) made.are_secondaries (degrees c)
      (subst (λ m. AreForms k (replicate m 1) (degrees c) (primaries k c)) (sym (length_ones n)) primary_forms.forms) primary_forms.positive

  made_redundance : (j : ℕ) → K9 k gens c j
  made_redundance j f h =
      let same : h.0 ≡ j - 1 = let e = h.1 in omega arith in
      irredundant (j - 1) (subst (λ i. i < length (secondaries k c)) same (place_within (secondaries k c) h.0 f h.2))

  pub made_irreducible : IsIrreducible k (primaries k c) (ones c) (secondaries k c) (irreducibles k c)
  made_irreducible = subst (IsIrreducible k (primaries k c) (ones c) (secondaries k c)) (sym made.irreducible)
      (irreducible k (primaries k c) (secondaries k c) made.places made.are_irreducibles (key_order (plain k c)) (ones c) (degrees c) risen.degrees (plain_positive k n).1
      primary_forms.forms primary_forms.positive secondary_forms risen.rise)

  made_words : (i : ℕ) → K10 k gens c i
  made_words i = record {
    generator = λ q h. made_irreducible.members q (place_in (irreducibles k c) h.0 q h.2);
    word = λ j u s e a b.
        let same : a.0 ≡ b.0 = let x = a.1 in let y = b.1 in omega arith in
        (made.are_words b.0 s u b.2 (subst (λ l. slice_get (words k c) l ≡ Some u) same a.2)).value;
  }

  made_reducibility : (l : ℕ) → K11 k gens c l
  made_reducibility l q h =
      let same : h.0 ≡ l - 1 = let e = h.1 in omega arith in
      made_irreducible.needed (l - 1) (subst (λ i. i < length (irreducibles k c)) same (place_within (irreducibles k c) h.0 q h.2))

  -- each condition
  pub made_holds : All (IsNonsingular k) gens → Holds k gens c
  made_holds nonsingular Group i = made_group (all_in (IsNonsingular k) gens nonsingular) i
  made_holds nonsingular Primaries i = made_primaries i
  made_holds nonsingular Lifts i = made_lifts i
  made_holds nonsingular Powers i = made_powers i
  made_holds nonsingular LiftBasis i = made_lift_basis i
  made_holds nonsingular Rank i = made_rank i
  made_holds nonsingular Secondaries i = made_secondaries i
  made_holds nonsingular Evidence i = made_evidence c.evidence made.evidence i
  made_holds nonsingular Redundance i = made_redundance i
  made_holds nonsingular Words i = made_words i
  made_holds nonsingular Reducibility i = made_reducibility i
