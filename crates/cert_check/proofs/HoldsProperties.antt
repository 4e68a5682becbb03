-- A certificate that meets the conditions has the properties.
use Rattle.std.proofs.Common.{◌≡◌, ◌∙◌, ◌+◌, ◌-◌, ◌<◌, ℕ, List, [], ◌∷◌, length, map, get_or, refl, sym, ap, subst, arith}
use Rattle.std.specs.Prelude.{All}
use Rattle.std.proofs.lemmas.List.{length-map, get_or-map}
use Rattle.alg_core.specs.Fields.{FieldOn}
use Rattle.alg_core.specs.Lists.{In}
use Rattle.alg_core.specs.Vectors.{Vect, zero_vector}
use Rattle.lin_algebra.specs.declared.matrix.Matrix.{Matrix}
use Rattle.matrix_group.specs.Actions.{Invariant}
use Rattle.module_groebner.proofs.Families.{all_in}
use Rattle.finite_certificate.specs.Finiteness.{FiniteBy, IsPower, Spanned}
use Rattle.finite_certificate.specs.MarkSpaces.{ArePositiveForms}
use Rattle.finite_certificate.specs.Spreading.{exponents_of}
use Rattle.finite_certificate.specs.declared.power.Power.{Power}
use Rattle.finite_certificate.proofs.Spanning.{finite_spans}
use Rattle.secondary_gens.specs.Secondaries.{IsComplete, IsIrredundant, IsRedundant}
use Rattle.irreducible_gens.specs.Algebras.{InAlgebra}
use Rattle.irreducible_gens.specs.Irreducibles.{IsIrreducible, IsOfPositiveDegree, IsReducible}
use Rattle.certificate_io.specs.Certificates.{CertificateOf}
use Rattle.cert_check.specs.Conditions.{Primaries, Powers, Secondaries, Evidence, Redundance, Words, Reducibility, Holds}
use Rattle.cert_check.specs.Parts.{size, ones, polynomial, primaries, powers, secondaries, irreducibles, words, degrees}
use Rattle.cert_check.specs.Properties.{HasProperties}
use Rattle.cert_check.specs.WellFormed.{IsWellFormed}
use Rattle.cert_check.proofs.HoldsComplete.{complete_by}
use Rattle.cert_check.proofs.HoldsParts.{all_at, at_place, none_at, primaries_in_variables, words_fit}
use Rattle.cert_check.proofs.MadeForms.{forms_known, positive_known, positive_proper}

module _ (k : FieldOn ℕ) (gens : List (Matrix ℕ)) (c : CertificateOf ℕ) (given : IsWellFormed k c gens) (holds : Holds k gens c) where
  abbrev θ : List (Vect k)
  θ = primaries k c

  abbrev S : List (Vect k)
  S = secondaries k c

  abbrev Q : List (Vect k)
  Q = irreducibles k c

  primaries_are : All (λ f. IsOfPositiveDegree k (ones c) f × Invariant k gens f) θ
  primaries_are = all_at (λ f. IsOfPositiveDegree k (ones c) f × Invariant k gens f) θ (λ i f at. holds Primaries i f at)

  pub holds_primaries : All (Invariant k gens) θ
  holds_primaries i d l = (primaries_are i d l).1

  pub holds_secondaries : All (Invariant k gens) S
  holds_secondaries = all_at (Invariant k gens) S (λ i f at. (holds Secondaries i f at).1)

  generators_are : All (λ q. In q S × IsOfPositiveDegree k (ones c) q) Q
  generators_are = all_at (λ q. In q S × IsOfPositiveDegree k (ones c) q) Q (λ i q at. (holds Words i).generator q at)

  pub holds_irreducibles : All (Invariant k gens) Q
  holds_irreducibles i d l = all_in (Invariant k gens) S holds_secondaries (get_or Q i d) (generators_are i d l).0

  -- the primary invariants as forms, with their degrees
  positive : (f : Vect k) → In f θ → IsOfPositiveDegree k (ones c) f
  positive f i = (all_in (λ f. IsOfPositiveDegree k (ones c) f × Invariant k gens f) θ primaries_are f i).0

  forms : ArePositiveForms k (size c) (degrees c) θ
  forms = record {
    forms = forms_known k (size c) c.primaries given.primaries (λ f i. positive_proper k (size c) f (positive f i));
    variables = primaries_in_variables k gens c given;
    positive = positive_known k (size c) c.primaries given.primaries positive;
  }

  abbrev power : Power ℕ → ℕ × Vect k
  power x = (x.exponent, polynomial k x.form)

  no_power : Power ℕ
  no_power = record { exponent = 0; form = [] }

  power_at : (i : ℕ) → i < length c.powers → IsPower k (size c) θ i (get_or (powers k c) i (0, zero_vector k))
  power_at i h =
      let e : i + 1 - 1 ≡ i = omega arith in
      let there = holds Powers (i + 1) (get_or c.powers i no_power) (at_place c.powers i no_power h) in
      subst (IsPower k (size c) θ i) (sym (get_or-map power c.powers i no_power (0, zero_vector k) h))
      (subst (λ (j : ℕ). IsPower k (size c) θ j (power (get_or c.powers i no_power))) e there)

  pub holds_finite : FiniteBy k (size c) θ (powers k c)
  holds_finite = record {
    count = length-map c.powers power ∙ given.power_each;
    powers = λ i h. power_at i (let e = given.power_each in omega arith);
  }

  same_exponents : (ps : List (Power ℕ)) → exponents_of k (map power ps) ≡ map (λ x. x.exponent) ps
  same_exponents [] = refl
  same_exponents (p ∷ ps) = ap (λ es. p.exponent ∷ es) (same_exponents ps)

  pub holds_spanned : Spanned k (size c) θ (map (λ x. x.exponent) c.powers)
  holds_spanned = subst (Spanned k (size c) θ) (same_exponents c.powers) (finite_spans k (size c) (degrees c) θ forms (powers k c) holds_finite)

  pub holds_complete : IsComplete k (size c) gens θ S
  holds_complete = complete_by k gens c given forms holds_primaries c.evidence given.evidence (holds Evidence)

  pub holds_irredundant : IsIrredundant k θ S
  holds_irredundant = none_at (IsRedundant k θ S) S (zero_vector k) (holds Redundance)

  word_at : All (InAlgebra k θ Q) S
  word_at i d l =
      let words_each : length (words k c) ≡ length S = length-map c.words (polynomial k) ∙ given.word_each ∙ sym (length-map c.secondaries (polynomial k)) in
      let within : i < length (words k c) = omega arith in
      let u : Vect k = get_or (words k c) i (zero_vector k) in (
        u,
        words_fit k gens c given i (zero_vector k) within,
        (holds Words (length Q + (i + 1))).word (i + 1) u (get_or S i d) refl (at_place (words k c) i (zero_vector k) within) (at_place S i d l),
      )

  pub holds_irreducible : IsIrreducible k θ (ones c) S Q
  holds_irreducible = record {
    members = all_in (λ q. In q S × IsOfPositiveDegree k (ones c) q) Q generators_are;
    generate = all_in (InAlgebra k θ Q) S word_at;
    needed = none_at (IsReducible k θ Q) Q (zero_vector k) (holds Reducibility);
  }

  pub holds_properties : HasProperties k gens c
  holds_properties = record {
    primaries_invariant = holds_primaries;
    secondaries_invariant = holds_secondaries;
    irreducibles_invariant = holds_irreducibles;
    finite = holds_finite;
    spanned = holds_spanned;
    complete = holds_complete;
    irredundant = holds_irredundant;
    irreducible = holds_irreducible;
  }
