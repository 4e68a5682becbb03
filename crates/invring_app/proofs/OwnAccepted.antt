-- Under the limits with which it was made, the check of a certificate that `ring` makes meets no bound, and each condition holds.
use Rattle.std.proofs.Common.{◌≡◌, ℕ, ◌<◌, ◌≤◌, List, [], ◌∷◌, length, map, refl, sym, ap, ap₂, subst}
use Rattle.std.specs.Prelude.{All}
use Rattle.alg_core.specs.Binomials.{monomials_of_degree}
use Rattle.alg_core.specs.BlockOrder.{length_ones}
use Rattle.alg_core.specs.Fields.{FieldOn}
use Rattle.alg_core.specs.Lists.{In}
use Rattle.alg_core.specs.Spaces.{SpaceOver}
use Rattle.alg_core.specs.declared.limits.Limits.{Limits}
use Rattle.alg_core.specs.declared.term.Term.{Term}
use Rattle.prime_field.specs.PrimeFields.{IsPrimeField}
use Rattle.lin_algebra.specs.declared.matrix.Matrix.{Matrix}
use Rattle.matrix_group.specs.Actions.{IsSquare}
use Rattle.matrix_group.specs.Groups.{cells_of, IsOrder}
use Rattle.finvar_text.specs.Problems.{Problem, IsProblemText, variable_count}
use Rattle.primary_search.proofs.FirstLaws.{first_forms}
use Rattle.secondary_gens.specs.Forms.{degree_of}
use Rattle.secondary_gens.specs.Secondaries.{IsDegreeIn}
use Rattle.certificate_io.specs.Certificates.{CertificateOf}
use Rattle.cert_check.specs.Parts.{size, primaries}
use Rattle.cert_check.specs.WellFormed.{plain}
use Rattle.cert_check.specs.Work.{GroupStop, RankStop, TermStop, Stop, IsPast, Keeps, IsAccepted}
use Rattle.cert_check.proofs.MadeHolds.{made_holds}
use Rattle.cert_check.proofs.MadePlaces.{place_in}
use Rattle.invring_app.specs.Commands.Orders.{IsOrderOf}
use Rattle.invring_app.specs.Commands.Rings.{IsRingAnswer}
use Rattle.invring_app.specs.OwnCertificates.{IsAcceptedText}
use Rattle.invring_app.proofs.EndingLaws.{Shape, shape, order-one}
use Rattle.invring_app.proofs.OwnImages.{images-generate}
use Rattle.invring_app.proofs.OwnDegrees.{degree-in}
use Rattle.invring_app.proofs.OwnKept.{IsOwn, own-kept}
use Rattle.invring_app.proofs.RingCertificates.{generators-nonsingular}

-- the cells of the generators of a problem
cells-are : (n : ℕ) (ms : List (Matrix ℕ)) (gs : List (List ℕ)) → map shape ms ≡ map {B = Shape} (λ (g : List ℕ). (n, n, g)) gs → cells_of ms ≡ gs
cells-are n [] [] e = refl
cells-are n [] (g ∷ gs) e = absurd cc
cells-are n (m ∷ ms) [] e = absurd cc
cells-are n (m ∷ ms) (g ∷ gs) e =
    let first : shape m ≡ (n, n, g) = cc in
    let rest : map shape ms ≡ map {B = Shape} (λ (h : List ℕ). (n, n, h)) gs = cc in
    ap₂ ◌∷◌ (ap (λ (s : Shape). s.2) first) (cells-are n ms gs rest)

module _ (q : Problem) (l : Limits) (c : CertificateOf ℕ) (k : FieldOn ℕ) (ms : List (Matrix ℕ)) (w : IsOwn q l c k ms) where
  abbrev U : SpaceOver ℕ
  U = plain k c

  field-is : IsPrimeField q.characteristic k
  field-is = subst (λ (p : ℕ). IsPrimeField p k) w.characteristic w.well.field

  -- the group
  pub order-of : IsOrderOf q c.order
  order-of = (
    k,
    field-is,
    subst (λ (gs : List (List ℕ)). IsOrder k (variable_count q) gs c.order) (cells-are (variable_count q) ms q.generators w.matrices)
        (subst (λ (n : ℕ). IsOrder k n (cells_of ms) c.order) (ap length w.names) w.made.order),
  )

  pub low-order : c.order ≤ l.max_order
  low-order =
      let found = w.are_images.ranked.found in
      subst (λ (n : ℕ). n ≤ l.max_order) (order-one q found.order c.order found.group.order order-of) found.group.within

  -- the degrees of the secondary invariants
  pub secondary-degree : (p : List (Term ℕ (List ℕ))) → In p c.secondaries → IsDegreeIn w.images (degree_of p)
  secondary-degree =
      let θ = primaries k c in
      let square = subst (λ (n : ℕ). All (IsSquare k n) ms) (sym (length_ones (size c))) w.well.square in
      let generate = images-generate U ms w.well.some square q l θ w.made.basis w.images w.are_images w.made.first_primaries in
      degree-in U ms θ (first_forms U ms l.tries θ w.made.first_primaries).0 w.images generate c.secondaries w.well.secondaries w.made.are_secondaries

  not-past : (j : ℕ) → ¬ IsPast c l.max_terms j
  not-past j p = w.none (degree_of p.polynomial) (record {
    degree = secondary-degree p.polynomial (place_in c.secondaries j p.polynomial p.member);
    past = subst (λ (n : ℕ). l.max_terms < monomials_of_degree n (degree_of p.polynomial)) (sym (length_ones (size c))) p.past;
  })

  keeps : (s : Stop) → Keeps k ms c l s
  keeps GroupStop = (c.order, w.made.order, low-order)
  keeps RankStop = (w.made.basis, w.made.standard, w.are_images.ranked.few)
  keeps TermStop = not-past

  accepted : (bytes : List ℕ) → IsProblemText bytes q → IsAccepted c l
  accepted bytes is = record {
    field = k;
    matrices = ms;
    well_formed = w.well;
    passes = record { holds = made_holds k ms c l.tries w.well w.made (generators-nonsingular bytes q k ms is field-is w.matrices); kept = keeps };
  }

pub own-passes : (bytes : List ℕ) (q : Problem) (l : Limits) (c : CertificateOf ℕ) (k : FieldOn ℕ) (ms : List (Matrix ℕ)) → IsOwn q l c k ms → IsProblemText bytes q → IsAccepted c l
own-passes bytes q l c k ms w is = accepted q l c k ms w bytes is

pub own-accepted : (l : Limits) (q : Problem) (bytes text : List ℕ) → IsProblemText bytes q → IsRingAnswer l q text → IsAcceptedText l text
own-accepted l q bytes text is a =
    let own = own-kept l q text a in
    record { certificate = a.certificate; is_text = a.is_text; accepted = own-passes bytes q l a.certificate a.of_problem.field own.0 own.1 is }
