-- The condition on the evidence, passed or failed.
use Rattle.std.proofs.Common.{◌≡◌, ℕ, ◌+◌, List, length, inl, refl, sym, subst, arith}
use Rattle.std.specs.Prelude.{Option, Some, None}
use Rattle.alg_core.specs.Spaces.{SpaceOver}
use Rattle.alg_core.specs.declared.limits.Limits.{Limits}
use Rattle.lin_algebra.specs.declared.matrix.Matrix.{Matrix}
use Rattle.matrix_group.specs.Groups.{cells_of, IsOrder}
use Rattle.certificate_io.specs.Certificates.{CertificateOf, EvidenceOf, Averages, Members}
use Rattle.certificate_io.specs.declared.evidence.Image.{Image}
use Rattle.certificate_io.specs.declared.evidence.Line.{Line}
use Rattle.cert_check.specs.Conditions.{Evidence, Group, Primaries, Redundance, K2, K8, MeetsAverages, MeetsEvidence, MeetsKernel}
use Rattle.cert_check.specs.Endings.{IsFirstFailing, IsGiven, IsTold}
use Rattle.cert_check.specs.Parts.{size}
use Rattle.cert_check.specs.Work.{Reached}
use Rattle.cert_check.specs.declared.ending.Ending.TheVariants.{Rejected}
use Rattle.cert_check.proofs.GivenParts.{given_well}
use Rattle.cert_check.proofs.WorkSteps.{evidence_passed, plain_fails}

module _ (S : SpaceOver ℕ) (gens : List (Matrix ℕ)) (c : CertificateOf ℕ) where
  -- by averages, or by a kernel
  pub by_averages : (xs : List (Image ℕ)) (o : Option ℕ) → c.evidence ≡ Averages xs → IsFirstFailing (MeetsAverages S.field gens c xs) o → IsFirstFailing (K8 S.field gens c) o
  by_averages xs o e h = subst (λ (v : EvidenceOf ℕ). IsFirstFailing (MeetsEvidence S.field gens c v) o) (sym e) h

  pub by_members : (ls : List (Line ℕ)) (o : Option ℕ) → c.evidence ≡ Members ls → IsFirstFailing (MeetsKernel S.field gens c ls) o → IsFirstFailing (K8 S.field gens c) o
  by_members ls o e h = subst (λ (v : EvidenceOf ℕ). IsFirstFailing (MeetsEvidence S.field gens c v) o) (sym e) h

  module _ (l : Limits) (given : IsGiven S gens c) (reached : Reached S.field gens c l (Evidence, 0)) where
    pub order_met : IsOrder S.field (size c) (cells_of gens) c.order
    order_met = (reached.met Group (length gens + 1) (inl (omega arith))).order refl

    pub primaries_met : (i : ℕ) → K2 S.field gens c i
    primaries_met i = reached.met Primaries i (inl (omega arith))

    pub evidence_holds : IsFirstFailing (K8 S.field gens c) None → Reached S.field gens c l (Redundance, 0)
    evidence_holds h = evidence_passed S.field gens c l reached h

    pub evidence_fails : (i : ℕ) → IsFirstFailing (K8 S.field gens c) (Some i) → IsTold c l (Rejected 8 i)
    evidence_fails i h = (
      Evidence,
      refl,
      record {
        field = S.field;
        matrices = gens;
        well_formed = given_well S gens c given;
        fails = plain_fails S.field gens c l Evidence i (λ e. omega (arith, e)) (λ e. omega (arith, e)) (λ e. omega (arith, e)) reached h.0 h.1;
      },
    )
