use Rattle.std.proofs.Common.{◌∙◌, ℕ, sym, ap, subst}
use Rattle.std.specs.Prelude.{All}
use Rattle.certificate_io.specs.Certificates.{CertificateOf}
use Rattle.poly_module.specs.SpaceVectors.{vectors_of}
use Rattle.primary_module.specs.WiderTerms.{IsUnmarked}
use Rattle.cert_check.proofs.CheckSpaces.{plain_of, marks_of}
use Rattle.cert_check.proofs.CheckedPrimaries.{space_is, unmarked_is}
use Rattle.cert_check.proofs.marked.marked_primaries.Goals as goal

pub all_with_marks-requires-clause-space : goal.all_with_marks-requires-clause-space
all_with_marks-requires-clause-space c =
    space_is (plain_of c.args.space.now) c.args.gens.now c.args.cert.now c.requires.given c.requires.met (marks_of c.args.marked.now) _ _ c.requires.beside

pub all_with_marks-requires-clause-unmarked : goal.all_with_marks-requires-clause-unmarked
all_with_marks-requires-clause-unmarked c =
    let T = marks_of c.args.marked.now in
    subst (All (IsUnmarked T.field c.args.marked.now.order.vars)) (sym (c.as_slice.ensures.value ∙ ap (λ (x : CertificateOf ℕ). x.primaries) c.cert.view_is))
    (unmarked_is (plain_of c.args.space.now) c.args.gens.now c.args.cert.now c.requires.given c.requires.met T c.args.marked.now.order.vars c.args.marked.now.order.weights.items c.requires.beside)

pub returns-clause-same : goal.returns-clause-same
returns-clause-same c =
    c.in_ok-theta.ensures.same ∙ ap (vectors_of (marks_of c.args.marked.now) (λ m. m)) (c.as_slice.ensures.value ∙ ap (λ (x : CertificateOf ℕ). x.primaries) c.cert.view_is)
