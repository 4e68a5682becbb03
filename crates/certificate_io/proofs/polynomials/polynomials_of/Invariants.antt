use Rattle.std.proofs.Common.{◌≡◌, List, map}
use Rattle.std.specs.Prelude.{All}
use Rattle.alg_core.specs.Spaces.{over}
use Rattle.poly_text.specs.Syntax.{Term, spelling}
use Rattle.poly_text.proofs.EntrySteps.{field_of}
use Rattle.certificate_io.specs.Conditions.{IsPolynomialIn}
use Rattle.certificate_io.specs.Readings.{tails, poly_tree, poly_kind}
use Rattle.certificate_io.specs.Syntax.{IsPolynomial}
use Rattle.certificate_io.proofs.ReadingRuns.{ReadsLines}
use Rattle.certificate_io.proofs.polynomials.polynomials_of.Given as goal

abbrev pub invariant-loop-i : goal.invariant-loop-i
invariant-loop-i g l =
    let S = over field_of g.O.TermOrder.order l.space in
    (xs : List (List Term)) → All IsPolynomial xs → tails l.lines ≡ map spelling xs
    → ReadsLines (IsPolynomialIn S l.names) (poly_tree S l.names) (λ x. x) (λ _ ts. poly_kind S l.names ts) l.first xs l.i l.polynomials.items
