use Rattle.std.proofs.Common.{refl, subst, sym}
use Rattle.alg_core.specs.Spaces.{over}
use Rattle.poly_text.proofs.EntrySteps.{field_of}
use Rattle.certificate_io.specs.Readings.{AnswersFault, on_line, poly_kind}
use Rattle.certificate_io.proofs.PolynomialReadings.{text_fault, polynomial_read}
use Rattle.certificate_io.proofs.polynomials.polynomial.Goals as goal
use Rattle.std.specs.Prelude.{None}

pub returns-in-Err : goal.returns-in-Err
returns-in-Err g c = record {
  is = λ ts text.
      let S = over field_of g.O.TermOrder.order c.args.space.now in
      subst (λ e. AnswersFault e (on_line c.args.line (poly_kind S c.args.names.now ts))) (sym c.at_line.ensures.is)
      (text_fault None S c.args.names.now c.args.text.now ts c.args.line c.in-Err.fault text c.in-Err.ensures.fault);
}

pub returns : goal.returns
returns g c = record {
  is = λ ts text.
      let S = over field_of g.O.TermOrder.order c.args.space.now in
      polynomial_read S c.args.space.now.field.p (c.args.space.now.field.listed, refl) c.args.names.now c.requires.ready c.args.text.now ts c.in-Ok.polynomial c.args.line text
      (c.in-Ok.ensures.polynomial, c.in-Ok.ensures.readable) c.in-Ok.ensures.printed;
}
