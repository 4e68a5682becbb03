use Rattle.std.proofs.Common.{[], ◌∷◌, refl, subst, sym, None}
use Rattle.alg_core.specs.Spaces.{over}
use Rattle.poly_text.specs.Syntax.{monomial_term}
use Rattle.poly_text.proofs.EntrySteps.{field_of}
use Rattle.certificate_io.specs.Readings.{AnswersFault, on_line, poly_kind}
use Rattle.certificate_io.proofs.PartReadings.{monomial_read}
use Rattle.certificate_io.proofs.PolynomialReadings.{text_fault}
use Rattle.certificate_io.proofs.polynomials.monomial.Goals as goal

pub returns-in-Err : goal.returns-in-Err
returns-in-Err g c = record {
  is = λ fs text.
      let S = over field_of g.O.TermOrder.order c.args.space.now in
      subst (λ e. AnswersFault e (on_line c.args.line (poly_kind S c.args.names.now (monomial_term fs ∷ [])))) (sym c.at_line.ensures.is)
      (text_fault None S c.args.names.now c.args.text.now (monomial_term fs ∷ []) c.args.line c.in-Err.fault text c.in-Err.ensures.fault);
}

pub returns : goal.returns
returns g c = record {
  is = λ fs text.
      let S = over field_of g.O.TermOrder.order c.args.space.now in
      monomial_read S c.args.space.now.field.p (c.args.space.now.field.listed, refl) c.args.names.now c.requires.ready c.args.text.now fs c.in-Ok.mono c.args.line text
      c.in-Ok.ensures.place c.in-Ok.ensures.readable c.in-Ok.ensures.printed;
}
