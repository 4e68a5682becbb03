use Rattle.std.proofs.Common.{refl, subst, sym, length, Some}
use Rattle.alg_core.specs.Spaces.{over}
use Rattle.poly_text.specs.Values.{mark_names}
use Rattle.poly_text.proofs.EntrySteps.{field_of}
use Rattle.certificate_io.specs.Readings.{AnswersFault, on_line, comb_kind}
use Rattle.certificate_io.proofs.PolynomialReadings.{text_fault, combination_read}
use Rattle.certificate_io.proofs.polynomials.combination.Goals as goal

pub returns-in-Err : goal.returns-in-Err
returns-in-Err g c = record {
  is = λ ts text.
      let S = over field_of g.O.TermOrder.order c.args.space.now in
      subst (λ e. AnswersFault e (on_line c.args.line (comb_kind S ts))) (sym c.at_line.ensures.is)
      (text_fault (Some (length S.shifts)) S (mark_names (length S.weights)) c.args.text.now ts c.args.line c.in-Err.fault text c.in-Err.ensures.fault);
}

pub returns : goal.returns
returns g c = record {
  is = λ ts text.
      let S = over field_of g.O.TermOrder.order c.args.space.now in
      combination_read S c.args.space.now.field.p (c.args.space.now.field.listed, refl) c.args.text.now ts c.in-Ok.combination c.args.line text
      (c.in-Ok.ensures.vector, c.in-Ok.ensures.readable) c.in-Ok.ensures.printed;
}
