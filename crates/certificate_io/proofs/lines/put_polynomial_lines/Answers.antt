use Rattle.std.proofs.Common.{refl}
use Rattle.poly_text.proofs.OutputLaws.{says_same}
use Rattle.certificate_io.specs.Texts.{polynomial_line}
use Rattle.certificate_io.proofs.LineLaws.{ended_step}
use Rattle.certificate_io.proofs.lines.put_polynomial_lines.Goals as goal

pub loop-i-preserved : goal.loop-i-preserved
loop-i-preserved c = λ w says.
    says_same _ _ _ _ refl (ended_step (polynomial_line c.args.word.now c.args.p c.args.names.now c.args.primaries) c.args.polynomials.now c.loop-i.i c.index-polynomials-i.result w c.loop-i-test.true c.index-polynomials-i.is) (c.put_polynomial_line.ensures.is _ (c.loop-i.invariant w says))
