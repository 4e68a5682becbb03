use Rattle.std.proofs.Common.{refl, ◌++◌, ◌∙◌, ap, sym, arith}
use mathlib.Core.List.{map-map}
use Rattle.poly_text.proofs.OutputLaws.{says_same}
use Rattle.certificate_io.specs.Certificates.{matrix_of}
use Rattle.certificate_io.specs.Texts.{ended, matrix_line}
use Rattle.certificate_io.proofs.LineLaws.{ended_step, ended_all}
use Rattle.certificate_io.proofs.lines.put_matrix_lines.Goals as goal

pub loop-i-preserved : goal.loop-i-preserved
loop-i-preserved c = λ w says.
    says_same _ _ _ _ refl (ended_step (λ m. matrix_line c.args.p (matrix_of m)) c.args.matrices.now c.loop-i.i c.index-matrices-i.result w c.loop-i-test.true c.index-matrices-i.is) (c.put_matrix_line.ensures.is _ (c.loop-i.invariant w says))

pub returns : goal.returns
returns c = record {
  is = λ w says. says_same _ _ _ _ refl
      (ended_all (λ m. matrix_line c.args.p (matrix_of m)) c.args.matrices.now c.loop-i.i w (omega arith) ∙ ap (λ l. w ++ ended l) (sym (map-map (matrix_line c.args.p) matrix_of c.args.matrices.now)))
      (c.loop-i.invariant w says);
}
