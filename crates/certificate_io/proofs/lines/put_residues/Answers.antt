use Rattle.std.proofs.Common.{get_or, refl}
use Rattle.poly_text.specs.Texts.{residue_text}
use Rattle.poly_text.proofs.OutputLaws.{says_same}
use Rattle.certificate_io.proofs.LineLaws.{spaced_step, number_here}
use Rattle.certificate_io.proofs.lines.put_residues.Goals as goal

pub loop-i-preserved : goal.loop-i-preserved
loop-i-preserved c = λ w says.
    let cells = c.args.cells.now in
    says_same _ _ _ _ refl (spaced_step (residue_text c.args.p) cells c.loop-i.i (get_or cells c.loop-i.i 0) w c.loop-i-test.true (number_here cells c.loop-i.i 0 c.loop-i-test.true))
    (c.put_residue.ensures.is _ (c.put.ensures.is _ (c.loop-i.invariant w says)))
