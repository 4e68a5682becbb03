use Rattle.lin_algebra.proofs.CutLaws.{row_slice}
use Rattle.lin_algebra.proofs.matrix.Matrix.row.Goals as goal

pub returns-clause-is : goal.returns-clause-is
returns-clause-is g c = row_slice c.args.self.now.rows c.args.self.now.cols c.args.i c.args.self.now.cells.items c.deref.result.now c.requires.row c.deref.ensures.value
