use Rattle.std.proofs.Common.{◌∙◌, [], arith}
use Rattle.std.proofs.lemmas.List.{take_all}
use Rattle.lin_algebra.specs.Matrices.{rows_of}
use Rattle.lin_algebra.proofs.CutLaws.{listed_more, length_cut}
use Rattle.lin_algebra.proofs.matrix.Matrix.copied_rows.Goals as goal

pub loop-i-preserved : goal.loop-i-preserved
loop-i-preserved g c =
    let m = c.args.self.now in
    listed_more (λ r. r.items) c.loop-i.rows.items c.push.new.self.items c.in_ok-from_slice.field-0 (rows_of m) c.loop-i.i [] (omega (arith, length_cut m.rows m.cols m.cells.items)) c.in_ok-push.ensures.items c.loop-i.invariant (c.in_ok-from_slice.ensures.items ∙ c.row.ensures.is)

pub returns : goal.returns
returns g c =
    let m = c.args.self.now in
    record { rows = c.loop-i.invariant ∙ take_all c.loop-i.i (rows_of m) (omega (arith, length_cut m.rows m.cols m.cells.items)) }
