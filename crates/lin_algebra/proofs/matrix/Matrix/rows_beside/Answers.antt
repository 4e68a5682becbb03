use Rattle.std.proofs.Common.{◌∙◌, ◌++◌, [], ap₂, sym, arith}
use Rattle.std.proofs.lemmas.List.{take_all}
use Rattle.lin_algebra.specs.Matrices.{rows_of, joined}
use Rattle.lin_algebra.proofs.CutLaws.{listed_more, length_cut}
use Rattle.lin_algebra.proofs.BesideLaws.{length_joined, joined_at}
use Rattle.lin_algebra.proofs.matrix.Matrix.rows_beside.Goals as goal

pub loop-i-preserved : goal.loop-i-preserved
loop-i-preserved g c =
    let m = c.args.self.now in
    let r = c.args.right.now in
    let count = length_cut m.rows m.cols m.cells.items in
    let right_count = length_cut r.rows r.cols r.cells.items in
    let whole = length_joined (rows_of m) (rows_of r) in
    listed_more (λ r. r.items) c.loop-i.rows.items c.push.new.self.items c.extend_from_slice.new.self (joined (rows_of m) (rows_of r)) c.loop-i.i [] (omega (arith, count, whole)) c.in_ok-push.ensures.items c.loop-i.invariant
    (c.in_ok-extend_from_slice.ensures.items ∙ ap₂ ◌++◌ (c.in_ok-both.ensures.items ∙ c.row.ensures.is) c.row-after.ensures.is ∙ sym (joined_at (rows_of m) (rows_of r) c.loop-i.i (omega (arith, count)) (omega (arith, right_count, c.requires.same))))

pub returns : goal.returns
returns g c =
    let m = c.args.self.now in
    let r = c.args.right.now in
    let count = length_cut m.rows m.cols m.cells.items in
    let whole = length_joined (rows_of m) (rows_of r) in
    record { rows = c.loop-i.invariant ∙ take_all c.loop-i.i (joined (rows_of m) (rows_of r)) (omega (arith, count, whole)) }
