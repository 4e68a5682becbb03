use Rattle.alg_core.specs.Spaces.{over}
use Rattle.alg_core.specs.Vectors.{scale}
use Rattle.poly_module.specs.SpaceVectors.{vector_of}
use Rattle.secondary_gens.proofs.RowSteps.{multiple_poly, difference_poly, less_zero, less_other}
use Rattle.secondary_gens.proofs.elimination.less_multiple.Goals as goal

pub returns-then-is_zero-clause-difference : goal.returns-then-is_zero-clause-difference
returns-then-is_zero-clause-difference g c =
    let S = over g.F.Field.field g.O.TermOrder.order c.args.space.now in
    less_zero S c.args.v c.args.factor (vector_of S (λ m. m) c.args.row.now.vector) (c.is_zero.ensures.yes c.if-is_zero.true)

pub returns-clause-polynomial : goal.returns-clause-polynomial
returns-clause-polynomial g c =
    let S = over g.F.Field.field g.O.TermOrder.order c.args.space.now in
    difference_poly S c.args.v c.in_ok-multiple.multiple c.in_ok-left.left c.requires.polynomial (multiple_poly S c.args.factor c.args.row.now.vector c.in_ok-multiple.multiple c.requires.row.polynomial c.in_ok-multiple.ensures.multiple) c.in_ok-left.ensures.difference

pub returns-clause-difference : goal.returns-clause-difference
returns-clause-difference g c =
    let S = over g.F.Field.field g.O.TermOrder.order c.args.space.now in
    less_other S c.args.v c.in_ok-left.left c.in_ok-multiple.multiple (scale S.field c.args.factor (vector_of S (λ m. m) c.args.row.now.vector)) c.in_ok-multiple.ensures.multiple c.in_ok-left.ensures.difference
