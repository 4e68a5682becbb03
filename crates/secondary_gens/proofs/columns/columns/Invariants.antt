use Rattle.alg_core.specs.Spaces.{over}
use Rattle.poly_module.specs.SpaceVectors.{vectors_of}
use Rattle.secondary_gens.specs.Columns.{IsColumnPart}
use Rattle.secondary_gens.specs.Forms.{degrees_of}
use Rattle.secondary_gens.proofs.columns.columns.Given as goal

abbrev pub invariant-loop-j : goal.invariant-loop-j
invariant-loop-j g l =
    let S = over g.F.Field.field g.O.TermOrder.order l.space in
    let x = vectors_of S (λ m. m) in
    IsColumnPart S (x l.theta) (degrees_of l.theta) (x l.polynomials) (degrees_of l.polynomials) l.d l.j l.columns.items
