use Rattle.alg_core.specs.Spaces.{over}
use Rattle.poly_module.specs.SpaceVectors.{vectors_of}
use Rattle.secondary_gens.specs.Columns.{IsPart}
use Rattle.secondary_gens.specs.Forms.{degrees_of}
use Rattle.secondary_gens.proofs.products.level.Given as goal

abbrev pub invariant-loop-i : goal.invariant-loop-i
invariant-loop-i g l =
    let S = over g.F.Field.field g.O.TermOrder.order l.space in
    IsPart S (vectors_of S (λ m. m) l.theta) (degrees_of l.theta) l.e l.i l.level.items
