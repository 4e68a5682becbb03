use Rattle.alg_core.specs.Spaces.{over}
use Rattle.poly_module.specs.SpaceVectors.{vectors_of}
use Rattle.secondary_gens.specs.Forms.{degrees_of}
use Rattle.secondary_gens.proofs.ProductSteps.{Adding}
use Rattle.secondary_gens.proofs.products.add_products.Given as goal

abbrev pub invariant-loop-j : goal.invariant-loop-j
invariant-loop-j g l =
    let S = over g.F.Field.field g.O.TermOrder.order l.space in
    Adding S (vectors_of S (λ m. m) l.theta) (degrees_of l.theta) l.e l.i l.lower l.j l.level.items
