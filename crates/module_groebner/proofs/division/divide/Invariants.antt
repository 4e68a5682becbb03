use Rattle.std.proofs.Common.{drop}
use Rattle.alg_core.specs.Spaces.{over, entries}
use Rattle.poly_module.specs.SpaceVectors.{vector_of, vectors_of}
use Rattle.module_groebner.proofs.DivisionSteps.{State, size}
use Rattle.module_groebner.proofs.division.divide.Given as goal

abbrev pub invariant-steps : goal.invariant-steps
invariant-steps g l =
    let S = over g.F.Field.field g.O.TermOrder.order l.space in
    State S (λ m. m) (vector_of S (λ m. m) l.v) (vectors_of S (λ m. m) l.list) l.done.items (drop l.start l.rest.items)

abbrev pub decreases-steps : goal.decreases-steps
decreases-steps g l = size (over g.F.Field.field g.O.TermOrder.order l.space) (entries (λ m. m) (drop l.start l.rest.items))
