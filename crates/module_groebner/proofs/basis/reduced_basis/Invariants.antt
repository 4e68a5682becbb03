use Rattle.alg_core.specs.Spaces.{over}
use Rattle.poly_module.specs.Modules.{listed}
use Rattle.poly_module.specs.SpaceVectors.{vectors_of}
use Rattle.module_groebner.specs.Progress.{left}
use Rattle.module_groebner.proofs.Transports.{Goes}
use Rattle.module_groebner.proofs.basis.reduced_basis.Given as goal

abbrev pub invariant-loop-completion : goal.invariant-loop-completion
invariant-loop-completion g l = let S = over g.F.Field.field g.O.TermOrder.order l.space in Goes S (listed S.field (vectors_of S (λ m. m) l.fn.gens)) l.fn.cap l.completion

abbrev pub decreases-loop-completion : goal.decreases-loop-completion
decreases-loop-completion g l = left l.completion
