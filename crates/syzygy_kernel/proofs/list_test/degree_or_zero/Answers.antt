use Rattle.std.proofs.Common.{refl}
use Rattle.poly_module.specs.SpaceVectors.{vector_of}
use Rattle.finite_certificate.specs.MarkSpaces.{mark_space}
use Rattle.module_groebner.proofs.BasisSteps.{zero_up_to}
use Rattle.syzygy_kernel.proofs.list_test.degree_or_zero.Goals as goal

pub returns-in-None-clause-bound : goal.returns-in-None-clause-bound
returns-in-None-clause-bound g c =
    let S = mark_space g.F.Field.field c.args.space.now in
    zero_up_to S (λ m. m) 0 (vector_of S (λ m. m) c.args.u.now) (c.in-None.ensures.none.0 refl)
