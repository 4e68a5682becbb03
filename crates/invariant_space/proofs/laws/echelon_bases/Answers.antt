use Rattle.invariant_space.proofs.Common.{over}
use Rattle.invariant_space.proofs.EchelonBasis.{echelon_basis_unique}
use Rattle.invariant_space.proofs.laws.echelon_bases.Goals as goal

pub returns : goal.returns
returns g c =
    let S = over g.F.Field.field g.O.TermOrder.order c.args._space.now in
    record { unique = λ gens d vs ws. echelon_basis_unique S gens d vs ws }
