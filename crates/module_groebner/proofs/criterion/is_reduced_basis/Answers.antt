use Rattle.std.proofs.Common.{◌≡◌, ap, subst, Err, IsTrue}
use Rattle.std.specs.Prelude.{◌↔◌}
use Rattle.alg_core.specs.Spaces.{over}
use Rattle.poly_module.specs.SpaceVectors.{vectors_of}
use Rattle.module_groebner.specs.declared.bound.Which.TheVariants.{Ideal}
use Rattle.module_groebner.proofs.BasisSteps.{same_basis, no_basis}
use Rattle.module_groebner.proofs.criterion.is_reduced_basis.Goals as goal

pub returns-in-Ok : goal.returns-in-Ok
returns-in-Ok g c =
    let S = over g.F.Field.field g.O.TermOrder.order c.args.space.now in
    record {
      exact = same_basis S (λ m. m) c.requires.positive c.args.gens.now c.args.list.now c.requires.generators c.requires.homogeneous c.in-Ok.basis.items c.in-Ok.ensures.reduced c.are_same.result
          (subst (λ l. IsTrue c.are_same.result ↔ (vectors_of S (λ m. m) c.args.list.now ≡ vectors_of S (λ m. m) l)) c.deref.ensures.value c.are_same.ensures.exact);
    }

pub returns-in-Err-Above : goal.returns-in-Err-Above
returns-in-Err-Above g c =
    let S = over g.F.Field.field g.O.TermOrder.order c.args.space.now in
    record {
      exact = no_basis S (λ m. m) c.requires.positive c.args.gens.now c.args.list.now c.requires.generators c.requires.homogeneous c.greatest_degree.result Ideal c.in-Err-Above.field-0-0 c.greatest_degree.ensures.bound
          (c.in-Err-Above.ensures.above c.in-Err-Above.field-0-0 (ap Err c.in-Err-Above.field-0-is));
    }
