use Rattle.alg_core.specs.Spaces.{over}
use Rattle.poly_module.specs.SpaceVectors.{vectors_of}
use Rattle.secondary_gens.specs.Forms.{degrees_of}
use Rattle.secondary_gens.proofs.ProductSteps.{levels_pushed}
use Rattle.secondary_gens.proofs.products.extend.Goals as goal

pub loop-e-preserved : goal.loop-e-preserved
loop-e-preserved g c =
    let S = over g.F.Field.field g.O.TermOrder.order c.args.space.now in
    let p = levels_pushed S (vectors_of S (λ m. m) c.args.theta.now) (degrees_of c.args.theta.now) (λ v. v.items) c.loop-e.levels.items c.push.new.self.items c.in_ok-next.next c.loop-e.e c.in_ok-push.ensures.items c.loop-e.invariant.count c.loop-e.invariant.levels c.in_ok-next.ensures.level in
    record { levels = p.0; count = p.1 }
