use Rattle.std.proofs.Common.{◌≡◌, rules, subst, arith}
use Rattle.std.proofs.lemmas.List.{length-map}
use Rattle.alg_core.specs.Spaces.{over}
use Rattle.poly_module.specs.SpaceVectors.{vectors_of}
use Rattle.secondary_gens.specs.Columns.{IsLevel}
use Rattle.secondary_gens.specs.Forms.{degree_of, degrees_of}
use Rattle.secondary_gens.proofs.FormDegrees.{all_positive}
use Rattle.secondary_gens.proofs.ProductSteps.{level_one, part_none, part_all}
use Rattle.secondary_gens.proofs.products.level.Goals as goal

pub returns-then-e-eq0 : goal.returns-then-e-eq0
returns-then-e-eq0 g c =
    let S = over g.F.Field.field g.O.TermOrder.order c.args.space.now in
    let ds = degrees_of c.args.theta.now in
    let θ = vectors_of S (λ m. m) c.args.theta.now in
    let z : 0 ≡ c.args.e = omega (arith, c.if-e-eq0.true) in
    let push = c.in_ok-push.ensures.items in
    record { level = subst (λ e. IsLevel S θ ds e c.push.new.self.items) z (level_one S θ ds c.push.new.self.items c.in_ok-constant.field-0 (all_positive S c.args.theta.now c.requires.primaries) (search rules) c.in_ok-constant.ensures.product) }

pub loop-i-init : goal.loop-i-init
loop-i-init g c =
    let S = over g.F.Field.field g.O.TermOrder.order c.args.space.now in
    part_none S (vectors_of S (λ m. m) c.args.theta.now) (degrees_of c.args.theta.now) c.args.e c.new-level.result.items c.new-level.ensures.items

pub returns : goal.returns
returns g c =
    let S = over g.F.Field.field g.O.TermOrder.order c.args.space.now in
    let ds = degrees_of c.args.theta.now in
    let n = length-map c.args.theta.now degree_of in
    record { level = part_all S (vectors_of S (λ m. m) c.args.theta.now) ds c.args.e c.loop-i.i c.loop-i.level.items (omega (arith, c.if-e-eq0.false)) (omega (arith, c.loop-i-test.false)) c.loop-i.invariant }
