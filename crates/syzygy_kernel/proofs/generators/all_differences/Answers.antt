use Rattle.std.proofs.Common.{◌∙◌, map, ap, arith}
use Rattle.std.proofs.lemmas.List.{map-append}
use Rattle.poly_module.specs.SpaceVectors.{vectors_of}
use Rattle.finite_certificate.specs.MarkSpaces.{mark_space}
use Rattle.secondary_gens.proofs.CombinedSteps.{each_more, each_all}
use Rattle.primary_module.specs.PrimaryModules.{AreStandardDifferences}
use Rattle.syzygy_kernel.proofs.generators.all_differences.Goals as goal

pub loop-i-preserved : goal.loop-i-preserved
loop-i-preserved g c =
    let S = mark_space g.F.Field.field c.args.space.now in
    each_more (λ m ps. AreStandardDifferences S c.args.space.now.order.vars (vectors_of S (λ m. m) c.args.primaries.now.theta) m c.args.primaries.now.monomials ps)
    c.args.gens.now c.loop-i.i c.index-gens-i.result _ _ _ c.loop-i-test.true c.index-gens-i.is (ap (map (λ ps. ps.items)) c.in_ok-push.ensures.items ∙ map-append _ _ _)
    c.in_ok-differences.ensures.differences c.loop-i.invariant

pub returns : goal.returns
returns g c =
    let S = mark_space g.F.Field.field c.args.space.now in
    record {
      each = each_all (λ m ps. AreStandardDifferences S c.args.space.now.order.vars (vectors_of S (λ m. m) c.args.primaries.now.theta) m c.args.primaries.now.monomials ps)
          c.args.gens.now c.loop-i.i _ (omega arith) c.loop-i.invariant;
    }
