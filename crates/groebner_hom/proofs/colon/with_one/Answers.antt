use Rattle.std.proofs.Common.{◌∙◌, sym, subst}
use Rattle.alg_core.specs.EliminationOrder.{elimination_order}
use Rattle.alg_core.specs.Spaces.{over}
use Rattle.poly_module.specs.SpaceVectors.{ArePlaced}
use Rattle.groebner_hom.proofs.ColonGenerators.{pair_given}
use Rattle.groebner_hom.proofs.colon.with_one.Goals as goal

pub make-requires : goal.make-requires
make-requires g c =
    let T = over g.F.Field.field (λ o. elimination_order o.first o.weights.items) c.args.pairs.now in
    record { given = subst (ArePlaced T (λ m. m)) (sym c.terms.ensures.is) c.requires.f }

pub returns : goal.returns
returns g c =
    let T = over g.F.Field.field (λ o. elimination_order o.first o.weights.items) c.args.pairs.now in
    record {
      is = pair_given T c.args.f.now c.terms.result.now c.in_ok-first.first c.in_ok-one.one c.in_ok-sum.sum c.one-coef.result c.in_ok-mono.mono c.len.result c.terms.ensures.is c.one-coef.ensures.is
          (c.in_ok-mono.ensures.is ∙ c.as_slice.ensures.value ∙ c.in_ok-zeros.ensures.items_if_clones_equal (λ y h. h)) c.in_ok-first.ensures.sum c.in_ok-one.ensures.sum c.in_ok-sum.ensures.sum;
    }
