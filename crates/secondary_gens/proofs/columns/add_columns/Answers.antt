use Rattle.std.proofs.Common.{refl, sym, subst, ap, arith, ◌∙◌, map, ◌++◌}
use Rattle.alg_core.specs.Spaces.{over}
use Rattle.std.proofs.lemmas.List.{take_all}
use Rattle.poly_module.specs.Polynomials.{product}
use Rattle.poly_module.specs.SpaceVectors.{vector_of, IsPoly}
use Rattle.secondary_gens.proofs.ColumnSteps.{added_none, added_more}
use Rattle.secondary_gens.proofs.columns.add_columns.Goals as goal

pub loop-i-init : goal.loop-i-init
loop-i-init g c =
    let S = over g.F.Field.field g.O.TermOrder.order c.args.space.now in
    added_none S c.args.level.now c.args.polynomial.now c.args.j c.args.columns.now.items c.requires.columns

pub loop-i-preserved : goal.loop-i-preserved
loop-i-preserved g c =
    let S = over g.F.Field.field g.O.TermOrder.order c.args.space.now in
    added_more S c.args.level.now c.args.polynomial.now c.args.j c.loop-i.i c.args.columns.now.items c.loop-i.columns.items c.push.new.self.items c.index-level-i.result _ c.loop-i-test.true c.index-level-i.is
    c.in_ok-push.ensures.items refl c.in_ok-mono.ensures.ok c.in_ok-value.ensures.product
    (subst (λ y. IsPoly S (λ m. m) y.value) (sym c.index-level-i.is) (c.requires.level c.loop-i.i c.index-level-i.result c.loop-i-test.true)) c.requires.polynomial c.loop-i.invariant

pub returns-clause-values : goal.returns-clause-values
returns-clause-values g c =
    let S = over g.F.Field.field g.O.TermOrder.order c.args.space.now in
    let x = vector_of S (λ m. m) in
    c.loop-i.invariant.values ∙ ap (λ l. map (λ b. x b.value) c.args.columns.now.items ++ map (λ b. product S.field (x b.value) (x c.args.polynomial.now)) l) (take_all c.loop-i.i c.args.level.now (omega (arith, c.loop-i-test.false)))
