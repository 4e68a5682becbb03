use Rattle.std.proofs.Common.{◌+◌, subst, refl, arith}
use Rattle.alg_core.specs.Spaces.{over}
use Rattle.poly_module.specs.SpaceVectors.{vectors_of}
use Rattle.secondary_gens.specs.Eliminations.{lines_of}
use Rattle.irreducible_gens.specs.Algebras.{IsAlgebraEchelon}
use Rattle.irreducible_gens.proofs.ReducibleSteps.{turn_reducible, turn_needed, none_more, none_all, first_found}
use Rattle.irreducible_gens.proofs.reducible.first_reducible.Goals as goal

pub returns-then-not-fresh-clause-some : goal.returns-then-not-fresh-clause-some
returns-then-not-fresh-clause-some g c =
    let S = over g.F.Field.field g.O.TermOrder.order c.args.space.now in
    let theta = c.args.theta.now in
    let irr = c.args.irr.now in
    let l = c.loop-l.l in
    let generators = c.in_ok-generators.generators.items in
    let rows = c.in_ok-rows.rows.items in
    let echelon : IsAlgebraEchelon S (vectors_of S (λ m. m) generators) c.degree-d.result (lines_of S rows) =
    subst (λ l. IsAlgebraEchelon S (vectors_of S (λ m. m) l) c.degree-d.result (lines_of S rows)) c.as_slice.ensures.value c.in_ok-rows.ensures.exact in
    first_found S theta irr l (l + 1) refl c.loop-l-test.true c.loop-l.invariant
    (turn_reducible S theta irr l generators c.in_ok-generators.ensures.copies c.index-irr-l.result c.loop-l-test.true c.index-irr-l.is c.degree-d.result (lines_of S rows) echelon
    (λ vs h. c.in_ok-fresh.ensures.spanned c.if-not-fresh.true vs h))

pub loop-l-preserved : goal.loop-l-preserved
loop-l-preserved g c =
    let S = over g.F.Field.field g.O.TermOrder.order c.args.space.now in
    let theta = c.args.theta.now in
    let irr = c.args.irr.now in
    let l = c.loop-l.l in
    let generators = c.in_ok-generators.generators.items in
    let rows = c.in_ok-rows.rows.items in
    let echelon : IsAlgebraEchelon S (vectors_of S (λ m. m) generators) c.degree-d.result (lines_of S rows) =
    subst (λ l. IsAlgebraEchelon S (vectors_of S (λ m. m) l) c.degree-d.result (lines_of S rows)) c.as_slice.ensures.value c.in_ok-rows.ensures.exact in
    none_more S theta irr l c.loop-l.invariant
    (turn_needed S theta irr l generators c.in_ok-generators.ensures.copies c.index-irr-l.result c.loop-l-test.true c.index-irr-l.is c.degree-d.result (lines_of S rows) echelon
    c.requires.irreducibles c.degree-d.ensures.is (λ vs h. c.in_ok-fresh.ensures.fresh c.if-not-fresh.false vs h))

pub returns-clause-none : goal.returns-clause-none
returns-clause-none g c =
    let S = over g.F.Field.field g.O.TermOrder.order c.args.space.now in
    none_all S c.args.theta.now c.args.irr.now c.loop-l.l (omega (arith, c.loop-l-test.false)) c.loop-l.invariant
