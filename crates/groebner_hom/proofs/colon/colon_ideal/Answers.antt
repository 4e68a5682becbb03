use Rattle.std.proofs.Common.{subst, arith}
use Rattle.alg_core.specs.Spaces.{over}
use Rattle.poly_module.specs.SpaceVectors.{vectors_of}
use Rattle.module_groebner.specs.HomogeneousLists.{degree_limit}
use Rattle.groebner_hom.specs.Colons.{AreSecondParts}
use Rattle.groebner_hom.proofs.ColonBases.{has_polynomials, parts_exact, parts_small, nothing_above}
use Rattle.groebner_hom.proofs.colon.colon_ideal.Goals as goal

pub second_parts-requires-clause-polynomials : goal.second_parts-requires-clause-polynomials
second_parts-requires-clause-polynomials g c = has_polynomials (over g.F.Field.field g.O.TermOrder.order c.args.space.now) degree_limit c.args.f.now c.requires.polynomial c.requires.not_zero

pub returns-clause-small : goal.returns-clause-small
returns-clause-small g c =
    let S = over g.F.Field.field g.O.TermOrder.order c.args.space.now in
    parts_small S c.form_degree-degree.result c.requires.shift c.args.f.now c.args.theta.now (omega arith) c.requires.polynomial c.form_degree-degree.ensures.is c.requires.polynomials c.args.cap c.in_ok-basis.basis.items c.in_ok-parts.parts.items
    c.in_ok-basis.ensures.basis
    (subst (λ l. AreSecondParts S.field (vectors_of S (λ m. m) l) (vectors_of S (λ m. m) c.in_ok-parts.parts.items)) c.as_slice.ensures.value c.in_ok-parts.ensures.exact) (omega arith) c.in_ok-parts.ensures.polynomials

pub returns-clause-exact : goal.returns-clause-exact
returns-clause-exact g c =
    let S = over g.F.Field.field g.O.TermOrder.order c.args.space.now in
    parts_exact S c.form_degree-degree.result c.requires.shift c.args.f.now c.args.theta.now (omega arith) c.requires.polynomial c.form_degree-degree.ensures.is c.requires.polynomials c.args.cap c.in_ok-basis.basis.items c.in_ok-parts.parts.items
    c.in_ok-basis.ensures.basis
    (subst (λ l. AreSecondParts S.field (vectors_of S (λ m. m) l) (vectors_of S (λ m. m) c.in_ok-parts.parts.items)) c.as_slice.ensures.value c.in_ok-parts.ensures.exact) c.requires.positive.weights

pub returns-clause-within : goal.returns-clause-within
returns-clause-within g c =
    let S = over g.F.Field.field g.O.TermOrder.order c.args.space.now in
    nothing_above S c.form_degree-degree.result c.requires.shift c.args.f.now c.args.theta.now (omega arith) c.requires.polynomial c.form_degree-degree.ensures.is c.requires.polynomials c.args.cap c.in_ok-basis.basis.items c.requires.not_zero
    c.in_ok-basis.ensures.basis
