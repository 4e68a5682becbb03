use Rattle.poly_module.specs.SpaceVectors.{vectors_of}
use Rattle.finite_certificate.specs.MarkSpaces.{mark_space}
use Rattle.groebner_hom.proofs.LiftLeads.{lifts_unmarked, lifts_have_powers}
use Rattle.groebner_hom.proofs.RelationSteps.{basis_of_relations, none_of_relations, bound_of_relations}
use Rattle.groebner_hom.proofs.RelationsAbove.{result_of_forms, some_of_forms}
use Rattle.groebner_hom.proofs.lifts.lifted_basis.Goals as goal

pub returns-clause-lifts : goal.returns-clause-lifts
returns-clause-lifts g c =
    basis_of_relations (mark_space g.F.Field.field c.args.space.now) c.args.space.now.order.vars c.args.theta.now c.in_ok-relations.relations.items c.as_slice.result.now
    c.as_slice.ensures.value c.in_ok-relations.ensures.are c.ideal_basis.result c.ideal_basis.ensures.reduced

pub returns-clause-within : goal.returns-clause-within
returns-clause-within g c =
    none_of_relations (mark_space g.F.Field.field c.args.space.now) c.args.space.now.order.vars c.args.theta.now c.in_ok-relations.relations.items c.as_slice.result.now
    c.as_slice.ensures.value c.in_ok-relations.ensures.are c.args.cap c.ideal_basis.result c.ideal_basis.ensures.within

pub returns-clause-above : goal.returns-clause-above
returns-clause-above g c b e =
    bound_of_relations (mark_space g.F.Field.field c.args.space.now) c.args.space.now.order.vars c.args.theta.now c.in_ok-relations.relations.items c.as_slice.result.now
    c.as_slice.ensures.value c.in_ok-relations.ensures.are c.args.cap b (c.ideal_basis.ensures.above b e)

pub returns-clause-unmarked : goal.returns-clause-unmarked
returns-clause-unmarked g c regular =
    let S = mark_space g.F.Field.field c.args.space.now in
    lifts_unmarked S c.args.space.now.order.vars c.args.space.now.order.weights.items (vectors_of S (λ m. m) c.args.theta.now) c.requires.space c.requires.forms c.args.cap c.ideal_basis.result
    regular c.ideal_basis.ensures.polynomials (returns-clause-lifts g c)

pub returns-clause-powers : goal.returns-clause-powers
returns-clause-powers g c ended =
    let S = mark_space g.F.Field.field c.args.space.now in
    lifts_have_powers S c.args.space.now.order.vars c.args.space.now.order.weights.items (vectors_of S (λ m. m) c.args.theta.now) c.requires.space c.requires.forms c.ideal_basis.result ended (returns-clause-lifts g c)

pub returns-clause-ideal_within : goal.returns-clause-ideal_within
returns-clause-ideal_within g c =
    let S = mark_space g.F.Field.field c.args.space.now in
    result_of_forms S c.args.space.now.order.vars c.args.space.now.order.weights.items (vectors_of S (λ m. m) c.args.theta.now) c.requires.space c.requires.forms c.args.cap c.ideal_basis.result (returns-clause-within g c)

pub returns-clause-ideal_above : goal.returns-clause-ideal_above
returns-clause-ideal_above g c b regular e =
    let S = mark_space g.F.Field.field c.args.space.now in
    let h = returns-clause-above g c b e in
    some_of_forms S c.args.space.now.order.vars c.args.space.now.order.weights.items (vectors_of S (λ m. m) c.args.theta.now) c.requires.space c.requires.forms regular c.args.cap _ h.lead h.above
