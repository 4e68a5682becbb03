use Rattle.std.proofs.Common.{◌≡◌, length, replicate, ap, sym, subst, Err, arith}
use Rattle.std.specs.Prelude.{All}
use Rattle.alg_core.specs.EliminationOrder.{elimination_order}
use Rattle.alg_core.specs.Spaces.{SpaceOver, over, IsPlace}
use Rattle.poly_module.specs.SpaceVectors.{IsPositive, ArePlaced, vector_of, vectors_of}
use Rattle.module_groebner.specs.declared.bound.BasisBound.{BasisBound}
use Rattle.module_groebner.specs.declared.bound.Which.TheVariants.{Colon}
use Rattle.module_groebner.specs.BasisBounds.{IsBasisBound}
use Rattle.module_groebner.specs.HomogeneousLists.{degree_limit}
use Rattle.groebner_hom.specs.Colons.{InColon, colon_space}
use Rattle.groebner_hom.proofs.ColonBases.{colon_positive, second_place, colon_placed, all_placed, seen_homogeneous, basis_given, bound_given}
use Rattle.groebner_hom.proofs.colon.colon_basis.Goals as goal

pub colon_generators-requires-clause-f : goal.colon_generators-requires-clause-f
colon_generators-requires-clause-f g c =
    let S = over g.F.Field.field g.O.TermOrder.order c.args.space.now in
    subst (λ (X : SpaceOver g.row.F-Elem.Denot). ArePlaced X (λ m. m) c.args.f.now) (sym c.in_ok-pairs.ensures.is) (colon_placed S c.args.degree degree_limit c.args.f.now c.requires.polynomial)

pub colon_generators-requires-clause-theta : goal.colon_generators-requires-clause-theta
colon_generators-requires-clause-theta g c =
    let S = over g.F.Field.field g.O.TermOrder.order c.args.space.now in
    subst (λ (X : SpaceOver g.row.F-Elem.Denot). All (ArePlaced X (λ m. m)) c.args.theta.now) (sym c.in_ok-pairs.ensures.is) (all_placed S c.args.degree degree_limit c.args.theta.now c.requires.polynomials)

pub colon_generators-requires-clause-second : goal.colon_generators-requires-clause-second
colon_generators-requires-clause-second g c =
    let S = over g.F.Field.field g.O.TermOrder.order c.args.space.now in
    subst (λ (X : SpaceOver g.row.F-Elem.Denot). IsPlace X (1, replicate (length X.weights) 0)) (sym c.in_ok-pairs.ensures.is) (second_place S c.args.degree)

pub reduced_basis-requires-clause-positive : goal.reduced_basis-requires-clause-positive
reduced_basis-requires-clause-positive g c =
    let S = over g.F.Field.field g.O.TermOrder.order c.args.space.now in
    subst (λ (X : SpaceOver g.row.F-Elem.Denot). IsPositive X) (sym c.in_ok-pairs.ensures.is) (colon_positive S c.args.degree c.requires.positive)

pub reduced_basis-requires-clause-homogeneous : goal.reduced_basis-requires-clause-homogeneous
reduced_basis-requires-clause-homogeneous g c =
    let S = over g.F.Field.field g.O.TermOrder.order c.args.space.now in
    let X = over g.F.Field.field (λ o. elimination_order o.first o.weights.items) c.in_ok-pairs.pairs in
    seen_homogeneous S c.args.degree c.requires.shift c.args.f.now c.args.theta.now (omega arith) c.requires.polynomial c.requires.degree c.requires.polynomials X c.in_ok-pairs.ensures.is
    c.in_ok-generators.generators.items c.as_slice.result.now c.as_slice.ensures.value c.in_ok-generators.ensures.are

pub returns-in-Ok-clause-basis : goal.returns-in-Ok-clause-basis
returns-in-Ok-clause-basis g c =
    let S = over g.F.Field.field g.O.TermOrder.order c.args.space.now in
    let X = over g.F.Field.field (λ o. elimination_order o.first o.weights.items) c.in_ok-pairs.pairs in
    basis_given S c.args.degree c.requires.shift c.args.f.now c.args.theta.now (omega arith) c.requires.polynomial c.requires.degree c.requires.polynomials X c.in_ok-pairs.ensures.is
    c.in_ok-generators.generators.items c.as_slice.result.now c.as_slice.ensures.value c.in_ok-generators.ensures.are c.args.cap c.in-Ok.basis.items
    (record { fit = c.in-Ok.ensures.fit; reduced = c.in-Ok.ensures.reduced; homogeneous = c.in-Ok.ensures.homogeneous; within = c.in-Ok.ensures.within })

pub returns-in-Err-Above-clause-above : goal.returns-in-Err-Above-clause-above
returns-in-Err-Above-clause-above g c b e =
    let S = over g.F.Field.field g.O.TermOrder.order c.args.space.now in
    let X = over g.F.Field.field (λ o. elimination_order o.first o.weights.items) c.in_ok-pairs.pairs in
    let found = c.in-Err-Above.bound in
    let named : BasisBound g.row.F-Elem.Denot = record { vector = found.vector; degree = found.degree; which = Colon } in
    let same : named ≡ b = cc in
    subst (λ x. IsBasisBound (colon_space S c.args.degree) (InColon S.field (vectors_of S (λ m. m) c.args.theta.now) (vector_of S (λ m. m) c.args.f.now)) c.args.cap Colon x) same
    (bound_given S c.args.degree c.requires.shift c.args.f.now c.args.theta.now (omega arith) c.requires.polynomial c.requires.degree c.requires.polynomials X c.in_ok-pairs.ensures.is
    c.in_ok-generators.generators.items c.as_slice.result.now c.as_slice.ensures.value c.in_ok-generators.ensures.are c.args.cap found (c.in-Err-Above.ensures.above found (ap Err c.in-Err-Above.field-0-is)))
