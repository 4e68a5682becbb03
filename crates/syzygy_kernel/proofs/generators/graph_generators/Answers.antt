use Rattle.std.proofs.Common.{◌≡◌, length, refl, sym, subst, arith}
use Rattle.poly_module.specs.SpaceVectors.{IsVectorOf, vectors_of}
use Rattle.finite_certificate.specs.MarkSpaces.{mark_space}
use Rattle.primary_module.specs.Positions.{AreDifferent}
use Rattle.primary_module.proofs.Places.{standard_different}
use Rattle.syzygy_kernel.specs.GraphVectors.{block_space}
use Rattle.syzygy_kernel.proofs.GraphCalls.{call_first, call_shifts, call_places, end_generators, end_homogeneous}
use Rattle.syzygy_kernel.proofs.GraphLists.{over_place, over_more, over_fit, graph_exponents}
use Rattle.syzygy_kernel.proofs.generators.graph_generators.Goals as goal

pub graph_vector-requires-clause-different : goal.graph_vector-requires-clause-different
graph_vector-requires-clause-different g c =
    let S = mark_space g.F.Field.field c.args.space.now in
    subst AreDifferent (sym c.monomials-monomials.ensures.is)
    (standard_different c.args.space.now.order.vars S.field (vectors_of S (λ m. m) c.args.primaries.now.theta) c.args.primaries.now.monomials c.requires.stands.monomials)

pub graph_vector-requires-clause-order : goal.graph_vector-requires-clause-order
graph_vector-requires-clause-order g c =
    let k = g.F.Field.field c.args.space.now.field in
    graph_exponents k c.args.space.now.order.weights.items (length c.args.gens.now) c.args.primaries.now.monomials (block_space g.F.Field.field c.args.graph.now) c.requires.graph
    c.args.graph.now.order.first c.args.graph.now.order.weights.items refl

pub graph_vector-requires-clause-first : goal.graph_vector-requires-clause-first
graph_vector-requires-clause-first g c =
    let S = mark_space g.F.Field.field c.args.space.now in
    call_first S c.args.space.now.order.vars c.args.space.now.order.weights.items c.args.primaries.now c.requires.stands c.args.gens.now c.in_ok-differences.differences.items (λ ps. ps.items)
    c.in_ok-differences.ensures.each (block_space g.F.Field.field c.args.graph.now) c.requires.graph c.monomials-monomials.result.now c.monomials-monomials.ensures.is
    c.as_slice.result.now c.as_slice.ensures.value c.args.graph.now.order.first c.requires.first

pub graph_vector-requires-clause-shifts : goal.graph_vector-requires-clause-shifts
graph_vector-requires-clause-shifts g c =
    let S = mark_space g.F.Field.field c.args.space.now in
    call_shifts S c.args.space.now.order.vars c.args.space.now.order.weights.items c.args.primaries.now c.requires.stands c.args.gens.now c.in_ok-differences.differences.items (λ ps. ps.items)
    c.in_ok-differences.ensures.each (block_space g.F.Field.field c.args.graph.now) c.requires.graph c.monomials-monomials.result.now c.monomials-monomials.ensures.is
    c.as_slice.result.now c.as_slice.ensures.value

pub graph_vector-requires-clause-differences : goal.graph_vector-requires-clause-differences
graph_vector-requires-clause-differences g c =
    let S = mark_space g.F.Field.field c.args.space.now in
    call_places S c.args.space.now.order.vars c.args.space.now.order.weights.items c.args.primaries.now c.requires.stands c.args.gens.now c.in_ok-differences.differences.items (λ ps. ps.items)
    c.in_ok-differences.ensures.each (block_space g.F.Field.field c.args.graph.now) c.requires.graph c.monomials-monomials.result.now c.monomials-monomials.ensures.is
    c.as_slice.result.now c.as_slice.ensures.value c.loop-place.place c.loop-place-test.true

pub loop-place-preserved : goal.loop-place-preserved
loop-place-preserved g c =
    let T = block_space g.F.Field.field c.args.graph.now in
    over_more T c.args.space.now.order.vars c.monomials-monomials.result.now c.in_ok-differences.differences.items (λ ps. ps.items) c.loop-place.place c.loop-place.vectors.items c.push.new.self.items
    c.in_ok-vector.vector c.in_ok-push.ensures.items
    (subst (λ xs. IsVectorOf T (λ m. m) (over_place T c.args.space.now.order.vars c.monomials-monomials.result.now xs (λ ps. ps.items) c.loop-place.place) c.in_ok-vector.vector)
    c.as_slice.ensures.value c.in_ok-vector.ensures.is) c.loop-place.invariant

pub returns-clause-fit : goal.returns-clause-fit
returns-clause-fit g c =
    over_fit (block_space g.F.Field.field c.args.graph.now) c.args.space.now.order.vars c.monomials-monomials.result.now c.in_ok-differences.differences.items (λ ps. ps.items)
    c.loop-place.place c.loop-place.vectors.items c.loop-place.invariant

pub returns-clause-generators : goal.returns-clause-generators
returns-clause-generators g c =
    let S = mark_space g.F.Field.field c.args.space.now in
    let end = c.loop-place.auto.place-end in
    let all : c.loop-place.place ≡ length c.monomials-monomials.result.now = omega (arith, c.loop-place-test.false, end) in
    end_generators S c.args.space.now.order.vars c.args.space.now.order.weights.items c.args.primaries.now c.requires.stands c.args.gens.now c.in_ok-differences.differences.items (λ ps. ps.items)
    c.in_ok-differences.ensures.each (block_space g.F.Field.field c.args.graph.now) c.requires.graph c.monomials-monomials.result.now c.monomials-monomials.ensures.is
    c.loop-place.place all c.loop-place.vectors.items c.loop-place.invariant

pub returns-clause-homogeneous : goal.returns-clause-homogeneous
returns-clause-homogeneous g c =
    let S = mark_space g.F.Field.field c.args.space.now in
    let end = c.loop-place.auto.place-end in
    let all : c.loop-place.place ≡ length c.monomials-monomials.result.now = omega (arith, c.loop-place-test.false, end) in
    end_homogeneous S c.args.space.now.order.vars c.args.space.now.order.weights.items c.args.primaries.now c.requires.stands c.args.gens.now c.in_ok-differences.differences.items (λ ps. ps.items)
    c.in_ok-differences.ensures.each (block_space g.F.Field.field c.args.graph.now) c.requires.graph c.monomials-monomials.result.now c.monomials-monomials.ensures.is
    c.loop-place.place all c.loop-place.vectors.items c.loop-place.invariant
