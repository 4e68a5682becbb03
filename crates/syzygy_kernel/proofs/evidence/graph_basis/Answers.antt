use Rattle.std.proofs.Common.{◌≡◌, Err, length, ap, sym, subst}
use Rattle.poly_module.specs.SpaceVectors.{vectors_of}
use Rattle.module_groebner.specs.HomogeneousLists.{degree_limit, AreHomogeneousUpTo}
use Rattle.module_groebner.specs.BasisBounds.{IsBasisBound}
use Rattle.module_groebner.specs.declared.bound.BasisBound.{BasisBound}
use Rattle.module_groebner.specs.declared.bound.Which.TheVariants.{Graph}
use Rattle.finite_certificate.specs.MarkSpaces.{mark_space}
use Rattle.syzygy_kernel.specs.Graphs.{InGraph, graph_space}
use Rattle.syzygy_kernel.specs.GraphVectors.{block_space}
use Rattle.syzygy_kernel.proofs.BasisGiven.{basis_positive, basis_reduced, basis_within, basis_above}
use Rattle.syzygy_kernel.proofs.evidence.graph_basis.Goals as goal

pub reduced_basis-requires-clause-positive : goal.reduced_basis-requires-clause-positive
reduced_basis-requires-clause-positive g c =
    let S = mark_space g.F.Field.field c.args.space.now in
    basis_positive S c.args.space.now.order.vars c.args.space.now.order.weights.items c.args.primaries.now c.requires.stands c.args.gens.now c.requires.square c.requires.fixed
    (block_space g.F.Field.field c.args.graph.now) c.requires.graph

pub reduced_basis-requires-clause-homogeneous : goal.reduced_basis-requires-clause-homogeneous
reduced_basis-requires-clause-homogeneous g c =
    let T = block_space g.F.Field.field c.args.graph.now in
    subst (λ l. AreHomogeneousUpTo T degree_limit (vectors_of T (λ m. m) l)) (sym c.as_slice.ensures.value) c.in_ok-generators.ensures.homogeneous

pub returns-in-Ok-clause-reduced : goal.returns-in-Ok-clause-reduced
returns-in-Ok-clause-reduced g c =
    let S = mark_space g.F.Field.field c.args.space.now in
    basis_reduced S c.args.space.now.order.vars c.args.space.now.order.weights.items c.args.primaries.now c.requires.stands c.args.gens.now c.requires.square c.requires.fixed
    (block_space g.F.Field.field c.args.graph.now) c.requires.graph c.in_ok-generators.generators.items c.in_ok-generators.ensures.generators c.as_slice.result.now c.as_slice.ensures.value
    c.in-Ok.basis.items c.in-Ok.ensures.reduced

pub returns-in-Ok-clause-within : goal.returns-in-Ok-clause-within
returns-in-Ok-clause-within g c =
    let S = mark_space g.F.Field.field c.args.space.now in
    basis_within S c.args.space.now.order.vars c.args.space.now.order.weights.items c.args.primaries.now c.requires.stands c.args.gens.now c.requires.square c.requires.fixed
    (block_space g.F.Field.field c.args.graph.now) c.requires.graph c.in_ok-generators.generators.items c.in_ok-generators.ensures.generators c.as_slice.result.now c.as_slice.ensures.value
    c.args.cap c.in-Ok.ensures.within

pub returns-in-Err-Above-clause-above : goal.returns-in-Err-Above-clause-above
returns-in-Err-Above-clause-above g c b e =
    let S = mark_space g.F.Field.field c.args.space.now in
    let found = c.in-Err-Above.bound in
    let named : BasisBound g.row.F-Elem.Denot = record { vector = found.vector; degree = found.degree; which = Graph } in
    let same : named ≡ b = cc in
    subst (λ x. IsBasisBound (graph_space S.field c.args.space.now.order.weights.items (length c.args.gens.now) c.args.primaries.now.monomials)
    (InGraph S.field (vectors_of S (λ m. m) c.args.primaries.now.theta) c.args.gens.now c.args.primaries.now.monomials) c.args.cap Graph x) same
    (basis_above S c.args.space.now.order.vars c.args.space.now.order.weights.items c.args.primaries.now c.requires.stands c.args.gens.now c.requires.square c.requires.fixed
    (block_space g.F.Field.field c.args.graph.now) c.requires.graph c.in_ok-generators.generators.items c.in_ok-generators.ensures.generators c.as_slice.result.now c.as_slice.ensures.value
    c.args.cap found (c.in-Err-Above.ensures.above found (ap Err c.in-Err-Above.field-0-is)))
