use Rattle.std.proofs.Common.{◌∙◌, Err, length, ap, sym, subst}
use Rattle.poly_module.specs.SpaceVectors.{AreVectors}
use Rattle.finite_certificate.specs.MarkSpaces.{mark_space}
use Rattle.module_groebner.specs.declared.bound.BasisFault.TheVariants as faults
use Rattle.primary_module.proofs.MonomialSteps.{error_same}
use Rattle.syzygy_kernel.specs.Graphs.{graph_space}
use Rattle.syzygy_kernel.specs.GraphVectors.{block_space}
use Rattle.syzygy_kernel.proofs.KernelGiven.{low_monomials, kernel_given, kernel_complete, kernel_homogeneous}
use Rattle.syzygy_kernel.proofs.evidence.kernel.Goals as goal

pub new_graph_space-requires-clause-low : goal.new_graph_space-requires-clause-low
new_graph_space-requires-clause-low g c =
    low_monomials (mark_space g.F.Field.field c.args.space.now) c.args.space.now.order.vars c.args.space.now.order.weights.items c.args.primaries.now c.requires.stands
    c.monomials-monomials.result.now c.monomials-monomials.ensures.is

pub graph_basis-requires-clause-graph : goal.graph_basis-requires-clause-graph
graph_basis-requires-clause-graph g c =
    c.in_ok-graph.ensures.is ∙ ap (λ B. graph_space (g.F.Field.field c.args.space.now.field) c.args.space.now.order.weights.items (length c.args.gens.now) B) c.monomials-monomials.ensures.is

pub returns-in_err-basis-clause-above : goal.returns-in_err-basis-clause-above
returns-in_err-basis-clause-above g c = λ b e.
    c.in_err-basis.ensures.above b (ap (λ x. Err x) (error_same c.from_residual-in_err-basis.result c.in_err-basis.field-0.0 (faults.Above b) c.from_residual-in_err-basis.ensures.1 e))

pub members-requires-clause-vectors : goal.members-requires-clause-vectors
members-requires-clause-vectors g c =
    let G = graph_space (g.F.Field.field c.args.space.now.field) c.args.space.now.order.weights.items (length c.args.gens.now) c.monomials-monomials.result.now in
    subst (λ l. AreVectors G (λ m. m) l) (sym c.as_slice.ensures.value) (subst (λ X. AreVectors X (λ m. m) c.in_ok-basis.basis.items) c.in_ok-graph.ensures.is c.in_ok-basis.ensures.fit)

pub returns-clause-kernel : goal.returns-clause-kernel
returns-clause-kernel g c =
    kernel_given (mark_space g.F.Field.field c.args.space.now) c.args.space.now.order.vars c.args.space.now.order.weights.items c.args.primaries.now c.requires.stands
    c.monomials-monomials.result.now c.monomials-monomials.ensures.is c.args.gens.now c.in_ok-basis.basis.items c.in_ok-basis.ensures.reduced
    c.as_slice.result.now c.as_slice.ensures.value c.in_ok-members.members.items c.in_ok-members.ensures.listed

pub returns-clause-complete : goal.returns-clause-complete
returns-clause-complete g c =
    kernel_complete (mark_space g.F.Field.field c.args.space.now) c.args.space.now.order.vars c.args.space.now.order.weights.items c.args.primaries.now c.requires.stands
    c.monomials-monomials.result.now c.monomials-monomials.ensures.is c.args.gens.now c.in_ok-basis.basis.items c.in_ok-basis.ensures.reduced
    c.as_slice.result.now c.as_slice.ensures.value c.in_ok-members.members.items c.in_ok-members.ensures.listed c.requires.square c.requires.fixed

pub returns-clause-homogeneous : goal.returns-clause-homogeneous
returns-clause-homogeneous g c =
    let k = g.F.Field.field c.args.space.now.field in
    kernel_homogeneous (mark_space g.F.Field.field c.args.space.now) c.args.space.now.order.vars c.args.space.now.order.weights.items c.args.primaries.now c.requires.stands
    c.monomials-monomials.result.now c.monomials-monomials.ensures.is c.args.gens.now c.in_ok-basis.basis.items c.in_ok-basis.ensures.reduced
    c.as_slice.result.now c.as_slice.ensures.value c.in_ok-members.members.items c.in_ok-members.ensures.listed c.args.cap c.requires.stands.is.space
    (block_space g.F.Field.field c.in_ok-graph.graph)
    (c.in_ok-graph.ensures.is ∙ ap (λ B. graph_space k c.args.space.now.order.weights.items (length c.args.gens.now) B) c.monomials-monomials.ensures.is)
    c.in_ok-basis.ensures.homogeneous
