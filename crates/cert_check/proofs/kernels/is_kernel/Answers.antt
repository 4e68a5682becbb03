use Rattle.std.proofs.Common.{◌∙◌, subst}
use Rattle.std.specs.Prelude.{◌↔◌, IsTrue}
use Rattle.poly_module.specs.SpaceVectors.{vectors_of}
use Rattle.syzygy_kernel.specs.Kernels.{AreKernel}
use Rattle.cert_check.proofs.CheckSpaces.{marks_of}
use Rattle.cert_check.proofs.KernelMembers.{members_low}
use Rattle.cert_check.proofs.kernels.is_kernel.Goals as goal

pub is_kernel_list-requires-clause-list : goal.is_kernel_list-requires-clause-list
is_kernel_list-requires-clause-list c =
    members_low (marks_of c.args.marked.now) c.args.lines.now c.as_slice.result.now (c.as_slice.ensures.value ∙ c.in_ok-members.ensures.are) c.requires.low

pub returns : goal.returns
returns c =
    let M = marks_of c.args.marked.now in
    record {
      exact = subst (λ ms. IsTrue c.in_ok-same.same ↔ AreKernel M.field c.args.marked.now.order.vars c.args.marked.now.order.weights.items (vectors_of M (λ m. m) c.args.free_module.now.theta)
          c.args.gens.now c.args.free_module.now.monomials ms) (c.as_slice.ensures.value ∙ c.in_ok-members.ensures.are) c.in_ok-same.ensures.exact;
    }
