use Rattle.std.proofs.Common.{◌≡◌, ℕ, List, Err, length, ap, subst, sym}
use Rattle.std.specs.Prelude.{All}
use Rattle.alg_core.specs.Spaces.{SpaceOver}
use Rattle.finite_certificate.specs.MarkSpaces.{mark_space}
use Rattle.prime_field.specs.PrimeFields.{gfp}
use Rattle.prime_field.specs.declared.gfp.PrimeField.{PrimeField}
use Rattle.alg_core.specs.declared.block_order.BlockOrder.{BlockOrder}
use Rattle.alg_core.specs.declared.space.Space.{Space}
use Rattle.module_groebner.specs.declared.bound.BasisFault.TheVariants.{Above}
use Rattle.poly_module.specs.SpaceVectors.{vectors_of}
use Rattle.syzygy_kernel.specs.Kernels.{fixed_values}
use Rattle.syzygy_kernel.specs.declared.member.Member.{Member}
use Rattle.invring_app.specs.KernelValues.{IsSmallMember}
use Rattle.invring_app.proofs.AverageSteps.{told}
use Rattle.invring_app.proofs.KernelSteps.{small_members, square_from, fixed_from, above_to, fixed_by, complete_by, invariant_by}
use Rattle.invring_app.proofs.RingSteps.{space_of}
use Rattle.invring_app.proofs.commands.ring.kernels.kernel_values.Goals as goal

abbrev marked : Space PrimeField BlockOrder → SpaceOver ℕ
marked s = mark_space (λ (f : PrimeField). gfp f.p f.listed) s

pub kernel-requires-clause-square : goal.kernel-requires-clause-square
kernel-requires-clause-square c =
    let o = c.args.over.now in
    square_from (space_of c.args.space.now) (marked o.space) o.space.order.vars o.space.order.weights.items c.args.primaries.now o.free_module c.requires.free c.args.gens.now c.requires.square

pub kernel-requires-clause-fixed : goal.kernel-requires-clause-fixed
kernel-requires-clause-fixed c =
    let o = c.args.over.now in
    fixed_from (space_of c.args.space.now) (marked o.space) o.space.order.vars o.space.order.weights.items c.args.primaries.now o.free_module c.requires.free c.args.gens.now c.requires.fixed

pub values_of_fixed-requires-clause-members : goal.values_of_fixed-requires-clause-members
values_of_fixed-requires-clause-members c =
    let o = c.args.over.now in
    let made = c.in_ok-members.ensures in
    subst (All (IsSmallMember (marked o.space))) (sym c.deref.ensures.value)
    (small_members (marked o.space) c.args.cap c.requires.cap c.in_ok-members.members.items made.polynomials made.homogeneous)

pub returns-in_err-members-clause-above : goal.returns-in_err-members-clause-above
returns-in_err-members-clause-above c = λ b e.
    let o = c.args.over.now in
    above_to (space_of c.args.space.now) (marked o.space) o.space.order.vars o.space.order.weights.items c.args.primaries.now o.free_module c.requires.free c.args.gens.now c.args.cap b
    (c.in_err-members.ensures.above b (ap Err (told c.from_residual.result c.in_err-members.field-0.0 c.from_residual.ensures.1 (Above b) e)))

pub returns-clause-evidence : goal.returns-clause-evidence
returns-clause-evidence c =
    let o = c.args.over.now in
    let made = c.in_ok-members.ensures in
    fixed_by (space_of c.args.space.now) (marked o.space) o.space.order.vars o.space.order.weights.items c.args.primaries.now o.free_module c.requires.free c.args.gens.now c.args.cap c.in_ok-members.members.items c.in_ok-values.values.items
    made.polynomials made.kernel made.within (subst (λ (ms : List (Member ℕ)). vectors_of (space_of c.args.space.now) (λ m. m) c.in_ok-values.values.items ≡ fixed_values (space_of c.args.space.now).field (length (space_of c.args.space.now).weights) (vectors_of (space_of c.args.space.now) (λ m. m) o.free_module.theta) ms) c.deref.ensures.value c.in_ok-values.ensures.values)

pub returns-clause-complete : goal.returns-clause-complete
returns-clause-complete c =
    let o = c.args.over.now in
    let made = c.in_ok-members.ensures in
    complete_by (space_of c.args.space.now) (marked o.space) o.space.order.vars o.space.order.weights.items c.args.primaries.now o.free_module c.requires.free c.args.gens.now c.args.cap c.in_ok-members.members.items c.in_ok-values.values.items
    made.polynomials made.kernel made.within (subst (λ (ms : List (Member ℕ)). vectors_of (space_of c.args.space.now) (λ m. m) c.in_ok-values.values.items ≡ fixed_values (space_of c.args.space.now).field (length (space_of c.args.space.now).weights) (vectors_of (space_of c.args.space.now) (λ m. m) o.free_module.theta) ms) c.deref.ensures.value c.in_ok-values.ensures.values) c.requires.square c.requires.fixed

pub returns-clause-fixed : goal.returns-clause-fixed
returns-clause-fixed c =
    let o = c.args.over.now in
    let made = c.in_ok-members.ensures in
    invariant_by (space_of c.args.space.now) (marked o.space) o.space.order.vars o.space.order.weights.items c.args.primaries.now o.free_module c.requires.free c.args.gens.now c.args.cap c.in_ok-members.members.items c.in_ok-values.values.items
    made.polynomials made.kernel made.within (subst (λ (ms : List (Member ℕ)). vectors_of (space_of c.args.space.now) (λ m. m) c.in_ok-values.values.items ≡ fixed_values (space_of c.args.space.now).field (length (space_of c.args.space.now).weights) (vectors_of (space_of c.args.space.now) (λ m. m) o.free_module.theta) ms) c.deref.ensures.value c.in_ok-values.ensures.values) c.requires.square c.requires.fixed
