use Rattle.std.proofs.Common.{◌≡◌, ℕ, Err, length, ap, subst, sym}
use Rattle.std.specs.Prelude.{All}
use Rattle.alg_core.specs.Monomials.{mono}
use Rattle.poly_module.specs.Polynomials.{single_vector}
use Rattle.poly_module.specs.SpaceVectors.{vector_of, vectors_of}
use Rattle.matrix_group.specs.Actions.{IsSquare, Invariant}
use Rattle.module_groebner.specs.BasisBounds.{IsBasisBound}
use Rattle.module_groebner.specs.declared.bound.Which.TheVariants.{Graph}
use Rattle.alg_core.specs.Spaces.{SpaceOver}
use Rattle.finvar_text.specs.Problems.{problem_in}
use Rattle.finite_certificate.specs.MarkSpaces.{mark_space}
use Rattle.prime_field.specs.PrimeFields.{gfp}
use Rattle.prime_field.specs.declared.gfp.PrimeField.{PrimeField}
use Rattle.alg_core.specs.declared.block_order.BlockOrder.{BlockOrder}
use Rattle.alg_core.specs.declared.space.Space.{Space}
use Rattle.matrix_group.specs.Groups.{size}
use Rattle.reynolds_op.specs.Averages.{reynolds}
use Rattle.secondary_gens.specs.Forms.{degrees_of}
use Rattle.secondary_gens.specs.Lists.{Each}
use Rattle.secondary_gens.specs.Secondaries.{IsComplete}
use Rattle.syzygy_kernel.specs.Graphs.{InGraph, graph_space}
use Rattle.invring_app.specs.AveragedGroups.{IsAveragingOf}
use Rattle.invring_app.specs.Faults.{fault_of_basis}
use Rattle.invring_app.specs.FoundPrimaries.{IsFreeOver}
use Rattle.invring_app.specs.GeneratingParts.{AreFixedBy}
use Rattle.invring_app.specs.RingFaults.{IsRingTold}
use Rattle.invring_app.proofs.FaultLaws.{handed-on}
use Rattle.invring_app.proofs.FixedValues.{plain_polynomials}
use Rattle.invring_app.proofs.RankedSteps.{square_in, fixed_primaries, graph_fault, averaged_of, averages_generate}
use Rattle.invring_app.proofs.RingSteps.{space_of, graph_told}
use Rattle.invring_app.proofs.commands.ring.images.images_of.Goals as goal

abbrev marked : Space PrimeField BlockOrder → SpaceOver ℕ
marked s = mark_space (λ (f : PrimeField). gfp f.p f.listed) s

pub kernel_values-requires-clause-free : goal.kernel_values-requires-clause-free
kernel_values-requires-clause-free c =
    let r = c.args.ranked.now in
    let S = space_of r.space in
    subst (λ ps. IsFreeOver S (marked r.over.space) r.over.space.order.vars r.over.space.order.weights.items ps r.over.free_module) (sym c.deref.ensures.value) c.requires.ranked.free

pub kernel_values-requires-clause-square : goal.kernel_values-requires-clause-square
kernel_values-requires-clause-square c =
    let S = space_of c.args.ranked.now.space in
    subst (All (IsSquare S.field (length S.weights))) (sym c.deref-in_default.ensures.value) (square_in c.args.script.now c.requires.sound c.args.limits.now S c.requires.ranked.ground)

pub kernel_values-requires-clause-fixed : goal.kernel_values-requires-clause-fixed
kernel_values-requires-clause-fixed c =
    let r = c.args.ranked.now in
    let S = space_of r.space in
    let x = vectors_of S (λ m. m) in
    subst (λ gs. All (Invariant S.field gs) (x c.deref.result.now)) (sym c.deref-in_default.ensures.value)
    (subst (λ ps. All (Invariant S.field c.args.script.now.gens.items) (x ps)) (sym c.deref.ensures.value)
    (fixed_primaries c.args.script.now c.requires.sound c.args.limits.now S r.primaries.items (marked r.over.space) r.over.space.order.vars r.over.space.order.weights.items r.over.free_module r.over.powers.items c.requires.ranked c.args.order c.requires.group))

pub returns-in_err-kernel-clause-fault : goal.returns-in_err-kernel-clause-fault
returns-in_err-kernel-clause-fault c =
    let script = c.args.script.now in
    let l = c.args.limits.now in
    let q = problem_in script in
    let r = c.args.ranked.now in
    let S = space_of r.space in
    let B = r.over.free_module.monomials in
    let e = c.in_err-kernel.field-0.0 in
    let divides = subst (IsAveragingOf q script.gens.items c.args.order) c.in_default.is c.requires.averaging in
    handed-on (IsRingTold q l) c.from_residual.result (fault_of_basis e) c.from_residual.ensures.1
    (graph_told q l e (λ b is.
    graph_fault script c.requires.sound c.args.limits.now S r.primaries.items (marked r.over.space) r.over.space.order.vars r.over.space.order.weights.items r.over.free_module r.over.powers.items c.requires.ranked c.args.order c.requires.group divides b
    (subst (λ gs. IsBasisBound (graph_space S.field (degrees_of r.primaries.items) (length gs) B) (InGraph S.field (vectors_of S (λ m. m) r.primaries.items) gs B) l.max_basis Graph b) c.deref-in_default.ensures.value
    (subst (λ ps. IsBasisBound (graph_space S.field (degrees_of ps) (length c.deref-in_default.result.now) B) (InGraph S.field (vectors_of S (λ m. m) ps) c.deref-in_default.result.now B) l.max_basis Graph b) c.deref.ensures.value
    (c.in_err-kernel.ensures.above b (ap Err is))))))

pub returns-in_default-clause-generating : goal.returns-in_default-clause-generating
returns-in_default-clause-generating c =
    let script = c.args.script.now in
    let q = problem_in script in
    let r = c.args.ranked.now in
    let S = space_of r.space in
    let B = r.over.free_module.monomials in
    let x = vectors_of S (λ m. m) in
    let made = c.in_ok-kernel.ensures in
    let fs = c.in_ok-kernel.kernel.values.items in
    let cap = c.args.limits.now.max_basis in
    record {
      source = (
        subst (IsAveragingOf q script.gens.items c.args.order) c.in_default.is c.requires.averaging,
        subst (λ gs. AreFixedBy S cap gs r.primaries.items B fs c.in_ok-kernel.kernel.members.items) c.deref-in_default.ensures.value
            (subst (λ ps. AreFixedBy S cap c.deref-in_default.result.now ps B fs c.in_ok-kernel.kernel.members.items) c.deref.ensures.value made.evidence),
      );
      forms = made.forms;
      fixed = subst (λ gs. All (λ f. Invariant S.field gs (vector_of S (λ m. m) f)) fs) c.deref-in_default.ensures.value made.fixed;
      complete = subst (λ gs. IsComplete S.field (length S.weights) gs (x r.primaries.items) (x fs)) c.deref-in_default.ensures.value
          (subst (λ ps. IsComplete S.field (length S.weights) c.deref-in_default.result.now (x ps) (x fs)) c.deref.ensures.value made.complete);
    }

pub averages-requires-clause-averaging : goal.averages-requires-clause-averaging
averages-requires-clause-averaging c =
    let script = c.args.script.now in
    let r = c.args.ranked.now in
    let S = space_of r.space in
    let R = c.in-Some.averaging in
    let given = averaged_of script c.requires.sound c.args.limits.now S r.primaries.items (marked r.over.space) r.over.space.order.vars r.over.space.order.weights.items r.over.free_module r.over.powers.items c.requires.ranked c.args.order c.requires.group R
    (subst (IsAveragingOf (problem_in script) script.gens.items c.args.order) c.in-Some.is c.requires.averaging) in
    given.averages

pub averages-requires-clause-polynomials : goal.averages-requires-clause-polynomials
averages-requires-clause-polynomials c = plain_polynomials (space_of c.args.ranked.now.space) c.requires.ranked.ground.plain

pub returns-clause-generating : goal.returns-clause-generating
returns-clause-generating c =
    let script = c.args.script.now in
    let r = c.args.ranked.now in
    let S = space_of r.space in
    let R = c.in-Some.averaging in
    let fs = c.in_ok-images.images.items in
    averages_generate script c.requires.sound c.args.limits.now S r.primaries.items (marked r.over.space) r.over.space.order.vars r.over.space.order.weights.items r.over.free_module r.over.powers.items c.requires.ranked c.args.order c.requires.group R
    (subst (IsAveragingOf (problem_in script) script.gens.items c.args.order) c.in-Some.is c.requires.averaging) fs c.in_ok-images.ensures.forms
    (subst (λ bs. Each (λ b f. vector_of S (λ m. m) f ≡ reynolds S.field (size R.elements) R (single_vector S.field (0, mono b))) bs fs) c.monomials.ensures.is c.in_ok-images.ensures.each)
