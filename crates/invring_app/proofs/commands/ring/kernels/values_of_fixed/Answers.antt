use Rattle.std.proofs.Common.{◌∙◌, ◌+◌, sym, subst, arith}
use Rattle.alg_core.specs.DpOrder.{dp_order}
use Rattle.alg_core.specs.Spaces.{over}
use Rattle.alg_core.specs.declared.dp.Dp.{Dp}
use Rattle.poly_module.specs.SpaceVectors.{vectors_of}
use Rattle.finite_certificate.specs.MarkSpaces.{mark_space}
use Rattle.prime_field.specs.PrimeFields.{gfp}
use Rattle.prime_field.specs.declared.gfp.PrimeField.{PrimeField}
use Rattle.invring_app.specs.KernelValues.{IsSmallMember}
use Rattle.invring_app.proofs.FixedSteps.{Valued, valued_past, valued_more, valued_end}
use Rattle.primary_module.proofs.WiderLaws.{given_member}
use Rattle.invring_app.proofs.commands.ring.kernels.values_of_fixed.Goals as goal
use Rattle.invring_app.proofs.commands.ring.kernels.values_of_fixed.Goals.{then-member+in_ok-value_of+in_ok-push, else-member}

pub value_of-requires-clause-member : goal.value_of-requires-clause-member
value_of-requires-clause-member c =
    given_member (IsSmallMember (mark_space (λ (f : PrimeField). gfp f.p f.listed) c.args.marked.now)) c.args.members.now c.loop-i.i c.index-members-i.result (omega arith) c.index-members-i.is c.requires.members

pub loop-i-preserved : goal.loop-i-preserved
loop-i-preserved c =
    let S = over (λ (f : PrimeField). gfp f.p f.listed) (λ (o : Dp). dp_order o.weights.items) c.args.space.now in
    let θ = vectors_of S (λ m. m) c.args.free_module.now.theta in
    elim c.if-member.branch [
      | then-member+in_ok-value_of+in_ok-push w ↦
          valued_more S θ c.args.members.now c.loop-i.i c.loop-i.values.items c.loop-i.invariant c.index-members-i.result c.loop-i-test.true c.index-members-i.is w.if-member.true w.in_ok-value_of.field-0 c.if-member.values.items
          w.in_ok-value_of.ensures.form w.in_ok-value_of.ensures.value ((λ i. (w.values-is i).items) ∙ w.in_ok-push.ensures.items)
      | else-member w ↦
          subst (Valued S θ c.args.members.now (c.loop-i.i + 1)) (sym (λ i. (w.values-is i).items))
          (valued_past S θ c.args.members.now c.loop-i.i c.loop-i.values.items c.loop-i.invariant c.index-members-i.result c.loop-i-test.true c.index-members-i.is w.if-member.false)
    ]

pub returns : goal.returns
returns c =
    let S = over (λ (f : PrimeField). gfp f.p f.listed) (λ (o : Dp). dp_order o.weights.items) c.args.space.now in
    let θ = vectors_of S (λ m. m) c.args.free_module.now.theta in
    record {
      forms = c.loop-i.invariant.forms;
      values = valued_end S θ c.args.members.now c.loop-i.i c.loop-i.values.items c.loop-i-test.false c.loop-i.invariant;
    }
