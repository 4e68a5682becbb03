use Rattle.std.proofs.Common.{◌≡◌, ◌∙◌, ℕ, Err, length, map, ap, subst, sym}
use Rattle.std.specs.Prelude.{All}
use Rattle.alg_core.specs.Spaces.{entries}
use Rattle.matrix_group.specs.Actions.{IsSquare}
use Rattle.matrix_group.specs.Groups.{size, cells_of, IsGroup}
use Rattle.prime_field.specs.PrimeFields.{gfp}
use Rattle.finvar_text.proofs.ScriptSteps.{field_number}
use Rattle.finvar_text.specs.Problems.{problem_in}
use Rattle.finite_certificate.specs.MarkSpaces.{mark_space}
use Rattle.prime_field.specs.declared.gfp.PrimeField.{PrimeField}
use Rattle.alg_core.specs.Spaces.{SpaceOver}
use Rattle.alg_core.specs.declared.block_order.BlockOrder.{BlockOrder}
use Rattle.alg_core.specs.declared.space.Space.{Space}
use Rattle.invring_app.specs.Faults.{fault_of_group}
use Rattle.invring_app.specs.RingFaults.{IsRingTold}
use Rattle.invring_app.proofs.FaultLaws.{handed-on}
use Rattle.invring_app.proofs.GeneratorLaws.{squares, inverses, size-is}
use Rattle.invring_app.proofs.GroupSteps.{grouped, averaging_of}
use Rattle.invring_app.proofs.OrderLaws.{over_is}
use Rattle.invring_app.proofs.PrintableParts.{printable_is}
use Rattle.invring_app.proofs.RingSteps.{space_of, group_told}
use Rattle.invring_app.proofs.WholeCertificates.{certificate_of}
use Rattle.invring_app.proofs.commands.ring.whole.certificate.Goals as goal

abbrev marked : Space PrimeField BlockOrder → SpaceOver ℕ
marked s = mark_space (λ (f : PrimeField). gfp f.p f.listed) s

pub enumerate-requires-clause-square : goal.enumerate-requires-clause-square
enumerate-requires-clause-square c =
    let script = c.args.script in
    let g = c.field_of-field.result in
    squares script (gfp g.p g.listed) (size c.deref.result.now) c.deref.result.now c.requires.sound c.field_of-field.ensures.is (ap size c.deref.ensures.value ∙ size-is script c.requires.sound) c.deref.ensures.value

pub enumerate-requires-clause-invertible : goal.enumerate-requires-clause-invertible
enumerate-requires-clause-invertible c =
    let g = c.field_of-field.result in
    inverses c.args.script (gfp g.p g.listed) c.deref.result.now c.requires.sound c.field_of-field.ensures.is c.deref.ensures.value

pub returns-in_err-group-clause-fault : goal.returns-in_err-group-clause-fault
returns-in_err-group-clause-fault c =
    let script = c.args.script in
    let l = c.args.limits.now in
    let g = c.field_of-field.result in
    let e = c.in_err-group.field-0.0 in
    handed-on (IsRingTold (problem_in script) l) c.from_residual.result (fault_of_group e) c.from_residual.ensures.1
    (group_told (problem_in script) l e (over_is script (gfp g.p g.listed) c.deref.result.now c.requires.sound c.field_of-field.ensures.is c.deref.ensures.value l.max_order e
    (λ counted is. c.in_err-group.ensures.bound counted (ap Err is))))

pub of-averaging-requires : goal.of-averaging-requires
of-averaging-requires c =
    let g = c.field_of-field.result in
    let made = c.in_ok-group.ensures in
    let k = gfp g.p g.listed in
    record {
      group = record {
        square = subst (λ n. All (IsSquare k n) c.in_ok-group.group) (sym made.size) made.square;
        group = subst (λ n. IsGroup k n (cells_of c.in_ok-group.group)) (sym made.size) made.group;
      };
    }

pub rank_script-requires-clause-group : goal.rank_script-requires-clause-group
rank_script-requires-clause-group c =
    let g = c.field_of-field.result in
    let made = c.in_ok-group.ensures in
    (c.order-order.result, grouped c.args.script c.requires.sound (gfp g.p g.listed) c.field_of-field.ensures.is c.deref.result.now c.deref.ensures.value c.in_ok-group.group made.elements c.order-order.result c.order-order.ensures.is c.args.limits.now made.within)

pub images_of-requires-clause-group : goal.images_of-requires-clause-group
images_of-requires-clause-group c =
    let g = c.field_of-field.result in
    let made = c.in_ok-group.ensures in
    grouped c.args.script c.requires.sound (gfp g.p g.listed) c.field_of-field.ensures.is c.deref.result.now c.deref.ensures.value c.in_ok-group.group made.elements c.order-order.result c.order-order.ensures.is c.args.limits.now made.within

pub images_of-requires-clause-averaging : goal.images_of-requires-clause-averaging
images_of-requires-clause-averaging c =
    let g = c.field_of-field.result in
    let made = c.in_ok-group.ensures in
    let of = c.of-averaging.ensures in
    averaging_of c.args.script c.requires.sound (gfp g.p g.listed) c.field_of-field.ensures.is c.deref.result.now c.deref.ensures.value c.in_ok-group.group made.elements c.order-order.result c.order-order.ensures.is
    c.of-averaging.result (field_number c.args.script.characteristic g.p g.listed c.field_of-field.ensures.is) made.size of.none of.some of.elements

pub generators_of-requires-clause-group : goal.generators_of-requires-clause-group
generators_of-requires-clause-group c =
    let g = c.field_of-field.result in
    let made = c.in_ok-group.ensures in
    grouped c.args.script c.requires.sound (gfp g.p g.listed) c.field_of-field.ensures.is c.deref.result.now c.deref.ensures.value c.in_ok-group.group made.elements c.order-order.result c.order-order.ensures.is c.args.limits.now made.within

pub returns-in_err-ranked-clause-fault : goal.returns-in_err-ranked-clause-fault
returns-in_err-ranked-clause-fault c =
    handed-on (IsRingTold (problem_in c.args.script) c.args.limits.now) c.from_residual-in_err-ranked.result c.in_err-ranked.field-0.0 c.from_residual-in_err-ranked.ensures.1 c.in_err-ranked.ensures.fault

pub returns-in_err-images-clause-fault : goal.returns-in_err-images-clause-fault
returns-in_err-images-clause-fault c =
    handed-on (IsRingTold (problem_in c.args.script) c.args.limits.now) c.from_residual-in_err-images.result c.in_err-images.field-0.0 c.from_residual-in_err-images.ensures.1 c.in_err-images.ensures.fault

pub returns-in_err-made-clause-fault : goal.returns-in_err-made-clause-fault
returns-in_err-made-clause-fault c =
    handed-on (IsRingTold (problem_in c.args.script) c.args.limits.now) c.from_residual-in_err-made.result c.in_err-made.field-0.0 c.from_residual-in_err-made.ensures.1 c.in_err-made.ensures.fault

pub returns-clause-certificate : goal.returns-clause-certificate
returns-clause-certificate c =
    let g = c.field_of-field.result in
    let group = c.in_ok-group.ensures in
    let r = c.in_ok-ranked.ranked in
    let i = c.in_ok-images.images in
    let made = c.in_ok-made.made in
    let same = subst (λ ls. map (entries (λ m. m)) c.in_ok-lifts.lifts.items ≡ map (entries (λ m. m)) ls) c.lifts.ensures.is c.in_ok-lifts.ensures.same in
    certificate_of c.args.script c.requires.sound c.args.limits.now (space_of r.space) r.primaries.items (marked r.over.space) r.over.space.order.vars r.over.space.order.weights.items r.over.free_module r.over.powers.items c.in_ok-ranked.ensures.is
    c.order-order.result (grouped c.args.script c.requires.sound (gfp g.p g.listed) c.field_of-field.ensures.is c.deref.result.now c.deref.ensures.value c.in_ok-group.group group.elements c.order-order.result c.order-order.ensures.is c.args.limits.now group.within)
    i.images.items _ c.in_ok-images.ensures.generating made.secondaries.items _ made.irreducibles.items made.words.items c.in_ok-made.ensures.parts c.in_ok-lifts.lifts.items same _ (ap length c.monomials.ensures.is)

pub returns-clause-printable : goal.returns-clause-printable
returns-clause-printable c = let made = returns-clause-certificate c in printable_is made.field _ made.matrices made.well_formed
