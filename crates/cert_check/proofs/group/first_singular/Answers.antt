use Rattle.matrix_group.specs.Groups.{IsNonsingular}
use Rattle.cert_check.proofs.FirstFailing.{none_before, one_more, all_hold, first_fails}
use Rattle.cert_check.proofs.CheckedGroup.{no_inverse}
use Rattle.cert_check.proofs.group.first_singular.Goals as goal

pub loop-i-init : goal.loop-i-init
loop-i-init g c = none_before (IsNonsingular (g.F.Field.field c.args.field.now)) c.args.gens.now

pub returns-then-not-branch : goal.returns-then-not-branch
returns-then-not-branch g c =
    let k = g.F.Field.field c.args.field.now in
    let m = c.index-gens-i.result in
    record {
      first = first_fails (IsNonsingular k) c.args.gens.now c.loop-i.i m c.loop-i-test.true c.index-gens-i.is
          (no_inverse k m c.in_ok-is_invertible.field-0 (λ yes. let no = c.if-not-branch.true in absurd {A = ⊥} cc) c.in_ok-is_invertible.ensures.exact) c.loop-i.invariant;
    }

pub loop-i-preserved : goal.loop-i-preserved
loop-i-preserved g c =
    one_more (IsNonsingular (g.F.Field.field c.args.field.now)) c.args.gens.now c.loop-i.i c.index-gens-i.result c.index-gens-i.is
    (c.in_ok-is_invertible.ensures.exact.0 c.if-not-branch.false) c.loop-i.invariant

pub returns : goal.returns
returns g c = record {
  first = all_hold (IsNonsingular (g.F.Field.field c.args.field.now)) c.args.gens.now c.loop-i.i c.loop-i-test.false c.loop-i.invariant;
}
