use Rattle.std.proofs.Common.{◌∙◌, ℕ, length, replicate, ap, arith}
use Rattle.finite_certificate.specs.MarkSpaces.{mark_space}
use Rattle.primary_module.proofs.PaddedExponents.{padded_start, padded_step, padded_poly}
use Rattle.primary_module.proofs.differences.with_marks.Goals as goal

pub loop-i-init : goal.loop-i-init
loop-i-init g c =
    padded_start (length c.args.space.now.grading.weights.items) c.args.mono.now c.in_ok-exponents.exponents.items
    (c.in_ok-exponents.ensures.items_if_clones_equal (λ y h. h) ∙ ap (λ (m : ℕ). replicate m 0) (omega arith))

pub loop-i-preserved : goal.loop-i-preserved
loop-i-preserved g c =
    let h = c.loop-i-test.true in
    let e = c.len-i-end.ensures.is in
    padded_step (length c.args.space.now.grading.weights.items) c.args.mono.now c.loop-i.i c.exp.result c.loop-i.exponents.items (omega arith) c.requires.variables c.exp.ensures.is c.loop-i.invariant

pub returns : goal.returns
returns g c =
    let past = c.loop-i-test.false in
    let end = c.len-i-end.ensures.is in
    record {
      is = padded_poly (mark_space g.F.Field.field c.args.space.now) (length c.args.space.now.grading.weights.items) c.args.mono.now c.loop-i.i c.loop-i.exponents.items c.as_slice.result.now
          c.one.result c.in_ok-polynomial.polynomial c.one.ensures.is c.as_slice.ensures.value (omega arith) c.loop-i.invariant c.in_ok-polynomial.ensures.monomial;
    }
