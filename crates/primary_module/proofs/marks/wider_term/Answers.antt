use Rattle.std.proofs.Common.{◌∙◌, ℕ, length, replicate, refl, ap, arith}
use Rattle.alg_core.specs.Monomials.{mono}
use Rattle.primary_module.proofs.PaddedExponents.{padded_start, padded_step, padded_mono}
use Rattle.primary_module.proofs.marks.wider_term.Goals as goal

pub loop-i-init : goal.loop-i-init
loop-i-init g c =
    padded_start (length c.args.space.now.grading.weights.items) c.args.t.now.at.mono c.in_ok-exponents.exponents.items
    (c.in_ok-exponents.ensures.items_if_clones_equal (λ y h. h) ∙ ap (λ (m : ℕ). replicate m 0) (omega arith))

pub loop-i-preserved : goal.loop-i-preserved
loop-i-preserved g c =
    let h = c.loop-i-test.true in
    let e = c.len-i-end.ensures.is in
    padded_step (length c.args.space.now.grading.weights.items) c.args.t.now.at.mono c.loop-i.i c.exp.result c.loop-i.exponents.items (omega arith) c.requires.variables c.exp.ensures.is c.loop-i.invariant

pub returns : goal.returns
returns g c =
    let past = c.loop-i-test.false in
    let end = c.len-i-end.ensures.is in
    let made = c.in_ok-wider.ensures.is ∙ c.as_slice.ensures.value in
    record {
      is = record {
        coefficient = refl;
        position = refl;
        wide = ap length made ∙ c.loop-i.invariant.count;
        same = ap mono made ∙ padded_mono (length c.args.space.now.grading.weights.items) c.args.t.now.at.mono c.loop-i.i c.loop-i.exponents.items (omega arith) c.loop-i.invariant;
      };
    }
