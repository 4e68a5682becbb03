use Rattle.std.proofs.Common.{arith}
use Rattle.alg_core.specs.Spaces.{entry, entries}
use Rattle.poly_module.proofs.CheckedEntries.{all_more, all_done}
use Rattle.test_inputs.proofs.SmallEntries.{positions, totals}
use Rattle.test_inputs.specs.Smallness.{IsSmallEntry}
use Rattle.test_inputs.proofs.polynomials.is_small.Goals as goal

pub loop-i-preserved : goal.loop-i-preserved
loop-i-preserved c =
    let here = c.if-not-is_small_term.false in
    all_more (entry (λ m. m)) IsSmallEntry c.terms-terms.result.now c.loop-i.i c.index-terms-i.result c.loop-i-test.true c.index-terms-i.is c.loop-i.invariant
    (record { position = c.is_small_term.ensures.position here; three = c.is_small_term.ensures.three here; within = c.is_small_term.ensures.within here })

pub returns : goal.returns
returns c =
    let all = all_done (entry (λ m. m)) IsSmallEntry c.terms-terms.result.now _ c.loop-i.i (omega arith) c.terms-terms.ensures.is c.loop-i.invariant in
    record { positions = λ _. positions (entries (λ m. m) c.args.f.now) all; low = λ _. totals (entries (λ m. m) c.args.f.now) all; is = λ _. all }
