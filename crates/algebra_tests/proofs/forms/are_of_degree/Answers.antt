use Rattle.std.proofs.Common.{◌≡◌, arith}
use Rattle.alg_core.specs.Spaces.{entry}
use Rattle.poly_module.specs.GreatestExponents.{total}
use Rattle.poly_module.proofs.CheckedEntries.{all_more, all_done}
use Rattle.algebra_tests.proofs.forms.are_of_degree.Goals as goal

pub loop-i-preserved : goal.loop-i-preserved
loop-i-preserved c =
    all_more (entry (λ m. m)) (λ e. (e.0.0 ≡ 0) × (total e.0.1 ≡ c.args.d)) c.terms-terms.result.now c.loop-i.i c.index-terms-i.result c.loop-i-test.true c.index-terms-i.is c.loop-i.invariant
    (c.is_of_degree.ensures.position c.if-not-is_of_degree.false, c.is_of_degree.ensures.total c.if-not-is_of_degree.false)

pub returns : goal.returns
returns c = record { all = λ _. all_done (entry (λ m. m)) (λ e. (e.0.0 ≡ 0) × (total e.0.1 ≡ c.args.d)) c.terms-terms.result.now _ c.loop-i.i (omega arith) c.terms-terms.ensures.is c.loop-i.invariant }
