use Rattle.std.proofs.Common.{refl, arith}
use Rattle.poly_text.proofs.DigitLaws.{Placed-none, Placed-some, Placed-more, Placed-all}
use Rattle.poly_text.proofs.digits.Digits.of.Goals as goal

pub loop-rest-init : goal.loop-rest-init
loop-rest-init c = Placed-none c.args.number _ (omega arith) refl

pub overflow_sub-start : goal.overflow_sub-start
overflow_sub-start c = Placed-some _ _ _ _ (omega arith) c.loop-rest.invariant

pub overflow_sub-start-2 : goal.overflow_sub-start-2
overflow_sub-start-2 c = Placed-some _ _ _ _ (omega arith) c.loop-rest.invariant

pub loop-rest-preserved : goal.loop-rest-preserved
loop-rest-preserved c = Placed-more _ _ _ _ (omega arith) (omega arith) c.loop-rest.invariant

pub returns : goal.returns
returns c = record { is = Placed-all _ _ _ _ (omega arith) c.loop-rest.invariant }
