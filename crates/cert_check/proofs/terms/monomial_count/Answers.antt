use Rattle.std.proofs.Common.{arith}
use Rattle.invariant_space.proofs.BinomialLaws.{Counted-first, Counted-next, product-fits}
use Rattle.cert_check.proofs.terms.monomial_count.Goals as goal

pub loop-i-init : goal.loop-i-init
loop-i-init c = record { below = c.requires.positive; counted = Counted-first c.args.degree }

pub overflow_mul-count : goal.overflow_mul-count
overflow_mul-count c = let fits = product-fits c.args.degree c.loop-i.i c.loop-i.count c.from.result (omega arith) (omega arith) (omega arith) c.loop-i.invariant.counted in omega (arith, fits)

pub loop-i-preserved : goal.loop-i-preserved
loop-i-preserved c = record {
  below = omega arith;
  counted = Counted-next c.args.degree c.loop-i.i c.loop-i.count _ _ (omega arith) (omega arith) c.requires.degree (omega arith) (omega arith) c.loop-i.invariant.counted;
}
