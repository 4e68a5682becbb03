use Rattle.invring_app.proofs.NumeralLaws.{number_of-over}
use Rattle.invring_app.proofs.number.number.Goals as goal

pub returns-then-value-limit-clause-is : goal.returns-then-value-limit-clause-is
returns-then-value-limit-clause-is c = number_of-over c.args.limit c.args.text.now c.loop-byte.byte-index c.loop-byte.value c.if-value-limit.true c.loop-byte.invariant.value
