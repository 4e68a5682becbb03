use Rattle.std.proofs.Common.{arith}
use Rattle.invring_app.proofs.commands.ring.within.Goals as goal

pub returns-clause-short : goal.returns-clause-short
returns-clause-short c = omega (arith, c.printed_length-bytes.ensures.length, c.if-bytes-limits.false, c.requires.limits.max_text.below)
