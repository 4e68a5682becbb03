use Rattle.alg_core.specs.Spaces.{entries}
use Rattle.test_inputs.proofs.SmallEntries.{multiples}
use Rattle.library_tests.proofs.arithmetic.shifted.Goals as goal

pub mul_term-requires-clause-room : goal.mul_term-requires-clause-room
mul_term-requires-clause-room g c = multiples c.in_ok-factor.factor.at.mono (entries (λ m. m) c.args.f.now) (c.is_small_monomial.ensures.is c.if-not-is_small_monomial.false) c.requires.small
