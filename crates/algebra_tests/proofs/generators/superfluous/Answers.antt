use Rattle.std.proofs.Common.{refl}
use Rattle.algebra_tests.proofs.generators.superfluous.Goals as goal

pub first_reducible-requires-clause-primaries : goal.first_reducible-requires-clause-primaries
first_reducible-requires-clause-primaries c = c.if-not-are_positive_forms.ensures.are refl

pub first_reducible-requires-clause-irreducibles : goal.first_reducible-requires-clause-irreducibles
first_reducible-requires-clause-irreducibles c = c.if-not-are_positive_forms-2.ensures.are refl
