use Rattle.std.proofs.Common.{refl}
use Rattle.algebra_tests.proofs.generators.chosen.Goals as goal

pub degrees-requires : goal.degrees-requires
degrees-requires c = record { forms = c.if-not-are_small_forms.ensures.are refl }

pub choose-requires-clause-primaries : goal.choose-requires-clause-primaries
choose-requires-clause-primaries c = c.if-not-are_positive_forms.ensures.are refl

pub choose-requires-clause-secondaries : goal.choose-requires-clause-secondaries
choose-requires-clause-secondaries c = c.if-not-are_small_forms.ensures.are refl
