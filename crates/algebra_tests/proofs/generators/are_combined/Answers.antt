use Rattle.std.proofs.Common.{refl, sym, subst, arith}
use Rattle.secondary_gens.specs.Forms.{IsSmallForm}
use Rattle.algebra_tests.proofs.generators.are_combined.Goals as goal

pub combine_all-requires-clause-primaries : goal.combine_all-requires-clause-primaries
combine_all-requires-clause-primaries c = c.if-not-are_positive_forms.ensures.are refl

pub combine_all-requires-clause-secondaries : goal.combine_all-requires-clause-secondaries
combine_all-requires-clause-secondaries c = c.if-not-are_small_forms.ensures.are refl

pub combine_all-requires-clause-forms : goal.combine_all-requires-clause-forms
combine_all-requires-clause-forms c = c.if-not-are_small_forms-2.ensures.are refl

pub combine-requires-clause-form : goal.combine-requires-clause-form
combine-requires-clause-form c = subst (IsSmallForm _) (sym c.index-fs-i.is) (c.if-not-are_small_forms-2.ensures.are refl c.loop-i.i c.index-fs-i.result (omega arith))
