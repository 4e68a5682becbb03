use Rattle.matrix_group.proofs.Common.{slice_set, ap, ◌∙◌, mono}
use Rattle.poly_module.proofs.ConstantSteps.{mono_set}
use Rattle.matrix_group.proofs.action.exponents_of.Goals as goal

pub returns-clause-variable : goal.returns-clause-variable
returns-clause-variable c = ap (λ l. mono (slice_set l c.args.i 1)) (c.in_ok-exponents.ensures.items_if_clones_equal (λ y h. h)) ∙ mono_set c.args.n c.args.i c.requires.within
