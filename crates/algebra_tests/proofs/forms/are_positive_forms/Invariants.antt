use Rattle.std.proofs.Common.{take}
use Rattle.std.specs.Prelude.{All}
use Rattle.alg_core.specs.Spaces.{over}
use Rattle.secondary_gens.specs.Forms.{IsPositiveForm}
use Rattle.algebra_tests.proofs.forms.are_positive_forms.Given as goal

abbrev pub invariant-loop-i : goal.invariant-loop-i
invariant-loop-i g l = All (IsPositiveForm (over g.F.Field.field g.O.TermOrder.order l.space)) (take l.i l.ps)
