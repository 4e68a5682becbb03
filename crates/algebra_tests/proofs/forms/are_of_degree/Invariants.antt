use Rattle.std.proofs.Common.{◌≡◌, take}
use Rattle.std.specs.Prelude.{All}
use Rattle.alg_core.specs.Spaces.{entries}
use Rattle.poly_module.specs.GreatestExponents.{total}
use Rattle.algebra_tests.proofs.forms.are_of_degree.Given as goal

abbrev pub invariant-loop-i : goal.invariant-loop-i
invariant-loop-i l = All (λ e. (e.0.0 ≡ 0) × (total e.0.1 ≡ l.d)) (entries (λ m. m) (take l.i l.terms))
