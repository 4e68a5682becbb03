use Rattle.std.specs.Prelude.{All}
use Rattle.alg_core.specs.Fields.{Has}
use Rattle.alg_core.specs.Spaces.{over, entries, IsPlace}
use Rattle.algebra_tests.proofs.forms.polynomial.Given as goal

abbrev pub invariant-loop-summand : goal.invariant-loop-summand
invariant-loop-summand g l =
    let S = over g.F.Field.field g.O.TermOrder.order l.space in
    All (λ e. Has S.field e.1 × IsPlace S e.0) (entries (λ m. m) l.terms.items)
