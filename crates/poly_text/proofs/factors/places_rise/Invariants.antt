use Rattle.std.proofs.Common.{◌≡◌, drop}
use Rattle.poly_text.specs.Trees.{factors_of}
use Rattle.poly_text.specs.Values.{places, rise}
use Rattle.poly_text.proofs.FactorSteps.{rise_from}
use Rattle.poly_text.proofs.factors.places_rise.Given as goal

abbrev pub invariant-loop-factor : goal.invariant-loop-factor
invariant-loop-factor l = rise (places l.names (factors_of l.factors)) ≡ rise_from l.least (drop l.factor-index (places l.names (factors_of l.factors)))
