use Rattle.std.proofs.Common.{◌∙◌, sym}
use Rattle.poly_text.specs.Syntax.{IsFactor}
use Rattle.poly_text.specs.Trees.{factors_of}
use Rattle.poly_text.specs.Values.{places}
use Rattle.poly_text.proofs.FactorSteps.{given_factor, placed_factor, rise_start, rise_step, rise_fails}
use Rattle.poly_text.proofs.factors.places_rise.Goals as goal

pub loop-factor-init : goal.loop-factor-init
loop-factor-init c = rise_start (places c.args.names.now (factors_of c.args.factors.now))

pub place-place-requires-clause-variable : goal.place-place-requires-clause-variable
place-place-requires-clause-variable c = (given_factor IsFactor c.args.factors.now c.loop-factor.factor-index _ c.loop-factor-test.true c.requires.factors).variable

pub place-place-requires-clause-placed : goal.place-place-requires-clause-placed
place-place-requires-clause-placed c = placed_factor c.args.names.now c.args.factors.now c.loop-factor.factor-index _ c.loop-factor-test.true c.requires.placed

pub returns-then-place-least : goal.returns-then-place-least
returns-then-place-least c = record { is = sym (c.loop-factor.invariant ∙ rise_fails c.args.names.now c.args.factors.now c.loop-factor.factor-index _ c.loop-factor.least c.place-place.result c.loop-factor-test.true c.place-place.ensures.is c.if-place-least.true) }

pub loop-factor-preserved : goal.loop-factor-preserved
loop-factor-preserved c = c.loop-factor.invariant ∙ rise_step c.args.names.now c.args.factors.now c.loop-factor.factor-index _ c.loop-factor.least c.place-place.result c.loop-factor-test.true c.place-place.ensures.is c.if-place-least.false
