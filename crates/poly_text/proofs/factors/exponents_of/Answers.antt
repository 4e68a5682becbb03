use Rattle.std.proofs.Common.{◌∙◌, ◌<◌, ◌-◌, set, length, sym, ap, subst, arith}
use Rattle.std.specs.Prelude.{replicate}
use Rattle.std.proofs.lemmas.Iterator.Adapters.{YieldsList-from_rev_slice}
use Rattle.std.proofs.lemmas.Iterator.Consumers.{YieldsList-turn}
use Rattle.std.proofs.lemmas.List.{drop_all, length_push, set_past}
use Rattle.poly_text.specs.Syntax.{IsFactor, IsVariable}
use Rattle.poly_text.specs.Texts.{place_count}
use Rattle.poly_text.specs.Trees.{factors_of, variable_of}
use Rattle.poly_text.specs.Values.{HasPlace, exponents_from}
use Rattle.poly_text.proofs.FactorSteps.{given_factor, placed_factor, factor_back, exponents_none, exponents_turn}
use Rattle.poly_text.proofs.factors.exponents_of.Goals as goal

pub loop-factor-init : goal.loop-factor-init
loop-factor-init c =
    let names = c.args.names.now in
    record {
      within = omega arith;
      rest = c.in_ok-exponents.ensures.items_if_clones_equal (λ y e. e) ∙ ap (λ n. replicate n 0) c.place_count.ensures.is ∙ exponents_none names (place_count names) 0
          ∙ ap (λ l. exponents_from names (place_count names) 0 (factors_of l)) (sym (drop_all (length c.args.factors.now - 0) c.args.factors.now (omega arith)));
    }

pub place-here-requires-clause-variable : goal.place-here-requires-clause-variable
place-here-requires-clause-variable c =
    let xs = c.args.factors.now in
    let turn = factor_back xs (length c.loop-factor.yielded) c.in-Some.factor.now (YieldsList-turn (YieldsList-from_rev_slice xs cc) c.loop-factor.yielded _ c.loop-factor.yielded_by _ _ c.in-Some.factor c.in-Some.is c.next.ensures.steps) in
    let within : length xs - 1 - length c.loop-factor.yielded < length xs = omega (arith, turn.0) in
    subst (λ x. IsVariable (variable_of x.variable)) (sym turn.1) (given_factor IsFactor xs _ c.in-Some.factor.now within c.requires.factors).variable

pub place-here-requires-clause-placed : goal.place-here-requires-clause-placed
place-here-requires-clause-placed c =
    let xs = c.args.factors.now in
    let turn = factor_back xs (length c.loop-factor.yielded) c.in-Some.factor.now (YieldsList-turn (YieldsList-from_rev_slice xs cc) c.loop-factor.yielded _ c.loop-factor.yielded_by _ _ c.in-Some.factor c.in-Some.is c.next.ensures.steps) in
    let within : length xs - 1 - length c.loop-factor.yielded < length xs = omega (arith, turn.0) in
    subst (λ x. HasPlace c.args.names.now (variable_of x.variable)) (sym turn.1) (placed_factor c.args.names.now xs _ c.in-Some.factor.now within c.requires.placed)

pub loop-factor-preserved : goal.loop-factor-preserved
loop-factor-preserved c =
    let xs = c.args.factors.now in
    let k = length c.loop-factor.yielded in
    let turn = factor_back xs k c.in-Some.factor.now (YieldsList-turn (YieldsList-from_rev_slice xs cc) c.loop-factor.yielded _ c.loop-factor.yielded_by _ _ c.in-Some.factor c.in-Some.is c.next.ensures.steps) in
    let longer = length_push c.loop-factor.yielded c.in-Some.factor in
    record {
      within = omega (arith, turn.0);
      rest = sym (set_past c.loop-factor.exponents.items c.place-here.result c.in-Some.factor.now.exponent (omega arith))
          ∙ ap (λ p. set c.loop-factor.exponents.items p c.in-Some.factor.now.exponent) c.place-here.ensures.is
          ∙ exponents_turn c.args.names.now _ xs k c.in-Some.factor.now _ _ longer turn.0 turn.1 c.loop-factor.invariant.rest;
    }

pub loop-factor-preserved-then-here-len : goal.loop-factor-preserved-then-here-len
loop-factor-preserved-then-here-len c =
    let xs = c.args.factors.now in
    let k = length c.loop-factor.yielded in
    let turn = factor_back xs k c.in-Some.factor.now (YieldsList-turn (YieldsList-from_rev_slice xs cc) c.loop-factor.yielded _ c.loop-factor.yielded_by _ _ c.in-Some.factor c.in-Some.is c.next.ensures.steps) in
    let longer = length_push c.loop-factor.yielded c.in-Some.factor in
    record {
      within = omega (arith, turn.0);
      rest = ap (λ p. set c.loop-factor.exponents.items p c.in-Some.factor.now.exponent) c.place-here.ensures.is
          ∙ exponents_turn c.args.names.now _ xs k c.in-Some.factor.now _ _ longer turn.0 turn.1 c.loop-factor.invariant.rest;
    }
