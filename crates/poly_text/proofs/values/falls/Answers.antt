use Rattle.std.proofs.Common.{◌∙◌, sym, ap, arith}
use Rattle.alg_core.specs.Keys.{TermPlace}
use Rattle.alg_core.specs.Spaces.{over}
use Rattle.poly_text.specs.Values.{falls}
use Rattle.poly_text.proofs.EntrySteps.{field_of, last_term, term_at}
use Rattle.poly_text.proofs.values.falls.Goals as goal

pub comes_after-requires-clause-before : goal.comes_after-requires-clause-before
comes_after-requires-clause-before g c =
    let S = over field_of g.O.TermOrder.order c.args.space.now in
    (term_at S c.args.before.now _ c.index-before-before.result (omega arith) c.index-before-before.is c.requires.before).place

pub returns : goal.returns
returns g c =
    let S = over field_of g.O.TermOrder.order c.args.space.now in
    let last = last_term S c.args.before.now c.index-before-before.result (omega arith) c.index-before-before.is in
    let here : TermPlace = (c.args.term.now.at.pos, c.args.term.now.at.mono) in
    record { is = c.comes_after.ensures.is ∙ ap (λ before. falls c.args.secondaries S before here) (sym last) }
