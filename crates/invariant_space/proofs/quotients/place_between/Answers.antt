use Rattle.invariant_space.proofs.Common.{◌≡◌, ◌<◌, ◌∙◌, ap, get_or, length, sym, arith, key, key_injective, over, entry_at, keys_of, below_more, ◌≤◌, Key}
use Rattle.poly_module.proofs.LookupSteps.{other_place}
use Rattle.invariant_space.proofs.Places.{key_read}
use Rattle.invariant_space.proofs.quotients.place_between.Goals as goal

pub compare-requires-clause-left : goal.compare-requires-clause-left
compare-requires-clause-left g c =
    let S = over g.F.Field.field g.O.TermOrder.order c.args.space.now in
    let inside : c.loop-i.i < length c.args.terms.now = omega (arith, c.loop-i-test.true, c.requires.to) in
    (entry_at S (λ m. m) c.args.terms.now c.loop-i.i c.index-terms-i.result inside c.index-terms-i.is c.requires.fits).place.fits

pub returns-in-Equal-clause-some : goal.returns-in-Equal-clause-some
returns-in-Equal-clause-some g c =
    let S = over g.F.Field.field g.O.TermOrder.order c.args.space.now in
    let inside : c.loop-i.i < length c.args.terms.now = omega (arith, c.loop-i-test.true, c.requires.to) in
    key_read c.args.terms.now c.loop-i.i c.index-terms-i.result (key (c.args.at.now.pos, c.args.at.now.mono)) inside c.index-terms-i.is ∙ ap key (S.order.tied _ _ (sym c.compare.ensures.is ∙ c.in-Equal.is))

pub loop-i-preserved : goal.loop-i-preserved
loop-i-preserved g c = λ i from low v read same.
    let S = over g.F.Field.field g.O.TermOrder.order c.args.space.now in
    let inside : c.loop-i.i < length c.args.terms.now = omega (arith, c.loop-i-test.true, c.requires.to) in
    let term = entry_at S (λ m. m) c.args.terms.now c.loop-i.i c.index-terms-i.result inside c.index-terms-i.is c.requires.fits in
    below_more (λ i. c.args.from ≤ i → (v : Key) → get_or (keys_of c.args.terms.now) i v ≡ v → ¬ (v ≡ key (c.args.at.now.pos, c.args.at.now.mono))) c.loop-i.i (λ i l from. c.loop-i.invariant i from l)
    (λ from v read same. other_place S (c.index-terms-i.result.at.pos, c.index-terms-i.result.at.mono) (c.args.at.now.pos, c.args.at.now.mono) c.compare.result c.compare.ensures.is c.in_default.not-Equal
    (key_injective (c.index-terms-i.result.at.pos, c.index-terms-i.result.at.mono) (c.args.at.now.pos, c.args.at.now.mono) (term.place.wide ∙ sym c.requires.place.wide)
    (sym (key_read c.args.terms.now c.loop-i.i c.index-terms-i.result v inside c.index-terms-i.is) ∙ read ∙ same)))
    i low from v read same
