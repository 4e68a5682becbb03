use Rattle.std.proofs.Common.{◌≡◌, ◌∙◌, map, ap, sym, subst}
use Rattle.alg_core.specs.Spaces.{over, entries}
use Rattle.poly_module.specs.SpaceVectors.{ArePlaced, IsVectorOf, vector_of}
use Rattle.groebner_hom.proofs.SecondParts.{lowered, lower_all, lowered_placed, second_polynomial, second_lifted}
use Rattle.groebner_hom.proofs.colon.second_part.Goals as goal

pub make-requires : goal.make-requires
make-requires g c =
    let S = over g.F.Field.field g.O.TermOrder.order c.args.space.now in
    let v = c.args.v.now in
    let made = c.loop-i.terms.items in
    let same : entries (λ m. m) made ≡ map lowered (entries (λ m. m) v) = lower_all c.terms-pairs.result.now made c.loop-i.i c.loop-i-test.false c.loop-i.invariant ∙ ap (λ l. map lowered (entries (λ m. m) l)) c.terms-pairs.ensures.is in
    record { given = subst (ArePlaced S (λ m. m)) (sym c.as_slice.ensures.value) (lowered_placed S c.requires.polynomials c.requires.pair.0 v made c.requires.pair.1 same) }

pub returns-clause-polynomial : goal.returns-clause-polynomial
returns-clause-polynomial g c =
    let S = over g.F.Field.field g.O.TermOrder.order c.args.space.now in
    let v = c.args.v.now in
    let made = c.loop-i.terms.items in
    let h = c.in_ok-polynomial.polynomial in
    let same : entries (λ m. m) made ≡ map lowered (entries (λ m. m) v) = lower_all c.terms-pairs.result.now made c.loop-i.i c.loop-i-test.false c.loop-i.invariant ∙ ap (λ l. map lowered (entries (λ m. m) l)) c.terms-pairs.ensures.is in
    second_polynomial S c.requires.polynomials c.requires.pair.0 v made c.requires.pair.1 same h
    (subst (λ l. IsVectorOf S (λ m. m) (vector_of S (λ m. m) l) h) c.as_slice.ensures.value c.in_ok-polynomial.ensures.sum)

pub returns-clause-lifted : goal.returns-clause-lifted
returns-clause-lifted g c =
    let S = over g.F.Field.field g.O.TermOrder.order c.args.space.now in
    let v = c.args.v.now in
    let made = c.loop-i.terms.items in
    let h = c.in_ok-polynomial.polynomial in
    let same : entries (λ m. m) made ≡ map lowered (entries (λ m. m) v) = lower_all c.terms-pairs.result.now made c.loop-i.i c.loop-i-test.false c.loop-i.invariant ∙ ap (λ l. map lowered (entries (λ m. m) l)) c.terms-pairs.ensures.is in
    second_lifted S c.requires.polynomials c.requires.pair.0 v made c.requires.pair.1 same h c.requires.second
    (subst (λ l. IsVectorOf S (λ m. m) (vector_of S (λ m. m) l) h) c.as_slice.ensures.value c.in_ok-polynomial.ensures.sum)
