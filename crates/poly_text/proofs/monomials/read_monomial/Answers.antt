use Rattle.std.proofs.Common.{◌≡◌, ◌∙◌, [], ◌∷◌, length, refl, sym, ap, subst}
use Rattle.alg_core.specs.Spaces.{over, IsPlace}
use Rattle.poly_text.specs.Texts.{monomial_in}
use Rattle.poly_text.specs.Values.{IsReadable}
use Rattle.poly_text.proofs.EntrySteps.{field_of}
use Rattle.poly_text.proofs.MonomialSteps.{one_term, unit_fits, unit_printed, unit_all, one_mono}
use Rattle.poly_text.proofs.ReadLaws.{read_memory}
use Rattle.poly_text.proofs.monomials.read_monomial.Goals as goal

pub returns-in_err-polynomial-clause-every : goal.returns-in_err-polynomial-clause-every
returns-in_err-polynomial-clause-every g c = λ a place readable printed.
    let S = over field_of g.O.TermOrder.order c.args.space.now in
    read_memory (λ m. m) c.from_residual.result c.in_err-polynomial.field-0.0 a c.from_residual.ensures.1
    (c.in_err-polynomial.ensures.every (((0, a), 1) ∷ [])
    (unit_fits S c.args.space.now.field.p (c.args.space.now.field.listed, refl) a place)
    (unit_all (λ e. e.0.0 ≡ 0) a refl)
    (unit_all (IsReadable S c.args.names.now) a readable)
    (unit_printed S c.args.space.now.field.p (c.args.space.now.field.listed, refl) c.args.names.now c.args.text.now a printed))

pub monomial_of-requires : goal.monomial_of-requires
monomial_of-requires g c =
    let S = over field_of g.O.TermOrder.order c.args.space.now in
    let one = one_term S c.args.names.now c.args.text.now c.args.space.now.field.p (c.args.space.now.field.listed, refl) c.requires.places c.requires.distinct c.tell.ensures.names c.in_ok-polynomial.polynomial c.requires.monomial c.in_ok-polynomial.ensures.polynomial.fits c.in_ok-polynomial.ensures.polynomial.position c.in_ok-polynomial.ensures.readable c.in_ok-polynomial.ensures.printed in
    record { one = ap length (c.terms.ensures.is ∙ one.is) }

pub returns-clause-place : goal.returns-clause-place
returns-clause-place g c =
    let S = over field_of g.O.TermOrder.order c.args.space.now in
    let one = one_term S c.args.names.now c.args.text.now c.args.space.now.field.p (c.args.space.now.field.listed, refl) c.requires.places c.requires.distinct c.tell.ensures.names c.in_ok-polynomial.polynomial c.requires.monomial c.in_ok-polynomial.ensures.polynomial.fits c.in_ok-polynomial.ensures.polynomial.position c.in_ok-polynomial.ensures.readable c.in_ok-polynomial.ensures.printed in
    subst (λ m. IsPlace S (0, m)) (sym (c.in_ok-mono.ensures.is one.term (c.terms.ensures.is ∙ one.is))) one.place

pub returns-clause-readable : goal.returns-clause-readable
returns-clause-readable g c =
    let S = over field_of g.O.TermOrder.order c.args.space.now in
    let one = one_term S c.args.names.now c.args.text.now c.args.space.now.field.p (c.args.space.now.field.listed, refl) c.requires.places c.requires.distinct c.tell.ensures.names c.in_ok-polynomial.polynomial c.requires.monomial c.in_ok-polynomial.ensures.polynomial.fits c.in_ok-polynomial.ensures.polynomial.position c.in_ok-polynomial.ensures.readable c.in_ok-polynomial.ensures.printed in
    subst (λ m. IsReadable S c.args.names.now ((0, m), 1)) (sym (c.in_ok-mono.ensures.is one.term (c.terms.ensures.is ∙ one.is))) one.readable

pub returns-clause-printed : goal.returns-clause-printed
returns-clause-printed g c =
    let S = over field_of g.O.TermOrder.order c.args.space.now in
    let one = one_term S c.args.names.now c.args.text.now c.args.space.now.field.p (c.args.space.now.field.listed, refl) c.requires.places c.requires.distinct c.tell.ensures.names c.in_ok-polynomial.polynomial c.requires.monomial c.in_ok-polynomial.ensures.polynomial.fits c.in_ok-polynomial.ensures.polynomial.position c.in_ok-polynomial.ensures.readable c.in_ok-polynomial.ensures.printed in
    ap (monomial_in c.args.names.now) (c.in_ok-mono.ensures.is one.term (c.terms.ensures.is ∙ one.is)) ∙ one.printed

pub returns-clause-every : goal.returns-clause-every
returns-clause-every g c = λ a place readable printed.
    let S = over field_of g.O.TermOrder.order c.args.space.now in
    let one = one_term S c.args.names.now c.args.text.now c.args.space.now.field.p (c.args.space.now.field.listed, refl) c.requires.places c.requires.distinct c.tell.ensures.names c.in_ok-polynomial.polynomial c.requires.monomial c.in_ok-polynomial.ensures.polynomial.fits c.in_ok-polynomial.ensures.polynomial.position c.in_ok-polynomial.ensures.readable c.in_ok-polynomial.ensures.printed in
    c.in_ok-mono.ensures.is one.term (c.terms.ensures.is ∙ one.is)
    ∙ one_mono c.in_ok-polynomial.polynomial one.term a one.is (c.in_ok-polynomial.ensures.every (((0, a), 1) ∷ [])
    (unit_fits S c.args.space.now.field.p (c.args.space.now.field.listed, refl) a place)
    (unit_all (λ e. e.0.0 ≡ 0) a refl)
    (unit_all (IsReadable S c.args.names.now) a readable)
    (unit_printed S c.args.space.now.field.p (c.args.space.now.field.listed, refl) c.args.names.now c.args.text.now a printed))
