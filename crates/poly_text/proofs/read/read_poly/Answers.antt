use Rattle.std.proofs.Common.{ℕ, List, map, None, sym, subst, ap, ◌∙◌, refl}
use Rattle.alg_core.specs.Spaces.{over, entries}
use Rattle.prime_field.specs.PrimeFields.{gfp}
use Rattle.prime_field.specs.declared.gfp.PrimeField.{PrimeField}
use Rattle.poly_text.specs.Trees.{terms_of}
use Rattle.poly_text.specs.declared.syntax.TermText.{TermText}
use Rattle.poly_text.specs.Values.{first_fault, entry_of, IsFault}
use Rattle.poly_text.proofs.ReadLaws.{polynomial_positions, read_memory, read_readable, read_printed, every_scanned, every_valued, every_read}
use Rattle.poly_text.proofs.read.read_poly.Goals as goal

pub returns-clause-readable : goal.returns-clause-readable
returns-clause-readable g c =
    let S = over (λ (f : PrimeField). gfp f.p f.listed) g.O.TermOrder.order c.args.space.now in
    read_readable S c.args.names.now c.requires.places c.args.text.now (terms_of c.in_ok-terms.terms.items) c.in_ok-terms.ensures.tree (ap (λ (l : List TermText). first_fault None S c.args.names.now None 1 (terms_of l)) (sym c.deref.ensures.value) ∙ c.in_ok-polynomial.ensures.fault) _ (c.in_ok-polynomial.ensures.value ∙ ap (λ (l : List TermText). map (entry_of None S c.args.names.now) (terms_of l)) c.deref.ensures.value)

pub returns-clause-printed : goal.returns-clause-printed
returns-clause-printed g c =
    let S = over (λ (f : PrimeField). gfp f.p f.listed) g.O.TermOrder.order c.args.space.now in
    read_printed S c.args.names.now c.requires.places c.args.text.now (terms_of c.in_ok-terms.terms.items) c.in_ok-terms.ensures.tree (ap (λ (l : List TermText). first_fault None S c.args.names.now None 1 (terms_of l)) (sym c.deref.ensures.value) ∙ c.in_ok-polynomial.ensures.fault) _ (c.in_ok-polynomial.ensures.value ∙ ap (λ (l : List TermText). map (entry_of None S c.args.names.now) (terms_of l)) c.deref.ensures.value)

pub returns-in_err-terms-clause-every : goal.returns-in_err-terms-clause-every
returns-in_err-terms-clause-every g c = λ es fits zeros readable printed.
    let S = over (λ (f : PrimeField). gfp f.p f.listed) g.O.TermOrder.order c.args.space.now in
    read_memory (entries (λ (m : List ℕ). m)) c.from_residual.result c.in_err-terms.field-0.0 es c.from_residual.ensures.1 (every_scanned S c.args.names.now c.requires.places c.args.text.now c.args.space.now.field.p (c.args.space.now.field.listed, refl) c.requires.distinct c.tell.ensures.names es fits zeros readable printed c.in_err-terms.field-0.0 c.in_err-terms.ensures.fault)

pub returns-in_err-polynomial-clause-every : goal.returns-in_err-polynomial-clause-every
returns-in_err-polynomial-clause-every g c = λ es fits zeros readable printed.
    let S = over (λ (f : PrimeField). gfp f.p f.listed) g.O.TermOrder.order c.args.space.now in
    read_memory (entries (λ (m : List ℕ). m)) c.from_residual-in_err-polynomial.result c.in_err-polynomial.field-0.0 es c.from_residual-in_err-polynomial.ensures.1 (every_valued S c.args.names.now c.requires.places c.args.text.now c.args.space.now.field.p (c.args.space.now.field.listed, refl) c.requires.distinct c.tell.ensures.names es fits zeros readable printed (terms_of c.in_ok-terms.terms.items) c.in_ok-terms.ensures.tree c.in_err-polynomial.field-0.0 (subst (λ (l : List TermText). IsFault c.in_err-polynomial.field-0.0 (first_fault None S c.args.names.now None 1 (terms_of l))) c.deref.ensures.value c.in_err-polynomial.ensures.fault))

pub returns-clause-every : goal.returns-clause-every
returns-clause-every g c = λ es fits zeros readable printed.
    let S = over (λ (f : PrimeField). gfp f.p f.listed) g.O.TermOrder.order c.args.space.now in
    every_read S c.args.names.now c.requires.places c.args.text.now c.args.space.now.field.p (c.args.space.now.field.listed, refl) c.requires.distinct c.tell.ensures.names es fits zeros readable printed (terms_of c.in_ok-terms.terms.items) c.in_ok-terms.ensures.tree _ (c.in_ok-polynomial.ensures.value ∙ ap (λ (l : List TermText). map (entry_of None S c.args.names.now) (terms_of l)) c.deref.ensures.value)

pub polynomial_of-requires-clause-positions : goal.polynomial_of-requires-clause-positions
polynomial_of-requires-clause-positions g c =
    let S = over (λ (f : PrimeField). gfp f.p f.listed) g.O.TermOrder.order c.args.space.now in
    polynomial_positions S c.requires.polynomials.constants
