use Rattle.std.proofs.Common.{sym, subst}
use Rattle.std.specs.Prelude.{All}
use Rattle.alg_core.specs.Spaces.{over, entries, IsTerm}
use Rattle.poly_module.proofs.Factors.{fits_terms}
use Rattle.poly_module.proofs.product.mul.Goals as goal

pub product_of_terms-requires-clause-terms : goal.product_of_terms-requires-clause-terms
product_of_terms-requires-clause-terms g c =
    let S = over g.F.Field.field g.O.TermOrder.order c.args.space.now in
    let exps = g.M.Monomial.exps in
    subst (λ l. All (IsTerm S) (entries exps l)) (sym c.terms.ensures.is) (fits_terms S exps c.args.f.now c.requires.polynomial.fits)
