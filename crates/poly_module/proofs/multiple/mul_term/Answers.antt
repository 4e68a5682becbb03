use Rattle.std.proofs.Common.{◌≡◌, [], sym, ap, subst, ◌∙◌, arith}
use Rattle.std.specs.Prelude.{All}
use Rattle.alg_core.specs.ExponentLists.{product, Within}
use Rattle.alg_core.specs.Spaces.{over, entries, Fits}
use Rattle.alg_core.specs.Vectors.{vec}
use Rattle.poly_module.proofs.EntryLists.{entry_at, given_at}
use Rattle.poly_module.proofs.MappedTerms.{mapped_all}
use Rattle.poly_module.proofs.Multiples.{multiple, multiples, vec_multiples, fits_multiples, zero_multiple}
use Rattle.poly_module.proofs.SpaceVectorLaws.{vector_given}
use Rattle.poly_module.proofs.multiple.mul_term.Goals as goal

pub returns-then-is_zero : goal.returns-then-is_zero
returns-then-is_zero g c =
    let S = over g.F.Field.field g.O.TermOrder.order c.args.space.now in
    let exps = g.M.Monomial.exps in
    let none : entries exps c.of.result ≡ [] = ap (entries exps) (c.of.ensures.is ∙ c.new-terms.ensures.items) in
    record { multiple = vector_given S exps _ _ (subst (Fits S) (sym none) tt) (ap (vec S.field) none ∙ zero_multiple S c.args.c (exps c.args.m.now) _ (c.is_zero.ensures.yes c.if-is_zero.true)) }

pub mul-coef-requires-clause-right : goal.mul-coef-requires-clause-right
mul-coef-requires-clause-right g c =
    let S = over g.F.Field.field g.O.TermOrder.order c.args.space.now in
    let exps = g.M.Monomial.exps in
    (entry_at S exps _ _ _ c.loop-i-test.true c.index-xs-i.is (subst (λ l. Fits S (entries exps l)) (sym c.terms-xs.ensures.is) c.requires.vector)).has

pub product-requires-clause-same : goal.product-requires-clause-same
product-requires-clause-same g c =
    let S = over g.F.Field.field g.O.TermOrder.order c.args.space.now in
    let exps = g.M.Monomial.exps in
    c.requires.wide ∙ sym (entry_at S exps _ _ _ c.loop-i-test.true c.index-xs-i.is (subst (λ l. Fits S (entries exps l)) (sym c.terms-xs.ensures.is) c.requires.vector)).place.wide

pub product-requires-clause-fits : goal.product-requires-clause-fits
product-requires-clause-fits g c =
    let S = over g.F.Field.field g.O.TermOrder.order c.args.space.now in
    let exps = g.M.Monomial.exps in
    given_at S exps (λ e. Within g.M.Monomial.MAX_EXP (product (exps c.args.m.now) e.0.1)) _ _ _ c.loop-i-test.true c.index-xs-i.is (subst (λ l. All (λ e. Within g.M.Monomial.MAX_EXP (product (exps c.args.m.now) e.0.1)) (entries exps l)) (sym c.terms-xs.ensures.is) c.requires.room)

pub returns : goal.returns
returns g c =
    let S = over g.F.Field.field g.O.TermOrder.order c.args.space.now in
    let exps = g.M.Monomial.exps in
    let m = exps c.args.m.now in
    let made : entries exps c.of-2.result ≡ multiples S c.args.c m (entries exps c.args.a.now) =
    mapped_all exps (multiple S c.args.c m) c.terms-xs.result.now _ _ _ c.loop-i.i (omega arith) c.loop-i.invariant c.terms-xs.ensures.is c.of-2.ensures.is in
    record {
      multiple = vector_given S exps _ _
          (subst (Fits S) (sym made) (fits_multiples S c.args.c m c.requires.value c.requires.wide (c.is_zero.ensures.no c.if-is_zero.false) (entries exps c.args.a.now) c.requires.vector))
          (ap (vec S.field) made ∙ vec_multiples S c.args.c m c.requires.value c.requires.wide (entries exps c.args.a.now) c.requires.vector);
    }
