use Rattle.std.proofs.Common.{◌≡◌, [], sym, ap, subst, ◌∙◌, arith}
use Rattle.alg_core.specs.Spaces.{over, entries, Fits}
use Rattle.alg_core.specs.Vectors.{vec}
use Rattle.poly_module.proofs.EntryLists.{entry_at}
use Rattle.poly_module.proofs.MappedTerms.{mapped_all}
use Rattle.poly_module.proofs.Multiples.{scaled_entry, scaled_entries, vec_scaled, fits_scaled, zero_scaled}
use Rattle.poly_module.proofs.SpaceVectorLaws.{vector_given}
use Rattle.poly_module.proofs.multiple.scale.Goals as goal

pub returns-then-is_zero : goal.returns-then-is_zero
returns-then-is_zero g c =
    let S = over g.F.Field.field g.O.TermOrder.order c.args.space.now in
    let exps = g.M.Monomial.exps in
    let none : entries exps c.of.result ≡ [] = ap (entries exps) (c.of.ensures.is ∙ c.new-terms.ensures.items) in
    record { multiple = vector_given S exps _ _ (subst (Fits S) (sym none) tt) (ap (vec S.field) none ∙ zero_scaled S c.args.c _ (c.is_zero.ensures.yes c.if-is_zero.true)) }

pub mul-coef-requires-clause-right : goal.mul-coef-requires-clause-right
mul-coef-requires-clause-right g c =
    let S = over g.F.Field.field g.O.TermOrder.order c.args.space.now in
    let exps = g.M.Monomial.exps in
    (entry_at S exps _ _ _ c.loop-i-test.true c.index-xs-i.is (subst (λ l. Fits S (entries exps l)) (sym c.terms-xs.ensures.is) c.requires.vector)).has

pub returns : goal.returns
returns g c =
    let S = over g.F.Field.field g.O.TermOrder.order c.args.space.now in
    let exps = g.M.Monomial.exps in
    let made : entries exps c.of-2.result ≡ scaled_entries S c.args.c (entries exps c.args.a.now) =
    mapped_all exps (scaled_entry S c.args.c) c.terms-xs.result.now _ _ _ c.loop-i.i (omega arith) c.loop-i.invariant c.terms-xs.ensures.is c.of-2.ensures.is in
    record {
      multiple = vector_given S exps _ _
          (subst (Fits S) (sym made) (fits_scaled S c.args.c c.requires.value (c.is_zero.ensures.no c.if-is_zero.false) (entries exps c.args.a.now) c.requires.vector))
          (ap (vec S.field) made ∙ vec_scaled S c.args.c c.requires.value (entries exps c.args.a.now) c.requires.vector);
    }
