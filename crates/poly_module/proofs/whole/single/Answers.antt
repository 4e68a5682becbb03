use Rattle.std.proofs.Common.{◌≡◌, [], ◌∷◌, ◌++◌, sym, ap, subst, ◌∙◌}
use Rattle.alg_core.specs.Spaces.{over, entries, Fits}
use Rattle.alg_core.specs.Vectors.{vec}
use Rattle.poly_module.proofs.EntryLists.{placed_one}
use Rattle.poly_module.proofs.Halves.{one_fits, zero_gone}
use Rattle.poly_module.proofs.SpaceVectorLaws.{vector_given}
use Rattle.poly_module.proofs.whole.single.Goals as goal

pub returns-then-is_zero : goal.returns-then-is_zero
returns-then-is_zero g c =
    let S = over g.F.Field.field g.O.TermOrder.order c.args.space.now in
    let exps = g.M.Monomial.exps in
    let none : entries exps c.of.result ≡ [] = ap (entries exps) (c.of.ensures.is ∙ c.new-made.ensures.items) in
    record { sum = vector_given S exps _ _ (subst (Fits S) (sym none) tt) (ap (vec S.field) none ∙ sym (zero_gone S exps c.args.term.now (c.is_zero.ensures.yes c.if-is_zero.true))) }

pub returns : goal.returns
returns g c =
    let S = over g.F.Field.field g.O.TermOrder.order c.args.space.now in
    let exps = g.M.Monomial.exps in
    let made : entries exps c.of-2.result ≡ entries exps (c.args.term.now ∷ []) = ap (entries exps) (c.of-2.ensures.is ∙ c.in_ok-push.ensures.items ∙ ap (λ l. l ++ (c.in_ok-term_at.field-0 ∷ [])) c.new-made.ensures.items) ∙ ap (λ e. e ∷ []) c.in_ok-term_at.ensures.is in
    record { sum = vector_given S exps _ _ (subst (Fits S) (sym made) (one_fits S exps c.args.term.now (placed_one S exps c.args.term.now c.requires.given) (c.is_zero.ensures.no c.if-is_zero.false))) (ap (vec S.field) made) }
