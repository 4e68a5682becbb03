use Rattle.std.proofs.Common.{rules, ◌≡◌, ◌/◌, length, sym, subst, ◌∙◌, arith}
use Rattle.std.specs.Prelude.{All}
use Rattle.alg_core.specs.ExponentLists.{product, Within}
use Rattle.alg_core.specs.Spaces.{over, entries, IsTerm}
use Rattle.poly_module.proofs.EntryLists.{given_at}
use Rattle.poly_module.proofs.Factors.{all_front, all_back, no_factor, one_factor, factor_halves}
use Rattle.poly_module.specs.SpaceVectors.{IsVector}
use Rattle.poly_module.proofs.SpaceVectorLaws.{vector_given}
use Rattle.poly_module.proofs.product.+product_of_terms.Goals as goal

pub returns-then-factors-eq0 : goal.returns-then-factors-eq0
returns-then-factors-eq0 g t c =
    let S = over g.F.Field.field g.O.TermOrder.order c.args.space.now in
    let exps = g.M.Monomial.exps in
    let none = c.of.ensures.is ∙ c.new.ensures.items in
    record { product = vector_given S exps _ _ (subst (IsVector S exps) (sym none) tt) (no_factor S exps c.args.a.now _ c.args.factors.now none (omega arith)) }

pub mul_term-requires-clause-value : goal.mul_term-requires-clause-value
mul_term-requires-clause-value g t c =
    let S = over g.F.Field.field g.O.TermOrder.order c.args.space.now in
    (given_at S g.M.Monomial.exps (IsTerm S) c.args.factors.now 0 c.index-factors-0.result (omega arith) c.index-factors-0.is c.requires.terms).has

pub mul_term-requires-clause-wide : goal.mul_term-requires-clause-wide
mul_term-requires-clause-wide g t c =
    let S = over g.F.Field.field g.O.TermOrder.order c.args.space.now in
    (given_at S g.M.Monomial.exps (IsTerm S) c.args.factors.now 0 c.index-factors-0.result (omega arith) c.index-factors-0.is c.requires.terms).place.wide

pub mul_term-requires-clause-room : goal.mul_term-requires-clause-room
mul_term-requires-clause-room g t c =
    let S = over g.F.Field.field g.O.TermOrder.order c.args.space.now in
    let exps = g.M.Monomial.exps in
    given_at S exps (λ e. All (λ u. Within g.M.Monomial.MAX_EXP (product e.0.1 u.0.1)) (entries exps c.args.a.now)) c.args.factors.now 0 c.index-factors-0.result (omega arith) c.index-factors-0.is c.requires.room

pub returns-then-factors-eq1 : goal.returns-then-factors-eq1
returns-then-factors-eq1 g t c =
    let S = over g.F.Field.field g.O.TermOrder.order c.args.space.now in
    let exps = g.M.Monomial.exps in
    record {
      product = vector_given S exps _ _ c.in_ok-product.ensures.multiple.fits (one_factor S exps c.args.a.now _ c.args.factors.now c.index-factors-0.result (omega arith) c.index-factors-0.is
          (given_at S exps (λ e. e.0.0 ≡ 0) c.args.factors.now 0 c.index-factors-0.result (omega arith) c.index-factors-0.is c.requires.polynomial)
          c.in_ok-product.ensures.multiple.is);
    }

pub product_of_terms-requires : goal.product_of_terms-requires
product_of_terms-requires g t c κs within =
    let S = over g.F.Field.field g.O.TermOrder.order c.args.space.now in
    let exps = g.M.Monomial.exps in
    let half = length c.args.factors.now / 2 in
    let factors = c.args.factors.now in
    let cut = c.split_at.ensures.front in
    (omega arith, (search rules, (search rules, (search rules, (search rules, (all_front exps (λ e. e.0.0 ≡ 0) half factors _ cut c.requires.polynomial, (all_front exps (IsTerm S) half factors _ cut c.requires.terms, (c.requires.vector, all_front exps (λ e. All (λ u. Within g.M.Monomial.MAX_EXP (product e.0.1 u.0.1)) (entries exps c.args.a.now)) half factors _ cut c.requires.room))))))))

pub product_of_terms-requires-2 : goal.product_of_terms-requires-2
product_of_terms-requires-2 g t c κs within =
    let S = over g.F.Field.field g.O.TermOrder.order c.args.space.now in
    let exps = g.M.Monomial.exps in
    let half = length c.args.factors.now / 2 in
    let factors = c.args.factors.now in
    let cut = c.split_at.ensures.back in
    (omega arith, (search rules, (search rules, (search rules, (search rules, (all_back exps (λ e. e.0.0 ≡ 0) half factors _ cut c.requires.polynomial, (all_back exps (IsTerm S) half factors _ cut c.requires.terms, (c.requires.vector, all_back exps (λ e. All (λ u. Within g.M.Monomial.MAX_EXP (product e.0.1 u.0.1)) (entries exps c.args.a.now)) half factors _ cut c.requires.room))))))))

pub returns : goal.returns
returns g t c =
    let S = over g.F.Field.field g.O.TermOrder.order c.args.space.now in
    record {
      product = vector_given S g.M.Monomial.exps _ _ c.in_ok-sum.ensures.sum.fits
          (factor_halves S g.M.Monomial.exps (length c.args.factors.now / 2) c.args.a.now c.args.factors.now _ _ _ _ _ c.split_at.ensures.front c.split_at.ensures.back c.in_ok-left.ensures.product.is c.in_ok-right.ensures.product.is c.in_ok-sum.ensures.sum.is);
    }
