use Rattle.std.proofs.Common.{rules, ◌≡◌, ◌≤◌, ◌/◌, ◌*◌, length, sym, subst, ◌∙◌, arith}
use Rattle.std.specs.Prelude.{map}
use Rattle.alg_core.specs.Fields.{Has}
use Rattle.alg_core.specs.Spaces.{over, entries}
use Rattle.poly_module.specs.GreatestExponents.{total, highest}
use Rattle.poly_module.specs.PowerTables.{Covers}
use Rattle.poly_module.proofs.EntryLists.{given_at}
use Rattle.poly_module.proofs.Factors.{all_front, all_back}
use Rattle.poly_module.proofs.SumSteps.{no_value, one_value, value_halves}
use Rattle.poly_module.specs.SpaceVectors.{vectors_of, IsVector}
use Rattle.poly_module.proofs.SpaceVectorLaws.{vector_given}
use Rattle.poly_module.proofs.substitution.+value_of_terms.Goals as goal

pub returns-then-terms-eq0 : goal.returns-then-terms-eq0
returns-then-terms-eq0 g t c =
    let S = over g.F.Field.field g.O.TermOrder.order c.args.space.now in
    let exps = g.M.Monomial.exps in
    let none = c.of.ensures.is ∙ c.new.ensures.items in
    record { value = vector_given S exps _ _ (subst (IsVector S exps) (sym none) tt) (no_value S exps (vectors_of S exps c.args.images.now) c.args.terms.now _ none (omega arith)) }

pub value_of_monomial-requires-clause-covers : goal.value_of_monomial-requires-clause-covers
value_of_monomial-requires-clause-covers g t c =
    let S = over g.F.Field.field g.O.TermOrder.order c.args.space.now in
    given_at S g.M.Monomial.exps (λ e. Covers c.args.table.now e.0.1) c.args.terms.now 0 c.index-terms-0.result (omega arith) c.index-terms-0.is c.requires.covers

pub value_of_monomial-requires-clause-variables : goal.value_of_monomial-requires-clause-variables
value_of_monomial-requires-clause-variables g t c =
    let S = over g.F.Field.field g.O.TermOrder.order c.args.space.now in
    given_at S g.M.Monomial.exps (λ e. length e.0.1 ≡ length c.args.images.now) c.args.terms.now 0 c.index-terms-0.result (omega arith) c.index-terms-0.is c.requires.variables.wide

pub value_of_monomial-requires-clause-small : goal.value_of_monomial-requires-clause-small
value_of_monomial-requires-clause-small g t c =
    let S = over g.F.Field.field g.O.TermOrder.order c.args.space.now in
    let exps = g.M.Monomial.exps in
    given_at S exps (λ e. total e.0.1 * highest (map (entries exps) c.args.images.now) ≤ g.M.Monomial.MAX_EXP) c.args.terms.now 0 c.index-terms-0.result (omega arith) c.index-terms-0.is c.requires.room

pub scale-requires-clause-value : goal.scale-requires-clause-value
scale-requires-clause-value g t c =
    let S = over g.F.Field.field g.O.TermOrder.order c.args.space.now in
    given_at S g.M.Monomial.exps (λ e. Has S.field e.1) c.args.terms.now 0 c.index-terms-0.result (omega arith) c.index-terms-0.is c.requires.variables.values

pub returns-then-terms-eq1 : goal.returns-then-terms-eq1
returns-then-terms-eq1 g t c =
    let S = over g.F.Field.field g.O.TermOrder.order c.args.space.now in
    let exps = g.M.Monomial.exps in
    record {
      value = vector_given S exps _ _ c.in_ok-value.ensures.multiple.fits
          (one_value S exps (vectors_of S exps c.args.images.now) c.args.terms.now _ _ c.index-terms-0.result (omega arith) c.index-terms-0.is c.in_ok-monomial.ensures.value.is c.in_ok-value.ensures.multiple.is);
    }

pub value_of_terms-requires : goal.value_of_terms-requires
value_of_terms-requires g t c κs within =
    let exps = g.M.Monomial.exps in
    let half = length c.args.terms.now / 2 in
    let terms = c.args.terms.now in
    let cut = c.split_at.ensures.front in (
      omega arith,
      (
        search rules,
        (
          search rules,
          (
            search rules,
            (
              search rules,
              (
                c.requires.one,
                (
                  c.requires.images,
                  (
                    c.requires.table,
                    (
                      record {
                        values = all_front exps (λ e. Has (g.F.Field.field c.args.space.now.field) e.1) half terms _ cut c.requires.variables.values;
                        wide = all_front exps (λ e. length e.0.1 ≡ length c.args.images.now) half terms _ cut c.requires.variables.wide;
                      },
                      (
                        all_front exps (λ e. Covers c.args.table.now e.0.1) half terms _ cut c.requires.covers,
                        all_front exps (λ e. total e.0.1 * highest (map (entries exps) c.args.images.now) ≤ g.M.Monomial.MAX_EXP) half terms _ cut c.requires.room,
                      ),
                    ),
                  ),
                ),
              ),
            ),
          ),
        ),
      ),
    )

pub value_of_terms-requires-2 : goal.value_of_terms-requires-2
value_of_terms-requires-2 g t c κs within =
    let exps = g.M.Monomial.exps in
    let half = length c.args.terms.now / 2 in
    let terms = c.args.terms.now in
    let cut = c.split_at.ensures.back in (
      omega arith,
      (
        search rules,
        (
          search rules,
          (
            search rules,
            (
              search rules,
              (
                c.requires.one,
                (
                  c.requires.images,
                  (
                    c.requires.table,
                    (
                      record {
                        values = all_back exps (λ e. Has (g.F.Field.field c.args.space.now.field) e.1) half terms _ cut c.requires.variables.values;
                        wide = all_back exps (λ e. length e.0.1 ≡ length c.args.images.now) half terms _ cut c.requires.variables.wide;
                      },
                      (
                        all_back exps (λ e. Covers c.args.table.now e.0.1) half terms _ cut c.requires.covers,
                        all_back exps (λ e. total e.0.1 * highest (map (entries exps) c.args.images.now) ≤ g.M.Monomial.MAX_EXP) half terms _ cut c.requires.room,
                      ),
                    ),
                  ),
                ),
              ),
            ),
          ),
        ),
      ),
    )

pub returns : goal.returns
returns g t c =
    let S = over g.F.Field.field g.O.TermOrder.order c.args.space.now in
    let exps = g.M.Monomial.exps in
    record {
      value = vector_given S exps _ _ c.in_ok-sum.ensures.sum.fits
          (value_halves S exps (vectors_of S exps c.args.images.now) (length c.args.terms.now / 2) c.args.terms.now _ _ _ _ _ c.split_at.ensures.front c.split_at.ensures.back c.in_ok-left.ensures.value.is c.in_ok-right.ensures.value.is c.in_ok-sum.ensures.sum.is);
    }
