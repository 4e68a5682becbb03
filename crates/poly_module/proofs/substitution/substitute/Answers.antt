use Rattle.std.proofs.Common.{◌≤◌, ◌*◌, ℕ, List, length, sym, ap, subst, ◌∙◌}
use Rattle.std.specs.Prelude.{All, map}
use Rattle.alg_core.specs.Spaces.{over, entries}
use Rattle.poly_module.specs.GreatestExponents.{total, highest}
use Rattle.poly_module.specs.PowerTables.{IsTable, Covers}
use Rattle.poly_module.specs.Substitutions.{substitute}
use Rattle.poly_module.specs.SpaceVectors.{vector_of, vectors_of, HasVariables}
use Rattle.poly_module.proofs.ValueSteps.{positions, value_zeros}
use Rattle.poly_module.proofs.SpaceVectorLaws.{vector_is}
use Rattle.poly_module.proofs.substitution.substitute.Goals as goal

pub power_table-requires : goal.power_table-requires
power_table-requires g c =
    let S = over g.F.Field.field g.O.TermOrder.order c.args.space.now in
    record { one = vector_is S (λ (m : List ℕ). m) _ _ c.in_ok-one.ensures.one; variables = c.requires.variables.wide; images = c.requires.images; room = c.requires.room }

pub value_of_terms-requires : goal.value_of_terms-requires
value_of_terms-requires g c =
    let S = over g.F.Field.field g.O.TermOrder.order c.args.space.now in
    let exps = λ (m : List ℕ). m in
    let images = c.args.images.now in
    record {
      one = vector_is S exps _ _ c.in_ok-one.ensures.one;
      images = c.requires.images;
      table = subst (IsTable S exps images) (sym c.as_slice.ensures.value) c.in_ok-table.ensures.table;
      variables = subst (HasVariables S.field exps (length images)) (sym c.terms.ensures.is) c.requires.variables;
      covers = subst (λ l. All (λ e. Covers c.as_slice.result.now e.0.1) (entries exps l)) (sym c.terms.ensures.is) (subst (λ t. All (λ e. Covers t e.0.1) (entries exps c.args.f.now)) (sym c.as_slice.ensures.value) c.in_ok-table.ensures.covers);
      room = subst (λ l. All (λ e. total e.0.1 * highest (map (entries exps) images) ≤ 4294967295) (entries exps l)) (sym c.terms.ensures.is) c.requires.room;
    }

pub returns : goal.returns
returns g c =
    let S = over g.F.Field.field g.O.TermOrder.order c.args.space.now in
    let exps = λ (m : List ℕ). m in
    let images = c.args.images.now in
    let value = c.in_ok-value.ensures.value in
    let is = value.is ∙ ap (λ l. substitute S.field (vectors_of S exps images) (vector_of S exps l)) c.terms.ensures.is in
    record { value = record { fits = value.fits; position = value_zeros S exps images _ c.in_ok-value.value (positions S exps images c.requires.images) value.fits is; is = is } }
