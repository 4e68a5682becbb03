use Rattle.std.proofs.Common.{◌∙◌, ap, ap₂, arith}
use Rattle.std.proofs.lemmas.List.{with_items_is}
use Rattle.alg_core.specs.ModuleLaws as modules
use Rattle.alg_core.specs.Fields.{scalars, scalar, scalar_one}
use Rattle.lin_algebra.specs.Vectors.{vectors, vector, unit}
use Rattle.lin_algebra.proofs.inverses.unit_row.Goals as goal

pub returns-clause-unit : goal.returns-clause-unit
returns-clause-unit g c =
    let k = g.F.Field.field c.args.field.now in
    let X = vectors (scalars k) in
    let u = unit (scalars k) c.args.i in
    let whole = c.in_ok-row.row.ok.0 in
    ap (vector k) (with_items_is c.in_ok-row.row c.add_at.new.row (omega (arith, whole))) ∙ c.add_at.ensures.sum
    ∙ ap₂ X.◌+◌ (ap (vector k) c.deref_mut.ensures.value ∙ c.in_ok-row.ensures.zero) (ap (λ s. X.◌·◌ s u) (ap (scalar k) c.one.ensures.is ∙ scalar_one k) ∙ X.one_act u) ∙ modules.zero_add X u
