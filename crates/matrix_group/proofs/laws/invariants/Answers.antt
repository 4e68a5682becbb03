use Rattle.matrix_group.proofs.InvariantLaws.{invariant_zero, invariant_one, invariant_plus, invariant_scale, invariant_product}
use Rattle.matrix_group.proofs.Common.{cells_of}
use Rattle.matrix_group.proofs.GroupActions.{fixed_by_cells, fixed_by_product}
use Rattle.matrix_group.proofs.laws.invariants.Goals as goal

pub returns : goal.returns
returns g c =
    let k = g.F.Field.field c.args._field.now in
    record {
      zero = invariant_zero k;
      one = invariant_one k;
      sum = invariant_plus k;
      multiple = invariant_scale k;
      product = invariant_product k;
      group = λ n gens square u polynomial fixed. fixed_by_product k n (cells_of gens) u polynomial (fixed_by_cells k n gens square u fixed);
    }
