use Rattle.matrix_group.proofs.Common.{◌≡◌, All, Has, over, entries, IsPlace, vec, linear_form}
use Rattle.lin_algebra.specs.Matrices.{entries as cells_of}
use Rattle.matrix_group.proofs.action.row_form.Given as goal

abbrev pub invariant-loop-j : goal.invariant-loop-j
invariant-loop-j g l =
    let S = over g.F.Field.field g.O.TermOrder.order l.space in
    record {
      given : All (λ e. Has S.field e.1 × IsPlace S e.0) (entries (λ m. m) l.terms.items);
      form : vec S.field (entries (λ m. m) l.terms.items) ≡ linear_form S.field l.j (cells_of S.field l.m l.i);
    }
