use Rattle.reynolds_op.proofs.Common.{take, over, size, cells_of, vector_of, IsVectorOf, sum_over}
use Rattle.reynolds_op.proofs.reynolds.sum_of_images.Given as goal

abbrev pub invariant-loop-i : goal.invariant-loop-i
invariant-loop-i g l =
    let S = over g.F.Field.field g.O.TermOrder.order l.space in
    IsVectorOf S (λ m. m) (sum_over S.field (size l.elements) (cells_of (take l.i l.elements)) (vector_of S (λ m. m) l.f)) l.sum
