use Rattle.matrix_group.proofs.Common.{◌≡◌, ◌<◌, ℕ, entries, get_or, vec, act_by, Matrix}
use Rattle.matrix_group.proofs.invariance.is_invariant.Given as goal

abbrev pub invariant-loop-i : goal.invariant-loop-i
invariant-loop-i g l =
    let k = g.F.Field.field l.space.field in
    let u = vec k (entries (λ m. m) l.f) in
    (j : ℕ) (d : Matrix g.row.F-Elem.Denot) → j < l.i → act_by k (get_or l.gens j d) u ≡ u
