use Rattle.matrix_group.proofs.Common.{◌≡◌, ◌≤◌, ◌+◌, ◌-◌, All, length, IsSquare, size, cells_of, walk}
use Rattle.matrix_group.proofs.Turns.{IsTurn}
use Rattle.matrix_group.proofs.enumeration.enumerate.Given as goal

abbrev pub invariant-loop-i : goal.invariant-loop-i
invariant-loop-i g l = IsTurn (g.F.Field.field l.fn.field) (size l.gens) l.gens l.max l.place l.i l.found.keys

abbrev pub invariant-loop-place : goal.invariant-loop-place
invariant-loop-place g l =
    let k = g.F.Field.field l.fn.field in
    record {
      square : All (IsSquare k (size l.gens)) l.found.keys;
      is : cells_of l.found.keys ≡ walk k (size l.gens) (cells_of l.gens) l.place;
      within : length l.found.keys ≤ l.max;
      reached : l.place ≤ length l.found.keys;
    }

abbrev pub decreases-loop-place : goal.decreases-loop-place
decreases-loop-place g l = l.max + 1 - l.place
