use Rattle.matrix_group.specs.Groups.{IsNonsingular}
use Rattle.cert_check.proofs.FirstFailing.{Before}
use Rattle.cert_check.proofs.group.first_singular.Given as goal

abbrev pub invariant-loop-i : goal.invariant-loop-i
invariant-loop-i g l = Before (IsNonsingular (g.F.Field.field l.field)) l.gens l.i
