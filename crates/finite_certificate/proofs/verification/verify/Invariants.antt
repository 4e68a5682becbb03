use Rattle.std.proofs.Common.{◌<◌, ℕ}
use Rattle.poly_module.specs.SpaceVectors.{vectors_of}
use Rattle.finite_certificate.specs.MarkSpaces.{mark_space}
use Rattle.finite_certificate.specs.Finiteness.{IsPowerAt, powers_of}
use Rattle.finite_certificate.proofs.verification.verify.Given as goal

abbrev pub invariant-loop-i : goal.invariant-loop-i
invariant-loop-i g l = let S = mark_space g.F.Field.field l.space in
    (j : ℕ) → j < l.i → IsPowerAt S.field l.space.order.vars (vectors_of S (λ m. m) l.theta) (powers_of S l.powers) j
