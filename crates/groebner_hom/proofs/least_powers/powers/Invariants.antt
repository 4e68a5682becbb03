use Rattle.std.specs.Prelude.{All}
use Rattle.poly_module.specs.SpaceVectors.{IsPoly, vectors_of}
use Rattle.finite_certificate.specs.Finiteness.{HasForm}
use Rattle.finite_certificate.specs.MarkSpaces.{mark_space}
use Rattle.groebner_hom.proofs.PowerSteps.{AreFound}
use Rattle.groebner_hom.proofs.least_powers.powers.Given as goal

abbrev pub invariant-loop-i : goal.invariant-loop-i
invariant-loop-i g l = let S = mark_space g.F.Field.field l.space in record {
  found : AreFound S l.space.order.vars (vectors_of S (λ m. m) l.theta) l.i l.powers.items;
  fit : All (λ p. IsPoly S (λ m. m) p.form × HasForm S p) l.powers.items;
}
