use Rattle.std.proofs.Common.{[]}
use Rattle.poly_module.specs.SpaceVectors.{vectors_of}
use Rattle.finite_certificate.specs.MarkSpaces.{mark_space}
use Rattle.primary_module.specs.PrimaryModules.{IsStandardImage}
use Rattle.primary_module.proofs.StandardPlaces.{AreFirst}
use Rattle.primary_module.proofs.module.PrimaryModule.standard_images.Given as goal

abbrev pub invariant-loop-i : goal.invariant-loop-i
invariant-loop-i g l = let S = mark_space g.F.Field.field l.space in
    AreFirst (IsStandardImage S l.space.order.vars (vectors_of S (λ m. m) l.self.theta) l.m) l.self.monomials [] [] l.images.items l.i
