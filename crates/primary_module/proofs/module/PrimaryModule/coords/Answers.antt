use Rattle.std.proofs.Common.{sym, subst}
use Rattle.poly_module.specs.Marks.{relations}
use Rattle.poly_module.specs.Modules.{listed}
use Rattle.poly_module.specs.SpaceVectors.{vector_of, vectors_of}
use Rattle.module_groebner.specs.HomogeneousLists.{AreHomogeneous, AreNonzero}
use Rattle.module_groebner.specs.Remainders.{IsRemainder}
use Rattle.finite_certificate.specs.Ideals.{InIdeal}
use Rattle.finite_certificate.specs.MarkSpaces.{mark_space, degree_limit}
use Rattle.groebner_hom.proofs.PolynomialLists.{are_homogeneous, members_nonzero}
use Rattle.primary_module.proofs.LiftLaws.{remainder_poly, remainder_coordinates}
use Rattle.primary_module.proofs.module.PrimaryModule.coords.Goals as goal

pub divide-requires-clause-homogeneous : goal.divide-requires-clause-homogeneous
divide-requires-clause-homogeneous g c =
    let S = mark_space g.F.Field.field c.args.space.now in
    subst (λ l. AreHomogeneous S (vectors_of S (λ m. m) l)) (sym c.lifts.ensures.is) (are_homogeneous S degree_limit c.args.self.now.lifts c.requires.stands.is.lifts.polynomials)

pub divide-requires-clause-nonzero : goal.divide-requires-clause-nonzero
divide-requires-clause-nonzero g c =
    let S = mark_space g.F.Field.field c.args.space.now in
    subst (λ l. AreNonzero S.field (vectors_of S (λ m. m) l)) (sym c.lifts.ensures.is) (members_nonzero S (InIdeal S.field (relations S.field c.args.space.now.order.vars (vectors_of S (λ m. m) c.args.self.now.theta))) (vectors_of S (λ m. m) c.args.self.now.lifts) c.requires.stands.is.lifts.lifts)

pub returns-clause-fits : goal.returns-clause-fits
returns-clause-fits g c =
    let S = mark_space g.F.Field.field c.args.space.now in
    let f = c.args.f.now in
    let r = c.in_ok-remainder.remainder in
    let remainder = subst (λ l. IsRemainder S (listed S.field (vectors_of S (λ m. m) l)) (vector_of S (λ m. m) f) (vector_of S (λ m. m) r)) c.lifts.ensures.is c.in_ok-remainder.ensures.remainder in
    record {
      poly = remainder_poly S _ _ c.args.self.now.theta c.args.self.now.lifts c.requires.stands.is f r c.requires.f.poly c.in_ok-remainder.ensures.fits remainder;
      low = c.in_ok-remainder.ensures.degrees.bound degree_limit c.requires.f.low;
    }

pub returns-clause-coordinates : goal.returns-clause-coordinates
returns-clause-coordinates g c =
    let S = mark_space g.F.Field.field c.args.space.now in
    let f = c.args.f.now in
    let r = c.in_ok-remainder.remainder in
    let remainder = subst (λ l. IsRemainder S (listed S.field (vectors_of S (λ m. m) l)) (vector_of S (λ m. m) f) (vector_of S (λ m. m) r)) c.lifts.ensures.is c.in_ok-remainder.ensures.remainder in
    remainder_coordinates S _ _ c.args.self.now.theta c.args.self.now.lifts c.requires.stands.is f r c.requires.f.poly c.in_ok-remainder.ensures.fits remainder
