use Rattle.std.proofs.Common.{length, sym, subst}
use Rattle.poly_module.specs.Combinations.{combination_value}
use Rattle.poly_module.specs.SpaceVectors.{IsPolyOf, vector_of, vectors_of}
use Rattle.cert_check.proofs.CheckSpaces.{plain_of}
use Rattle.cert_check.specs.EvidenceLines.{AreLowTerms}
use Rattle.cert_check.specs.SmallPolynomials.{IsSmallPoly}
use Rattle.cert_check.proofs.CombinationSteps.{value_start, value_more, value_whole}
use Rattle.cert_check.proofs.combinations.combination_value.Goals as goal

pub loop-j-init : goal.loop-j-init
loop-j-init c =
    let S = plain_of c.args.space.now in
    value_start S (vectors_of S (λ m. m) c.args.theta.now) c.args.secs.now c.terms-terms.result.now c.zero-value.result c.zero-value.ensures.is

pub value_of_part-requires-clause-terms : goal.value_of_part-requires-clause-terms
value_of_part-requires-clause-terms c =
    subst (AreLowTerms (plain_of c.args.space.now).field (length c.args.theta.now)) (sym c.terms-terms.ensures.is) c.requires.comb

pub value_of_part-requires-clause-sec : goal.value_of_part-requires-clause-sec
value_of_part-requires-clause-sec c =
    subst (IsSmallPoly (plain_of c.args.space.now)) (sym c.index-secs-j.is) (c.requires.given.members c.loop-j.j c.index-secs-j.result c.loop-j-test.true)

pub loop-j-preserved : goal.loop-j-preserved
loop-j-preserved c =
    let S = plain_of c.args.space.now in
    value_more S (vectors_of S (λ m. m) c.args.theta.now) c.args.secs.now c.terms-terms.result.now c.loop-j.j c.index-secs-j.result c.loop-j.value c.in_ok-part.part c.in_ok-value.value
    c.loop-j-test.true c.index-secs-j.is c.loop-j.invariant c.in_ok-part.ensures.value c.in_ok-value.ensures.sum

pub returns : goal.returns
returns c =
    let S = plain_of c.args.space.now in
    let xs = vectors_of S (λ m. m) in
    record {
      value = subst (λ ts. IsPolyOf S (λ m. m) (combination_value S.field (xs c.args.theta.now) (xs c.args.secs.now) (vector_of S (λ m. m) ts)) c.loop-j.value) c.terms-terms.ensures.is
          (value_whole S (xs c.args.theta.now) c.args.secs.now c.terms-terms.result.now c.loop-j.j c.loop-j.value c.loop-j-test.false c.loop-j.invariant);
    }
