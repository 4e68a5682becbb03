use Rattle.std.proofs.Common.{length, sym, subst}
use Rattle.cert_check.specs.EvidenceLines.{AreLowTerms}
use Rattle.cert_check.specs.FormTests.{IsLiftAt}
use Rattle.cert_check.specs.SmallPolynomials.{IsSmallPoly}
use Rattle.cert_check.proofs.CheckSpaces.{plain_of, marks_of}
use Rattle.cert_check.proofs.WordItems.{none_yet, one_more, all_items, failing_item}
use Rattle.cert_check.proofs.lifts.first_other.Goals as goal

pub is_lift-requires-clause-f : goal.is_lift-requires-clause-f
is_lift-requires-clause-f c =
    subst (IsSmallPoly (marks_of c.args.marked.now)) (sym c.index-fs-i.is) (c.requires.fs c.loop-i.i c.index-fs-i.result c.loop-i-test.true)

pub is_lift-requires-clause-terms : goal.is_lift-requires-clause-terms
is_lift-requires-clause-terms c =
    let S = plain_of c.args.space.now in
    subst (AreLowTerms S.field (length c.args.images.now)) (sym c.index-fs-i.is) (c.requires.terms c.loop-i.i c.index-fs-i.result c.loop-i-test.true)

pub loop-i-init : goal.loop-i-init
loop-i-init c = none_yet (IsLiftAt (plain_of c.args.space.now) (marks_of c.args.marked.now) c.args.images.now) c.args.fs.now

pub loop-i-preserved : goal.loop-i-preserved
loop-i-preserved c =
    one_more (IsLiftAt (plain_of c.args.space.now) (marks_of c.args.marked.now) c.args.images.now) c.args.fs.now c.loop-i.i c.index-fs-i.result c.loop-i-test.true c.index-fs-i.is
    (c.in_ok-is_lift.ensures.exact.0 c.if-not-branch.false) c.loop-i.invariant

pub returns : goal.returns
returns c = record {
  first = all_items (IsLiftAt (plain_of c.args.space.now) (marks_of c.args.marked.now) c.args.images.now) c.args.fs.now c.loop-i.i c.loop-i-test.false c.loop-i.invariant;
}

pub returns-then-not-branch : goal.returns-then-not-branch
returns-then-not-branch c = record {
  first = failing_item (IsLiftAt (plain_of c.args.space.now) (marks_of c.args.marked.now) c.args.images.now) c.args.fs.now c.loop-i.i c.index-fs-i.result c.loop-i-test.true c.index-fs-i.is
      (λ h. let yes = c.in_ok-is_lift.ensures.exact.1 h in let no = c.if-not-branch.true in absurd {A = ⊥} cc) c.loop-i.invariant;
}
