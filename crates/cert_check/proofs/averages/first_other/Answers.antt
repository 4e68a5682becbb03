use Rattle.std.proofs.Common.{length, sym, subst}
use Rattle.cert_check.proofs.CheckSpaces.{plain_of}
use Rattle.cert_check.specs.EvidenceLines.{IsAveraged, IsLowLine}
use Rattle.cert_check.proofs.FirstFailing.{none_before, one_more, all_hold, first_fails}
use Rattle.cert_check.proofs.averages.first_other.Goals as goal

pub is_average-requires-clause-line : goal.is_average-requires-clause-line
is_average-requires-clause-line c =
    subst (IsLowLine (plain_of c.args.space.now) (length c.args.theta.now)) (sym c.index-lines-i.is) (c.requires.lines c.loop-i.i c.index-lines-i.result c.loop-i-test.true)

pub loop-i-init : goal.loop-i-init
loop-i-init c = none_before (IsAveraged (plain_of c.args.space.now) c.args.averaging.now c.args.theta.now c.args.secs.now) c.args.lines.now

pub loop-i-preserved : goal.loop-i-preserved
loop-i-preserved c =
    one_more (IsAveraged (plain_of c.args.space.now) c.args.averaging.now c.args.theta.now c.args.secs.now) c.args.lines.now c.loop-i.i c.index-lines-i.result c.index-lines-i.is
    (c.in_ok-is_average.ensures.exact.0 c.if-not-branch.false) c.loop-i.invariant

pub returns-then-not-branch : goal.returns-then-not-branch
returns-then-not-branch c = record {
  first = first_fails (IsAveraged (plain_of c.args.space.now) c.args.averaging.now c.args.theta.now c.args.secs.now) c.args.lines.now c.loop-i.i c.index-lines-i.result c.loop-i-test.true
      c.index-lines-i.is (λ h. let yes = c.in_ok-is_average.ensures.exact.1 h in let no = c.if-not-branch.true in absurd {A = ⊥} cc) c.loop-i.invariant;
}

pub returns : goal.returns
returns c = record {
  first = all_hold (IsAveraged (plain_of c.args.space.now) c.args.averaging.now c.args.theta.now c.args.secs.now) c.args.lines.now c.loop-i.i c.loop-i-test.false c.loop-i.invariant;
}
