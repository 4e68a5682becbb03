use Rattle.std.proofs.Common.{subst, sym, ◌+◌, ◌≤◌, ℕ}
use Rattle.alg_core.specs.Spaces.{over}
use Rattle.poly_text.proofs.EntrySteps.{field_of}
use Rattle.certificate_io.specs.LineReadings.{member_kind, member_tree, IsMemberIn}
use Rattle.certificate_io.specs.Parts.{IsMemberTree}
use Rattle.certificate_io.specs.Readings.{AreReadBy, run_fault, member_text}
use Rattle.certificate_io.proofs.ReadingRuns.{ReadsLines, error_answers, part_at, lines_begin, lines_more, lines_fault, lines_end, lines_length}
use Rattle.certificate_io.proofs.polynomials.members_of.Goals as goal

pub loop-i-init : goal.loop-i-init
loop-i-init g c = λ xs each same.
    let S = over field_of g.O.TermOrder.order c.args.marked.now in
    let T = over field_of g.P.TermOrder.order c.args.combined.now in
    subst (ReadsLines (IsMemberIn S T c.args.names.now) (member_tree S T c.args.names.now) (λ x. x) (λ _ x. member_kind S T c.args.names.now x) c.args.first xs 0) (sym c.new-members.ensures.items)
    (lines_begin (IsMemberIn S T c.args.names.now) (member_tree S T c.args.names.now) (λ x. x) (λ _ x. member_kind S T c.args.names.now x) c.args.first xs)

pub returns-in_err-member : goal.returns-in_err-member
returns-in_err-member g c = record {
  is = λ xs each same.
      let S = over field_of g.O.TermOrder.order c.args.marked.now in
      let T = over field_of g.P.TermOrder.order c.args.combined.now in
      let at = part_at member_text IsMemberTree c.args.lines.now xs c.loop-i.i c.tail_at-text.result.now c.loop-i-test.true c.tail_at-text.ensures.is same each in
      let told = c.in_err-member.ensures.is at.part at.of at.spelled in
      error_answers c.from_residual.result c.in_err-member.field-0.0 (run_fault (λ _ x. member_kind S T c.args.names.now x) c.args.first 0 xs) (λ v. AreReadBy (IsMemberIn S T c.args.names.now) (member_tree S T c.args.names.now) (λ x. x) xs v.items) c.from_residual.ensures.1
      (lines_fault (IsMemberIn S T c.args.names.now) (member_tree S T c.args.names.now) (λ x. x) (λ _ x. member_kind S T c.args.names.now x) c.args.first member_text IsMemberTree xs c.loop-i.i _ c.loop-i.members.items at (c.loop-i.invariant xs each same) c.in_err-member.field-0.0 told);
}

pub loop-i-preserved : goal.loop-i-preserved
loop-i-preserved g c = λ xs each same.
    let S = over field_of g.O.TermOrder.order c.args.marked.now in
    let T = over field_of g.P.TermOrder.order c.args.combined.now in
    let at = part_at member_text IsMemberTree c.args.lines.now xs c.loop-i.i c.tail_at-text.result.now c.loop-i-test.true c.tail_at-text.ensures.is same each in
    let told = c.in_ok-member.ensures.is at.part at.of at.spelled in
    subst (ReadsLines (IsMemberIn S T c.args.names.now) (member_tree S T c.args.names.now) (λ x. x) (λ _ x. member_kind S T c.args.names.now x) c.args.first xs (c.loop-i.i + 1)) (sym c.in_ok-push.ensures.items)
    (lines_more (IsMemberIn S T c.args.names.now) (member_tree S T c.args.names.now) (λ x. x) (λ _ x. member_kind S T c.args.names.now x) c.args.first member_text IsMemberTree xs c.loop-i.i _ c.loop-i.members.items at (c.loop-i.invariant xs each same) c.in_ok-member.member told.0 told.1.0 told.1.1)

pub returns : goal.returns
returns g c = record {
  is = λ xs each same.
      let S = over field_of g.O.TermOrder.order c.args.marked.now in
      let T = over field_of g.P.TermOrder.order c.args.combined.now in
      lines_end (IsMemberIn S T c.args.names.now) (member_tree S T c.args.names.now) (λ x. x) (λ _ x. member_kind S T c.args.names.now x) c.args.first xs c.loop-i.i c.loop-i.members.items
      (subst (λ (n : ℕ). n ≤ c.loop-i.i) (sym (lines_length member_text c.args.lines.now xs same)) c.loop-i-test.false) (c.loop-i.invariant xs each same);
}
