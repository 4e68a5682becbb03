use Rattle.std.proofs.Common.{subst, sym, ◌+◌, ◌≤◌, ℕ}
use Rattle.alg_core.specs.Spaces.{over}
use Rattle.poly_text.proofs.EntrySteps.{field_of}
use Rattle.certificate_io.specs.LineReadings.{power_kind, power_parts, power_said, IsPowerIn}
use Rattle.certificate_io.specs.Parts.{IsPowerTree}
use Rattle.certificate_io.specs.Readings.{AreReadBy, run_fault, power_text}
use Rattle.certificate_io.proofs.ReadingRuns.{ReadsLines, error_answers, part_at, lines_begin, lines_more, lines_fault, lines_end, lines_length}
use Rattle.certificate_io.proofs.polynomials.powers_of.Goals as goal

pub loop-i-init : goal.loop-i-init
loop-i-init g c = λ xs each same.
    let S = over field_of g.O.TermOrder.order c.args.space.now in
    subst (ReadsLines (IsPowerIn S c.args.names.now) (power_parts S c.args.names.now) power_said (power_kind S c.args.names.now) c.args.first xs 0) (sym c.new-powers.ensures.items)
    (lines_begin (IsPowerIn S c.args.names.now) (power_parts S c.args.names.now) power_said (power_kind S c.args.names.now) c.args.first xs)

pub returns-in_err-power : goal.returns-in_err-power
returns-in_err-power g c = record {
  is = λ xs each same.
      let S = over field_of g.O.TermOrder.order c.args.space.now in
      let at = part_at power_text IsPowerTree c.args.lines.now xs c.loop-i.i c.tail_at-text.result.now c.loop-i-test.true c.tail_at-text.ensures.is same each in
      let told = c.in_err-power.ensures.is at.part at.of at.spelled in
      error_answers c.from_residual.result c.in_err-power.field-0.0 (run_fault (power_kind S c.args.names.now) c.args.first 0 xs) (λ v. AreReadBy (IsPowerIn S c.args.names.now) (power_parts S c.args.names.now) power_said xs v.items) c.from_residual.ensures.1
      (lines_fault (IsPowerIn S c.args.names.now) (power_parts S c.args.names.now) power_said (power_kind S c.args.names.now) c.args.first power_text IsPowerTree xs c.loop-i.i _ c.loop-i.powers.items at (c.loop-i.invariant xs each same) c.in_err-power.field-0.0 told);
}

pub loop-i-preserved : goal.loop-i-preserved
loop-i-preserved g c = λ xs each same.
    let S = over field_of g.O.TermOrder.order c.args.space.now in
    let at = part_at power_text IsPowerTree c.args.lines.now xs c.loop-i.i c.tail_at-text.result.now c.loop-i-test.true c.tail_at-text.ensures.is same each in
    let told = c.in_ok-power.ensures.is at.part at.of at.spelled in
    subst (ReadsLines (IsPowerIn S c.args.names.now) (power_parts S c.args.names.now) power_said (power_kind S c.args.names.now) c.args.first xs (c.loop-i.i + 1)) (sym c.in_ok-push.ensures.items)
    (lines_more (IsPowerIn S c.args.names.now) (power_parts S c.args.names.now) power_said (power_kind S c.args.names.now) c.args.first power_text IsPowerTree xs c.loop-i.i _ c.loop-i.powers.items at (c.loop-i.invariant xs each same) c.in_ok-power.power told.0 told.1.0 told.1.1)

pub returns : goal.returns
returns g c = record {
  is = λ xs each same.
      let S = over field_of g.O.TermOrder.order c.args.space.now in
      lines_end (IsPowerIn S c.args.names.now) (power_parts S c.args.names.now) power_said (power_kind S c.args.names.now) c.args.first xs c.loop-i.i c.loop-i.powers.items
      (subst (λ (n : ℕ). n ≤ c.loop-i.i) (sym (lines_length power_text c.args.lines.now xs same)) c.loop-i-test.false) (c.loop-i.invariant xs each same);
}
