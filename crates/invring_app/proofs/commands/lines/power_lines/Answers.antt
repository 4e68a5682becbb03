use Rattle.std.proofs.Common.{refl}
use Rattle.std.specs.Prelude.{slice_index_or}
use Rattle.invring_app.proofs.TextLines.{powers_next}
use Rattle.invring_app.proofs.commands.lines.power_lines.Goals as goal

pub loop-i-preserved : goal.loop-i-preserved
loop-i-preserved c =
    powers_next c.args.variables.now c.args.exponents.now c.requires.each c.loop-i.i c.index-variables-i.result (slice_index_or c.args.exponents.now c.loop-i.i 0) c.loop-i.text.items c.in_ok-line.line.items c.deref.result.now
    c.extend_from_slice.new.self.items c.loop-i-test.true c.index-variables-i.is refl c.loop-i.invariant c.in_ok-line.ensures.text c.deref.ensures.value c.in_ok-extend_from_slice.ensures.items
