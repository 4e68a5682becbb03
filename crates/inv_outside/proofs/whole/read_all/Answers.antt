use Rattle.std.proofs.Common.{◌≤◌, ◌+◌, length, take, arith}
use Rattle.std.proofs.Common.{length-take}
use Rattle.inv_outside.proofs.Told.{Gave-lost}
use Rattle.inv_outside.proofs.whole.read_all.Goals as goal

pub returns-in_err-extend_from_slice-clause-err : goal.returns-in_err-extend_from_slice-clause-err
returns-in_err-extend_from_slice-clause-err g c =
    let fits : length c.loop-piece.bytes.items + length (take c.in_ok-count.count c.read.new.buf) ≤ c.args.limit + 1 = omega (arith, c.in_ok-count.ensures.within, length-take c.in_ok-count.count c.read.new.buf, length-take c.min-room.result c.loop-piece.piece) in
    Gave-lost c.from_residual-in_err-extend_from_slice.result _ _ _ c.loop-piece.bytes.items (take c.in_ok-count.count c.read.new.buf) (c.args.limit + 1) fits c.loop-piece.invariant.gave c.in_ok-count.ensures.gave
