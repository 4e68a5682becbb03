use Rattle.std.proofs.Common.{arith}
use Rattle.invring_app.proofs.LineLaws.{pieces-more, pieces-front, pieces-all, pieces-newline}
use Rattle.invring_app.proofs.error_line.write_line.Goals as goal

pub loop-piece-preserved : goal.loop-piece-preserved
loop-piece-preserved g c = record {
  took = pieces-more c.args.pieces.now c.loop-piece.piece-index _ _ _ _ c.loop-piece-test.true c.loop-piece.invariant.took c.in_ok-write_piece.ensures.ok;
  later = omega arith;
}

pub returns-in_err-write_piece-clause-err : goal.returns-in_err-write_piece-clause-err
returns-in_err-write_piece-clause-err g c =
    pieces-front c.from_residual.result c.args.pieces.now c.loop-piece.piece-index _ _ _ _ c.loop-piece-test.true c.loop-piece.invariant.took c.in_err-write_piece.ensures.err

pub returns-clause-ok : goal.returns-clause-ok
returns-clause-ok g c = pieces-all c.write_all.result c.args.pieces.now c.loop-piece.piece-index _ _ _ c.loop-piece-test.false c.loop-piece.invariant.took c.write_all.ensures.ok

pub returns-clause-err : goal.returns-clause-err
returns-clause-err g c = pieces-newline c.write_all.result c.args.pieces.now c.loop-piece.piece-index _ _ _ c.loop-piece-test.false c.loop-piece.invariant.took c.write_all.ensures.err
