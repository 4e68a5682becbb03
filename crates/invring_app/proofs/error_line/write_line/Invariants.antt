use Rattle.std.proofs.Common.{◌≤◌, take, map}
use Rattle.std.specs.List.{concat}
use Rattle.inv_outside.specs.Outside.{Took}
use Rattle.invring_app.specs.ErrorLines.{piece_text}
use Rattle.invring_app.proofs.error_line.write_line.Given as goal

abbrev pub invariant-loop-piece : goal.invariant-loop-piece
invariant-loop-piece g l = record {
  took : Took (g.E.Sink.taken l.fn.err) (concat (map piece_text (take l.piece-index l.pieces))) (g.E.Sink.taken l.err);
  later : g.E.Sink.faults l.fn.err ≤ g.E.Sink.faults l.err;
}
