use Rattle.matrix_group.proofs.Common.{◌≡◌, length, over}
use Rattle.matrix_group.proofs.ImageLists.{AreImages}
use Rattle.matrix_group.proofs.action.act.Given as goal

abbrev pub invariant-loop-i : goal.invariant-loop-i
invariant-loop-i g l =
    let S = over g.F.Field.field g.O.TermOrder.order l.space in
    record {
      count : length l.images.items ≡ l.i;
      images : AreImages S l.m l.images.items;
    }
