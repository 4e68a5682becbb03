use Rattle.matrix_group.proofs.OrderLaws.{order_unique, over_order, order_over, walk_unique}
use Rattle.matrix_group.proofs.laws.orders.Goals as goal

pub returns : goal.returns
returns g c =
    let k = g.F.Field.field c.args._field.now in
    record {
      one = order_unique k;
      over = over_order k;
      more = order_over k;
      list = walk_unique k;
    }
