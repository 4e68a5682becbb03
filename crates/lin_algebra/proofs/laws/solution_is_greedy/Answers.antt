use Rattle.lin_algebra.proofs.GreedyColumns.{columns_greedy, solution_combines}
use Rattle.lin_algebra.proofs.laws.solution_is_greedy.Goals as goal

pub returns : goal.returns
returns g c =
    let k = g.F.Field.field c.args.field.now in
    record {
      greedy = λ xs row first. columns_greedy k c.args.a.now xs row first;
      sum = λ xs b row solves i h. solution_combines k c.args.a.now xs row b solves i h;
    }
