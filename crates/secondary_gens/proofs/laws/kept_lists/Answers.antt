use Rattle.std.proofs.Common.{[]}
use Rattle.alg_core.specs.Spaces.{over}
use Rattle.alg_core.specs.SpaceOrder.{key_order}
use Rattle.secondary_gens.proofs.Irredundant.{irredundant, keeps_fresh, fresh_none}
use Rattle.secondary_gens.proofs.laws.kept_lists.Goals as goal

pub returns : goal.returns
returns g c =
    let S = over g.F.Field.field g.O.TermOrder.order c.args._space.now in
    record { irredundant = λ ws ds es θ forms T h positive t rise kept. irredundant S.field θ (key_order S) ws ds h positive es T t rise (keeps_fresh S.field θ [] forms T kept (fresh_none S.field θ)) }
