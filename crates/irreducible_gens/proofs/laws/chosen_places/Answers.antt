use Rattle.std.proofs.Common.{[], length}
use Rattle.alg_core.specs.SpaceOrder.{key_order}
use Rattle.alg_core.specs.Spaces.{over}
use Rattle.poly_module.proofs.WalkLaws.{keeps_unique}
use Rattle.irreducible_gens.specs.Irreducibles.{numbers}
use Rattle.irreducible_gens.proofs.Chosen.{Skips, irreducible}
use Rattle.irreducible_gens.proofs.laws.chosen_places.Goals as goal

pub returns : goal.returns
returns g c =
    let S = over g.F.Field.field g.O.TermOrder.order c.args._space.now in
    record {
      one = λ θ T ps qs a b. keeps_unique (Skips S.field θ T) [] (numbers 1 (length T)) ps qs a b;
      irreducible = λ ws ds es θ T ps unmarked h positive t rise a. irreducible S.field θ T ps a (key_order S) ws ds es unmarked h positive t rise;
    }
