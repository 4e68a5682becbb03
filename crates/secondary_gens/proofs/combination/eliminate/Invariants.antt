use Rattle.alg_core.specs.DpOrder.{dp_order}
use Rattle.alg_core.specs.Spaces.{over}
use Rattle.poly_module.specs.SpaceVectors.{AreVectors}
use Rattle.secondary_gens.proofs.TrackedSteps.{Tracking}
use Rattle.secondary_gens.proofs.combination.eliminate.Given as goal

abbrev pub invariant-loop-i : goal.invariant-loop-i
invariant-loop-i g l =
    let S = over g.F.Field.field g.O.TermOrder.order l.space in
    record {
      tracking : Tracking S l.columns l.i l.rows.items l.combinations.items;
      fits : AreVectors (over g.F.Field.field (λ o. dp_order o.weights.items) l.marks) (λ m. m) l.combinations.items;
    }
