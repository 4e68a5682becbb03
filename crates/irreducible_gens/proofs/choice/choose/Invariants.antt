use Rattle.std.proofs.Common.{map}
use Rattle.alg_core.specs.Spaces.{over}
use Rattle.poly_module.specs.SpaceVectors.{vectors_of}
use Rattle.secondary_gens.specs.Columns.{AreLevels}
use Rattle.secondary_gens.specs.Forms.{degrees_of}
use Rattle.irreducible_gens.proofs.ChoiceSteps.{Choosing}
use Rattle.irreducible_gens.proofs.choice.choose.Given as goal

abbrev pub invariant-loop-i : goal.invariant-loop-i
invariant-loop-i g l =
    let S = over g.F.Field.field g.O.TermOrder.order l.space in
    record {
      choosing : Choosing S l.theta l.secs l.i l.d l.generators.items l.rows.items l.places.items;
      levels : AreLevels S (vectors_of S (λ m. m) l.generators.items) (degrees_of l.generators.items) (map (λ v. v.items) l.levels.items);
    }
