use Rattle.std.proofs.Common.{map}
use Rattle.alg_core.specs.Spaces.{over}
use Rattle.poly_module.specs.SpaceVectors.{vectors_of}
use Rattle.secondary_gens.specs.Columns.{AreLevels}
use Rattle.secondary_gens.specs.Forms.{degrees_of}
use Rattle.secondary_gens.proofs.ChoiceSteps.{Chosen}
use Rattle.secondary_gens.proofs.choice.choose.Given as goal

abbrev pub invariant-loop-d : goal.invariant-loop-d
invariant-loop-d g l =
    let S = over g.F.Field.field g.O.TermOrder.order l.space in
    record {
      levels : AreLevels S (vectors_of S (λ m. m) l.theta) (degrees_of l.theta) (map (λ v. v.items) l.levels.items);
      chosen : Chosen S l.gens l.theta l.images l.max_terms l.d l.kept.items;
    }
