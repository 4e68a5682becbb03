use Rattle.std.proofs.Common.{map, take}
use Rattle.std.specs.Prelude.{All}
use Rattle.alg_core.specs.Spaces.{over}
use Rattle.poly_module.specs.SpaceVectors.{vectors_of}
use Rattle.secondary_gens.specs.Columns.{AreLevels}
use Rattle.secondary_gens.specs.Combined.{IsEliminated, IsCombined}
use Rattle.secondary_gens.specs.Forms.{degrees_of}
use Rattle.secondary_gens.specs.Lists.{Each}
use Rattle.secondary_gens.proofs.combinations.combine_all.Given as goal

abbrev pub invariant-loop-i : goal.invariant-loop-i
invariant-loop-i g l =
    let S = over g.F.Field.field g.O.TermOrder.order l.space in
    record {
      levels : AreLevels S (vectors_of S (λ m. m) l.theta) (degrees_of l.theta) (map (λ v. v.items) l.levels.items);
      solved : All (λ s. IsEliminated S l.theta l.secs s.degree s.tracked.rows.items s.tracked.combinations.items) l.solved.items;
      each : Each (IsCombined S l.theta l.secs) (take l.i l.fs) l.combinations.items;
    }
