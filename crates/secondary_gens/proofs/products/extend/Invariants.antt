use Rattle.std.proofs.Common.{◌≡◌, length, map}
use Rattle.alg_core.specs.Spaces.{over}
use Rattle.poly_module.specs.SpaceVectors.{vectors_of}
use Rattle.secondary_gens.specs.Columns.{AreLevels}
use Rattle.secondary_gens.specs.Forms.{degrees_of}
use Rattle.secondary_gens.proofs.products.extend.Given as goal

abbrev pub invariant-loop-e : goal.invariant-loop-e
invariant-loop-e g l =
    let S = over g.F.Field.field g.O.TermOrder.order l.space in
    record {
      levels : AreLevels S (vectors_of S (λ m. m) l.theta) (degrees_of l.theta) (map (λ v. v.items) l.levels.items);
      count : length l.levels.items ≡ l.e;
    }
