use Rattle.std.proofs.Common.{length}
use Rattle.alg_core.specs.Spaces.{over}
use Rattle.poly_module.specs.SpaceVectors.{vectors_of}
use Rattle.groebner_hom.specs.IdealBases.{AreHomogeneousPolys, NoIdealAbove}
use Rattle.primary_search.specs.KeptBases.{IsKept}
use Rattle.primary_search.specs.Searches.{IsUnfinished, PassesDegrees}
use Rattle.primary_search.proofs.primaries.search.Given as goal

abbrev pub invariant-loop-below : goal.invariant-loop-below
invariant-loop-below g l =
    let S = over g.F.Field.field g.O.TermOrder.order l.space in
    let T = vectors_of S (λ m. m) l.taken.members.items in
    record {
      passed : PassesDegrees S l.gens l.limits l.below T;
      polys : AreHomogeneousPolys S l.limits.max_degree l.taken.members.items;
      kept : IsKept S l.limits.max_basis l.taken.members.items l.taken.basis.items;
      ideal : NoIdealAbove S T l.limits.max_basis;
      unfinished : IsUnfinished S.field (length S.weights) T;
    }
