use Rattle.std.proofs.Common.{length}
use Rattle.alg_core.specs.Spaces.{over}
use Rattle.poly_module.specs.SpaceVectors.{vectors_of}
use Rattle.groebner_hom.specs.IdealBases.{AreHomogeneousPolys, NoIdealAbove}
use Rattle.primary_search.specs.Candidates.{all_candidates}
use Rattle.primary_search.specs.CandidateLists.{Stands, to_come}
use Rattle.primary_search.specs.KeptBases.{IsKept}
use Rattle.primary_search.specs.Searches.{IsUnfinished}
use Rattle.primary_search.proofs.WalkSteps.{Along}
use Rattle.primary_search.proofs.walk.walk.Given as goal

abbrev pub invariant-loop-turn : goal.invariant-loop-turn
invariant-loop-turn g l =
    let S = over g.F.Field.field g.O.TermOrder.order l.space in
    let bs = vectors_of S (λ m. m) l.basis in
    let T = vectors_of S (λ m. m) l.taken.members.items in
    record {
      stands : Stands S.field.size (length l.basis) l.list;
      along : Along S l.limits.max_basis (all_candidates S.field bs) (vectors_of S (λ m. m) l.fn.taken.members.items) T (to_come S.field bs l.list) l.turn;
      polys : AreHomogeneousPolys S l.limits.max_degree l.taken.members.items;
      kept : IsKept S l.limits.max_basis l.taken.members.items l.taken.basis.items;
      ideal : NoIdealAbove S T l.limits.max_basis;
      unfinished : IsUnfinished S.field (length S.weights) T;
    }
