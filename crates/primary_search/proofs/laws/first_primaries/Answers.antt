use Rattle.alg_core.specs.Spaces.{over}
use Rattle.primary_search.proofs.FirstLaws.{first_forms, first_invariant, first_regular, end_first}
use Rattle.primary_search.proofs.UniqueLaws.{one_first}
use Rattle.primary_search.proofs.laws.first_primaries.Goals as goal

pub returns : goal.returns
returns g c =
    let S = over g.F.Field.field g.O.TermOrder.order c.args._space.now in
    record {
      unique = λ gens tries θ φ a b. one_first S gens tries θ φ a b;
      forms = λ gens tries θ h. first_forms S gens tries θ h;
      invariant = λ gens tries θ h. first_invariant S gens tries θ h;
      regular = λ gens tries θ h. first_regular S gens tries θ h;
      end = λ gens l θ some h. end_first S gens l some θ h;
    }
