use Rattle.std.proofs.Common.{◌++◌, subst}
use Rattle.secondary_gens.proofs.Lists.{listed_in, place_of_in}
use Rattle.poly_module.proofs.CombinationLaws.{over_zero, over_plus, over_act, over_within}
use Rattle.poly_module.specs.Combinations.{Over}
use Rattle.irreducible_gens.proofs.Generators.{unit, over_polynomial, polynomial_over, over_wider, over_generator}
use Rattle.irreducible_gens.proofs.laws.algebras.Goals as goal

pub returns : goal.returns
returns g c =
    let k = g.F.Field.field c.args._space.now.field in
    record {
      subspace = λ θ Q. record {
        zero = over_polynomial k (θ ++ Q) _ (over_zero k (θ ++ Q) (unit k));
        plus = λ u v a b. over_polynomial k (θ ++ Q) _ (over_plus k (θ ++ Q) (unit k) u v (polynomial_over k (θ ++ Q) u a) (polynomial_over k (θ ++ Q) v b));
        act = λ d u a. over_polynomial k (θ ++ Q) _ (over_act k (θ ++ Q) (unit k) d u (polynomial_over k (θ ++ Q) u a));
      };
      generator = λ θ Q f i. let p = place_of_in k (θ ++ Q) f i in over_polynomial k (θ ++ Q) f (subst (Over k (θ ++ Q) (unit k)) p.2 (over_generator k (θ ++ Q) p.0 p.1));
      combination = λ θ Q T each f a. over_polynomial k (θ ++ Q) f
          (over_within k (θ ++ Q) T (unit k) (λ j l. polynomial_over k (θ ++ Q) _ (each _ (listed_in k T j l))) f (over_wider k θ Q T f a));
    }
