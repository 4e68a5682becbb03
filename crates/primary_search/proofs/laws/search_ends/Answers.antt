use Rattle.alg_core.specs.Spaces.{over}
use Rattle.primary_search.proofs.EndLaws.{ends_alone, lacks_alone, terms_alone, colon_alone, one_end, one_lack, one_degree, one_colon, one_ideal}
use Rattle.primary_search.proofs.laws.search_ends.Goals as goal

pub returns : goal.returns
returns g c =
    let S = over g.F.Field.field g.O.TermOrder.order c.args._space.now in
    record {
      ends = λ gens l h. ends_alone S gens l h;
      lacks = λ gens l h. lacks_alone S gens l h;
      terms = λ gens l h. terms_alone S gens l h;
      colon = λ gens l h. colon_alone S gens l h;
      one_end = λ gens l θ φ a b. one_end S gens l θ φ a b;
      one_lack = λ gens l T U d e a b. one_lack S gens l T U d e a b;
      one_degree = λ gens l d e m n a b. one_degree S gens l d e m n a b;
      one_colon = λ gens l b c h g. one_colon S gens l b c h g;
      one_ideal = λ gens l b c h g. one_ideal S gens l b c h g;
    }
