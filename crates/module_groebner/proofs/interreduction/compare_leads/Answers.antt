use Rattle.std.proofs.Common.{sym, ap₂, ◌∙◌, length}
use Rattle.alg_core.specs.Keys.{key}
use Rattle.alg_core.specs.Spaces.{over, place}
use Rattle.alg_core.specs.SpaceOrder.{key_order, key_compare_places}
use Rattle.poly_module.specs.SpaceVectors.{vector_of}
use Rattle.module_groebner.proofs.ReductionSteps.{same_lead}
use Rattle.module_groebner.proofs.interreduction.compare_leads.Goals as goal

pub returns : goal.returns
returns g c =
    let S = over g.F.Field.field g.O.TermOrder.order c.args.space.now in
    let p = place (λ m. m) c.leading_term-left.result.now.at in
    let q = place (λ m. m) c.leading_term-right.result.now.at in
    record {
      is = λ s t ls lt. c.compare.ensures.is ∙ sym (key_compare_places (length S.weights) S.order p q c.leading_term-left.ensures.term.place.wide c.leading_term-right.ensures.term.place.wide)
          ∙ ap₂ (key_order S).compare (same_lead S (vector_of S (λ m. m) c.args.a.now) (key p) s c.leading_term-left.ensures.lead ls) (same_lead S (vector_of S (λ m. m) c.args.b.now) (key q) t c.leading_term-right.ensures.lead lt);
    }
