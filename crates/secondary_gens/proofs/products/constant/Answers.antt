use Rattle.std.proofs.Common.{refl, sym, ap, ◌∙◌, replicate}
use Rattle.std.proofs.lemmas.List.{length-map}
use Rattle.alg_core.specs.Spaces.{over}
use Rattle.poly_module.specs.SpaceVectors.{vectors_of}
use Rattle.secondary_gens.specs.Forms.{degree_of, degrees_of}
use Rattle.secondary_gens.proofs.ProductSteps.{one_product_column}
use Rattle.secondary_gens.proofs.products.constant.Goals as goal

pub returns : goal.returns
returns g c =
    let S = over g.F.Field.field g.O.TermOrder.order c.args.space.now in
    record {
      product = one_product_column S (vectors_of S (λ m. m) c.args.theta.now) (degrees_of c.args.theta.now) _ refl
          (c.in_ok-mono.ensures.is ∙ c.as_slice.ensures.value ∙ c.in_ok-zeros.ensures.items_if_clones_equal (λ x e. e) ∙ ap (λ n. replicate n 0) (sym (length-map c.args.theta.now degree_of)))
          c.in_ok-value.ensures.one;
    }
