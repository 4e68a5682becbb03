use Rattle.std.proofs.Common.{◌≡◌, sym, subst, arith}
use Rattle.std.specs.Prelude.{All}
use Rattle.std.proofs.lemmas.List.Elements.{All-push}
use Rattle.alg_core.specs.Monomials.{mono}
use Rattle.alg_core.specs.Spaces.{over}
use Rattle.poly_module.specs.Polynomials.{single_vector}
use Rattle.poly_module.specs.SpaceVectors.{vector_of}
use Rattle.matrix_group.specs.Groups.{size}
use Rattle.reynolds_op.specs.Averages.{reynolds}
use Rattle.secondary_gens.specs.Forms.{IsSmallForm}
use Rattle.secondary_gens.proofs.CombinedSteps.{each_more}
use Rattle.invring_app.proofs.commands.ring.averages.averages.Goals as goal

pub loop-i-preserved : goal.loop-i-preserved
loop-i-preserved g c =
    let S = over g.F.Field.field g.O.TermOrder.order c.args.space.now in
    let mean = reynolds S.field (size c.args.averaging.now.elements) c.args.averaging.now in
    let image = c.in_ok-average_of.field-0 in
    let pushed = c.in_ok-push.ensures.items in (
      subst (All (IsSmallForm S)) (sym pushed) (All-push (IsSmallForm S) c.loop-i.images.items image c.loop-i.invariant.0 c.in_ok-average_of.ensures.form),
      each_more (λ b f. vector_of S (λ m. m) f ≡ mean (single_vector S.field (0, mono b))) c.args.monomials.now c.loop-i.i c.index-monomials-i.result c.loop-i.images.items c.push.new.self.items image
          (omega arith) c.index-monomials-i.is pushed c.in_ok-average_of.ensures.is c.loop-i.invariant.1,
    )
