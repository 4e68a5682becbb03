use Rattle.std.proofs.Common.{sym, subst}
use Rattle.finite_certificate.specs.MarkSpaces.{mark_space}
use Rattle.primary_module.specs.PrimaryModules.{AreForModule}
use Rattle.primary_module.proofs.module.PrimaryModule.new.Goals as goal

pub standard_monomials-requires-clause-given : goal.standard_monomials-requires-clause-given
standard_monomials-requires-clause-given g c =
    let S = mark_space g.F.Field.field c.args.space.now in
    let n = c.args.space.now.order.vars in
    let ds = c.args.space.now.order.weights.items in
    subst (λ ls. AreForModule S n ds c.as_slice.result.now ls) (sym c.as_slice-2.ensures.value) (subst (λ θ. AreForModule S n ds θ c.args.lifts.items) (sym c.as_slice.ensures.value) c.requires.given)
