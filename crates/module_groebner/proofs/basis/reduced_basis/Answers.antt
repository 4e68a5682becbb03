use Rattle.std.proofs.Common.{◌≡◌, subst, ap, Ok}
use Rattle.alg_core.specs.Spaces.{over}
use Rattle.poly_module.specs.Modules.{InModule, listed}
use Rattle.poly_module.specs.SpaceVectors.{vectors_of}
use Rattle.module_groebner.specs.declared.bound.Which.TheVariants.{Ideal}
use Rattle.module_groebner.specs.BasisBounds.{IsBasisBound}
use Rattle.module_groebner.proofs.Transports.{over_back, goes_on, reduced_at_end, homogeneous_at_end, nothing_at_end}
use Rattle.module_groebner.proofs.basis.reduced_basis.Goals as goal

pub returns-in-Above-clause-above : goal.returns-in-Above-clause-above
returns-in-Above-clause-above g c b e =
    let S = over g.F.Field.field g.O.TermOrder.order c.args.space.now in
    let same : c.in-Above.bound ≡ b = cc in
    subst (λ x. IsBasisBound S (InModule S.field (listed S.field (vectors_of S (λ m. m) c.args.gens.now))) c.args.cap Ideal x) same
    (over_back S _ _ _ c.loop-completion.invariant c.in-Above.bound (c.in_ok-advance.ensures.above c.in-Above.bound (ap Ok c.in-Above.is)).0)

pub loop-completion-preserved : goal.loop-completion-preserved
loop-completion-preserved g c = let S = over g.F.Field.field g.O.TermOrder.order c.args.space.now in
    goes_on S _ _ _ c.loop-completion.invariant _ c.in_ok-advance.ensures.stands c.in_ok-advance.ensures.extends

pub returns-in-Ok-clause-reduced : goal.returns-in-Ok-clause-reduced
returns-in-Ok-clause-reduced g c = let S = over g.F.Field.field g.O.TermOrder.order c.args.space.now in
    reduced_at_end S _ _ _ (goes_on S _ _ _ c.loop-completion.invariant _ c.in_ok-advance.ensures.stands c.in_ok-advance.ensures.extends) _ c.in-Ok.ensures.reduced

pub returns-in-Ok-clause-homogeneous : goal.returns-in-Ok-clause-homogeneous
returns-in-Ok-clause-homogeneous g c = let S = over g.F.Field.field g.O.TermOrder.order c.args.space.now in
    homogeneous_at_end S _ _ _ (goes_on S _ _ _ c.loop-completion.invariant _ c.in_ok-advance.ensures.stands c.in_ok-advance.ensures.extends) _ c.in-Ok.ensures.homogeneous

pub returns-in-Ok-clause-within : goal.returns-in-Ok-clause-within
returns-in-Ok-clause-within g c = let S = over g.F.Field.field g.O.TermOrder.order c.args.space.now in
    nothing_at_end S _ _ _ (goes_on S _ _ _ c.loop-completion.invariant _ c.in_ok-advance.ensures.stands c.in_ok-advance.ensures.extends) c.in-Ok.ensures.within
