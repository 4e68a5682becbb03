use Rattle.std.proofs.Common.{◌≡◌, ℕ, List, length, ap, subst, ◌∙◌}
use Rattle.alg_core.specs.Monomials.{mono}
use Rattle.alg_core.specs.Vectors.{scale}
use Rattle.alg_core.specs.Spaces.{over}
use Rattle.poly_module.specs.Polynomials.{single_vector}
use Rattle.poly_module.specs.SpaceVectors.{IsPolyOf}
use Rattle.poly_module.proofs.EntryLists.{one_placed}
use Rattle.poly_module.proofs.ConstantSteps.{polynomial_place, monomial_given}
use Rattle.poly_module.proofs.constructors.monomial.Goals as goal

pub single-requires : goal.single-requires
single-requires g c =
    let S = over g.F.Field.field g.O.TermOrder.order c.args.space.now in
    let is : c.in_ok-mono.mono ≡ c.args.exponents.now = c.in_ok-mono.ensures.is in
    record { given = one_placed S (λ (m : List ℕ). m) _ c.requires.value (polynomial_place S c.requires.polynomials c.in_ok-mono.mono (ap length is ∙ c.requires.wide)) }

pub returns : goal.returns
returns g c =
    let S = over g.F.Field.field g.O.TermOrder.order c.args.space.now in
    let is : c.in_ok-mono.mono ≡ c.args.exponents.now = c.in_ok-mono.ensures.is in
    record { monomial = subst (λ (a : List ℕ). IsPolyOf S (λ (m : List ℕ). m) (scale S.field c.args.c (single_vector S.field (0, mono a))) c.in_ok-made.made) is (monomial_given S c.args.c c.in_ok-mono.mono c.in_ok-made.made c.in_ok-made.ensures.sum) }
