use Rattle.std.proofs.Common.{ℕ, List, refl, sym, subst, ◌∙◌}
use Rattle.alg_core.specs.DpOrder.{dp_order}
use Rattle.alg_core.specs.Spaces.{over, entries}
use Rattle.poly_module.specs.SpaceVectors.{IsPoly}
use Rattle.alg_core.specs.declared.dp.Dp.{Dp}
use Rattle.prime_field.specs.PrimeFields.{gfp}
use Rattle.prime_field.specs.declared.gfp.PrimeField.{PrimeField}
use Rattle.invring_app.proofs.TextLines.{polynomials_next, polynomials_all}
use Rattle.invring_app.proofs.commands.lines.polynomial_lines.Goals as goal

pub print_poly-requires-clause-polynomial : goal.print_poly-requires-clause-polynomial
print_poly-requires-clause-polynomial c =
    let S = over (λ (f : PrimeField). gfp f.p f.listed) (λ (o : Dp). dp_order o.weights.items) c.args.space.now in
    subst (IsPoly S (λ (m : List ℕ). m)) (sym c.index-polynomials-i.is) (c.requires.polynomials c.loop-i.i c.index-polynomials-i.result c.loop-i-test.true)

pub loop-i-preserved : goal.loop-i-preserved
loop-i-preserved c =
    let S = over (λ (f : PrimeField). gfp f.p f.listed) (λ (o : Dp). dp_order o.weights.items) c.args.space.now in
    polynomials_next c.args.title.now S c.args.names.now (entries (λ (m : List ℕ). m)) c.args.polynomials.now c.loop-i.i c.index-polynomials-i.result c.loop-i.text.items c.in_ok-line.line.items c.args.title.now c.extend_from_slice.new.self.items
    c.deref.result.now c.extend_from_slice-in-loop-i.new.self.items c.push.new.self.items c.loop-i-test.true c.index-polynomials-i.is c.loop-i.invariant c.in_ok-line.ensures.text refl c.in_ok-extend_from_slice.ensures.items c.deref.ensures.value
    c.in_ok-extend_from_slice-2.ensures.items c.in_ok-push.ensures.items

pub returns : goal.returns
returns c =
    let S = over (λ (f : PrimeField). gfp f.p f.listed) (λ (o : Dp). dp_order o.weights.items) c.args.space.now in
    record { text = c.loop-i.invariant ∙ polynomials_all c.args.title.now S c.args.names.now (entries (λ (m : List ℕ). m)) c.args.polynomials.now c.loop-i.i c.loop-i.auto.i-end c.loop-i-test.false }
