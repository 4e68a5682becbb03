use Rattle.std.proofs.Common.{◌≡◌, ℕ, List, [], None, length, map, ap, sym, subst, ◌∙◌, refl, arith}
use Rattle.alg_core.specs.DpOrder.{dp_order}
use Rattle.alg_core.specs.Spaces.{SpaceOver, over, entries}
use Rattle.alg_core.specs.Vectors.{vec}
use Rattle.alg_core.specs.declared.dp.Dp.{Dp}
use Rattle.poly_module.specs.SpaceVectors.{ArePolys}
use Rattle.invariant_space.specs.InvariantSpaces.{IsEchelonBasis}
use Rattle.lin_algebra.specs.declared.matrix.Matrix.{Matrix}
use Rattle.prime_field.specs.PrimeFields.{gfp, IsPrimeField}
use Rattle.prime_field.specs.declared.gfp.PrimeField.{PrimeField}
use Rattle.invring_app.specs.Lines.{polynomial_lines}
use Rattle.invring_app.proofs.BasisLaws.{weights_many, basis_is}
use Rattle.invring_app.proofs.GeneratorLaws.{squares}
use Rattle.invring_app.proofs.commands.basis.basis_lines.Goals as goal

pub basis-requires-clause-square : goal.basis-requires-clause-square
basis-requires-clause-square c =
    let whole = c.args.script.names.ok.0 in
    let many : c.len-variables.result ≡ length c.args.script.names.items = omega arith in
    let space = c.in_ok-space.space in
    let script = c.args.script in
    let field : IsPrimeField script.characteristic (gfp space.field.p space.field.listed) = subst (λ (f : PrimeField). IsPrimeField script.characteristic (gfp f.p f.listed)) (sym c.in_ok-space.ensures.field) c.field_of-field.ensures.is in
    squares script (gfp space.field.p space.field.listed) (length space.grading.weights.items) _ c.requires.sound field (weights_many space.grading.weights.items _ (length script.names.items) (ap (λ (T : SpaceOver ℕ). T.weights) c.in_ok-space.ensures.is) many) c.deref.ensures.value

pub returns-clause-basis : goal.returns-clause-basis
returns-clause-basis c =
    let whole = c.args.script.names.ok.0 in
    let many : c.len-variables.result ≡ length c.args.script.names.items = omega arith in
    let space = c.in_ok-space.space in
    let S = over (λ (f : PrimeField). gfp f.p f.listed) (λ (o : Dp). dp_order o.weights.items) space in
    let field : IsPrimeField c.args.script.characteristic (gfp space.field.p space.field.listed) = subst (λ (f : PrimeField). IsPrimeField c.args.script.characteristic (gfp f.p f.listed)) (sym c.in_ok-space.ensures.field) c.field_of-field.ensures.is in
    let echelon : IsEchelonBasis S c.args.script.gens.items c.args.degree (map (λ p. vec (gfp space.field.p space.field.listed) (entries (λ (m : List ℕ). m) p)) c.in_ok-basis.basis.items) =
    subst (λ (gs : List (Matrix ℕ)). IsEchelonBasis S gs c.args.degree (map (λ p. vec (gfp space.field.p space.field.listed) (entries (λ (m : List ℕ). m) p)) c.in_ok-basis.basis.items)) c.deref.ensures.value c.in_ok-basis.ensures.echelon in
    basis_is (entries (λ (m : List ℕ). m)) c.args.script space (record { vars = c.args.script.names.items; primaries = None; irreducibles = None }) c.in_ok-basis.basis.items c.len-variables.result c.args.degree c.in_ok-text.text.items
    c.requires.sound many field c.in_ok-space.ensures.order (ap (λ (T : SpaceOver ℕ). T.weights) c.in_ok-space.ensures.is) (ap (λ (T : SpaceOver ℕ). T.shifts) c.in_ok-space.ensures.is) refl refl refl
    (λ k p w. (c.in_ok-basis.ensures.polynomials k p w).fits) (λ k p w. (c.in_ok-basis.ensures.polynomials k p w).position) echelon (c.in_ok-text.ensures.text ∙ ap (λ ps. polynomial_lines [] S (record { vars = c.args.script.names.items; primaries = None; irreducibles = None }) (map (entries (λ (m : List ℕ). m)) ps)) c.deref-2.ensures.value)

pub polynomial_lines-requires-clause-polynomials : goal.polynomial_lines-requires-clause-polynomials
polynomial_lines-requires-clause-polynomials c =
    let S = over (λ (f : PrimeField). gfp f.p f.listed) (λ (o : Dp). dp_order o.weights.items) c.in_ok-space.space in
    subst (ArePolys S (λ (m : List ℕ). m)) (sym c.deref-2.ensures.value) c.in_ok-basis.ensures.polynomials
