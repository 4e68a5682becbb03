use Rattle.std.proofs.Common.{◌≡◌, ℕ, List, Err, None, length, ap, sym, subst, refl, arith}
use Rattle.alg_core.specs.DpOrder.{dp_order}
use Rattle.alg_core.specs.Spaces.{SpaceOver, over}
use Rattle.alg_core.specs.declared.dp.Dp.{Dp}
use Rattle.alg_core.specs.declared.term.Term.{Term}
use Rattle.poly_module.specs.SpaceVectors.{vectors_of}
use Rattle.prime_field.specs.PrimeFields.{gfp, IsPrimeField}
use Rattle.prime_field.specs.declared.gfp.PrimeField.{PrimeField}
use Rattle.finite_certificate.specs.Ideals.{Ended}
use Rattle.finvar_text.specs.Problems.{problem_in}
use Rattle.module_groebner.specs.HomogeneousLists.{degree_limit}
use Rattle.groebner_hom.specs.Exponents.{AreLeastExponents}
use Rattle.groebner_hom.specs.IdealBases.{AreHomogeneousPolys, NoIdealAbove}
use Rattle.groebner_hom.proofs.NonzerodivisorSteps.{polys_weaken}
use Rattle.invring_app.specs.Commands.Primaries.{IsSearchTold}
use Rattle.invring_app.proofs.BasisLaws.{weights_many}
use Rattle.invring_app.proofs.FaultLaws.{handed-on}
use Rattle.invring_app.proofs.GeneratorLaws.{squares}
use Rattle.invring_app.proofs.PrimaryLines.{positive-is, shift-is, unit-is, told-is, text-is}
use Rattle.invring_app.proofs.commands.primary.primary_lines.Goals as goal

pub search-requires-clause-positive : goal.search-requires-clause-positive
search-requires-clause-positive c = positive-is _ _ _ c.in_ok-space.ensures.is

pub search-requires-clause-shift : goal.search-requires-clause-shift
search-requires-clause-shift c = shift-is _ _ _ c.in_ok-space.ensures.is

pub search-requires-clause-square : goal.search-requires-clause-square
search-requires-clause-square c =
    let whole = c.args.script.names.ok.0 in
    let many : c.len-variables.result ≡ length c.args.script.names.items = omega arith in
    let space = c.in_ok-space.space in
    let script = c.args.script in
    let field : IsPrimeField script.characteristic (gfp space.field.p space.field.listed) = subst (λ (f : PrimeField). IsPrimeField script.characteristic (gfp f.p f.listed)) (sym c.in_ok-space.ensures.field) c.field_of-field.ensures.is in
    squares script (gfp space.field.p space.field.listed) (length space.grading.weights.items) _ c.requires.sound field (weights_many space.grading.weights.items _ (length script.names.items) (ap (λ (T : SpaceOver ℕ). T.weights) c.in_ok-space.ensures.is) many) c.deref.ensures.value

pub returns-in_err-primaries-clause-bound : goal.returns-in_err-primaries-clause-bound
returns-in_err-primaries-clause-bound c =
    let whole = c.args.script.names.ok.0 in
    let many : c.len-variables.result ≡ length c.args.script.names.items = omega arith in
    let space = c.in_ok-space.space in
    let script = c.args.script in
    let l = c.args.limits.now in
    let e = c.in_err-primaries.field-0.0 in
    let told = c.in_err-primaries.ensures in
    let field : IsPrimeField script.characteristic (gfp space.field.p space.field.listed) = subst (λ (f : PrimeField). IsPrimeField script.characteristic (gfp f.p f.listed)) (sym c.in_ok-space.ensures.field) c.field_of-field.ensures.is in
    handed-on (IsSearchTold l (problem_in script)) c.from_residual-in_err-primaries.result e c.from_residual-in_err-primaries.ensures.1
    (told-is script space c.len-variables.result c.requires.sound many field c.in_ok-space.ensures.order (ap (λ (T : SpaceOver ℕ). T.weights) c.in_ok-space.ensures.is) (ap (λ (T : SpaceOver ℕ). T.shifts) c.in_ok-space.ensures.is) l c.deref.result.now
    c.deref.ensures.value l.max_degree e (λ found m is. told.found found m (ap (λ x. Err x) is)) (λ found m is. told.no_primary found m (ap (λ x. Err x) is)) (λ m count is. told.terms m count (ap (λ x. Err x) is)) (λ b is. told.basis b (ap (λ x. Err x) is)))

pub least_exponents-requires-clause-positive : goal.least_exponents-requires-clause-positive
least_exponents-requires-clause-positive c = positive-is _ _ _ c.in_ok-space.ensures.is

pub least_exponents-requires-clause-degrees : goal.least_exponents-requires-clause-degrees
least_exponents-requires-clause-degrees c = unit-is _ _ _ c.in_ok-space.ensures.is

pub least_exponents-requires-clause-theta : goal.least_exponents-requires-clause-theta
least_exponents-requires-clause-theta c =
    let S = over (λ (f : PrimeField). gfp f.p f.listed) (λ (o : Dp). dp_order o.weights.items) c.in_ok-space.space in
    let low = c.requires.limits.max_degree in
    subst (AreHomogeneousPolys S degree_limit) (sym c.deref-2.ensures.value) (polys_weaken S c.args.limits.now.max_degree degree_limit c.in_ok-primaries.primaries.items (omega arith) c.in_ok-primaries.ensures.polynomials)

pub least_exponents-requires-clause-within : goal.least_exponents-requires-clause-within
least_exponents-requires-clause-within c =
    let S = over (λ (f : PrimeField). gfp f.p f.listed) (λ (o : Dp). dp_order o.weights.items) c.in_ok-space.space in
    subst (λ (ps : List (List (Term ℕ (List ℕ)))). NoIdealAbove S (vectors_of S (λ m. m) ps) c.args.limits.now.max_basis) (sym c.deref-2.ensures.value) c.in_ok-primaries.ensures.end.ideal

pub least_exponents-requires-clause-ended : goal.least_exponents-requires-clause-ended
least_exponents-requires-clause-ended c =
    let S = over (λ (f : PrimeField). gfp f.p f.listed) (λ (o : Dp). dp_order o.weights.items) c.in_ok-space.space in
    subst (λ (ps : List (List (Term ℕ (List ℕ)))). Ended S.field (length S.weights) (vectors_of S (λ m. m) ps)) (sym c.deref-2.ensures.value) c.in_ok-primaries.ensures.ended

pub returns-clause-text : goal.returns-clause-text
returns-clause-text c =
    let whole = c.args.script.names.ok.0 in
    let many : c.len-variables.result ≡ length c.args.script.names.items = omega arith in
    let space = c.in_ok-space.space in
    let S = over (λ (f : PrimeField). gfp f.p f.listed) (λ (o : Dp). dp_order o.weights.items) space in
    let script = c.args.script in
    let l = c.args.limits.now in
    let field : IsPrimeField script.characteristic (gfp space.field.p space.field.listed) = subst (λ (f : PrimeField). IsPrimeField script.characteristic (gfp f.p f.listed)) (sym c.in_ok-space.ensures.field) c.field_of-field.ensures.is in
    let least = subst (λ (ps : List (List (Term ℕ (List ℕ)))). AreLeastExponents S.field (length S.weights) (vectors_of S (λ m. m) ps) c.in_ok-exponents.exponents.items) c.deref-2.ensures.value c.in_ok-exponents.ensures.least in
    text-is script space c.len-variables.result c.requires.sound many field c.in_ok-space.ensures.order (ap (λ (T : SpaceOver ℕ). T.weights) c.in_ok-space.ensures.is) (ap (λ (T : SpaceOver ℕ). T.shifts) c.in_ok-space.ensures.is) l c.deref.result.now
    c.deref.ensures.value l.max_degree c.in_ok-primaries.primaries.items c.deref-3.result.now c.in_ok-exponents.exponents.items c.deref-4.result.now (record { vars = script.names.items; primaries = None; irreducibles = None }) c.in_ok-text.text.items
    c.in_ok-primaries.ensures.polynomials c.in_ok-primaries.ensures.first c.in_ok-primaries.ensures.end least refl refl refl c.deref-3.ensures.value c.deref-4.ensures.value c.in_ok-text.ensures.text
