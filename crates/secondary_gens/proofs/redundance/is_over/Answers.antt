use Rattle.std.proofs.Common.{map, subst}
use Rattle.alg_core.specs.Fields.{scalar}
use Rattle.alg_core.specs.Spaces.{over}
use Rattle.poly_module.specs.SpaceVectors.{vector_of, vectors_of}
use Rattle.secondary_gens.specs.Columns.{IsColumns}
use Rattle.secondary_gens.specs.Eliminations.{IsReducedBy, IsEchelonOf, lines_of}
use Rattle.secondary_gens.specs.Forms.{degree_of, degrees_of}
use Rattle.secondary_gens.proofs.OverSteps.{nothing_over, something_not_over, exact_by}
use Rattle.secondary_gens.proofs.redundance.is_over.Goals as goal

pub returns-clause-exact : goal.returns-clause-exact
returns-clause-exact g c =
    let S = over g.F.Field.field g.O.TermOrder.order c.args.space.now in
    let x = vector_of S (λ m. m) in
    let xs = vectors_of S (λ m. m) in
    let theta = c.args.theta.now in
    let ps = c.args.polynomials.now in
    let f = c.args.f.now in
    let w = c.in_ok-reduced.reduced.rest in
    let fs = map (scalar S.field) c.in_ok-reduced.reduced.factors.items in
    let columns = c.in_ok-columns.columns.items in
    let ls = lines_of S c.in_ok-rows.rows.items in
    let are : IsColumns S (xs theta) (degrees_of theta) (xs ps) (degrees_of ps) (degree_of f) columns =
    subst (λ d. IsColumns S (xs theta) (degrees_of theta) (xs ps) (degrees_of ps) d columns) c.degree-d.ensures.is c.in_ok-columns.ensures.columns in
    let echelon : IsEchelonOf S.field (map (λ a. x a.value) columns) ls = subst (λ l. IsEchelonOf S.field (map (λ a. x a.value) l) ls) c.as_slice-2.ensures.value c.in_ok-rows.ensures.echelon in
    let reduced : IsReducedBy S.field ls (x f) (x w) fs = subst (λ rs. IsReducedBy S.field (lines_of S rs) (x f) (x w) fs) c.as_slice-3.ensures.value c.in_ok-reduced.ensures.reduced in
    exact_by c.terms.result.now w c.is_empty.result c.terms.ensures.is c.is_empty.ensures
    (nothing_over S theta ps f w columns ls fs c.requires.primaries c.requires.polynomials c.requires.form are echelon reduced)
    (something_not_over S theta ps f w columns ls fs c.requires.primaries c.requires.polynomials c.requires.form are echelon reduced c.in_ok-reduced.ensures.polynomial)
