use Rattle.std.proofs.Common.{◌≡◌, ◌∷◌, [], map, sym, subst}
use Rattle.std.specs.Prelude.{All}
use Rattle.alg_core.specs.Spaces.{over}
use Rattle.poly_module.specs.SpaceVectors.{vector_of, vectors_of}
use Rattle.secondary_gens.specs.Columns.{IsColumns}
use Rattle.secondary_gens.specs.Eliminations.{IsEchelonOf, lines_of}
use Rattle.secondary_gens.specs.Forms.{degrees_of, IsSmallForm}
use Rattle.irreducible_gens.proofs.UnitSteps.{pushed_one, one_small, algebra_echelon}
use Rattle.irreducible_gens.proofs.algebra.rows_in_degree.Goals as goal

pub degrees-requires-2 : goal.degrees-requires-2
degrees-requires-2 g c =
    let S = over g.F.Field.field g.O.TermOrder.order c.args.space.now in
    let p = c.in_ok-one.field-0 in
    let units : c.as_slice.result.now ≡ p ∷ [] = pushed_one c.as_slice.result.now c.push.new.self.items c.new-unit.result.items p c.as_slice.ensures.value c.in_ok-push.ensures.items c.new-unit.ensures.items in
    record { forms = subst (All (IsSmallForm S)) (sym units) (one_small S p c.in_ok-one.ensures.one) }

pub columns-requires-clause-forms : goal.columns-requires-clause-forms
columns-requires-clause-forms g c =
    let S = over g.F.Field.field g.O.TermOrder.order c.args.space.now in
    let p = c.in_ok-one.field-0 in
    let units : c.as_slice-2.result.now ≡ p ∷ [] = pushed_one c.as_slice-2.result.now c.push.new.self.items c.new-unit.result.items p c.as_slice-2.ensures.value c.in_ok-push.ensures.items c.new-unit.ensures.items in
    subst (All (IsSmallForm S)) (sym units) (one_small S p c.in_ok-one.ensures.one)

pub returns-clause-exact : goal.returns-clause-exact
returns-clause-exact g c =
    let S = over g.F.Field.field g.O.TermOrder.order c.args.space.now in
    let xs = vectors_of S (λ m. m) in
    let p = c.in_ok-one.field-0 in
    let generators = c.args.generators.now in
    let columns = c.in_ok-columns.columns.items in
    let ls = lines_of S c.in_ok-rows.rows.items in
    let units : c.as_slice-2.result.now ≡ p ∷ [] = pushed_one c.as_slice-2.result.now c.push.new.self.items c.new-unit.result.items p c.as_slice-2.ensures.value c.in_ok-push.ensures.items c.new-unit.ensures.items in
    let are : IsColumns S (xs generators) (degrees_of generators) (xs (p ∷ [])) (degrees_of (p ∷ [])) c.args.d columns =
    subst (λ l. IsColumns S (xs generators) (degrees_of generators) (xs l) (degrees_of l) c.args.d columns) units c.in_ok-columns.ensures.columns in
    let echelon : IsEchelonOf S.field (map (λ a. vector_of S (λ m. m) a.value) columns) ls =
    subst (λ l. IsEchelonOf S.field (map (λ a. vector_of S (λ m. m) a.value) l) ls) c.as_slice-4.ensures.value c.in_ok-rows.ensures.echelon in
    algebra_echelon S p c.in_ok-one.ensures.one generators c.args.d columns ls c.requires.generators are echelon
