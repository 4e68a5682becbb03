use Rattle.std.proofs.Common.{◌≡◌, ◌++◌, ◌∷◌, [], ◌∙◌, sym, ap, subst}
use Rattle.std.specs.Prelude.{All, IfSome, IfNone}
use Rattle.alg_core.specs.Spaces.{over}
use Rattle.poly_module.specs.SpaceVectors.{vector_of, vectors_of, IsVector, IsPoly}
use Rattle.poly_module.specs.Combinations.{Over}
use Rattle.secondary_gens.specs.PrintedCombinations.{combination_space, IsPrintedCombination}
use Rattle.secondary_gens.specs.Forms.{degrees_of, IsSmallForm}
use Rattle.irreducible_gens.specs.Words.{word_space}
use Rattle.irreducible_gens.proofs.UnitSteps.{pushed_one, one_small, one_vectors, one_degrees, joined_vectors, joined_degrees}
use Rattle.irreducible_gens.proofs.WordSteps.{word_fits, printed_word_at, no_word_at}
use Rattle.irreducible_gens.proofs.printing.word.Goals as goal

pub combine-requires-clause-secondaries : goal.combine-requires-clause-secondaries
combine-requires-clause-secondaries g c =
    let S = over g.F.Field.field g.O.TermOrder.order c.args.space.now in
    let p = c.in_ok-one.field-0 in
    let units : c.as_slice-2.result.now ≡ p ∷ [] = pushed_one c.as_slice-2.result.now c.push.new.self.items c.new-unit.result.items p c.as_slice-2.ensures.value c.in_ok-push.ensures.items c.new-unit.ensures.items in
    subst (All (IsSmallForm S)) (sym units) (one_small S p c.in_ok-one.ensures.one)

pub returns-in-Some-clause-polynomial : goal.returns-in-Some-clause-polynomial
returns-in-Some-clause-polynomial g c =
    let S = over g.F.Field.field g.O.TermOrder.order c.args.space.now in
    let p = c.in_ok-one.field-0 in
    let v = c.in-Some.combination.vector in
    let units : c.as_slice-2.result.now ≡ p ∷ [] = pushed_one c.as_slice-2.result.now c.push.new.self.items c.new-unit.result.items p c.as_slice-2.ensures.value c.in_ok-push.ensures.items c.new-unit.ensures.items in
    let degrees : degrees_of c.as_slice.result.now ≡ degrees_of c.args.theta.now ++ degrees_of c.args.irr.now =
    ap degrees_of c.as_slice.ensures.value ∙ joined_degrees S c.args.theta.now c.args.irr.now c.in_ok-generators.generators.items c.in_ok-generators.ensures.copies in
    subst (λ ws. IsPoly (word_space S.field ws) (λ m. m) v) degrees
    (word_fits S.field (degrees_of c.as_slice.result.now) (degrees_of c.as_slice-2.result.now) v (ap degrees_of units ∙ one_degrees S p c.in_ok-one.ensures.one) (subst (λ o. IfSome o (λ a. IsVector (combination_space S.field (degrees_of c.as_slice.result.now) (degrees_of c.as_slice-2.result.now)) (λ m. m) a.vector)) c.in-Some.is c.in_ok-combination.ensures.fits))

pub returns-in-Some-clause-printed : goal.returns-in-Some-clause-printed
returns-in-Some-clause-printed g c =
    let S = over g.F.Field.field g.O.TermOrder.order c.args.space.now in
    let xs = vectors_of S (λ m. m) in
    let p = c.in_ok-one.field-0 in
    let theta = c.args.theta.now in
    let irr = c.args.irr.now in
    let all = c.as_slice.result.now in
    let one = c.as_slice-2.result.now in
    let units : one ≡ p ∷ [] = pushed_one c.as_slice-2.result.now c.push.new.self.items c.new-unit.result.items p c.as_slice-2.ensures.value c.in_ok-push.ensures.items c.new-unit.ensures.items in
    let vectors : xs all ≡ xs theta ++ xs irr =
    ap xs c.as_slice.ensures.value ∙ joined_vectors S theta irr c.in_ok-generators.generators.items c.in_ok-generators.ensures.copies in
    let degrees : degrees_of all ≡ degrees_of theta ++ degrees_of irr =
    ap degrees_of c.as_slice.ensures.value ∙ joined_degrees S theta irr c.in_ok-generators.generators.items c.in_ok-generators.ensures.copies in
    printed_word_at S.field (xs all) (xs one) (xs theta) (xs irr) (degrees_of all) (degrees_of one) (degrees_of theta ++ degrees_of irr) (vector_of S (λ m. m) c.args.f.now) (vector_of S (λ m. m) c.in-Some.combination.vector)
    vectors (ap xs units ∙ one_vectors S p c.in_ok-one.ensures.one) degrees (ap degrees_of units ∙ one_degrees S p c.in_ok-one.ensures.one) (subst (λ o. IfSome o (λ a. IsPrintedCombination S.field (degrees_of all) (degrees_of one) (xs all) (xs one) (vector_of S (λ m. m) c.args.f.now) (vector_of S (λ m. m) a.vector))) c.in-Some.is c.in_ok-combination.ensures.printed)

pub returns-clause-none : goal.returns-clause-none
returns-clause-none g c =
    let S = over g.F.Field.field g.O.TermOrder.order c.args.space.now in
    let xs = vectors_of S (λ m. m) in
    let p = c.in_ok-one.field-0 in
    let theta = c.args.theta.now in
    let irr = c.args.irr.now in
    let all = c.as_slice.result.now in
    let one = c.as_slice-2.result.now in
    let units : one ≡ p ∷ [] = pushed_one c.as_slice-2.result.now c.push.new.self.items c.new-unit.result.items p c.as_slice-2.ensures.value c.in_ok-push.ensures.items c.new-unit.ensures.items in
    let vectors : xs all ≡ xs theta ++ xs irr =
    ap xs c.as_slice.ensures.value ∙ joined_vectors S theta irr c.in_ok-generators.generators.items c.in_ok-generators.ensures.copies in
    no_word_at S.field (xs all) (xs one) (xs theta) (xs irr) (vector_of S (λ m. m) c.args.f.now) vectors (ap xs units ∙ one_vectors S p c.in_ok-one.ensures.one) (subst (λ o. IfNone o (¬ Over S.field (xs all) (xs one) (vector_of S (λ m. m) c.args.f.now))) c.in-None.is c.in_ok-combination.ensures.none)
