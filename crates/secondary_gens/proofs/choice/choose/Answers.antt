use Rattle.std.proofs.Common.{◌+◌, ◌<◌, map, sym, subst, arith}
use Rattle.std.specs.Prelude.{All}
use Rattle.alg_core.specs.Spaces.{over}
use Rattle.poly_module.specs.Combinations.{Over}
use Rattle.poly_module.specs.Forms.{IsForm}
use Rattle.poly_module.specs.SpaceVectors.{vector_of, vectors_of}
use Rattle.poly_module.specs.Walks.{Keeps}
use Rattle.secondary_gens.specs.Columns.{AreLevels}
use Rattle.secondary_gens.specs.Forms.{degree_of, degrees_of, unit_weights}
use Rattle.secondary_gens.proofs.ChoiceSteps.{Chosen, basis_forms, chosen_past, chosen_more, chosen_within, chosen_complete, chosen_secondaries, chosen_irredundant}
use Rattle.secondary_gens.proofs.FixedSteps.{secondaries_fixed}
use Rattle.secondary_gens.proofs.OverSteps.{not_true}
use Rattle.secondary_gens.proofs.choice.choose.Goals as goal
use Rattle.secondary_gens.proofs.choice.choose.Goals.{then-has_degree+in_ok-basis+in_ok-keep, else-has_degree}

pub keep-requires-clause-forms : goal.keep-requires-clause-forms
keep-requires-clause-forms g c =
    let S = over g.F.Field.field g.O.TermOrder.order c.args.space.now in
    let gens = c.args.gens.now in
    let theta = c.args.theta.now in
    let images = c.args.images.now in
    subst (λ l. All (λ p. IsForm S.field (unit_weights S) c.loop-d.d (vector_of S (λ m. m) p)) l) (sym c.as_slice.ensures.value)
    (basis_forms S gens theta images c.requires.primaries c.requires.images c.requires.fixed c.requires.fixed_images c.requires.generate c.loop-d.d c.in_ok-basis.basis.items c.in_ok-basis.ensures.echelon)

pub loop-d-preserved : goal.loop-d-preserved
loop-d-preserved g c =
    let S = over g.F.Field.field g.O.TermOrder.order c.args.space.now in
    let gens = c.args.gens.now in
    let theta = c.args.theta.now in
    let images = c.args.images.now in
    let xs = vectors_of S (λ m. m) in
    let m = c.args.max_terms in
    let d = c.loop-d.d in
    let kept = c.loop-d.kept.items in
    elim c.if-has_degree.branch [
      | then-has_degree+in_ok-basis+in_ok-keep w ↦ record {
        levels = subst (λ l. AreLevels S (xs theta) (degrees_of theta) (map (λ v. v.items) l.items)) (sym w.levels-is) w.in_ok-keep.ensures.levels;
        chosen = subst (λ l. Chosen S gens theta images m (d + 1) l.items) (sym w.kept-is)
            (chosen_more S gens theta images c.requires.primaries c.requires.images c.requires.fixed c.requires.fixed_images c.requires.generate m d kept w.in_ok-basis.basis.items w.keep.new.kept.items (c.has_degree.ensures.exact.0 w.if-has_degree.true)
            (λ h. let e = w.basis.ensures.within h in let f = w.in_ok-basis.was {u = tt} in cc)
            w.in_ok-basis.ensures.echelon w.in_ok-keep.ensures.small w.in_ok-keep.ensures.longer
            (subst (λ l. Keeps (Over S.field (xs theta)) (xs kept) (xs l) (xs w.keep.new.kept.items)) w.as_slice.ensures.value w.in_ok-keep.ensures.kept) c.loop-d.invariant.chosen);
      }
      | else-has_degree w ↦ record {
        levels = subst (λ l. AreLevels S (xs theta) (degrees_of theta) (map (λ v. v.items) l.items)) (sym w.levels-is) c.loop-d.invariant.levels;
        chosen = subst (λ l. Chosen S gens theta images m (d + 1) l.items) (sym w.kept-is)
            (chosen_past S gens theta images c.requires.primaries c.requires.images c.requires.fixed c.requires.fixed_images c.requires.generate m d kept (λ h. not_true c.has_degree.result w.if-has_degree.false (c.has_degree.ensures.exact.1 h)) c.loop-d.invariant.chosen);
      }
    ]

pub returns-clause-within : goal.returns-clause-within
returns-clause-within g c =
    let S = over g.F.Field.field g.O.TermOrder.order c.args.space.now in
    let gens = c.args.gens.now in
    let theta = c.args.theta.now in
    let images = c.args.images.now in
    let past : All (λ p. degree_of p < c.loop-d.d) images = λ k p l. let a = c.greatest_degree-d-end.ensures.all k p l in omega (arith, c.loop-d-test.false) in
    chosen_within S gens theta images c.requires.primaries c.requires.images c.requires.fixed c.requires.fixed_images c.requires.generate c.args.max_terms c.loop-d.d c.loop-d.kept.items c.loop-d.invariant.chosen past

pub returns-clause-secondaries : goal.returns-clause-secondaries
returns-clause-secondaries g c =
    let S = over g.F.Field.field g.O.TermOrder.order c.args.space.now in
    let gens = c.args.gens.now in
    let theta = c.args.theta.now in
    let images = c.args.images.now in
    let past : All (λ p. degree_of p < c.loop-d.d) images = λ k p l. let a = c.greatest_degree-d-end.ensures.all k p l in omega (arith, c.loop-d-test.false) in
    chosen_secondaries S gens theta images c.requires.primaries c.requires.images c.requires.fixed c.requires.fixed_images c.requires.generate c.args.max_terms c.loop-d.d c.loop-d.kept.items c.loop-d.invariant.chosen past

pub returns-clause-complete : goal.returns-clause-complete
returns-clause-complete g c =
    let S = over g.F.Field.field g.O.TermOrder.order c.args.space.now in
    let gens = c.args.gens.now in
    let theta = c.args.theta.now in
    let images = c.args.images.now in
    let past : All (λ p. degree_of p < c.loop-d.d) images = λ k p l. let a = c.greatest_degree-d-end.ensures.all k p l in omega (arith, c.loop-d-test.false) in
    chosen_complete S gens theta images c.requires.primaries c.requires.images c.requires.fixed c.requires.fixed_images c.requires.generate c.args.max_terms c.loop-d.d c.loop-d.kept.items c.loop-d.invariant.chosen past

pub returns-clause-irredundant : goal.returns-clause-irredundant
returns-clause-irredundant g c =
    let S = over g.F.Field.field g.O.TermOrder.order c.args.space.now in
    let gens = c.args.gens.now in
    let theta = c.args.theta.now in
    let images = c.args.images.now in
    let past : All (λ p. degree_of p < c.loop-d.d) images = λ k p l. let a = c.greatest_degree-d-end.ensures.all k p l in omega (arith, c.loop-d-test.false) in
    chosen_irredundant S gens theta images c.requires.primaries c.requires.images c.requires.fixed c.requires.fixed_images c.requires.generate c.args.max_terms c.loop-d.d c.loop-d.kept.items c.loop-d.invariant.chosen past

pub returns-clause-fixed : goal.returns-clause-fixed
returns-clause-fixed g c =
    let S = over g.F.Field.field g.O.TermOrder.order c.args.space.now in
    let gens = c.args.gens.now in
    let theta = c.args.theta.now in
    let images = c.args.images.now in
    let past : All (λ p. degree_of p < c.loop-d.d) images = λ k p l. let a = c.greatest_degree-d-end.ensures.all k p l in omega (arith, c.loop-d-test.false) in
    secondaries_fixed S gens (vectors_of S (λ m. m) theta) c.loop-d.kept.items (
    chosen_secondaries S gens theta images c.requires.primaries c.requires.images c.requires.fixed c.requires.fixed_images c.requires.generate c.args.max_terms c.loop-d.d c.loop-d.kept.items c.loop-d.invariant.chosen past
    )
