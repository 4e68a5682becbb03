use Rattle.std.proofs.Common.{sym, ap, subst}
use Rattle.std.specs.Prelude.{All}
use Rattle.alg_core.specs.DpOrder.{dp_order}
use Rattle.alg_core.specs.Spaces.{SpaceOver, over}
use Rattle.poly_module.specs.SpaceVectors.{IsVector, AreVectors}
use Rattle.secondary_gens.specs.Combined.{IsEliminated}
use Rattle.secondary_gens.specs.Eliminations.{IsRowOver, IsTriangular, lines_of}
use Rattle.secondary_gens.specs.Forms.{degree_of}
use Rattle.secondary_gens.proofs.CombinationSteps.{nothing_left, something_left, sum_over_field}
use Rattle.secondary_gens.proofs.CombinedSteps.{eliminated_at, combined_none, combined_some}
use Rattle.secondary_gens.proofs.RowSteps.{reduced_at}
use Rattle.secondary_gens.proofs.combinations.combination.Goals as goal

pub reduce-requires-clause-rows : goal.reduce-requires-clause-rows
reduce-requires-clause-rows g c =
    let S = over g.F.Field.field g.O.TermOrder.order c.args.space.now in
    let e = eliminated_at S c.args.theta.now c.args.secs.now (λ s. s.degree) (λ s. s.tracked.rows.items) (λ s. s.tracked.combinations.items) c.place_of_degree.new.solved.items c.in_ok-place.place c.index-one.result.now c.degree-d.result
    c.in_ok-place.ensures.solved c.in_ok-place.ensures.within c.index-one.ensures c.in_ok-place.ensures.degree in
    subst (All (IsRowOver S)) (sym c.as_slice.ensures.value) e.over

pub reduce-requires-clause-triangular : goal.reduce-requires-clause-triangular
reduce-requires-clause-triangular g c =
    let S = over g.F.Field.field g.O.TermOrder.order c.args.space.now in
    let e = eliminated_at S c.args.theta.now c.args.secs.now (λ s. s.degree) (λ s. s.tracked.rows.items) (λ s. s.tracked.combinations.items) c.place_of_degree.new.solved.items c.in_ok-place.place c.index-one.result.now c.degree-d.result
    c.in_ok-place.ensures.solved c.in_ok-place.ensures.within c.index-one.ensures c.in_ok-place.ensures.degree in
    subst (λ rs. IsTriangular S.field (lines_of S rs)) (sym c.as_slice.ensures.value) e.echelon.triangular

pub returns-then-not-is_empty-clause-combined : goal.returns-then-not-is_empty-clause-combined
returns-then-not-is_empty-clause-combined g c =
    let S = over g.F.Field.field g.O.TermOrder.order c.args.space.now in
    let theta = c.args.theta.now in
    let secs = c.args.secs.now in
    let f = c.args.f.now in
    let one = c.index-one.result in
    let rows = one.now.tracked.rows.items in
    let combinations = one.now.tracked.combinations.items in
    let w = c.in_ok-reduced.reduced.rest in
    let fs = c.in_ok-reduced.reduced.factors.items in
    let e : IsEliminated S theta secs (degree_of f) rows combinations = subst (λ d. IsEliminated S theta secs d rows combinations) c.degree-d.ensures.is
    (eliminated_at S theta secs (λ s. s.degree) (λ s. s.tracked.rows.items) (λ s. s.tracked.combinations.items) c.place_of_degree.new.solved.items c.in_ok-place.place one.now c.degree-d.result
    c.in_ok-place.ensures.solved c.in_ok-place.ensures.within c.index-one.ensures c.in_ok-place.ensures.degree) in
    combined_none S theta secs f w rows combinations fs e (reduced_at S c.as_slice.result.now rows f w fs c.as_slice.ensures.value c.in_ok-reduced.ensures.reduced) c.requires.form
    c.requires.primaries c.requires.secondaries c.in_ok-reduced.ensures.polynomial
    (something_left c.terms.result.now w c.is_empty.result c.terms.ensures.is c.is_empty.ensures c.if-not-is_empty.true)

pub combined-requires-clause-combinations : goal.combined-requires-clause-combinations
combined-requires-clause-combinations g c =
    let S = over g.F.Field.field g.O.TermOrder.order c.args.space.now in
    let e = eliminated_at S c.args.theta.now c.args.secs.now (λ s. s.degree) (λ s. s.tracked.rows.items) (λ s. s.tracked.combinations.items) c.place_of_degree.new.solved.items c.in_ok-place.place c.index-one.result.now c.degree-d.result
    c.in_ok-place.ensures.solved c.in_ok-place.ensures.within c.index-one.ensures c.in_ok-place.ensures.degree in
    subst (AreVectors (over g.F.Field.field (λ o. dp_order o.weights.items) c.args.marks.now) (λ m. m)) (sym c.as_slice-2.ensures.value)
    (subst (λ (D : SpaceOver _). AreVectors D (λ m. m) c.index-one.result.now.tracked.combinations.items) (sym c.requires.marks) e.fits)

pub returns-clause-combined : goal.returns-clause-combined
returns-clause-combined g c =
    let S = over g.F.Field.field g.O.TermOrder.order c.args.space.now in
    let C = over g.F.Field.field (λ o. dp_order o.weights.items) c.args.marks.now in
    let theta = c.args.theta.now in
    let secs = c.args.secs.now in
    let f = c.args.f.now in
    let one = c.index-one.result in
    let rows = one.now.tracked.rows.items in
    let combinations = one.now.tracked.combinations.items in
    let w = c.in_ok-reduced.reduced.rest in
    let fs = c.in_ok-reduced.reduced.factors.items in
    let e : IsEliminated S theta secs (degree_of f) rows combinations = subst (λ d. IsEliminated S theta secs d rows combinations) c.degree-d.ensures.is
    (eliminated_at S theta secs (λ s. s.degree) (λ s. s.tracked.rows.items) (λ s. s.tracked.combinations.items) c.place_of_degree.new.solved.items c.in_ok-place.place one.now c.degree-d.result
    c.in_ok-place.ensures.solved c.in_ok-place.ensures.within c.index-one.ensures c.in_ok-place.ensures.degree) in
    combined_some S theta secs f w rows combinations fs e (reduced_at S c.as_slice.result.now rows f w fs c.as_slice.ensures.value c.in_ok-reduced.ensures.reduced) c.requires.form c.in_ok-vector.vector
    (nothing_left c.terms.result.now w c.is_empty.result c.terms.ensures.is c.is_empty.ensures c.if-not-is_empty.false)
    (subst (λ (D : SpaceOver _). IsVector D (λ m. m) c.in_ok-vector.vector) c.requires.marks c.in_ok-vector.ensures.fits)
    (sum_over_field C.field S.field (ap (λ (D : SpaceOver _). D.field) c.requires.marks) c.as_slice-factors.result.now fs c.in_ok-vector.vector c.as_slice-2.result.now combinations
    c.as_slice-factors.ensures.value c.as_slice-2.ensures.value c.in_ok-vector.ensures.sum)
