use Rattle.std.proofs.Common.{sym, subst}
use Rattle.alg_core.specs.DpOrder.{dp_order}
use Rattle.alg_core.specs.Spaces.{SpaceOver, over}
use Rattle.poly_module.specs.SpaceVectors.{vectors_of, AreVectors}
use Rattle.secondary_gens.specs.Columns.{IsColumns}
use Rattle.secondary_gens.specs.Forms.{degrees_of}
use Rattle.secondary_gens.proofs.CombinationSteps.{column_places}
use Rattle.secondary_gens.proofs.FormDegrees.{same_lengths}
use Rattle.secondary_gens.proofs.combination.eliminate_degree.Goals as goal

pub eliminate-requires-clause-places : goal.eliminate-requires-clause-places
eliminate-requires-clause-places g c =
    let S = over g.F.Field.field g.O.TermOrder.order c.args.space.now in
    let xs = vectors_of S (λ m. m) in
    let theta = c.args.theta.now in
    let secs = c.args.secs.now in
    let are : IsColumns S (xs theta) (degrees_of theta) (xs secs) (degrees_of secs) c.args.d c.as_slice.result.now =
    subst (λ l. IsColumns S (xs theta) (degrees_of theta) (xs secs) (degrees_of secs) c.args.d l) (sym c.as_slice.ensures.value) c.in_ok-columns.ensures.columns in
    column_places S (xs theta) (xs secs) (degrees_of theta) (degrees_of secs) c.args.d c.as_slice.result.now (same_lengths S secs) are
    (over g.F.Field.field (λ o. dp_order o.weights.items) c.args.marks.now) c.requires.marks

pub returns-clause-eliminated : goal.returns-clause-eliminated
returns-clause-eliminated g c =
    let S = over g.F.Field.field g.O.TermOrder.order c.args.space.now in
    let xs = vectors_of S (λ m. m) in
    let theta = c.args.theta.now in
    let secs = c.args.secs.now in
    let are : IsColumns S (xs theta) (degrees_of theta) (xs secs) (degrees_of secs) c.args.d c.as_slice.result.now =
    subst (λ l. IsColumns S (xs theta) (degrees_of theta) (xs secs) (degrees_of secs) c.args.d l) (sym c.as_slice.ensures.value) c.in_ok-columns.ensures.columns in
    record {
      columns = c.as_slice.result.now;
      are = are;
      over = c.in_ok-tracked.ensures.rows;
      echelon = c.in_ok-tracked.ensures.echelon;
      each = c.in_ok-tracked.ensures.each;
      fits = subst (λ (D : SpaceOver _). AreVectors D (λ m. m) c.in_ok-tracked.tracked.combinations.items) c.requires.marks c.in_ok-tracked.ensures.fits;
      tracked = c.in_ok-tracked.ensures.tracked (xs theta) (xs secs) are.values;
    }
