use Rattle.std.proofs.Common.{◌+◌, map, subst, sym, arith}
use Rattle.std.specs.Prelude.{All}
use Rattle.alg_core.specs.Spaces.{over}
use Rattle.poly_module.specs.SpaceVectors.{vectors_of}
use Rattle.secondary_gens.specs.Columns.{AreLevels}
use Rattle.secondary_gens.specs.Eliminations.{lines_of}
use Rattle.secondary_gens.specs.Forms.{degrees_of, IsPositiveForm}
use Rattle.irreducible_gens.specs.Algebras.{IsAlgebraEchelon}
use Rattle.irreducible_gens.proofs.ChoiceSteps.{Choosing, choosing_positive, choosing_none, choosing_skip, choosing_keep, choosing_all, choosing_within, choosing_irreducible, no_levels, copies_alone}
use Rattle.irreducible_gens.proofs.choice.choose.Goals as goal
use Rattle.irreducible_gens.proofs.choice.choose.Goals.{then-fresh+in_ok-copied+in_ok-push+in_ok-push-2, else-fresh}

pub rows_in_degree-requires-clause-generators : goal.rows_in_degree-requires-clause-generators
rows_in_degree-requires-clause-generators g c =
    let S = over g.F.Field.field g.O.TermOrder.order c.args.space.now in
    let generators = c.push_copies.new.copies.items in
    subst (All (IsPositiveForm S)) (sym c.as_slice.ensures.value) (choosing_positive S c.args.theta.now c.args.secs.now generators
    (copies_alone S generators c.new-generators.result.items c.args.theta.now c.in_ok-push_copies.ensures.copies c.new-generators.ensures.items) c.requires.primaries)

pub loop-i-init : goal.loop-i-init
loop-i-init g c =
    let S = over g.F.Field.field g.O.TermOrder.order c.args.space.now in
    let xs = vectors_of S (λ m. m) in
    let generators = c.push_copies.new.copies.items in
    let rows = c.in_ok-rows.rows.items in
    record {
      choosing = choosing_none S c.args.theta.now c.args.secs.now generators rows c.new-places.result.items
          (copies_alone S generators c.new-generators.result.items c.args.theta.now c.in_ok-push_copies.ensures.copies c.new-generators.ensures.items) c.requires.primaries c.in_ok-rows.ensures.rows
          (subst (λ l. IsAlgebraEchelon S (xs l) 0 (lines_of S rows)) c.as_slice.ensures.value c.in_ok-rows.ensures.exact) c.new-places.ensures.items;
      levels = subst (λ l. AreLevels S (xs l) (degrees_of l) (map (λ v. v.items) c.rows_in_degree.new.levels.items)) c.as_slice.ensures.value c.in_ok-rows.ensures.levels;
    }

pub loop-i-preserved : goal.loop-i-preserved
loop-i-preserved g c =
    let S = over g.F.Field.field g.O.TermOrder.order c.args.space.now in
    let xs = vectors_of S (λ m. m) in
    let theta = c.args.theta.now in
    let secs = c.args.secs.now in
    let i = c.loop-i.i in
    let e = c.degree-e.result in
    let generators = c.loop-i.generators.items in
    let places = c.loop-i.places.items in
    let p = c.index-secs-i.result in
    let at = c.in_ok-rows-2.rows.items in
    let new = c.absorb.new.rows.items in
    let echelon : IsAlgebraEchelon S (xs generators) e (lines_of S at) = subst (λ l. IsAlgebraEchelon S (xs l) e (lines_of S at)) c.as_slice-in-loop-i.ensures.value c.in_ok-rows-2.ensures.exact in
    elim c.if-fresh.branch [
      | then-fresh+in_ok-copied+in_ok-push+in_ok-push-2 w ↦ record {
        choosing = subst (λ l. Choosing S theta secs (i + 1) e l.items new c.if-fresh.places.items) (sym w.generators-is)
            (subst (λ l. Choosing S theta secs (i + 1) e w.push.new.self.items new l.items) (sym w.places-is)
            (choosing_keep S theta secs i c.loop-i.d generators c.loop-i.rows.items places c.loop-i.invariant.choosing p c.loop-i-test.true c.index-secs-i.is e at echelon c.degree-e.ensures.is c.requires.secondaries
            new c.in_ok-fresh.ensures.rows (λ vs h. c.in_ok-fresh.ensures.fresh w.if-fresh.true vs h) (λ vs h. c.in_ok-fresh.ensures.new vs h)
            w.in_ok-copied.copied w.in_ok-copied.ensures.same w.push.new.self.items w.in_ok-push.ensures.items w.push-then-fresh.new.self.items w.in_ok-push-2.ensures.items));
        levels = subst (λ l. AreLevels S (xs c.if-fresh.generators.items) (degrees_of c.if-fresh.generators.items) (map (λ v. v.items) l.items)) (sym w.levels-is)
            (no_levels S (xs c.if-fresh.generators.items) (degrees_of c.if-fresh.generators.items) (λ v. v.items) w.new-levels-then-fresh.result.items w.new-levels-then-fresh.ensures.items);
      }
      | else-fresh w ↦ record {
        choosing = subst (λ l. Choosing S theta secs (i + 1) e l.items new c.if-fresh.places.items) (sym w.generators-is)
            (subst (λ l. Choosing S theta secs (i + 1) e generators new l.items) (sym w.places-is)
            (choosing_skip S theta secs i c.loop-i.d generators c.loop-i.rows.items places c.loop-i.invariant.choosing p c.loop-i-test.true c.index-secs-i.is e at echelon
            new (c.in_ok-fresh.ensures.same w.if-fresh.false) c.in_ok-fresh.ensures.rows (λ vs h. c.in_ok-fresh.ensures.spanned w.if-fresh.false vs h)));
        levels = subst (λ l. AreLevels S (xs l.items) (degrees_of l.items) (map (λ v. v.items) c.if-fresh.levels.items)) (sym w.generators-is)
            (subst (λ l. AreLevels S (xs generators) (degrees_of generators) (map (λ v. v.items) l.items)) (sym w.levels-is)
            (subst (λ l. AreLevels S (xs l) (degrees_of l) (map (λ v. v.items) c.rows_at.new.levels.items)) c.as_slice-in-loop-i.ensures.value c.in_ok-rows-2.ensures.levels));
      }
    ]

pub returns-clause-places : goal.returns-clause-places
returns-clause-places g c =
    let S = over g.F.Field.field g.O.TermOrder.order c.args.space.now in
    choosing_all S c.args.theta.now c.args.secs.now c.loop-i.i c.loop-i.d c.loop-i.generators.items c.loop-i.rows.items c.loop-i.places.items (omega (arith, c.loop-i-test.false)) c.loop-i.invariant.choosing

pub returns-clause-within : goal.returns-clause-within
returns-clause-within g c =
    let S = over g.F.Field.field g.O.TermOrder.order c.args.space.now in
    choosing_within S c.args.theta.now c.args.secs.now c.loop-i.i c.loop-i.d c.loop-i.generators.items c.loop-i.rows.items c.loop-i.places.items (omega (arith, c.loop-i-test.false)) c.loop-i.invariant.choosing

pub returns-clause-irreducible : goal.returns-clause-irreducible
returns-clause-irreducible g c =
    let S = over g.F.Field.field g.O.TermOrder.order c.args.space.now in
    choosing_irreducible S c.args.theta.now c.args.secs.now c.loop-i.i c.loop-i.d c.loop-i.generators.items c.loop-i.rows.items c.loop-i.places.items (omega (arith, c.loop-i-test.false)) c.loop-i.invariant.choosing
    c.requires.primaries c.requires.secondaries c.requires.rise
