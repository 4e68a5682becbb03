use Rattle.std.proofs.Common.{◌+◌, map, sym, subst, arith}
use Rattle.alg_core.specs.Spaces.{over}
use Rattle.poly_module.specs.Forms.{IsForm}
use Rattle.poly_module.specs.SpaceVectors.{vector_of, vectors_of, IsPoly}
use Rattle.secondary_gens.specs.Columns.{IsColumns}
use Rattle.secondary_gens.specs.Eliminations.{IsEchelonOf, lines_of}
use Rattle.secondary_gens.specs.Forms.{degrees_of, unit_weights}
use Rattle.secondary_gens.proofs.KeepSteps.{Keeping, keeping_none, keeping_same, keeping_more, keeping_all}
use Rattle.secondary_gens.proofs.keeping.keep.Goals as goal
use Rattle.secondary_gens.proofs.keeping.keep.Goals.{then-fresh+in_ok-copied+in_ok-push, else-fresh}

pub loop-i-init : goal.loop-i-init
loop-i-init g c =
    let S = over g.F.Field.field g.O.TermOrder.order c.args.space.now in
    let xs = vectors_of S (λ m. m) in
    let theta = c.args.theta.now in
    let columns = c.in_ok-columns.columns.items in
    let rows = c.in_ok-rows.rows.items in
    let are : IsColumns S (xs theta) (degrees_of theta) (xs c.args.kept.now.items) (degrees_of c.args.kept.now.items) c.args.d columns =
    subst (λ l. IsColumns S (xs theta) (degrees_of theta) (xs l) (degrees_of l) c.args.d columns) c.as_slice-2.ensures.value c.in_ok-columns.ensures.columns in
    let echelon : IsEchelonOf S.field (map (λ a. vector_of S (λ m. m) a.value) columns) (lines_of S rows) =
    subst (λ l. IsEchelonOf S.field (map (λ a. vector_of S (λ m. m) a.value) l) (lines_of S rows)) c.as_slice-4.ensures.value c.in_ok-rows.ensures.echelon in
    keeping_none S theta c.args.kept.now.items c.args.candidates.now c.args.d columns rows c.requires.kept c.in_ok-rows.ensures.rows are echelon

pub loop-i-preserved : goal.loop-i-preserved
loop-i-preserved g c =
    let S = over g.F.Field.field g.O.TermOrder.order c.args.space.now in
    let theta = c.args.theta.now in
    let start = c.args.kept.now.items in
    let candidates = c.args.candidates.now in
    let d = c.args.d in
    let i = c.loop-i.i in
    let p = c.index-candidates-i.result in
    let inside = c.loop-i-test.true in
    elim c.if-fresh.branch [
      | then-fresh+in_ok-copied+in_ok-push w ↦
          subst (λ l. Keeping S theta start candidates d (i + 1) c.absorb.new.rows.items l.items) (sym w.kept-is)
          (keeping_more S theta start candidates d i c.loop-i.rows.items c.loop-i.kept.items c.requires.primaries c.loop-i.invariant p inside c.index-candidates-i.is c.requires.degree
          (subst (IsPoly S (λ m. m)) (sym c.index-candidates-i.is) (c.requires.candidates i p inside)) (subst (λ q. IsForm S.field (unit_weights S) d (vector_of S (λ m. m) q)) (sym c.index-candidates-i.is) (c.requires.forms i p inside))
          c.absorb.new.rows.items c.in_ok-fresh.ensures.rows (λ vs e. c.in_ok-fresh.ensures.fresh w.if-fresh.true vs e) (λ vs e. c.in_ok-fresh.ensures.new vs e)
          w.in_ok-copied.copied w.in_ok-copied.ensures.same w.push.new.self.items w.in_ok-push.ensures.items)
      | else-fresh w ↦
          subst (λ l. Keeping S theta start candidates d (i + 1) c.absorb.new.rows.items l.items) (sym w.kept-is)
          (keeping_same S theta start candidates d i c.loop-i.rows.items c.loop-i.kept.items c.requires.primaries c.loop-i.invariant p inside c.index-candidates-i.is
          c.absorb.new.rows.items (c.in_ok-fresh.ensures.same w.if-fresh.false) (λ vs e. c.in_ok-fresh.ensures.spanned w.if-fresh.false vs e))
    ]

pub returns-clause-kept : goal.returns-clause-kept
returns-clause-kept g c =
    keeping_all (over g.F.Field.field g.O.TermOrder.order c.args.space.now) c.args.theta.now c.args.kept.now.items c.args.candidates.now c.args.d c.loop-i.i c.loop-i.rows.items c.loop-i.kept.items (omega (arith, c.loop-i-test.false)) c.loop-i.invariant
