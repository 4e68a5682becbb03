use Rattle.std.proofs.Common.{◌≡◌, ◌+◌, sym, subst, arith}
use Rattle.std.specs.Prelude.{IfNone, IfSome}
use Rattle.std.proofs.lemmas.List.Elements.{All-push}
use Rattle.alg_core.specs.DpOrder.{dp_order}
use Rattle.alg_core.specs.Fields.{scalar, scalars}
use Rattle.alg_core.specs.Keys.{key}
use Rattle.alg_core.specs.Spaces.{over, place}
use Rattle.alg_core.specs.Vectors.{vectors, coef_at, zero_vector}
use Rattle.poly_module.specs.SpaceVectors.{vector_of, IsVector, AreVectors}
use Rattle.secondary_gens.specs.Eliminations.{IsRowOver, line_of}
use Rattle.secondary_gens.proofs.CombinationSteps.{over_field}
use Rattle.secondary_gens.proofs.RowSteps.{reduced_at}
use Rattle.secondary_gens.proofs.TrackedSteps.{Tracking, tracking_more, tracking_same, tracking_all}
use Rattle.secondary_gens.proofs.combination.eliminate.Goals as goal
use Rattle.secondary_gens.proofs.combination.eliminate.Goals.{in-Some+in_ok-own-in-Some+in_ok-push-in-Some+in_ok-push-in-Some-2, in-None}

pub loop-i-preserved : goal.loop-i-preserved
loop-i-preserved g c =
    let S = over g.F.Field.field g.O.TermOrder.order c.args.space.now in
    let C = over g.F.Field.field (λ o. dp_order o.weights.items) c.args.marks.now in
    let columns = c.args.columns.now in
    let i = c.loop-i.i in
    let a = c.index-columns-i.result in
    let w = c.in_ok-reduced.reduced.rest in
    let fs = c.in_ok-reduced.reduced.factors.items in
    let rows = c.loop-i.rows.items in
    let combinations = c.loop-i.combinations.items in
    let r = reduced_at S c.as_slice.result.now rows a.value w fs c.as_slice.ensures.value c.in_ok-reduced.ensures.reduced in
    elim c.match-branch-3.branch [
      | in-Some+in_ok-own-in-Some+in_ok-push-in-Some+in_ok-push-in-Some-2 v ↦
          record {
            tracking = subst (λ l. Tracking S columns (i + 1) l.items c.match-branch-3.combinations.items) (sym v.rows-is)
                (subst (λ l. Tracking S columns (i + 1) v.push.new.self.items l.items) (sym v.combinations-is)
                (tracking_more S columns i a c.loop-i-test.true c.index-columns-i.is rows combinations c.loop-i.invariant.tracking w fs r
                v.push.new.self.items v.in-Some.row v.in-Some.factor v.push-in-Some.new.self.items v.in_ok-own-in-Some.own v.in_ok-push-in-Some.ensures.items v.in_ok-push-in-Some-2.ensures.items
                (subst (λ o. IfSome o (λ r. IsRowOver S r.0)) v.in-Some.is c.in_ok-row.ensures.row)
                (subst (λ o. IfSome o (λ r. vector_of S (λ m. m) r.0.vector ≡ (vectors S.field).◌·◌ (scalar S.field r.1) (vector_of S (λ m. m) w))) v.in-Some.is c.in_ok-row.ensures.multiple)
                (subst (λ o. IfSome o (λ r. coef_at S.field (vector_of S (λ m. m) r.0.vector) (line_of S r.0).0 ≡ (scalars S.field).one)) v.in-Some.is c.in_ok-row.ensures.one)
                (over_field C.field S.field c.requires.field v.in-Some.factor (key (place (λ m. m) a.at)) v.as_slice-factors.result.now fs v.in_ok-own-in-Some.own v.deref.result.now combinations
                v.as_slice-factors.ensures.value v.deref.ensures.value v.in_ok-own-in-Some.ensures.is)));
            fits = subst (λ l. AreVectors C (λ m. m) l.items) (sym v.combinations-is) (subst (AreVectors C (λ m. m)) (sym v.in_ok-push-in-Some-2.ensures.items)
                (All-push (IsVector C (λ m. m)) combinations v.in_ok-own-in-Some.own c.loop-i.invariant.fits v.in_ok-own-in-Some.ensures.fits));
          }
      | in-None v ↦
          record {
            tracking = subst (λ l. Tracking S columns (i + 1) l.items c.match-branch-3.combinations.items) (sym v.rows-is)
                (subst (λ l. Tracking S columns (i + 1) rows l.items) (sym v.combinations-is)
                (tracking_same S columns i a c.loop-i-test.true c.index-columns-i.is rows combinations c.loop-i.invariant.tracking w fs r
                (subst (λ o. IfNone o (vector_of S (λ m. m) w ≡ zero_vector S.field)) v.in-None.is c.in_ok-row.ensures.none)));
            fits = subst (λ l. AreVectors C (λ m. m) l.items) (sym v.combinations-is) c.loop-i.invariant.fits;
          }
    ]

pub returns-clause-echelon : goal.returns-clause-echelon
returns-clause-echelon g c =
    tracking_all (over g.F.Field.field g.O.TermOrder.order c.args.space.now) c.args.columns.now c.loop-i.i c.loop-i.rows.items c.loop-i.combinations.items (omega (arith, c.loop-i-test.false)) c.loop-i.invariant.tracking
