use Rattle.std.proofs.Common.{◌≡◌, sym, subst}
use Rattle.std.specs.Prelude.{All, IfSome, IfNone}
use Rattle.std.proofs.lemmas.List.Elements.{All-push}
use Rattle.alg_core.specs.Fields.{scalar, scalars}
use Rattle.alg_core.specs.Spaces.{over}
use Rattle.alg_core.specs.Vectors.{vectors, coef_at, zero_vector}
use Rattle.poly_module.specs.SpaceVectors.{vector_of}
use Rattle.secondary_gens.specs.Eliminations.{IsRowOver, line_of}
use Rattle.secondary_gens.proofs.RowSteps.{absorbed, unchanged, reduced_at, row_fresh, row_spanned}
use Rattle.secondary_gens.proofs.elimination.absorb.Goals as goal

pub returns-in-Some-clause-rows : goal.returns-in-Some-clause-rows
returns-in-Some-clause-rows g c =
    let S = over g.F.Field.field g.O.TermOrder.order c.args.space.now in
    subst (All (IsRowOver S)) (sym c.in_ok-push-in-Some.ensures.items) (All-push (IsRowOver S) c.args.rows.now.items c.in-Some.row c.requires.rows (subst (λ o. IfSome o (λ r. IsRowOver S r.0)) c.in-Some.is c.in_ok-row.ensures.row))

pub returns-in-Some-clause-new : goal.returns-in-Some-clause-new
returns-in-Some-clause-new g c =
    let S = over g.F.Field.field g.O.TermOrder.order c.args.space.now in
    let w = c.in_ok-reduced.reduced.rest in
    absorbed S c.args.rows.now.items c.push.new.self.items c.args.v.now w c.in-Some.field-0-1 c.in-Some.row c.in_ok-reduced.reduced.factors.items
    (reduced_at S c.as_slice.result.now c.args.rows.now.items c.args.v.now w c.in_ok-reduced.reduced.factors.items c.as_slice.ensures.value c.in_ok-reduced.ensures.reduced)
    (subst (λ o. IfSome o (λ r. vector_of S (λ m. m) r.0.vector ≡ (vectors S.field).◌·◌ (scalar S.field r.1) (vector_of S (λ m. m) w))) c.in-Some.is c.in_ok-row.ensures.multiple)
    (subst (λ o. IfSome o (λ r. coef_at S.field (vector_of S (λ m. m) r.0.vector) (line_of S r.0).0 ≡ (scalars S.field).one)) c.in-Some.is c.in_ok-row.ensures.one)
    c.in_ok-push-in-Some.ensures.items

pub returns-clause-new : goal.returns-clause-new
returns-clause-new g c =
    let S = over g.F.Field.field g.O.TermOrder.order c.args.space.now in
    let w = c.in_ok-reduced.reduced.rest in
    unchanged S c.args.rows.now.items c.args.v.now w c.in_ok-reduced.reduced.factors.items
    (reduced_at S c.as_slice.result.now c.args.rows.now.items c.args.v.now w c.in_ok-reduced.reduced.factors.items c.as_slice.ensures.value c.in_ok-reduced.ensures.reduced)
    (subst (λ o. IfNone o (vector_of S (λ m. m) w ≡ zero_vector S.field)) c.in-None.is c.in_ok-row.ensures.none)

pub returns-in-Some-clause-fresh : goal.returns-in-Some-clause-fresh
returns-in-Some-clause-fresh g c = λ yes.
    let S = over g.F.Field.field g.O.TermOrder.order c.args.space.now in
    let w = c.in_ok-reduced.reduced.rest in
    row_fresh S c.args.rows.now.items c.args.v.now w c.in-Some.field-0-1 c.in-Some.row c.in_ok-reduced.reduced.factors.items
    (reduced_at S c.as_slice.result.now c.args.rows.now.items c.args.v.now w c.in_ok-reduced.reduced.factors.items c.as_slice.ensures.value c.in_ok-reduced.ensures.reduced)
    (subst (λ o. IfSome o (λ r. vector_of S (λ m. m) r.0.vector ≡ (vectors S.field).◌·◌ (scalar S.field r.1) (vector_of S (λ m. m) w))) c.in-Some.is c.in_ok-row.ensures.multiple)
    (subst (λ o. IfSome o (λ r. coef_at S.field (vector_of S (λ m. m) r.0.vector) (line_of S r.0).0 ≡ (scalars S.field).one)) c.in-Some.is c.in_ok-row.ensures.one)

pub returns-clause-spanned : goal.returns-clause-spanned
returns-clause-spanned g c = λ no.
    let S = over g.F.Field.field g.O.TermOrder.order c.args.space.now in
    let w = c.in_ok-reduced.reduced.rest in
    row_spanned S c.args.rows.now.items c.args.v.now w c.in_ok-reduced.reduced.factors.items
    (reduced_at S c.as_slice.result.now c.args.rows.now.items c.args.v.now w c.in_ok-reduced.reduced.factors.items c.as_slice.ensures.value c.in_ok-reduced.ensures.reduced)
    (subst (λ o. IfNone o (vector_of S (λ m. m) w ≡ zero_vector S.field)) c.in-None.is c.in_ok-row.ensures.none)
