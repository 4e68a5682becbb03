use Rattle.std.proofs.Common.{subst}
use Rattle.alg_core.specs.Spaces.{over}
use Rattle.poly_module.specs.SpaceVectors.{vector_of, vectors_of}
use Rattle.module_groebner.specs.Interreductions.{IsPlaceFor}
use Rattle.module_groebner.proofs.InterreductionSteps.{inserted_from, inserted_kept, inserted_lead, inserted_nonzero, inserted_falls}
use Rattle.module_groebner.proofs.interreduction.insert_by_lead.Goals as goal

pub returns-in_ok-insert-clause-nonzero : goal.returns-in_ok-insert-clause-nonzero
returns-in_ok-insert-clause-nonzero g c =
    let S = over g.F.Field.field g.O.TermOrder.order c.args.space.now in
    inserted_nonzero S (λ m. m) _ _ c.in-Some.i c.args.v c.in_ok-insert.ensures.items c.requires.nonzero c.requires.not_zero

pub returns-in_ok-insert-clause-falling : goal.returns-in_ok-insert-clause-falling
returns-in_ok-insert-clause-falling g c =
    let S = over g.F.Field.field g.O.TermOrder.order c.args.space.now in
    inserted_falls S (λ m. m) _ _ c.in-Some.i c.args.v c.in_ok-insert.ensures.items c.requires.nonzero c.requires.not_zero c.requires.falling
    (subst (λ l. IsPlaceFor S (vectors_of S (λ m. m) l) (vector_of S (λ m. m) c.args.v) c.in-Some.i) c.deref.ensures.value c.in-Some.ensures.some)

pub returns-in_ok-insert-clause-from : goal.returns-in_ok-insert-clause-from
returns-in_ok-insert-clause-from g c =
    let S = over g.F.Field.field g.O.TermOrder.order c.args.space.now in
    inserted_from S (λ m. m) _ _ c.in-Some.i c.args.v c.in_ok-insert.ensures.items

pub returns-in_ok-insert-clause-kept : goal.returns-in_ok-insert-clause-kept
returns-in_ok-insert-clause-kept g c =
    let S = over g.F.Field.field g.O.TermOrder.order c.args.space.now in
    inserted_kept S (λ m. m) _ _ c.in-Some.i c.args.v c.in_ok-insert.ensures.items

pub returns-in_ok-insert-clause-lead : goal.returns-in_ok-insert-clause-lead
returns-in_ok-insert-clause-lead g c =
    let S = over g.F.Field.field g.O.TermOrder.order c.args.space.now in
    inserted_lead S (λ m. m) _ _ c.in-Some.i c.args.v c.in_ok-insert.ensures.items
