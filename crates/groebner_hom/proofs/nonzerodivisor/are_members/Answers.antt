use Rattle.std.proofs.Common.{ℕ, List, refl, subst, arith}
use Rattle.std.specs.Prelude.{All}
use Rattle.std.proofs.lemmas.List.{take_all}
use Rattle.std.proofs.lemmas.List.Elements.{All-more}
use Rattle.alg_core.specs.declared.term.Term.{Term}
use Rattle.alg_core.specs.Spaces.{over}
use Rattle.poly_module.specs.SpaceVectors.{vector_of, vectors_of}
use Rattle.module_groebner.specs.HomogeneousLists.{degree_limit}
use Rattle.finite_certificate.specs.Ideals.{InIdeal}
use Rattle.groebner_hom.proofs.NonzerodivisorSteps.{member_small, one_outside}
use Rattle.groebner_hom.proofs.PolynomialLists.{all_map}
use Rattle.groebner_hom.proofs.SecondParts.{not_true}
use Rattle.groebner_hom.proofs.nonzerodivisor.are_members.Goals as goal

pub member-requires-clause-degree : goal.member-requires-clause-degree
member-requires-clause-degree g c =
    let S = over g.F.Field.field g.O.TermOrder.order c.args.space.now in
    member_small S (vectors_of S (λ m. m) c.args.basis.now) c.args.list.now degree_limit c.loop-i.i c.index-list-i.result c.loop-i-test.true c.index-list-i.is c.requires.degrees

pub returns-then-not-branch : goal.returns-then-not-branch
returns-then-not-branch g c =
    let S = over g.F.Field.field g.O.TermOrder.order c.args.space.now in
    record {
      exact = (
        λ e. absurd (not_true _ refl e),
        λ all. absurd (one_outside S (vectors_of S (λ m. m) c.args.basis.now) c.args.list.now c.loop-i.i c.index-list-i.result c.loop-i-test.true c.index-list-i.is
            (λ i. not_true c.in_ok-member.field-0 c.if-not-branch.true (c.in_ok-member.ensures.exact.1 i)) all),
      );
    }

pub loop-i-preserved : goal.loop-i-preserved
loop-i-preserved g c =
    let S = over g.F.Field.field g.O.TermOrder.order c.args.space.now in
    let P : List (Term g.row.F-Elem.Denot (List ℕ)) → Type 0 = λ p. InIdeal S.field (vectors_of S (λ m. m) c.args.basis.now) (vector_of S (λ m. m) p) in
    All-more P c.args.list.now c.loop-i.i c.index-list-i.result c.loop-i-test.true c.loop-i.invariant (subst P c.index-list-i.is (c.in_ok-member.ensures.exact.0 c.if-not-branch.false))

pub returns : goal.returns
returns g c =
    let S = over g.F.Field.field g.O.TermOrder.order c.args.space.now in
    let I = InIdeal S.field (vectors_of S (λ m. m) c.args.basis.now) in
    let P : List (Term g.row.F-Elem.Denot (List ℕ)) → Type 0 = λ p. I (vector_of S (λ m. m) p) in
    record { exact = (λ _. all_map P I (vector_of S (λ m. m)) (λ p h. h) c.args.list.now (subst (All P) (take_all c.loop-i.i c.args.list.now (omega arith)) c.loop-i.invariant), λ _. refl) }
