use Rattle.std.proofs.Common.{◌≡◌, ◌∙◌, length, sym, subst, arith}
use Rattle.std.proofs.lemmas.List.{take_all}
use Rattle.alg_core.specs.Spaces.{over}
use Rattle.poly_module.specs.SpaceVectors.{IsVectorOf, vector_of}
use Rattle.primary_module.specs.WiderTerms.{IsWiderTerm}
use Rattle.invring_app.specs.NarrowTerms.{AreNarrow}
use Rattle.primary_module.proofs.WiderLaws.{AreWider}
use Rattle.invring_app.proofs.NarrowLaws.{is_long, is_unmarked, narrower_more, narrower_poly}
use Rattle.invring_app.proofs.commands.ring.unmarked.without_marks.Goals as goal

pub narrower_term-requires-clause-long : goal.narrower_term-requires-clause-long
narrower_term-requires-clause-long g c =
    let S = over g.F.Field.field g.O.TermOrder.order c.args.space.now in
    let given = subst (AreNarrow S.field (length S.weights)) (sym c.terms-terms.ensures.is) c.requires.narrow in
    let long = is_long S c.requires.polynomials c.terms-terms.result.now given c.loop-i.i c.index-terms-i.result (omega arith) c.index-terms-i.is in
    omega arith

pub narrower_term-requires-clause-unmarked : goal.narrower_term-requires-clause-unmarked
narrower_term-requires-clause-unmarked g c =
    let S = over g.F.Field.field g.O.TermOrder.order c.args.space.now in
    let given = subst (AreNarrow S.field (length S.weights)) (sym c.terms-terms.ensures.is) c.requires.narrow in
    let low = is_unmarked S c.requires.polynomials c.terms-terms.result.now given c.loop-i.i c.index-terms-i.result (omega arith) c.index-terms-i.is in
    omega arith

pub loop-i-preserved : goal.loop-i-preserved
loop-i-preserved g c =
    let S = over g.F.Field.field g.O.TermOrder.order c.args.space.now in
    let given = subst (AreNarrow S.field (length S.weights)) (sym c.terms-terms.ensures.is) c.requires.narrow in
    let wide : c.len-variables.result ≡ length S.weights = omega arith in
    narrower_more S c.requires.polynomials c.terms-terms.result.now given c.loop-i.i c.index-terms-i.result (omega arith) c.index-terms-i.is c.loop-i.narrower.items c.push.new.self.items c.in_ok-narrower_term.field-0
    (subst (λ m. IsWiderTerm m c.index-terms-i.result c.in_ok-narrower_term.field-0) wide c.in_ok-narrower_term.ensures.is) c.in_ok-push.ensures.items c.loop-i.invariant

pub returns : goal.returns
returns g c =
    let S = over g.F.Field.field g.O.TermOrder.order c.args.space.now in
    let all = take_all c.loop-i.i c.terms-terms.result.now (omega arith) ∙ c.terms-terms.ensures.is in
    let a = subst (λ l. AreWider S l c.loop-i.narrower.items) all c.loop-i.invariant in
    record {
      same = narrower_poly S c.requires.polynomials c.args.f.now c.loop-i.narrower.items c.in_ok-made.made c.requires.narrow a
          (subst (λ l. IsVectorOf S (λ m. m) (vector_of S (λ m. m) l) c.in_ok-made.made) c.as_slice.ensures.value c.in_ok-made.ensures.sum);
    }
