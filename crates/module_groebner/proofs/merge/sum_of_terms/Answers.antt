use Rattle.std.proofs.Common.{◌≡◌, ◌≢◌, sym, ap, ◌∙◌, refl, arith}
use Rattle.alg_core.specs.Spaces.{over}
use Rattle.poly_module.proofs.EntryLists.{entry_at}
use Rattle.poly_module.proofs.MergeSteps.{ne_means, eq_means}
use Rattle.module_groebner.proofs.MergeSteps.{begins, greater_step, less_step, kept_step, gone_step, left_step, right_step, finished}
use Rattle.module_groebner.proofs.merge.sum_of_terms.Goals as goal

pub both-init : goal.both-init
both-init g c =
    let S = over g.F.Field.field g.O.TermOrder.order c.args.space.now in
    let exps = g.M.Monomial.exps in
    record {
      i_in = omega arith;
      j_in = omega arith;
      so_far = begins S exps _ _ _ _ _ c.new-terms.ensures.items refl refl c.requires.left c.requires.right;
    }

pub compare-requires-clause-left : goal.compare-requires-clause-left
compare-requires-clause-left g c =
    let S = over g.F.Field.field g.O.TermOrder.order c.args.space.now in
    (entry_at S g.M.Monomial.exps _ _ _ c.both-test.true c.index-xs-i.is c.requires.left).place.fits

pub compare-requires-clause-right : goal.compare-requires-clause-right
compare-requires-clause-right g c =
    let S = over g.F.Field.field g.O.TermOrder.order c.args.space.now in
    (entry_at S g.M.Monomial.exps _ _ _ c.if-j-ys.true c.index-ys-j.is c.requires.right).place.fits

pub add-coef-requires-clause-left : goal.add-coef-requires-clause-left
add-coef-requires-clause-left g c =
    let S = over g.F.Field.field g.O.TermOrder.order c.args.space.now in
    (entry_at S g.M.Monomial.exps _ _ _ c.both-test.true c.index-xs-i.is c.requires.left).has

pub add-coef-requires-clause-right : goal.add-coef-requires-clause-right
add-coef-requires-clause-right g c =
    let S = over g.F.Field.field g.O.TermOrder.order c.args.space.now in
    (entry_at S g.M.Monomial.exps _ _ _ c.if-j-ys.true c.index-ys-j.is c.requires.right).has

pub both-preserved-in-Greater : goal.both-preserved-in-Greater
both-preserved-in-Greater g c =
    let S = over g.F.Field.field g.O.TermOrder.order c.args.space.now in
    record {
      i_in = omega arith;
      j_in = omega arith;
      so_far = greater_step S g.M.Monomial.exps _ _ _ _ _ _ _ _ _ _ _ c.both-test.true c.index-xs-i.is c.if-j-ys.true c.index-ys-j.is (sym c.compare.ensures.is ∙ c.in-Greater.is) c.in_ok-push-in-Greater.ensures.items c.in_ok-copy-in-Greater.ensures.is c.both.invariant.so_far;
    }

pub both-preserved-in-Less : goal.both-preserved-in-Less
both-preserved-in-Less g c =
    let S = over g.F.Field.field g.O.TermOrder.order c.args.space.now in
    record {
      i_in = omega arith;
      j_in = omega arith;
      so_far = less_step S g.M.Monomial.exps _ _ _ _ _ _ _ _ _ _ _ c.both-test.true c.index-xs-i.is c.if-j-ys.true c.index-ys-j.is (sym c.compare.ensures.is ∙ c.in-Less.is) c.in_ok-push-in-Less.ensures.items c.in_ok-copy-in-Less.ensures.is c.both.invariant.so_far;
    }

pub both-preserved-in_ok-push-in-Equal : goal.both-preserved-in_ok-push-in-Equal
both-preserved-in_ok-push-in-Equal g c =
    let S = over g.F.Field.field g.O.TermOrder.order c.args.space.now in
    let exps = g.M.Monomial.exps in
    let nz : S.field.add c.index-xs-i.result.coef c.index-ys-j.result.coef ≢ S.field.zero = λ e. ne_means g.F.Elem.PartialEq.eq g.met.F.Field.exact _ _ _ c.ne.ensures c.if-ne.true (c.add-coef.ensures.is ∙ e ∙ sym c.zero.ensures.is) in
    record {
      i_in = omega arith;
      j_in = omega arith;
      so_far = kept_step S exps _ _ _ _ _ _ _ _ _ _ _ c.both-test.true c.index-xs-i.is c.if-j-ys.true c.index-ys-j.is (sym c.compare.ensures.is ∙ c.in-Equal.is) nz c.in_ok-push-in-Equal.ensures.items (ap (λ p. (p, c.add-coef.result)) c.in_ok-at-in-Equal.ensures.is ∙ ap (λ v. ((c.index-xs-i.result.at.pos, exps c.index-xs-i.result.at.mono), v)) c.add-coef.ensures.is) c.both.invariant.so_far;
    }

pub both-preserved : goal.both-preserved
both-preserved g c =
    let S = over g.F.Field.field g.O.TermOrder.order c.args.space.now in
    let z : S.field.add c.index-xs-i.result.coef c.index-ys-j.result.coef ≡ S.field.zero = sym c.add-coef.ensures.is ∙ eq_means g.F.Elem.PartialEq.eq g.met.F.Field.exact _ _ _ c.ne.ensures c.if-ne.false ∙ c.zero.ensures.is in
    record {
      i_in = omega arith;
      j_in = omega arith;
      so_far = gone_step S g.M.Monomial.exps _ _ _ _ _ _ _ _ _ c.both-test.true c.index-xs-i.is c.if-j-ys.true c.index-ys-j.is (sym c.compare.ensures.is ∙ c.in-Equal.is) z c.both.invariant.so_far;
    }

pub left-preserved : goal.left-preserved
left-preserved g c =
    let S = over g.F.Field.field g.O.TermOrder.order c.args.space.now in
    let here = c.left.invariant.alone c.left-test.true in
    record {
      i_in = omega arith;
      j_in = omega arith;
      alone = λ h. here;
      so_far = left_step S g.M.Monomial.exps _ _ _ _ _ c.args.ys.now _ c.both.j _ _ (omega arith) c.left-test.true c.index-xs-i-in-left.is c.in_ok-push.ensures.items c.in_ok-copy.ensures.is c.left.invariant.so_far;
    }

pub right-preserved : goal.right-preserved
right-preserved g c =
    let S = over g.F.Field.field g.O.TermOrder.order c.args.space.now in
    record {
      j_in = omega arith;
      so_far = right_step S g.M.Monomial.exps _ _ _ _ _ _ _ _ c.right-test.true c.index-ys-j-in-right.is c.in_ok-push-2.ensures.items c.in_ok-copy-2.ensures.is c.right.invariant.so_far;
    }

pub returns-clause-fits : goal.returns-clause-fits
returns-clause-fits g c =
    let S = over g.F.Field.field g.O.TermOrder.order c.args.space.now in
    (finished S g.M.Monomial.exps _ _ _ _ c.args.ys.now c.right.j (omega arith) c.right.invariant.so_far refl).0

pub returns-clause-sum : goal.returns-clause-sum
returns-clause-sum g c =
    let S = over g.F.Field.field g.O.TermOrder.order c.args.space.now in
    let exps = g.M.Monomial.exps in
    (finished S exps _ _ _ _ c.args.ys.now c.right.j (omega arith) c.right.invariant.so_far refl).1
