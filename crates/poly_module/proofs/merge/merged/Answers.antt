use Rattle.std.proofs.Common.{◌≡◌, ◌≢◌, subst, sym, ap, ◌∙◌, arith}
use Rattle.alg_core.specs.Spaces.{over, entries, Fits}
use Rattle.poly_module.specs.Signs.{with_sign, signed_entries}
use Rattle.poly_module.proofs.SignedEntries.{signed_fits}
use Rattle.poly_module.proofs.EntryLists.{entry_at}
use Rattle.poly_module.proofs.MergeSteps.{begins, first_entry, second_entry, greater_step, less_step, kept_step, gone_step, left_step, right_step, finished, ne_means, eq_means}
use Rattle.poly_module.proofs.merge.merged.Goals as goal

pub both-init : goal.both-init
both-init g c =
    let S = over g.F.Field.field g.O.TermOrder.order c.args.space.now in
    let exps = g.M.Monomial.exps in
    record {
      i_in = omega arith;
      j_in = omega arith;
      so_far = begins S exps c.args.sign _ _ _ _ _ c.new-terms.ensures.items (ap (entries exps) c.terms-xs.ensures.is) (ap (λ l. signed_entries S.field c.args.sign (entries exps l)) c.terms-ys.ensures.is) c.requires.left (signed_fits S c.args.sign _ c.requires.right);
    }

pub compare-requires-clause-left : goal.compare-requires-clause-left
compare-requires-clause-left g c =
    let S = over g.F.Field.field g.O.TermOrder.order c.args.space.now in
    (first_entry S g.M.Monomial.exps c.args.sign _ _ _ _ _ _ _ c.both-test.true c.index-xs-i.is c.both.invariant.so_far).place.fits

pub compare-requires-clause-right : goal.compare-requires-clause-right
compare-requires-clause-right g c =
    let S = over g.F.Field.field g.O.TermOrder.order c.args.space.now in
    (second_entry S g.M.Monomial.exps c.args.sign _ _ _ _ _ _ _ c.if-j-ys.true c.index-ys-j.is c.both.invariant.so_far).place.fits

pub add-c-requires-clause-left : goal.add-c-requires-clause-left
add-c-requires-clause-left g c =
    let S = over g.F.Field.field g.O.TermOrder.order c.args.space.now in
    (first_entry S g.M.Monomial.exps c.args.sign _ _ _ _ _ _ _ c.both-test.true c.index-xs-i.is c.both.invariant.so_far).has

pub both-preserved-in-Greater : goal.both-preserved-in-Greater
both-preserved-in-Greater g c =
    let S = over g.F.Field.field g.O.TermOrder.order c.args.space.now in
    record {
      i_in = omega arith;
      j_in = omega arith;
      so_far = greater_step S g.M.Monomial.exps c.args.sign _ _ _ _ _ _ _ _ _ _ _ c.both-test.true c.index-xs-i.is c.if-j-ys.true c.index-ys-j.is (sym c.compare.ensures.is ∙ c.in-Greater.is) c.in_ok-push-in-Greater.ensures.items c.in_ok-term_at-in-Greater.ensures.is c.both.invariant.so_far;
    }

pub both-preserved-in-Less : goal.both-preserved-in-Less
both-preserved-in-Less g c =
    let S = over g.F.Field.field g.O.TermOrder.order c.args.space.now in
    record {
      i_in = omega arith;
      j_in = omega arith;
      so_far = less_step S g.M.Monomial.exps c.args.sign _ _ _ _ _ _ _ _ _ _ _ c.both-test.true c.index-xs-i.is c.if-j-ys.true c.index-ys-j.is (sym c.compare.ensures.is ∙ c.in-Less.is) c.in_ok-push-in-Less.ensures.items (c.in_ok-term_at-in-Less.ensures.is ∙ ap (λ v. ((c.index-ys-j.result.at.pos, g.M.Monomial.exps c.index-ys-j.result.at.mono), v)) c.signed.ensures.is) c.both.invariant.so_far;
    }

pub both-preserved-in_ok-push-in-Equal : goal.both-preserved-in_ok-push-in-Equal
both-preserved-in_ok-push-in-Equal g c =
    let S = over g.F.Field.field g.O.TermOrder.order c.args.space.now in
    let exps = g.M.Monomial.exps in
    let x = c.index-xs-i.result in
    let nz : S.field.add x.coef (with_sign S.field c.args.sign c.index-ys-j.result.coef) ≢ S.field.zero = λ e. ne_means g.F.Elem.PartialEq.eq g.met.F.Field.exact _ _ _ c.ne.ensures c.if-ne.true (c.add-c.ensures.is ∙ ap (S.field.add x.coef) c.signed-in-Equal.ensures.is ∙ e ∙ sym c.zero.ensures.is) in
    record {
      i_in = omega arith;
      j_in = omega arith;
      so_far = kept_step S exps c.args.sign _ _ _ _ _ _ _ _ _ _ _ c.both-test.true c.index-xs-i.is c.if-j-ys.true c.index-ys-j.is (sym c.compare.ensures.is ∙ c.in-Equal.is) nz c.in_ok-push-in-Equal.ensures.items (c.in_ok-term_at-in-Equal.ensures.is ∙ ap (λ v. ((x.at.pos, exps x.at.mono), v)) (c.add-c.ensures.is ∙ ap (S.field.add x.coef) c.signed-in-Equal.ensures.is)) c.both.invariant.so_far;
    }

pub both-preserved : goal.both-preserved
both-preserved g c =
    let S = over g.F.Field.field g.O.TermOrder.order c.args.space.now in
    let z : S.field.add c.index-xs-i.result.coef (with_sign S.field c.args.sign c.index-ys-j.result.coef) ≡ S.field.zero = sym (c.add-c.ensures.is ∙ ap (S.field.add c.index-xs-i.result.coef) c.signed-in-Equal.ensures.is) ∙ eq_means g.F.Elem.PartialEq.eq g.met.F.Field.exact _ _ _ c.ne.ensures c.if-ne.false ∙ c.zero.ensures.is in
    record {
      i_in = omega arith;
      j_in = omega arith;
      so_far = gone_step S g.M.Monomial.exps c.args.sign _ _ _ _ _ _ _ _ _ c.both-test.true c.index-xs-i.is c.if-j-ys.true c.index-ys-j.is (sym c.compare.ensures.is ∙ c.in-Equal.is) z c.both.invariant.so_far;
    }

pub left-preserved : goal.left-preserved
left-preserved g c =
    let S = over g.F.Field.field g.O.TermOrder.order c.args.space.now in
    let here = c.left.invariant.alone c.left-test.true in
    record {
      i_in = omega arith;
      j_in = omega arith;
      alone = λ h. here;
      so_far = left_step S g.M.Monomial.exps c.args.sign _ _ _ _ _ c.terms-ys.result.now _ c.both.j _ _ (omega arith) c.left-test.true c.index-xs-i-in-left.is c.in_ok-push.ensures.items c.in_ok-term_at.ensures.is c.left.invariant.so_far;
    }

pub right-preserved : goal.right-preserved
right-preserved g c =
    let S = over g.F.Field.field g.O.TermOrder.order c.args.space.now in
    record {
      j_in = omega arith;
      so_far = right_step S g.M.Monomial.exps c.args.sign _ _ _ _ _ _ _ _ c.right-test.true c.index-ys-j-in-right.is c.in_ok-push-2.ensures.items (c.in_ok-term_at-2.ensures.is ∙ ap (λ v. ((c.index-ys-j-in-right.result.at.pos, g.M.Monomial.exps c.index-ys-j-in-right.result.at.mono), v)) c.signed-in-right.ensures.is) c.right.invariant.so_far;
    }

pub returns-clause-fits : goal.returns-clause-fits
returns-clause-fits g c =
    let S = over g.F.Field.field g.O.TermOrder.order c.args.space.now in
    (finished S g.M.Monomial.exps c.args.sign _ _ _ _ c.terms-ys.result.now c.right.j (omega arith) c.right.invariant.so_far c.of.ensures.is).0

pub returns-clause-sum : goal.returns-clause-sum
returns-clause-sum g c =
    let S = over g.F.Field.field g.O.TermOrder.order c.args.space.now in
    (finished S g.M.Monomial.exps c.args.sign _ _ _ _ c.terms-ys.result.now c.right.j (omega arith) c.right.invariant.so_far c.of.ensures.is).1

pub signed-requires : goal.signed-requires
signed-requires g c =
    let S = over g.F.Field.field g.O.TermOrder.order c.args.space.now in
    record { has = (entry_at S g.M.Monomial.exps _ _ _ c.if-j-ys.true c.index-ys-j.is (subst (λ l. Fits S (entries g.M.Monomial.exps l)) (sym c.terms-ys.ensures.is) c.requires.right)).has }

pub signed-requires-in-Equal : goal.signed-requires-in-Equal
signed-requires-in-Equal g c =
    let S = over g.F.Field.field g.O.TermOrder.order c.args.space.now in
    record { has = (entry_at S g.M.Monomial.exps _ _ _ c.if-j-ys.true c.index-ys-j.is (subst (λ l. Fits S (entries g.M.Monomial.exps l)) (sym c.terms-ys.ensures.is) c.requires.right)).has }

pub signed-requires-in-right : goal.signed-requires-in-right
signed-requires-in-right g c =
    let S = over g.F.Field.field g.O.TermOrder.order c.args.space.now in
    record { has = (entry_at S g.M.Monomial.exps _ _ _ c.right-test.true c.index-ys-j-in-right.is (subst (λ l. Fits S (entries g.M.Monomial.exps l)) (sym c.terms-ys.ensures.is) c.requires.right)).has }
