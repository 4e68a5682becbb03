use Rattle.invariant_space.proofs.Common.{All, sym, subst, All-push, over, IsPoly, IsRow, IsRow_row}
use Rattle.invariant_space.proofs.RowSteps.{rows_more, rows_whole}
use Rattle.invariant_space.proofs.polynomials.polynomials.Goals as goal

pub polynomial-requires-clause-row : goal.polynomial-requires-clause-row
polynomial-requires-clause-row g c =
    let k = g.F.Field.field c.args.space.now.field in
    subst (λ n. IsRow k n c.row.result.now) c.requires.columns (IsRow_row k c.args.a.now c.loop-i.i c.row.result.now c.requires.matrix c.loop-i-test.true c.row.ensures.is)

pub loop-i-preserved : goal.loop-i-preserved
loop-i-preserved g c =
    let S = over g.F.Field.field g.O.TermOrder.order c.args.space.now in
    let is = c.in_ok-polynomial.ensures.polynomial in
    record {
      polynomials = subst (All (IsPoly S (λ m. m))) (sym c.in_ok-push.ensures.items) (All-push (IsPoly S (λ m. m)) c.loop-i.polynomials.items c.in_ok-polynomial.field-0 c.loop-i.invariant.polynomials (record { fits = is.fits; position = is.position }));
      are = rows_more S c.args.monomials.now c.args.a.now c.loop-i.i c.loop-i.polynomials.items c.push.new.self.items c.in_ok-polynomial.field-0 c.row.result.now c.loop-i-test.true c.row.ensures.is c.in_ok-push.ensures.items is c.loop-i.invariant.are;
    }

pub returns-clause-are : goal.returns-clause-are
returns-clause-are g c =
    let S = over g.F.Field.field g.O.TermOrder.order c.args.space.now in
    rows_whole S c.args.monomials.now c.args.a.now c.loop-i.i c.loop-i.polynomials.items c.loop-i-test.false c.loop-i.invariant.are
