use Rattle.std.proofs.Common.{sym, subst, arith}
use Rattle.alg_core.specs.Spaces.{over}
use Rattle.secondary_gens.specs.Forms.{IsSmallForm}
use Rattle.secondary_gens.proofs.DegreeSearch.{greatest_more, greatest_all}
use Rattle.secondary_gens.proofs.choice.greatest_degree.Goals as goal
use Rattle.secondary_gens.proofs.choice.greatest_degree.Goals.{then-d-greatest, else-d-greatest}

pub loop-i-preserved : goal.loop-i-preserved
loop-i-preserved g c =
    let S = over g.F.Field.field g.O.TermOrder.order c.args.space.now in
    let ps = c.args.ps.now in
    let i = c.loop-i.i in
    let p = c.index-ps-i.result in
    let small = (subst (IsSmallForm S) (sym c.index-ps-i.is) (c.requires.forms i p c.loop-i-test.true)).small in
    let is = c.degree-d.ensures.is in
    elim c.if-d-greatest.branch [
      | then-d-greatest w ↦ record {
        all = greatest_more ps i p c.loop-i-test.true c.index-ps-i.is c.loop-i.greatest c.if-d-greatest.greatest c.loop-i.invariant.all (omega (arith, w.if-d-greatest.true, w.greatest-is)) (omega (arith, w.greatest-is, is));
        small = omega (arith, w.greatest-is, is, small);
      }
      | else-d-greatest w ↦ record {
        all = greatest_more ps i p c.loop-i-test.true c.index-ps-i.is c.loop-i.greatest c.if-d-greatest.greatest c.loop-i.invariant.all (omega (arith, w.greatest-is)) (omega (arith, w.if-d-greatest.false, w.greatest-is, is));
        small = omega (arith, w.greatest-is, c.loop-i.invariant.small);
      }
    ]

pub returns-clause-all : goal.returns-clause-all
returns-clause-all g c = greatest_all c.args.ps.now c.loop-i.i c.loop-i.greatest (omega (arith, c.loop-i-test.false)) c.loop-i.invariant.all
