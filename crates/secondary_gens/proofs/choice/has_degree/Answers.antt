use Rattle.std.proofs.Common.{inl, inr, arith, rules}
use Rattle.secondary_gens.proofs.CombinationSteps.{nothing_left, something_left}
use Rattle.secondary_gens.proofs.DegreeSearch.{degree_found, degree_more}
use Rattle.secondary_gens.proofs.choice.has_degree.Goals as goal
use Rattle.secondary_gens.proofs.choice.has_degree.Goals.{then-not-is_empty+else-degree-d, else-not-is_empty}

pub returns-then-degree-d : goal.returns-then-degree-d
returns-then-degree-d g c =
    let p = c.index-ps-i.result in
    let found = degree_found c.args.ps.now c.loop-i.i p c.loop-i-test.true c.index-ps-i.is c.args.d (something_left c.terms.result.now p c.is_empty.result c.terms.ensures.is c.is_empty.ensures c.if-not-is_empty.true)
    (omega (arith, c.degree.ensures.is, c.if-degree-d.true)) in
    record { exact = (λ t. found, λ h. search rules) }

pub loop-i-preserved : goal.loop-i-preserved
loop-i-preserved g c =
    let ps = c.args.ps.now in
    let i = c.loop-i.i in
    let p = c.index-ps-i.result in
    elim c.if-not-is_empty.branch [
      | then-not-is_empty+else-degree-d w ↦ record { none = degree_more ps i p c.loop-i-test.true c.index-ps-i.is c.args.d (inr (λ e. omega (arith, w.degree.ensures.is, w.if-degree-d.false))) c.loop-i.invariant.none }
      | else-not-is_empty w ↦ record {
        none = degree_more ps i p c.loop-i-test.true c.index-ps-i.is c.args.d
            (inl (nothing_left c.terms.result.now p c.is_empty.result c.terms.ensures.is c.is_empty.ensures w.if-not-is_empty.false)) c.loop-i.invariant.none;
      }
    ]
