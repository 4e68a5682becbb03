use Rattle.std.proofs.Common.{◌≡◌, ◌<◌, get_or, length, map, subst, arith}
use Rattle.std.specs.Prelude.{IfSome}
use Rattle.alg_core.specs.Spaces.{over}
use Rattle.secondary_gens.proofs.CombinedSteps.{eliminated_pushed, pushed_inside, pushed_degree}
use Rattle.secondary_gens.proofs.combinations.place_of_degree.Goals as goal

pub returns-in-Some-clause-within : goal.returns-in-Some-clause-within
returns-in-Some-clause-within g c =
    subst (λ l. c.in-Some.i < length l) c.as_slice.ensures.value (subst (λ o. IfSome o (λ i. i < length c.as_slice.result.now)) c.in-Some.is c.place_of.ensures.within)

pub returns-in-Some-clause-degree : goal.returns-in-Some-clause-degree
returns-in-Some-clause-degree g c =
    subst (λ l. get_or (map (λ s. s.degree) l) c.in-Some.i 0 ≡ c.args.d) c.as_slice.ensures.value
    (subst (λ o. IfSome o (λ i. get_or (map (λ s. s.degree) c.as_slice.result.now) i 0 ≡ c.args.d)) c.in-Some.is c.place_of.ensures.degree)

pub returns-in_ok-push-in-None-clause-solved : goal.returns-in_ok-push-in-None-clause-solved
returns-in_ok-push-in-None-clause-solved g c =
    let S = over g.F.Field.field g.O.TermOrder.order c.args.space.now in
    eliminated_pushed S c.args.theta.now c.args.secs.now (λ s. s.degree) (λ s. s.tracked.rows.items) (λ s. s.tracked.combinations.items) c.args.solved.now.items c.push.new.self.items _
    c.in_ok-push-in-None.ensures.items c.requires.solved c.in_ok-tracked-in-None.ensures.eliminated

pub returns-in_ok-push-in-None-clause-within : goal.returns-in_ok-push-in-None-clause-within
returns-in_ok-push-in-None-clause-within g c = pushed_inside c.args.solved.now.items c.push.new.self.items _ c.len-place.result c.in_ok-push-in-None.ensures.items (omega arith)

pub returns-in_ok-push-in-None-clause-degree : goal.returns-in_ok-push-in-None-clause-degree
returns-in_ok-push-in-None-clause-degree g c = pushed_degree (λ s. s.degree) c.args.solved.now.items c.push.new.self.items _ c.len-place.result c.in_ok-push-in-None.ensures.items (omega arith)
