use Rattle.invariant_space.proofs.Common.{◌≡◌, ◌+◌, ℕ, suc, subst, arith, over, IsLevel}
use Rattle.invariant_space.proofs.images.level_of_degree.Goals as goal

pub next_level-requires-clause-level : goal.next_level-requires-clause-level
next_level-requires-clause-level g c = (c.loop-below._below, omega (arith, c.requires.degree, c.loop-below-test.true), c.loop-below.invariant)

pub loop-below-preserved : goal.loop-below-preserved
loop-below-preserved g c =
    let next : suc c.loop-below._below ≡ c.loop-below._below + 1 = omega arith in
    subst (λ (d : ℕ). IsLevel (over g.F.Field.field g.O.TermOrder.order c.args.space.now) c.args.gens.now d c.in_ok-level-2.level) next (c.in_ok-level-2.ensures.level c.loop-below._below c.loop-below.invariant)

pub returns : goal.returns
returns g c =
    let all : c.loop-below._below ≡ c.args.d = omega (arith, c.loop-below-test.false, c.loop-below.auto._below-end) in
    record { level = subst (λ (d : ℕ). IsLevel (over g.F.Field.field g.O.TermOrder.order c.args.space.now) c.args.gens.now d c.loop-below.level) all c.loop-below.invariant }
