use Rattle.std.proofs.Common.{ℕ, ◌+◌, length, refl, sym, ap, subst, ◌∙◌, arith}
use Rattle.std.specs.List.{range_with_len}
use Rattle.std.proofs.lemmas.Iterator.{YieldsList-from_range}
use Rattle.itertools.specs.Pool.{combination_can, combination_left}
use Rattle.alg_core.specs.Spaces.{over}
use Rattle.poly_module.specs.SpaceVectors.{vectors_of}
use Rattle.module_groebner.proofs.BasisLaws.{bad_pair}
use Rattle.module_groebner.proofs.CriterionSteps.{none_exact, some_exact, true_of, all_treated}
use Rattle.module_groebner.proofs.PairSearch.{choices, PairsLeft, whole_run, pairs_start, pair_step, pairs_end}
use Rattle.module_groebner.proofs.criterion.first_bad_pair.Goals as goal

pub loop-pair-init : goal.loop-pair-init
loop-pair-init g c =
    let S = over g.F.Field.field g.O.TermOrder.order c.args.space.now in
    let n = length c.args.list.now in
    let pool = whole_run _ (range_with_len 0 n) (YieldsList-from_range 0 n n refl (omega arith)) c.in_ok-pair-items.ensures.pool in
    let all = c.in_ok-pair-items.ensures.places ∙ ap choices c.in_ok-pair-items.pair-items.combinations.pool.ok.0 in
    let pairs = pairs_start S (λ m. m) c.args.list.now c.in_ok-pair-items.pair-items.combinations.pool.items pool (combination_left c.in_ok-pair-items.pair-items.combinations) all in
    let gives = sym c.into_iter-pair-iterator.ensures.into_iter_gives in
    record {
      can_next = subst (λ t. combination_can t.combinations) gives c.in_ok-pair-items.ensures.can_after;
      finite = tt;
      pairs = subst (λ t. PairsLeft S (λ m. m) c.args.list.now t.combinations.pool.items (combination_left t.combinations)) gives pairs;
    }

pub is_bad-requires-clause-rising : goal.is_bad-requires-clause-rising
is_bad-requires-clause-rising g c =
    let S = over g.F.Field.field g.O.TermOrder.order c.args.space.now in
    (pair_step S (λ m. m) c.args.list.now c.loop-pair.pair-iterator.combinations.pool.items c.next.new.self.combinations.pool.items (combination_left c.loop-pair.pair-iterator.combinations) (combination_left c.next.new.self.combinations) c.in-Some.pair (c.in_ok-i.i, c.in_ok-i.j) c.loop-pair.invariant.pairs c.in_ok-i.was c.in-Some.ensures.steps).0

pub is_bad-requires-clause-within : goal.is_bad-requires-clause-within
is_bad-requires-clause-within g c =
    let S = over g.F.Field.field g.O.TermOrder.order c.args.space.now in
    (pair_step S (λ m. m) c.args.list.now c.loop-pair.pair-iterator.combinations.pool.items c.next.new.self.combinations.pool.items (combination_left c.loop-pair.pair-iterator.combinations) (combination_left c.next.new.self.combinations) c.in-Some.pair (c.in_ok-i.i, c.in_ok-i.j) c.loop-pair.invariant.pairs c.in_ok-i.was c.in-Some.ensures.steps).1

pub loop-pair-preserved : goal.loop-pair-preserved
loop-pair-preserved g c =
    let S = over g.F.Field.field g.O.TermOrder.order c.args.space.now in
    let step = pair_step S (λ m. m) c.args.list.now c.loop-pair.pair-iterator.combinations.pool.items c.next.new.self.combinations.pool.items (combination_left c.loop-pair.pair-iterator.combinations) (combination_left c.next.new.self.combinations) c.in-Some.pair (c.in_ok-i.i, c.in_ok-i.j) c.loop-pair.invariant.pairs c.in_ok-i.was c.in-Some.ensures.steps in
    record { can_next = c.in-Some.ensures.goes.keeps; finite = tt; pairs = step.2 (c.in_ok-is_bad.ensures.good c.if-branch.false) }

pub returns-then-branch-clause-none : goal.returns-then-branch-clause-none
returns-then-branch-clause-none g c =
    let S = over g.F.Field.field g.O.TermOrder.order c.args.space.now in
    some_exact {A = ℕ × ℕ} (c.in_ok-i.i + 1, c.in_ok-i.j + 1) (bad_pair S (vectors_of S (λ m. m) c.args.list.now) (c.in_ok-i.i + 1) (c.in_ok-i.j + 1) (c.in_ok-is_bad.ensures.bad (true_of c.in_ok-is_bad.field-0 c.if-branch.true)))

pub returns-clause-none : goal.returns-clause-none
returns-clause-none g c =
    let S = over g.F.Field.field g.O.TermOrder.order c.args.space.now in
    let treated = pairs_end S (λ m. m) c.args.list.now c.loop-pair.pair-iterator.combinations.pool.items (combination_left c.loop-pair.pair-iterator.combinations) c.in-None.ensures.steps.1 c.loop-pair.invariant.pairs in
    none_exact (ℕ × ℕ) (all_treated S (λ m. m) c.requires.positive.weights c.args.list.now (length c.args.list.now) c.requires.homogeneous (omega arith) treated)
