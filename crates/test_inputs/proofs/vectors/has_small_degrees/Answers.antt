use Rattle.std.proofs.Common.{◌≤◌, ◌-◌, ◌^◌, sym, subst, arith}
use Rattle.alg_core.specs.Keys.{key}
use Rattle.alg_core.specs.Spaces.{over, entry, entries, Fits}
use Rattle.alg_core.specs.SpaceGrading.{degree}
use Rattle.alg_core.specs.Vectors.{vec}
use Rattle.poly_module.specs.Parts.{supp_weaken}
use Rattle.poly_module.proofs.EntryLists.{entry_at}
use Rattle.poly_module.proofs.CheckedEntries.{all_more, all_done}
use Rattle.poly_module.proofs.ExponentBounds.{vec_supp}
use Rattle.test_inputs.proofs.vectors.has_small_degrees.Goals as goal

pub term_degree-requires : goal.term_degree-requires
term_degree-requires g c =
    let S = over g.F.Field.field g.O.TermOrder.order c.args.space.now in
    record { place = (entry_at S (λ m. m) _ _ _ c.loop-i-test.true c.index-terms-i.is (subst (λ l. Fits S (entries (λ m. m) l)) (sym c.terms-terms.ensures.is) c.requires.vector)).place }

pub loop-i-preserved : goal.loop-i-preserved
loop-i-preserved g c =
    let S = over g.F.Field.field g.O.TermOrder.order c.args.space.now in
    let small : c.term_degree.result ≤ 2 ^ 31 - 1 = omega arith in
    all_more (entry (λ m. m)) (λ e. degree S (key e.0) ≤ 2 ^ 31 - 1) c.terms-terms.result.now c.loop-i.i c.index-terms-i.result c.loop-i-test.true c.index-terms-i.is c.loop-i.invariant
    (subst (λ d. d ≤ 2 ^ 31 - 1) c.term_degree.ensures.is small)

pub returns : goal.returns
returns g c =
    let S = over g.F.Field.field g.O.TermOrder.order c.args.space.now in
    let all = all_done (entry (λ m. m)) (λ e. degree S (key e.0) ≤ 2 ^ 31 - 1) c.terms-terms.result.now _ c.loop-i.i (omega arith) c.terms-terms.ensures.is c.loop-i.invariant in
    let low = vec_supp S.field (λ t. degree S t ≤ 2 ^ 31 - 1) (entries (λ m. m) c.args.v.now) all in
    record {
      is = λ _. supp_weaken S.field (λ t. degree S t ≤ 2 ^ 31 - 1) (λ t. degree S t ≤ 2 ^ 64 - 1) (λ t few. omega arith) (vec S.field (entries (λ m. m) c.args.v.now)) low;
      low = λ _. low;
    }
