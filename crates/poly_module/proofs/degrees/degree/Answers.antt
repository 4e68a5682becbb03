use Rattle.std.proofs.Common.{◌≡◌, ◌<◌, ◌+◌, ◌^◌, ◌∙◌, ℕ, Some, max, rules, ap₂, sym, subst, take, arith}
use Rattle.std.specs.Prelude.{All, unwrap_or}
use Rattle.std.proofs.lemmas.List.{take_all}
use Rattle.alg_core.specs.Keys.{key}
use Rattle.alg_core.specs.Spaces.{over, entry, entries, Fits}
use Rattle.alg_core.specs.SpaceGrading.{degree}
use Rattle.alg_core.specs.Vectors.{Entry}
use Rattle.poly_module.proofs.EntryLists.{entry_at, given_at}
use Rattle.poly_module.proofs.GreatestValues.{GreatestOn, greatest_more, greatest_reached, greatest_bound, greatest_none, take_map}
use Rattle.poly_module.proofs.Leads.{vec_is_zero}
use Rattle.poly_module.proofs.VectorDegrees.{small_degrees, greatest_is_degree}
use Rattle.poly_module.proofs.degrees.degree.Goals as goal

pub term_degree-d-requires : goal.term_degree-d-requires
term_degree-d-requires g c =
    let S = over g.F.Field.field g.O.TermOrder.order c.args.space.now in
    let exps = g.M.Monomial.exps in
    record { place = (entry_at S exps _ _ _ c.loop-i-test.true c.index-terms-i.is (subst (λ l. Fits S (entries exps l)) (sym c.terms-terms.ensures.is) c.requires.vector)).place }

pub overflow_cast-d : goal.overflow_cast-d
overflow_cast-d g c =
    let S = over g.F.Field.field g.O.TermOrder.order c.args.space.now in
    let exps = g.M.Monomial.exps in
    let small : degree S (key (entry exps c.index-terms-i.result).0) < 2 ^ 64 = given_at S exps (λ e. degree S (key e.0) < 2 ^ 64) _ _ _ c.loop-i-test.true c.index-terms-i.is (subst (λ l. All (λ e. degree S (key e.0) < 2 ^ 64) (entries exps l)) (sym c.terms-terms.ensures.is) (small_degrees S exps c.args.a.now c.requires.vector c.requires.small)) in
    let fits : c.term_degree-d.result < 2 ^ 64 = subst (λ d. d < 2 ^ 64) (sym c.term_degree-d.ensures.is) small in
    search rules

pub loop-i-preserved : goal.loop-i-preserved
loop-i-preserved g c =
    let S = over g.F.Field.field g.O.TermOrder.order c.args.space.now in
    let exps = g.M.Monomial.exps in
    let f : Entry g.row.F-Elem.Denot → ℕ = λ e. degree S (key e.0) in
    let more = greatest_more f (entries exps (take c.loop-i.i c.terms-terms.result.now)) c.loop-i.greatest (entry exps c.index-terms-i.result) c.loop-i.invariant in
    let value = c.max.ensures ∙ ap₂ max c.unwrap_or.ensures c.term_degree-d.ensures.is in
    subst (λ n. GreatestOn f (entries exps (take (c.loop-i.i + 1) c.terms-terms.result.now)) (Some n)) (sym value)
    (subst (λ l. GreatestOn f l (Some (max (unwrap_or c.loop-i.greatest 0) (f (entry exps c.index-terms-i.result))))) (sym (take_map (entry exps) c.terms-terms.result.now c.loop-i.i c.index-terms-i.result c.loop-i-test.true c.index-terms-i.is)) more)

pub returns-clause-none : goal.returns-clause-none
returns-clause-none g c =
    let S = over g.F.Field.field g.O.TermOrder.order c.args.space.now in
    let exps = g.M.Monomial.exps in
    let f : Entry g.row.F-Elem.Denot → ℕ = λ e. degree S (key e.0) in
    let all : take c.loop-i.i c.terms-terms.result.now ≡ c.args.a.now = take_all c.loop-i.i c.terms-terms.result.now (omega arith) ∙ c.terms-terms.ensures.is in
    let done : GreatestOn f (entries exps c.args.a.now) c.loop-i.greatest = subst (λ l. GreatestOn f (entries exps l) c.loop-i.greatest) all c.loop-i.invariant in
    let ends = greatest_none f (entries exps c.args.a.now) c.loop-i.greatest done in
    let zero = vec_is_zero S exps c.args.a.now c.requires.vector in
    (λ n. zero.0 (ends.0 n), λ z. ends.1 (zero.1 z))

pub returns-clause-reached : goal.returns-clause-reached
returns-clause-reached g c =
    let S = over g.F.Field.field g.O.TermOrder.order c.args.space.now in
    let exps = g.M.Monomial.exps in
    let f : Entry g.row.F-Elem.Denot → ℕ = λ e. degree S (key e.0) in
    let all : take c.loop-i.i c.terms-terms.result.now ≡ c.args.a.now = take_all c.loop-i.i c.terms-terms.result.now (omega arith) ∙ c.terms-terms.ensures.is in
    greatest_reached f (entries exps c.args.a.now) c.loop-i.greatest (subst (λ l. GreatestOn f (entries exps l) c.loop-i.greatest) all c.loop-i.invariant)

pub returns-clause-greatest : goal.returns-clause-greatest
returns-clause-greatest g c =
    let S = over g.F.Field.field g.O.TermOrder.order c.args.space.now in
    let exps = g.M.Monomial.exps in
    let f : Entry g.row.F-Elem.Denot → ℕ = λ e. degree S (key e.0) in
    let all : take c.loop-i.i c.terms-terms.result.now ≡ c.args.a.now = take_all c.loop-i.i c.terms-terms.result.now (omega arith) ∙ c.terms-terms.ensures.is in
    greatest_bound f (entries exps c.args.a.now) c.loop-i.greatest (subst (λ l. GreatestOn f (entries exps l) c.loop-i.greatest) all c.loop-i.invariant)

pub returns-clause-degree : goal.returns-clause-degree
returns-clause-degree g c =
    let S = over g.F.Field.field g.O.TermOrder.order c.args.space.now in
    let exps = g.M.Monomial.exps in
    let f : Entry g.row.F-Elem.Denot → ℕ = λ e. degree S (key e.0) in
    let all : take c.loop-i.i c.terms-terms.result.now ≡ c.args.a.now = take_all c.loop-i.i c.terms-terms.result.now (omega arith) ∙ c.terms-terms.ensures.is in
    greatest_is_degree S exps c.args.a.now c.loop-i.greatest c.requires.vector (subst (λ l. GreatestOn f (entries exps l) c.loop-i.greatest) all c.loop-i.invariant)
