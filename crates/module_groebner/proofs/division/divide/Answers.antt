use Rattle.std.proofs.Common.{◌≡◌, ℕ, ap, ◌+◌, ◌∷◌, ◌<◌, ◌≤◌, length, drop, refl, sym, subst, arith}
use Rattle.std.proofs.lemmas.List.{drop_all}
use Rattle.alg_core.specs.Fields.{scalar}
use Rattle.alg_core.specs.Keys.{key}
use Rattle.alg_core.specs.Spaces.{over, place, entries}
use Rattle.alg_core.specs.SpaceOrder.{key_order}
use Rattle.alg_core.specs.Vectors.{coef_at}
use Rattle.poly_module.specs.Degrees.{IsHomogeneous}
use Rattle.poly_module.specs.Modules.{LeadBy, listed}
use Rattle.poly_module.specs.SpaceVectors.{vector_of, vectors_of, IsVector}
use Rattle.poly_module.proofs.MergeSteps.{drop_at}
use Rattle.module_groebner.specs.Reductions.{IsReduction}
use Rattle.module_groebner.specs.Remainders.{IsRemainder}
use Rattle.module_groebner.proofs.DivisionSteps.{starts, at_top, sliced, left_fits, top_term, top_lead, top_value, moves, reduces, ends, size, smaller_moved, smaller_reduced, member_has, member_divides, listed_at}
use Rattle.module_groebner.proofs.division.divide.Goals as goal

pub steps-init : goal.steps-init
steps-init g c =
    let S = over g.F.Field.field g.O.TermOrder.order c.args.space.now in
    starts S (λ m. m) (vector_of S (λ m. m) c.args.v.now) (vectors_of S (λ m. m) c.args.list.now) _ _ (entries (λ m. m) c.terms.result.now) c.new-done.ensures.items c.in_ok-rest.ensures.same
    (subst (IsVector S (λ m. m)) (sym c.terms.ensures.is) c.requires.vector) (ap (vector_of S (λ m. m)) c.terms.ensures.is)

pub divisor-requires-clause-place : goal.divisor-requires-clause-place
divisor-requires-clause-place g c =
    let S = over g.F.Field.field g.O.TermOrder.order c.args.space.now in
    let v = vector_of S (λ m. m) c.args.v.now in
    let vs = vectors_of S (λ m. m) c.args.list.now in
    let rest = c.steps.rest.items in
    let test : c.steps.start < length c.steps.rest.items = omega arith in
    (top_term S (λ m. m) v vs c.steps.done.items (drop (c.steps.start + 1) rest) c.index-top.result.now (at_top S (λ m. m) v vs c.steps.done.items rest c.steps.start c.index-top.result.now test c.index-top.ensures c.steps.invariant)).place

pub reduced_by-requires-clause-terms : goal.reduced_by-requires-clause-terms
reduced_by-requires-clause-terms g c =
    let S = over g.F.Field.field g.O.TermOrder.order c.args.space.now in
    let v = vector_of S (λ m. m) c.args.v.now in
    let vs = vectors_of S (λ m. m) c.args.list.now in
    let rest = c.steps.rest.items in
    let test : c.steps.start < length c.steps.rest.items = omega arith in
    let top = c.index-top.result.now in
    let s = at_top S (λ m. m) v vs c.steps.done.items rest c.steps.start top test c.index-top.ensures c.steps.invariant in
    let e = sliced S (λ m. m) v vs c.deref.result.now rest c.steps.start top c.deref.ensures.value test c.index-top.ensures in
    subst (IsVector S (λ m. m)) (sym e) (left_fits S (λ m. m) v vs c.steps.done.items (top ∷ drop (c.steps.start + 1) rest) s)

pub reduced_by-requires-clause-homogeneous : goal.reduced_by-requires-clause-homogeneous
reduced_by-requires-clause-homogeneous g c =
    let S = over g.F.Field.field g.O.TermOrder.order c.args.space.now in
    member_has S (λ m. m) (λ u. (d : ℕ) × IsHomogeneous S d u) c.args.list.now c.in-Some.i c.index-list-i.result c.in-Some.ensures.within c.index-list-i.is c.requires.homogeneous

pub reduced_by-requires-clause-top : goal.reduced_by-requires-clause-top
reduced_by-requires-clause-top g c =
    let S = over g.F.Field.field g.O.TermOrder.order c.args.space.now in
    let v = vector_of S (λ m. m) c.args.v.now in
    let vs = vectors_of S (λ m. m) c.args.list.now in
    let rest = c.steps.rest.items in
    let test : c.steps.start < length c.steps.rest.items = omega arith in
    let top = c.index-top.result.now in
    let s = at_top S (λ m. m) v vs c.steps.done.items rest c.steps.start top test c.index-top.ensures c.steps.invariant in
    let e = sliced S (λ m. m) v vs c.deref.result.now rest c.steps.start top c.deref.ensures.value test c.index-top.ensures in
    subst (λ l. LeadBy S.field (key_order S) (vector_of S (λ m. m) l) (key (place (λ m. m) top.at))) (sym e) (top_lead S (λ m. m) v vs c.steps.done.items (drop (c.steps.start + 1) rest) top s)

pub reduced_by-requires-clause-value : goal.reduced_by-requires-clause-value
reduced_by-requires-clause-value g c =
    let S = over g.F.Field.field g.O.TermOrder.order c.args.space.now in
    let v = vector_of S (λ m. m) c.args.v.now in
    let vs = vectors_of S (λ m. m) c.args.list.now in
    let rest = c.steps.rest.items in
    let test : c.steps.start < length c.steps.rest.items = omega arith in
    let top = c.index-top.result.now in
    let s = at_top S (λ m. m) v vs c.steps.done.items rest c.steps.start top test c.index-top.ensures c.steps.invariant in
    let e = sliced S (λ m. m) v vs c.deref.result.now rest c.steps.start top c.deref.ensures.value test c.index-top.ensures in
    subst (λ l. coef_at S.field (vector_of S (λ m. m) l) (key (place (λ m. m) top.at)) ≡ scalar S.field top.coef) (sym e) (top_value S (λ m. m) v vs c.steps.done.items (drop (c.steps.start + 1) rest) top s)

pub reduced_by-requires-clause-term : goal.reduced_by-requires-clause-term
reduced_by-requires-clause-term g c =
    let S = over g.F.Field.field g.O.TermOrder.order c.args.space.now in
    let v = vector_of S (λ m. m) c.args.v.now in
    let vs = vectors_of S (λ m. m) c.args.list.now in
    let rest = c.steps.rest.items in
    let test : c.steps.start < length c.steps.rest.items = omega arith in
    top_term S (λ m. m) v vs c.steps.done.items (drop (c.steps.start + 1) rest) c.index-top.result.now (at_top S (λ m. m) v vs c.steps.done.items rest c.steps.start c.index-top.result.now test c.index-top.ensures c.steps.invariant)

pub reduced_by-requires-clause-divides : goal.reduced_by-requires-clause-divides
reduced_by-requires-clause-divides g c =
    let S = over g.F.Field.field g.O.TermOrder.order c.args.space.now in
    member_divides S (λ m. m) c.args.list.now c.in-Some.i c.index-list-i.result (key (place (λ m. m) c.index-top.result.now.at)) c.in-Some.ensures.within c.index-list-i.is c.in-Some.ensures.some

pub steps-smaller-in-None : goal.steps-smaller-in-None
steps-smaller-in-None g c =
    let S = over g.F.Field.field g.O.TermOrder.order c.args.space.now in
    let v = vector_of S (λ m. m) c.args.v.now in
    let vs = vectors_of S (λ m. m) c.args.list.now in
    let rest = c.steps.rest.items in
    let test : c.steps.start < length c.steps.rest.items = omega arith in
    let top = c.index-top.result.now in
    let s = at_top S (λ m. m) v vs c.steps.done.items rest c.steps.start top test c.index-top.ensures c.steps.invariant in
    subst (λ l. size S (entries (λ m. m) (drop (c.steps.start + 1) rest)) < size S (entries (λ m. m) l)) (sym (drop_at rest c.steps.start top test c.index-top.ensures))
    (smaller_moved S (λ m. m) v vs c.requires.positive.weights c.requires.degree c.steps.done.items (drop (c.steps.start + 1) rest) top s)

pub steps-preserved-in-None : goal.steps-preserved-in-None
steps-preserved-in-None g c =
    let S = over g.F.Field.field g.O.TermOrder.order c.args.space.now in
    let v = vector_of S (λ m. m) c.args.v.now in
    let vs = vectors_of S (λ m. m) c.args.list.now in
    let rest = c.steps.rest.items in
    let test : c.steps.start < length c.steps.rest.items = omega arith in
    let top = c.index-top.result.now in
    let s = at_top S (λ m. m) v vs c.steps.done.items rest c.steps.start top test c.index-top.ensures c.steps.invariant in
    moves S (λ m. m) v vs c.steps.done.items c.push.new.self.items (drop (c.steps.start + 1) rest) top c.in_ok-copy-in-None.field-0 c.in_ok-push-in-None.ensures.items c.in_ok-copy-in-None.ensures.is (c.in-None.ensures.none refl) s

pub steps-smaller : goal.steps-smaller
steps-smaller g c =
    let S = over g.F.Field.field g.O.TermOrder.order c.args.space.now in
    let v = vector_of S (λ m. m) c.args.v.now in
    let vs = vectors_of S (λ m. m) c.args.list.now in
    let rest = c.steps.rest.items in
    let test : c.steps.start < length c.steps.rest.items = omega arith in
    let top = c.index-top.result.now in
    let left = c.in_ok-rest-in-Some.rest.items in
    let s = at_top S (λ m. m) v vs c.steps.done.items rest c.steps.start top test c.index-top.ensures c.steps.invariant in
    let e = sliced S (λ m. m) v vs c.deref.result.now rest c.steps.start top c.deref.ensures.value test c.index-top.ensures in
    let g = vector_of S (λ m. m) c.index-list-i.result in
    let hom = member_has S (λ m. m) (λ u. (d : ℕ) × IsHomogeneous S d u) c.args.list.now c.in-Some.i c.index-list-i.result c.in-Some.ensures.within c.index-list-i.is c.requires.homogeneous in
    subst (λ l. size S (entries (λ m. m) left) < size S (entries (λ m. m) l)) (sym (drop_at rest c.steps.start top test c.index-top.ensures))
    (smaller_reduced S (λ m. m) v vs c.requires.positive.weights c.requires.degree c.steps.done.items (drop (c.steps.start + 1) rest) left top c.in_ok-rest-in-Some.ensures.fits
    (reduces S (λ m. m) v vs c.steps.done.items (drop (c.steps.start + 1) rest) left top c.in-Some.i g hom.0 (listed_at S (λ m. m) c.args.list.now c.in-Some.i c.index-list-i.result c.in-Some.ensures.within c.index-list-i.is) hom.1
    (subst (λ l. IsReduction S (vector_of S (λ m. m) l) g (vector_of S (λ m. m) left)) e c.in_ok-rest-in-Some.ensures.step) c.in_ok-rest-in-Some.ensures.fits s))

pub steps-preserved : goal.steps-preserved
steps-preserved g c =
    let S = over g.F.Field.field g.O.TermOrder.order c.args.space.now in
    let v = vector_of S (λ m. m) c.args.v.now in
    let vs = vectors_of S (λ m. m) c.args.list.now in
    let rest = c.steps.rest.items in
    let test : c.steps.start < length c.steps.rest.items = omega arith in
    let top = c.index-top.result.now in
    let left = c.in_ok-rest-in-Some.rest.items in
    let s = at_top S (λ m. m) v vs c.steps.done.items rest c.steps.start top test c.index-top.ensures c.steps.invariant in
    let e = sliced S (λ m. m) v vs c.deref.result.now rest c.steps.start top c.deref.ensures.value test c.index-top.ensures in
    let g = vector_of S (λ m. m) c.index-list-i.result in
    let hom = member_has S (λ m. m) (λ u. (d : ℕ) × IsHomogeneous S d u) c.args.list.now c.in-Some.i c.index-list-i.result c.in-Some.ensures.within c.index-list-i.is c.requires.homogeneous in
    (reduces S (λ m. m) v vs c.steps.done.items (drop (c.steps.start + 1) rest) left top c.in-Some.i g hom.0 (listed_at S (λ m. m) c.args.list.now c.in-Some.i c.index-list-i.result c.in-Some.ensures.within c.index-list-i.is) hom.1
    (subst (λ l. IsReduction S (vector_of S (λ m. m) l) g (vector_of S (λ m. m) left)) e c.in_ok-rest-in-Some.ensures.step) c.in_ok-rest-in-Some.ensures.fits s).0

pub returns-clause-remainder : goal.returns-clause-remainder
returns-clause-remainder g c =
    let S = over g.F.Field.field g.O.TermOrder.order c.args.space.now in
    let v = vector_of S (λ m. m) c.args.v.now in
    let vs = vectors_of S (λ m. m) c.args.list.now in
    let past : length c.steps.rest.items ≤ c.steps.start = omega arith in
    subst (λ l. IsRemainder S (listed S.field vs) v (vector_of S (λ m. m) l)) (sym c.of.ensures.is)
    (ends S (λ m. m) v vs c.steps.done.items (drop c.steps.start c.steps.rest.items) (drop_all c.steps.start c.steps.rest.items past) c.steps.invariant).1
