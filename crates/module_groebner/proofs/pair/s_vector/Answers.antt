use Rattle.std.proofs.Common.{◌≡◌, ap, sym, subst, ◌∙◌, arith}
use Rattle.alg_core.specs.Keys.{key, times_key, KeyDivides}
use Rattle.alg_core.specs.Spaces.{over, place}
use Rattle.alg_core.proofs.KeyMultiples.{key_lcm_left, key_lcm_right}
use Rattle.poly_module.specs.SpaceVectors.{vector_of}
use Rattle.module_groebner.specs.HomogeneousLists.{cap_limit}
use Rattle.module_groebner.proofs.ReductionSteps.{lead_not_zero, same_lead, bounded_lead}
use Rattle.module_groebner.proofs.PairSteps.{same_position, lcm_place, left_low, right_low, s_vector_is}
use Rattle.module_groebner.proofs.pair.s_vector.Goals as goal

pub leading_term-s-requires-clause-not_zero : goal.leading_term-s-requires-clause-not_zero
leading_term-s-requires-clause-not_zero g c =
    let S = over g.F.Field.field g.O.TermOrder.order c.args.space.now in
    lead_not_zero S _ c.requires.position.0 c.requires.position.2

pub leading_term-t-requires-clause-not_zero : goal.leading_term-t-requires-clause-not_zero
leading_term-t-requires-clause-not_zero g c =
    let S = over g.F.Field.field g.O.TermOrder.order c.args.space.now in
    lead_not_zero S _ c.requires.position.1 c.requires.position.3

pub lcm-requires-clause-position : goal.lcm-requires-clause-position
lcm-requires-clause-position g c =
    let S = over g.F.Field.field g.O.TermOrder.order c.args.space.now in
    let p = c.requires.position in
    same_position S (vector_of S (λ m. m) c.args.a.now) (vector_of S (λ m. m) c.args.b.now) p.0 p.1 (place (λ m. m) c.leading_term-s.result.now.at) (place (λ m. m) c.leading_term-t.result.now.at) p.2 p.3 p.4 c.leading_term-s.ensures.lead c.leading_term-t.ensures.lead

pub monic_multiple-requires-clause-place : goal.monic_multiple-requires-clause-place
monic_multiple-requires-clause-place g c =
    let S = over g.F.Field.field g.O.TermOrder.order c.args.space.now in
    lcm_place S (place (λ m. m) c.leading_term-s.result.now.at) (place (λ m. m) c.leading_term-t.result.now.at) _ c.leading_term-s.ensures.term.place c.in_ok-l.ensures.is c.in_ok-l.ensures.length

pub monic_multiple-requires-clause-divides : goal.monic_multiple-requires-clause-divides
monic_multiple-requires-clause-divides g c =
    let s = key (place (λ m. m) c.leading_term-s.result.now.at) in
    let t = key (place (λ m. m) c.leading_term-t.result.now.at) in
    (s, c.leading_term-s.ensures.lead, subst (KeyDivides s) (sym c.in_ok-l.ensures.is) (key_lcm_left s t))

pub monic_multiple-requires-clause-low : goal.monic_multiple-requires-clause-low
monic_multiple-requires-clause-low g c =
    let S = over g.F.Field.field g.O.TermOrder.order c.args.space.now in
    let a = vector_of S (λ m. m) c.args.a.now in
    let b = vector_of S (λ m. m) c.args.b.now in
    let p = c.requires.position in
    let s = key (place (λ m. m) c.leading_term-s.result.now.at) in
    let t = key (place (λ m. m) c.leading_term-t.result.now.at) in
    let at : s.0 ≡ t.0 = ap (λ u. u.0) (same_lead S a s p.0 c.leading_term-s.ensures.lead p.2) ∙ p.4 ∙ ap (λ u. u.0) (same_lead S b p.1 t p.3 c.leading_term-t.ensures.lead) in
    let low = bounded_lead S cap_limit b t c.requires.right_degree c.leading_term-t.ensures.lead in
    λ m r l e. let w = left_low S s t m at (ap (times_key m) (same_lead S a s r c.leading_term-s.ensures.lead l) ∙ e ∙ c.in_ok-l.ensures.is) in omega (arith, w, low)

pub monic_multiple-requires-2-clause-place : goal.monic_multiple-requires-2-clause-place
monic_multiple-requires-2-clause-place g c =
    let S = over g.F.Field.field g.O.TermOrder.order c.args.space.now in
    lcm_place S (place (λ m. m) c.leading_term-s.result.now.at) (place (λ m. m) c.leading_term-t.result.now.at) _ c.leading_term-s.ensures.term.place c.in_ok-l.ensures.is c.in_ok-l.ensures.length

pub monic_multiple-requires-2-clause-divides : goal.monic_multiple-requires-2-clause-divides
monic_multiple-requires-2-clause-divides g c =
    let S = over g.F.Field.field g.O.TermOrder.order c.args.space.now in
    let p = c.requires.position in
    let s = key (place (λ m. m) c.leading_term-s.result.now.at) in
    let t = key (place (λ m. m) c.leading_term-t.result.now.at) in
    let at : s.0 ≡ t.0 = ap (λ u. u.0) (same_lead S (vector_of S (λ m. m) c.args.a.now) s p.0 c.leading_term-s.ensures.lead p.2) ∙ p.4 ∙ ap (λ u. u.0) (same_lead S (vector_of S (λ m. m) c.args.b.now) p.1 t p.3 c.leading_term-t.ensures.lead) in
    (t, c.leading_term-t.ensures.lead, subst (KeyDivides t) (sym c.in_ok-l.ensures.is) (key_lcm_right s t at))

pub monic_multiple-requires-2-clause-low : goal.monic_multiple-requires-2-clause-low
monic_multiple-requires-2-clause-low g c =
    let S = over g.F.Field.field g.O.TermOrder.order c.args.space.now in
    let a = vector_of S (λ m. m) c.args.a.now in
    let b = vector_of S (λ m. m) c.args.b.now in
    let p = c.requires.position in
    let s = key (place (λ m. m) c.leading_term-s.result.now.at) in
    let t = key (place (λ m. m) c.leading_term-t.result.now.at) in
    let at : s.0 ≡ t.0 = ap (λ u. u.0) (same_lead S a s p.0 c.leading_term-s.ensures.lead p.2) ∙ p.4 ∙ ap (λ u. u.0) (same_lead S b p.1 t p.3 c.leading_term-t.ensures.lead) in
    let low = bounded_lead S cap_limit a s c.requires.left_degree c.leading_term-s.ensures.lead in
    λ m r l e. let w = right_low S s t m at (ap (times_key m) (same_lead S b t r c.leading_term-t.ensures.lead l) ∙ e ∙ c.in_ok-l.ensures.is) in omega (arith, w, low)

pub returns-clause-is : goal.returns-clause-is
returns-clause-is g c =
    let S = over g.F.Field.field g.O.TermOrder.order c.args.space.now in
    let a = vector_of S (λ m. m) c.args.a.now in
    let b = vector_of S (λ m. m) c.args.b.now in
    let p = c.requires.position in
    let s = place (λ m. m) c.leading_term-s.result.now.at in
    let t = place (λ m. m) c.leading_term-t.result.now.at in
    s_vector_is S a b _ _ _ s t _ c.leading_term-s.ensures.lead c.leading_term-t.ensures.lead
    (same_position S a b p.0 p.1 s t p.2 p.3 p.4 c.leading_term-s.ensures.lead c.leading_term-t.ensures.lead) c.in_ok-l.ensures.is c.in_ok-left.ensures.is c.in_ok-right.ensures.is c.in_ok-difference.ensures.difference.is
