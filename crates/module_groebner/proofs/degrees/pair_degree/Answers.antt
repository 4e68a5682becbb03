use Rattle.std.proofs.Common.{◌<◌, length, sym, ap, subst, ◌∙◌}
use Rattle.alg_core.specs.ExponentLists.{lcm}
use Rattle.alg_core.specs.KeyLists.{place_degree}
use Rattle.alg_core.specs.Spaces.{over, place, entry, entries, IsTerm}
use Rattle.poly_module.specs.SpaceVectors.{IsVector}
use Rattle.poly_module.proofs.EntryLists.{entry_at}
use Rattle.module_groebner.specs.Progress.{lead_place}
use Rattle.module_groebner.proofs.DegreeSteps.{has_terms, first_place, degree_of_pair}
use Rattle.module_groebner.proofs.PairSteps.{lcm_place}
use Rattle.module_groebner.proofs.degrees.pair_degree.Goals as goal

pub bounds-left-0 : goal.bounds-left-0
bounds-left-0 g c =
    let S = over g.F.Field.field g.O.TermOrder.order c.args.space.now in
    subst (λ l. 0 < length l) (sym c.terms-left.ensures.is) (has_terms (λ m. m) S c.args.a.now c.requires.left_not_zero)

pub bounds-right-0 : goal.bounds-right-0
bounds-right-0 g c =
    let S = over g.F.Field.field g.O.TermOrder.order c.args.space.now in
    subst (λ l. 0 < length l) (sym c.terms-right.ensures.is) (has_terms (λ m. m) S c.args.b.now c.requires.right_not_zero)

pub lcm-requires-clause-same : goal.lcm-requires-clause-same
lcm-requires-clause-same g c =
    let S = over g.F.Field.field g.O.TermOrder.order c.args.space.now in
    let left : IsTerm S (entry (λ m. m) c.index-left-0.result) = entry_at S (λ m. m) c.terms-left.result.now 0 _ (subst (λ l. 0 < length l) (sym c.terms-left.ensures.is) (has_terms (λ m. m) S c.args.a.now c.requires.left_not_zero)) c.index-left-0.is (subst (IsVector S (λ m. m)) (sym c.terms-left.ensures.is) c.requires.left) in
    let right : IsTerm S (entry (λ m. m) c.index-right-0.result) = entry_at S (λ m. m) c.terms-right.result.now 0 _ (subst (λ l. 0 < length l) (sym c.terms-right.ensures.is) (has_terms (λ m. m) S c.args.b.now c.requires.right_not_zero)) c.index-right-0.is (subst (IsVector S (λ m. m)) (sym c.terms-right.ensures.is) c.requires.right) in
    left.place.wide ∙ sym right.place.wide

pub lcm-requires-clause-position : goal.lcm-requires-clause-position
lcm-requires-clause-position g c =
    let S = over g.F.Field.field g.O.TermOrder.order c.args.space.now in
    let left = first_place (λ m. m) c.terms-left.result.now c.index-left-0.result (subst (λ l. 0 < length l) (sym c.terms-left.ensures.is) (has_terms (λ m. m) S c.args.a.now c.requires.left_not_zero)) c.index-left-0.is in
    let right = first_place (λ m. m) c.terms-right.result.now c.index-right-0.result (subst (λ l. 0 < length l) (sym c.terms-right.ensures.is) (has_terms (λ m. m) S c.args.b.now c.requires.right_not_zero)) c.index-right-0.is in
    ap (λ p. p.0) (sym left ∙ ap (λ l. lead_place (entries (λ m. m) l)) c.terms-left.ensures.is) ∙ c.requires.position ∙ ap (λ p. p.0) (sym (ap (λ l. lead_place (entries (λ m. m) l)) c.terms-right.ensures.is) ∙ right)

pub term_degree-requires : goal.term_degree-requires
term_degree-requires g c =
    let S = over g.F.Field.field g.O.TermOrder.order c.args.space.now in
    let left : IsTerm S (entry (λ m. m) c.index-left-0.result) = entry_at S (λ m. m) c.terms-left.result.now 0 _ (subst (λ l. 0 < length l) (sym c.terms-left.ensures.is) (has_terms (λ m. m) S c.args.a.now c.requires.left_not_zero)) c.index-left-0.is (subst (IsVector S (λ m. m)) (sym c.terms-left.ensures.is) c.requires.left) in
    record { place = lcm_place S (place (λ m. m) c.index-left-0.result.at) (place (λ m. m) c.index-right-0.result.at) _ left.place c.in_ok-l.ensures.is c.in_ok-l.ensures.length }

pub returns : goal.returns
returns g c =
    let S = over g.F.Field.field g.O.TermOrder.order c.args.space.now in
    let in_left = subst (λ l. 0 < length l) (sym c.terms-left.ensures.is) (has_terms (λ m. m) S c.args.a.now c.requires.left_not_zero) in
    let in_right = subst (λ l. 0 < length l) (sym c.terms-right.ensures.is) (has_terms (λ m. m) S c.args.b.now c.requires.right_not_zero) in
    let left : IsTerm S (entry (λ m. m) c.index-left-0.result) = entry_at S (λ m. m) c.terms-left.result.now 0 _ in_left c.index-left-0.is (subst (IsVector S (λ m. m)) (sym c.terms-left.ensures.is) c.requires.left) in
    let right : IsTerm S (entry (λ m. m) c.index-right-0.result) = entry_at S (λ m. m) c.terms-right.result.now 0 _ in_right c.index-right-0.is (subst (IsVector S (λ m. m)) (sym c.terms-right.ensures.is) c.requires.right) in
    let s = sym (first_place (λ m. m) c.terms-left.result.now c.index-left-0.result in_left c.index-left-0.is) ∙ ap (λ l. lead_place (entries (λ m. m) l)) c.terms-left.ensures.is in
    let t = sym (first_place (λ m. m) c.terms-right.result.now c.index-right-0.result in_right c.index-right-0.is) ∙ ap (λ l. lead_place (entries (λ m. m) l)) c.terms-right.ensures.is in
    record {
      is = degree_of_pair S (place (λ m. m) c.index-left-0.result.at) (place (λ m. m) c.index-right-0.result.at) _ _ left.place right.place c.in_ok-l.ensures.is c.term_degree.ensures.is
          ∙ ap (λ p. place_degree S.weights S.shifts (p.0, lcm p.1 (place (λ m. m) c.index-right-0.result.at).1)) s
          ∙ ap (λ p. place_degree S.weights S.shifts ((lead_place (entries (λ m. m) c.args.a.now)).0, lcm (lead_place (entries (λ m. m) c.args.a.now)).1 p.1)) t;
    }
