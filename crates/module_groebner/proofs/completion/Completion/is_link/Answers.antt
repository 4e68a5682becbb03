use Rattle.std.proofs.Common.{◌≡◌, map, ap, ◌∙◌, subst}
use Rattle.alg_core.specs.Keys.{key, KeyDivides}
use Rattle.alg_core.specs.Spaces.{over, entries, place}
use Rattle.alg_core.specs.SpaceOrder.{key_order}
use Rattle.poly_module.specs.Modules.{LeadBy}
use Rattle.poly_module.specs.SpaceVectors.{vector_of}
use Rattle.module_groebner.specs.Completions.{member_place}
use Rattle.module_groebner.specs.Items.{HasNoPair}
use Rattle.module_groebner.proofs.CompletionSteps.{member_fits, member_not_zero, member_is}
use Rattle.module_groebner.proofs.CompletionEnds.{member_lead}
use Rattle.module_groebner.proofs.ReductionSteps.{same_lead}
use Rattle.module_groebner.proofs.completion.Completion.is_link.Goals as goal

pub leading_term-lead-requires-clause-vector : goal.leading_term-lead-requires-clause-vector
leading_term-lead-requires-clause-vector g c =
    let S = over g.F.Field.field g.O.TermOrder.order c.args.space.now in
    let q = c.args.self.now in
    let gs = c.self.inside.generators.items in
    let ms = c.self.inside.members.items in
    let eg : map (entries (λ m. m)) gs ≡ q.generators = ap (λ r. r.generators) c.self.view_is in
    let em : map (entries (λ m. m)) ms ≡ q.members = ap (λ r. r.members) c.self.view_is in
    member_fits S (λ m. m) c.requires.positive.weights q c.requires.stands gs ms eg em c.args.k c.index-member.result.now c.requires.within c.index-member.ensures

pub leading_term-lead-requires-clause-not_zero : goal.leading_term-lead-requires-clause-not_zero
leading_term-lead-requires-clause-not_zero g c =
    let S = over g.F.Field.field g.O.TermOrder.order c.args.space.now in
    let q = c.args.self.now in
    let gs = c.self.inside.generators.items in
    let ms = c.self.inside.members.items in
    let eg : map (entries (λ m. m)) gs ≡ q.generators = ap (λ r. r.generators) c.self.view_is in
    let em : map (entries (λ m. m)) ms ≡ q.members = ap (λ r. r.members) c.self.view_is in
    member_not_zero S (λ m. m) c.requires.positive.weights q c.requires.stands gs ms eg em c.args.k c.index-member.result.now c.requires.within c.index-member.ensures

pub returns : goal.returns
returns g c =
    let S = over g.F.Field.field g.O.TermOrder.order c.args.space.now in
    let q = c.args.self.now in
    let p = c.args.pair in
    let gs = c.self.inside.generators.items in
    let ms = c.self.inside.members.items in
    let eg : map (entries (λ m. m)) gs ≡ q.generators = ap (λ r. r.generators) c.self.view_is in
    let em : map (entries (λ m. m)) ms ≡ q.members = ap (λ r. r.members) c.self.view_is in
    let ep : c.self.inside.pairs.items ≡ q.pairs = ap (λ r. r.pairs) c.self.view_is in
    let is = member_is S (λ m. m) c.requires.positive.weights q c.requires.stands gs ms eg em c.args.k c.index-member.result.now c.requires.within c.index-member.ensures in
    let here : key (place (λ m. m) c.leading_term-lead.result.now.at) ≡ key (member_place q c.args.k) =
    same_lead S (vector_of S (λ m. m) c.index-member.result.now) _ _ c.leading_term-lead.ensures.lead (subst (λ u. LeadBy S.field (key_order S) u (key (member_place q c.args.k))) is (member_lead S c.requires.positive.weights q c.requires.stands c.args.k c.requires.within).0) in
    record {
      link = λ _. record {
        within = c.requires.within;
        divides = subst (λ s. KeyDivides s (key (place (λ m. m) c.args.common.now))) here (c.divides.ensures.is.0 c.if-not-divides.false);
        not_first = c.if-l-pair.false;
        not_second = c.if-l-pair-2.false;
        first = subst (λ l. HasNoPair l c.args.k p.0) (c.deref.ensures.value ∙ ep) (c.is_pending.ensures.no c.if-is_pending.false);
        second = subst (λ l. HasNoPair l c.args.k p.1) (c.deref-2.ensures.value ∙ ep) (c.is_pending-2.ensures.no c.if-is_pending-2.false);
      };
    }
