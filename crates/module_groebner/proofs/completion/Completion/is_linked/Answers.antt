use Rattle.std.proofs.Common.{◌≡◌, ◌<◌, map, length, sym, ap, subst, arith}
use Rattle.alg_core.specs.CommonMultiples.{common_multiple}
use Rattle.alg_core.specs.Keys.{key}
use Rattle.alg_core.specs.SpaceOrder.{key_order}
use Rattle.alg_core.specs.Spaces.{over, entries}
use Rattle.poly_module.specs.Modules.{LeadBy}
use Rattle.module_groebner.specs.SVectors.{IsTreated}
use Rattle.module_groebner.specs.Completions.{member_place, members}
use Rattle.module_groebner.specs.Items.{IsWithin, IsLink, IsTreatedItem}
use Rattle.module_groebner.proofs.CompletionSteps.{member_is, pair_at, pair_leads}
use Rattle.module_groebner.proofs.CompletionEnds.{member_lead}
use Rattle.module_groebner.proofs.LinkSteps.{link_treats}
use Rattle.module_groebner.proofs.completion.Completion.is_linked.Goals as goal

pub lcm_of_leads-requires-clause-position : goal.lcm_of_leads-requires-clause-position
lcm_of_leads-requires-clause-position g c =
    let S = over g.F.Field.field g.O.TermOrder.order c.args.space.now in
    let q = c.args.self.now in
    let gs = c.self.inside.generators.items in
    let ms = c.self.inside.members.items in
    let eg : map (entries (λ m. m)) gs ≡ q.generators = ap (λ r. r.generators) c.self.view_is in
    let em : map (entries (λ m. m)) ms ≡ q.members = ap (λ r. r.members) c.self.view_is in
    let within : c.in-Pair.i < length q.pairs = subst (IsWithin q) c.in-Pair.is c.requires.current.within in
    let at = pair_at S (λ m. m) c.requires.positive.weights q c.requires.stands gs ms eg em c.self.inside.pairs.items c.in-Pair.i c.index-pair.result.now (ap (λ r. r.pairs) c.self.view_is) within c.index-pair.ensures in
    pair_leads S (λ m. m) c.requires.positive.weights q c.requires.stands gs ms eg em c.index-pair.result.now c.index-left.result.now c.index-right.result.now at.0 c.index-left.ensures c.index-right.ensures

pub returns-then-is_link : goal.returns-then-is_link
returns-then-is_link g c =
    let S = over g.F.Field.field g.O.TermOrder.order c.args.space.now in
    let q = c.args.self.now in
    let gs = c.self.inside.generators.items in
    let ms = c.self.inside.members.items in
    let eg : map (entries (λ m. m)) gs ≡ q.generators = ap (λ r. r.generators) c.self.view_is in
    let em : map (entries (λ m. m)) ms ≡ q.members = ap (λ r. r.members) c.self.view_is in
    let within : c.in-Pair.i < length q.pairs = subst (IsWithin q) c.in-Pair.is c.requires.current.within in
    let p = c.index-pair.result.now in
    let at = pair_at S (λ m. m) c.requires.positive.weights q c.requires.stands gs ms eg em c.self.inside.pairs.items c.in-Pair.i p (ap (λ r. r.pairs) c.self.view_is) within c.index-pair.ensures in
    let first : p.0 < length q.members = let a = at.0.rising in let b = at.0.within in omega arith in
    let s = key (member_place q p.0) in
    let t = key (member_place q p.1) in
    let left = member_is S (λ m. m) c.requires.positive.weights q c.requires.stands gs ms eg em p.0 c.index-left.result.now first c.index-left.ensures in
    let right = member_is S (λ m. m) c.requires.positive.weights q c.requires.stands gs ms eg em p.1 c.index-right.result.now at.0.within c.index-right.ensures in
    let common = c.in_ok-common.ensures.is s t (subst (λ u. LeadBy S.field (key_order S) u s) left (member_lead S c.requires.positive.weights q c.requires.stands p.0 first).0)
    (subst (λ u. LeadBy S.field (key_order S) u t) right (member_lead S c.requires.positive.weights q c.requires.stands p.1 at.0.within).0) in
    let link : IsLink q p c.loop-k.k (common_multiple s t) = subst (IsLink q p c.loop-k.k) common (c.is_link.ensures.link c.if-is_link.true) in
    record {
      treated = λ _. subst (IsTreatedItem S q) (sym c.in-Pair.is)
          (subst (λ x. IsTreated S (members S q) x.0 x.1) (sym at.1) (link_treats S q c.requires.stands c.requires.positive.weights p c.loop-k.k at.0 link));
    }
