use Rattle.std.proofs.Common.{◌≡◌, ◌<◌, map, length, sym, ap, ◌∙◌, refl, subst, arith}
use Rattle.alg_core.specs.Spaces.{over, entries}
use Rattle.module_groebner.specs.Progress.{lead_place, generator_degree, pair_degree}
use Rattle.module_groebner.proofs.Families.{length_map}
use Rattle.module_groebner.proofs.CompletionSteps.{generator_fits, generator_is, member_fits, member_not_zero, member_entries, pair_at}
use Rattle.module_groebner.proofs.ItemSteps.{Best, best_start, best_generator, best_pair, best_is_current, current_not_done, generator_degree_is, pair_degree_is}
use Rattle.module_groebner.proofs.completion.Completion.current.Goals as goal

pub generators-init : goal.generators-init
generators-init g c =
    let S = over g.F.Field.field g.O.TermOrder.order c.args.space.now in
    let q = c.args.self.now in
    let gs = c.self.inside.generators.items in
    let ms = c.self.inside.members.items in
    let eg : map (entries (λ m. m)) gs ≡ q.generators = ap (λ r. r.generators) c.self.view_is in
    let em : map (entries (λ m. m)) ms ≡ q.members = ap (λ r. r.members) c.self.view_is in
    let ep : c.self.inside.pairs.items ≡ q.pairs = ap (λ r. r.pairs) c.self.view_is in
    let n = length_map (entries (λ m. m)) gs in
    let e1 = ap length eg in
    let e2 = ap length ep in
    best_start q _ refl

pub generator_degree-d-requires : goal.generator_degree-d-requires
generator_degree-d-requires g c =
    let S = over g.F.Field.field g.O.TermOrder.order c.args.space.now in
    let q = c.args.self.now in
    let gs = c.self.inside.generators.items in
    let ms = c.self.inside.members.items in
    let eg : map (entries (λ m. m)) gs ≡ q.generators = ap (λ r. r.generators) c.self.view_is in
    let em : map (entries (λ m. m)) ms ≡ q.members = ap (λ r. r.members) c.self.view_is in
    let ep : c.self.inside.pairs.items ≡ q.pairs = ap (λ r. r.pairs) c.self.view_is in
    let n = length_map (entries (λ m. m)) gs in
    let e1 = ap length eg in
    let e2 = ap length ep in
    let within : c.generators.i < length q.generators = omega arith in
    record { vector = generator_fits S (λ m. m) c.requires.positive.weights q c.requires.stands gs ms eg em c.generators.i c.index-generator.result.now within c.index-generator.ensures }

pub generators-preserved : goal.generators-preserved
generators-preserved g c =
    let S = over g.F.Field.field g.O.TermOrder.order c.args.space.now in
    let q = c.args.self.now in
    let gs = c.self.inside.generators.items in
    let ms = c.self.inside.members.items in
    let eg : map (entries (λ m. m)) gs ≡ q.generators = ap (λ r. r.generators) c.self.view_is in
    let em : map (entries (λ m. m)) ms ≡ q.members = ap (λ r. r.members) c.self.view_is in
    let ep : c.self.inside.pairs.items ≡ q.pairs = ap (λ r. r.pairs) c.self.view_is in
    let n = length_map (entries (λ m. m)) gs in
    let e1 = ap length eg in
    let e2 = ap length ep in
    let within : c.generators.i < length q.generators = omega arith in
    best_generator q c.generators.i _ _ c.generator_degree-d.result c.generators.invariant within
    (c.generator_degree-d.ensures.is ∙ generator_degree_is q S.weights S.shifts c.requires.stands.weights c.requires.stands.shifts (entries (λ m. m) c.index-generator.result.now)
    ∙ ap (generator_degree q) (sym (generator_is S (λ m. m) c.requires.positive.weights q c.requires.stands gs ms eg em c.generators.i c.index-generator.result.now within c.index-generator.ensures)))
    c.lesser-best.ensures.some c.lesser-best.ensures.one c.lesser-best.ensures.new c.lesser-best.ensures.old

pub pairs-init : goal.pairs-init
pairs-init g c =
    let S = over g.F.Field.field g.O.TermOrder.order c.args.space.now in
    let q = c.args.self.now in
    let gs = c.self.inside.generators.items in
    let ms = c.self.inside.members.items in
    let eg : map (entries (λ m. m)) gs ≡ q.generators = ap (λ r. r.generators) c.self.view_is in
    let em : map (entries (λ m. m)) ms ≡ q.members = ap (λ r. r.members) c.self.view_is in
    let ep : c.self.inside.pairs.items ≡ q.pairs = ap (λ r. r.pairs) c.self.view_is in
    let n = length_map (entries (λ m. m)) gs in
    let e1 = ap length eg in
    let e2 = ap length ep in
    let at : c.generators.i ≡ length q.generators = omega arith in subst (λ i. Best q i 0 c.generators.best) at c.generators.invariant

pub pair_degree-requires-clause-left : goal.pair_degree-requires-clause-left
pair_degree-requires-clause-left g c =
    let S = over g.F.Field.field g.O.TermOrder.order c.args.space.now in
    let q = c.args.self.now in
    let gs = c.self.inside.generators.items in
    let ms = c.self.inside.members.items in
    let eg : map (entries (λ m. m)) gs ≡ q.generators = ap (λ r. r.generators) c.self.view_is in
    let em : map (entries (λ m. m)) ms ≡ q.members = ap (λ r. r.members) c.self.view_is in
    let ep : c.self.inside.pairs.items ≡ q.pairs = ap (λ r. r.pairs) c.self.view_is in
    let n = length_map (entries (λ m. m)) gs in
    let e1 = ap length eg in
    let e2 = ap length ep in
    let within : c.pairs.i < length q.pairs = omega arith in
    let p = c.index.result.now in
    let at = pair_at S (λ m. m) c.requires.positive.weights q c.requires.stands gs ms eg em c.self.inside.pairs.items c.pairs.i p ep within c.index.ensures in
    let first : p.0 < length q.members = let a = at.0.rising in let b = at.0.within in omega arith in
    member_fits S (λ m. m) c.requires.positive.weights q c.requires.stands gs ms eg em p.0 c.index-left.result.now first c.index-left.ensures

pub pair_degree-requires-clause-right : goal.pair_degree-requires-clause-right
pair_degree-requires-clause-right g c =
    let S = over g.F.Field.field g.O.TermOrder.order c.args.space.now in
    let q = c.args.self.now in
    let gs = c.self.inside.generators.items in
    let ms = c.self.inside.members.items in
    let eg : map (entries (λ m. m)) gs ≡ q.generators = ap (λ r. r.generators) c.self.view_is in
    let em : map (entries (λ m. m)) ms ≡ q.members = ap (λ r. r.members) c.self.view_is in
    let ep : c.self.inside.pairs.items ≡ q.pairs = ap (λ r. r.pairs) c.self.view_is in
    let n = length_map (entries (λ m. m)) gs in
    let e1 = ap length eg in
    let e2 = ap length ep in
    let within : c.pairs.i < length q.pairs = omega arith in
    let p = c.index.result.now in
    let at = pair_at S (λ m. m) c.requires.positive.weights q c.requires.stands gs ms eg em c.self.inside.pairs.items c.pairs.i p ep within c.index.ensures in
    let first : p.0 < length q.members = let a = at.0.rising in let b = at.0.within in omega arith in
    member_fits S (λ m. m) c.requires.positive.weights q c.requires.stands gs ms eg em p.1 c.index-right.result.now at.0.within c.index-right.ensures

pub pair_degree-requires-clause-left_not_zero : goal.pair_degree-requires-clause-left_not_zero
pair_degree-requires-clause-left_not_zero g c =
    let S = over g.F.Field.field g.O.TermOrder.order c.args.space.now in
    let q = c.args.self.now in
    let gs = c.self.inside.generators.items in
    let ms = c.self.inside.members.items in
    let eg : map (entries (λ m. m)) gs ≡ q.generators = ap (λ r. r.generators) c.self.view_is in
    let em : map (entries (λ m. m)) ms ≡ q.members = ap (λ r. r.members) c.self.view_is in
    let ep : c.self.inside.pairs.items ≡ q.pairs = ap (λ r. r.pairs) c.self.view_is in
    let n = length_map (entries (λ m. m)) gs in
    let e1 = ap length eg in
    let e2 = ap length ep in
    let within : c.pairs.i < length q.pairs = omega arith in
    let p = c.index.result.now in
    let at = pair_at S (λ m. m) c.requires.positive.weights q c.requires.stands gs ms eg em c.self.inside.pairs.items c.pairs.i p ep within c.index.ensures in
    let first : p.0 < length q.members = let a = at.0.rising in let b = at.0.within in omega arith in
    member_not_zero S (λ m. m) c.requires.positive.weights q c.requires.stands gs ms eg em p.0 c.index-left.result.now first c.index-left.ensures

pub pair_degree-requires-clause-right_not_zero : goal.pair_degree-requires-clause-right_not_zero
pair_degree-requires-clause-right_not_zero g c =
    let S = over g.F.Field.field g.O.TermOrder.order c.args.space.now in
    let q = c.args.self.now in
    let gs = c.self.inside.generators.items in
    let ms = c.self.inside.members.items in
    let eg : map (entries (λ m. m)) gs ≡ q.generators = ap (λ r. r.generators) c.self.view_is in
    let em : map (entries (λ m. m)) ms ≡ q.members = ap (λ r. r.members) c.self.view_is in
    let ep : c.self.inside.pairs.items ≡ q.pairs = ap (λ r. r.pairs) c.self.view_is in
    let n = length_map (entries (λ m. m)) gs in
    let e1 = ap length eg in
    let e2 = ap length ep in
    let within : c.pairs.i < length q.pairs = omega arith in
    let p = c.index.result.now in
    let at = pair_at S (λ m. m) c.requires.positive.weights q c.requires.stands gs ms eg em c.self.inside.pairs.items c.pairs.i p ep within c.index.ensures in
    let first : p.0 < length q.members = let a = at.0.rising in let b = at.0.within in omega arith in
    member_not_zero S (λ m. m) c.requires.positive.weights q c.requires.stands gs ms eg em p.1 c.index-right.result.now at.0.within c.index-right.ensures

pub pair_degree-requires-clause-position : goal.pair_degree-requires-clause-position
pair_degree-requires-clause-position g c =
    let S = over g.F.Field.field g.O.TermOrder.order c.args.space.now in
    let q = c.args.self.now in
    let gs = c.self.inside.generators.items in
    let ms = c.self.inside.members.items in
    let eg : map (entries (λ m. m)) gs ≡ q.generators = ap (λ r. r.generators) c.self.view_is in
    let em : map (entries (λ m. m)) ms ≡ q.members = ap (λ r. r.members) c.self.view_is in
    let ep : c.self.inside.pairs.items ≡ q.pairs = ap (λ r. r.pairs) c.self.view_is in
    let n = length_map (entries (λ m. m)) gs in
    let e1 = ap length eg in
    let e2 = ap length ep in
    let within : c.pairs.i < length q.pairs = omega arith in
    let p = c.index.result.now in
    let at = pair_at S (λ m. m) c.requires.positive.weights q c.requires.stands gs ms eg em c.self.inside.pairs.items c.pairs.i p ep within c.index.ensures in
    let first : p.0 < length q.members = let a = at.0.rising in let b = at.0.within in omega arith in
    ap (λ x. (lead_place x).0) (sym (member_entries S (λ m. m) c.requires.positive.weights q c.requires.stands gs ms eg em p.0 c.index-left.result.now first c.index-left.ensures)) ∙ at.0.position
    ∙ ap (λ x. (lead_place x).0) (member_entries S (λ m. m) c.requires.positive.weights q c.requires.stands gs ms eg em p.1 c.index-right.result.now at.0.within c.index-right.ensures)

pub pairs-preserved : goal.pairs-preserved
pairs-preserved g c =
    let S = over g.F.Field.field g.O.TermOrder.order c.args.space.now in
    let q = c.args.self.now in
    let gs = c.self.inside.generators.items in
    let ms = c.self.inside.members.items in
    let eg : map (entries (λ m. m)) gs ≡ q.generators = ap (λ r. r.generators) c.self.view_is in
    let em : map (entries (λ m. m)) ms ≡ q.members = ap (λ r. r.members) c.self.view_is in
    let ep : c.self.inside.pairs.items ≡ q.pairs = ap (λ r. r.pairs) c.self.view_is in
    let n = length_map (entries (λ m. m)) gs in
    let e1 = ap length eg in
    let e2 = ap length ep in
    let within : c.pairs.i < length q.pairs = omega arith in
    let p = c.index.result.now in
    let at = pair_at S (λ m. m) c.requires.positive.weights q c.requires.stands gs ms eg em c.self.inside.pairs.items c.pairs.i p ep within c.index.ensures in
    let first : p.0 < length q.members = let a = at.0.rising in let b = at.0.within in omega arith in
    best_pair q (length q.generators) c.pairs.i _ _ c.in_ok-d.d c.pairs.invariant within
    (c.in_ok-d.ensures.is ∙ pair_degree_is q S.weights S.shifts c.requires.stands.weights c.requires.stands.shifts p _ _
    (member_entries S (λ m. m) c.requires.positive.weights q c.requires.stands gs ms eg em p.0 c.index-left.result.now first c.index-left.ensures) (member_entries S (λ m. m) c.requires.positive.weights q c.requires.stands gs ms eg em p.1 c.index-right.result.now at.0.within c.index-right.ensures)
    ∙ ap (pair_degree q) (sym at.1))
    c.lesser-best-in-pairs.ensures.some c.lesser-best-in-pairs.ensures.one c.lesser-best-in-pairs.ensures.new c.lesser-best-in-pairs.ensures.old

pub returns-in-Some-clause-current : goal.returns-in-Some-clause-current
returns-in-Some-clause-current g c =
    let S = over g.F.Field.field g.O.TermOrder.order c.args.space.now in
    let q = c.args.self.now in
    let gs = c.self.inside.generators.items in
    let ms = c.self.inside.members.items in
    let eg : map (entries (λ m. m)) gs ≡ q.generators = ap (λ r. r.generators) c.self.view_is in
    let em : map (entries (λ m. m)) ms ≡ q.members = ap (λ r. r.members) c.self.view_is in
    let ep : c.self.inside.pairs.items ≡ q.pairs = ap (λ r. r.pairs) c.self.view_is in
    let n = length_map (entries (λ m. m)) gs in
    let e1 = ap length eg in
    let e2 = ap length ep in
    best_is_current q (length q.generators) c.pairs.i _ c.in-Some.candidate (omega arith) (omega arith) c.pairs.invariant c.in-Some.is

pub returns-in-Some-clause-none : goal.returns-in-Some-clause-none
returns-in-Some-clause-none g c =
    let S = over g.F.Field.field g.O.TermOrder.order c.args.space.now in
    let q = c.args.self.now in
    let gs = c.self.inside.generators.items in
    let ms = c.self.inside.members.items in
    let eg : map (entries (λ m. m)) gs ≡ q.generators = ap (λ r. r.generators) c.self.view_is in
    let em : map (entries (λ m. m)) ms ≡ q.members = ap (λ r. r.members) c.self.view_is in
    let ep : c.self.inside.pairs.items ≡ q.pairs = ap (λ r. r.pairs) c.self.view_is in
    let n = length_map (entries (λ m. m)) gs in
    let e1 = ap length eg in
    let e2 = ap length ep in
    let here = best_is_current q (length q.generators) c.pairs.i _ c.in-Some.candidate (omega arith) (omega arith) c.pairs.invariant c.in-Some.is in
    (λ h. absurd cc, λ d. absurd (current_not_done q c.in-Some.candidate.item here d))
