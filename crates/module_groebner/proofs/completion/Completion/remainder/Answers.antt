use Rattle.std.proofs.Common.{◌≡◌, ◌<◌, map, length, sym, ap, ◌∙◌, subst, arith}
use Rattle.alg_core.specs.Spaces.{over, entries}
use Rattle.alg_core.specs.Vectors.{vec}
use Rattle.poly_module.specs.Modules.{listed}
use Rattle.poly_module.specs.SpaceVectors.{vector_of, vectors_of, AreVectors}
use Rattle.module_groebner.specs.HomogeneousLists.{AreHomogeneous, AreNonzero}
use Rattle.module_groebner.specs.Completions.{members}
use Rattle.module_groebner.specs.Items.{IsWithin, IsVectorOfItem}
use Rattle.module_groebner.specs.Remainders.{IsRemainder}
use Rattle.module_groebner.specs.SVectors.{IsSVector}
use Rattle.module_groebner.proofs.CompletionSteps.{generator_up_to, generator_is, member_up_to, member_is, all_vectors, all_homogeneous, all_nonzero, all_members, pair_at, pair_leads}
use Rattle.module_groebner.proofs.PairSteps.{s_up_to}
use Rattle.module_groebner.proofs.completion.Completion.remainder.Goals as goal

pub divide-requires-clause-degree : goal.divide-requires-clause-degree
divide-requires-clause-degree g c =
    let S = over g.F.Field.field g.O.TermOrder.order c.args.space.now in
    let q = c.args.self.now in
    let gs = c.self.inside.generators.items in
    let ms = c.self.inside.members.items in
    let eg : map (entries (λ m. m)) gs ≡ q.generators = ap (λ r. r.generators) c.self.view_is in
    let em : map (entries (λ m. m)) ms ≡ q.members = ap (λ r. r.members) c.self.view_is in
    let within : c.in-Generator.i < length q.generators = subst (IsWithin q) c.in-Generator.is c.requires.current.within in
    generator_up_to S (λ m. m) c.requires.positive.weights q c.requires.stands gs ms eg em c.in-Generator.i c.index.result.now within c.index.ensures

pub divide-requires-clause-list : goal.divide-requires-clause-list
divide-requires-clause-list g c =
    let S = over g.F.Field.field g.O.TermOrder.order c.args.space.now in
    let q = c.args.self.now in
    let gs = c.self.inside.generators.items in
    let ms = c.self.inside.members.items in
    let eg : map (entries (λ m. m)) gs ≡ q.generators = ap (λ r. r.generators) c.self.view_is in
    let em : map (entries (λ m. m)) ms ≡ q.members = ap (λ r. r.members) c.self.view_is in
    subst (AreVectors S (λ m. m)) (sym c.deref.ensures.value) (all_vectors S (λ m. m) c.requires.positive.weights q c.requires.stands gs ms eg em)

pub divide-requires-clause-homogeneous : goal.divide-requires-clause-homogeneous
divide-requires-clause-homogeneous g c =
    let S = over g.F.Field.field g.O.TermOrder.order c.args.space.now in
    let q = c.args.self.now in
    let gs = c.self.inside.generators.items in
    let ms = c.self.inside.members.items in
    let eg : map (entries (λ m. m)) gs ≡ q.generators = ap (λ r. r.generators) c.self.view_is in
    let em : map (entries (λ m. m)) ms ≡ q.members = ap (λ r. r.members) c.self.view_is in
    subst (λ l. AreHomogeneous S (vectors_of S (λ m. m) l)) (sym c.deref.ensures.value) (all_homogeneous S (λ m. m) c.requires.positive.weights q c.requires.stands gs ms eg em)

pub divide-requires-clause-nonzero : goal.divide-requires-clause-nonzero
divide-requires-clause-nonzero g c =
    let S = over g.F.Field.field g.O.TermOrder.order c.args.space.now in
    let q = c.args.self.now in
    let gs = c.self.inside.generators.items in
    let ms = c.self.inside.members.items in
    let eg : map (entries (λ m. m)) gs ≡ q.generators = ap (λ r. r.generators) c.self.view_is in
    let em : map (entries (λ m. m)) ms ≡ q.members = ap (λ r. r.members) c.self.view_is in
    subst (λ l. AreNonzero S.field (vectors_of S (λ m. m) l)) (sym c.deref.ensures.value) (all_nonzero S (λ m. m) c.requires.positive.weights q c.requires.stands gs ms eg em)

pub s_vector-requires-clause-left_degree : goal.s_vector-requires-clause-left_degree
s_vector-requires-clause-left_degree g c =
    let S = over g.F.Field.field g.O.TermOrder.order c.args.space.now in
    let q = c.args.self.now in
    let gs = c.self.inside.generators.items in
    let ms = c.self.inside.members.items in
    let eg : map (entries (λ m. m)) gs ≡ q.generators = ap (λ r. r.generators) c.self.view_is in
    let em : map (entries (λ m. m)) ms ≡ q.members = ap (λ r. r.members) c.self.view_is in
    let within : c.in-Pair.i < length q.pairs = subst (IsWithin q) c.in-Pair.is c.requires.current.within in
    let at = pair_at S (λ m. m) c.requires.positive.weights q c.requires.stands gs ms eg em c.self.inside.pairs.items c.in-Pair.i c.index-in-Pair.result.now (ap (λ r. r.pairs) c.self.view_is) within c.index-in-Pair.ensures in
    let first : c.index-in-Pair.result.now.0 < length q.members = let a = at.0.rising in let b = at.0.within in omega arith in
    member_up_to S (λ m. m) c.requires.positive.weights q c.requires.stands gs ms eg em c.index-in-Pair.result.now.0 c.index-left.result.now first c.index-left.ensures

pub s_vector-requires-clause-right_degree : goal.s_vector-requires-clause-right_degree
s_vector-requires-clause-right_degree g c =
    let S = over g.F.Field.field g.O.TermOrder.order c.args.space.now in
    let q = c.args.self.now in
    let gs = c.self.inside.generators.items in
    let ms = c.self.inside.members.items in
    let eg : map (entries (λ m. m)) gs ≡ q.generators = ap (λ r. r.generators) c.self.view_is in
    let em : map (entries (λ m. m)) ms ≡ q.members = ap (λ r. r.members) c.self.view_is in
    let within : c.in-Pair.i < length q.pairs = subst (IsWithin q) c.in-Pair.is c.requires.current.within in
    let at = pair_at S (λ m. m) c.requires.positive.weights q c.requires.stands gs ms eg em c.self.inside.pairs.items c.in-Pair.i c.index-in-Pair.result.now (ap (λ r. r.pairs) c.self.view_is) within c.index-in-Pair.ensures in
    let first : c.index-in-Pair.result.now.0 < length q.members = let a = at.0.rising in let b = at.0.within in omega arith in
    member_up_to S (λ m. m) c.requires.positive.weights q c.requires.stands gs ms eg em c.index-in-Pair.result.now.1 c.index-right.result.now at.0.within c.index-right.ensures

pub s_vector-requires-clause-position : goal.s_vector-requires-clause-position
s_vector-requires-clause-position g c =
    let S = over g.F.Field.field g.O.TermOrder.order c.args.space.now in
    let q = c.args.self.now in
    let gs = c.self.inside.generators.items in
    let ms = c.self.inside.members.items in
    let eg : map (entries (λ m. m)) gs ≡ q.generators = ap (λ r. r.generators) c.self.view_is in
    let em : map (entries (λ m. m)) ms ≡ q.members = ap (λ r. r.members) c.self.view_is in
    let within : c.in-Pair.i < length q.pairs = subst (IsWithin q) c.in-Pair.is c.requires.current.within in
    let at = pair_at S (λ m. m) c.requires.positive.weights q c.requires.stands gs ms eg em c.self.inside.pairs.items c.in-Pair.i c.index-in-Pair.result.now (ap (λ r. r.pairs) c.self.view_is) within c.index-in-Pair.ensures in
    let first : c.index-in-Pair.result.now.0 < length q.members = let a = at.0.rising in let b = at.0.within in omega arith in
    pair_leads S (λ m. m) c.requires.positive.weights q c.requires.stands gs ms eg em c.index-in-Pair.result.now c.index-left.result.now c.index-right.result.now at.0 c.index-left.ensures c.index-right.ensures

pub divide-requires-in-Pair-clause-degree : goal.divide-requires-in-Pair-clause-degree
divide-requires-in-Pair-clause-degree g c =
    let S = over g.F.Field.field g.O.TermOrder.order c.args.space.now in
    let q = c.args.self.now in
    let gs = c.self.inside.generators.items in
    let ms = c.self.inside.members.items in
    let eg : map (entries (λ m. m)) gs ≡ q.generators = ap (λ r. r.generators) c.self.view_is in
    let em : map (entries (λ m. m)) ms ≡ q.members = ap (λ r. r.members) c.self.view_is in
    let within : c.in-Pair.i < length q.pairs = subst (IsWithin q) c.in-Pair.is c.requires.current.within in
    let at = pair_at S (λ m. m) c.requires.positive.weights q c.requires.stands gs ms eg em c.self.inside.pairs.items c.in-Pair.i c.index-in-Pair.result.now (ap (λ r. r.pairs) c.self.view_is) within c.index-in-Pair.ensures in
    let first : c.index-in-Pair.result.now.0 < length q.members = let a = at.0.rising in let b = at.0.within in omega arith in
    s_up_to S (vector_of S (λ m. m) c.index-left.result.now) (vector_of S (λ m. m) c.index-right.result.now) (vector_of S (λ m. m) c.in_ok-v-in-Pair.v) c.in_ok-v-in-Pair.ensures.is
    (member_up_to S (λ m. m) c.requires.positive.weights q c.requires.stands gs ms eg em c.index-in-Pair.result.now.0 c.index-left.result.now first c.index-left.ensures) (member_up_to S (λ m. m) c.requires.positive.weights q c.requires.stands gs ms eg em c.index-in-Pair.result.now.1 c.index-right.result.now at.0.within c.index-right.ensures)

pub divide-requires-in-Pair-clause-list : goal.divide-requires-in-Pair-clause-list
divide-requires-in-Pair-clause-list g c =
    let S = over g.F.Field.field g.O.TermOrder.order c.args.space.now in
    let q = c.args.self.now in
    let gs = c.self.inside.generators.items in
    let ms = c.self.inside.members.items in
    let eg : map (entries (λ m. m)) gs ≡ q.generators = ap (λ r. r.generators) c.self.view_is in
    let em : map (entries (λ m. m)) ms ≡ q.members = ap (λ r. r.members) c.self.view_is in
    subst (AreVectors S (λ m. m)) (sym c.deref-in-Pair.ensures.value) (all_vectors S (λ m. m) c.requires.positive.weights q c.requires.stands gs ms eg em)

pub divide-requires-in-Pair-clause-homogeneous : goal.divide-requires-in-Pair-clause-homogeneous
divide-requires-in-Pair-clause-homogeneous g c =
    let S = over g.F.Field.field g.O.TermOrder.order c.args.space.now in
    let q = c.args.self.now in
    let gs = c.self.inside.generators.items in
    let ms = c.self.inside.members.items in
    let eg : map (entries (λ m. m)) gs ≡ q.generators = ap (λ r. r.generators) c.self.view_is in
    let em : map (entries (λ m. m)) ms ≡ q.members = ap (λ r. r.members) c.self.view_is in
    subst (λ l. AreHomogeneous S (vectors_of S (λ m. m) l)) (sym c.deref-in-Pair.ensures.value) (all_homogeneous S (λ m. m) c.requires.positive.weights q c.requires.stands gs ms eg em)

pub divide-requires-in-Pair-clause-nonzero : goal.divide-requires-in-Pair-clause-nonzero
divide-requires-in-Pair-clause-nonzero g c =
    let S = over g.F.Field.field g.O.TermOrder.order c.args.space.now in
    let q = c.args.self.now in
    let gs = c.self.inside.generators.items in
    let ms = c.self.inside.members.items in
    let eg : map (entries (λ m. m)) gs ≡ q.generators = ap (λ r. r.generators) c.self.view_is in
    let em : map (entries (λ m. m)) ms ≡ q.members = ap (λ r. r.members) c.self.view_is in
    subst (λ l. AreNonzero S.field (vectors_of S (λ m. m) l)) (sym c.deref-in-Pair.ensures.value) (all_nonzero S (λ m. m) c.requires.positive.weights q c.requires.stands gs ms eg em)

pub returns-in_ok-r-in-Generator-clause-remainder : goal.returns-in_ok-r-in-Generator-clause-remainder
returns-in_ok-r-in-Generator-clause-remainder g c =
    let S = over g.F.Field.field g.O.TermOrder.order c.args.space.now in
    let q = c.args.self.now in
    let gs = c.self.inside.generators.items in
    let ms = c.self.inside.members.items in
    let eg : map (entries (λ m. m)) gs ≡ q.generators = ap (λ r. r.generators) c.self.view_is in
    let em : map (entries (λ m. m)) ms ≡ q.members = ap (λ r. r.members) c.self.view_is in
    let within : c.in-Generator.i < length q.generators = subst (IsWithin q) c.in-Generator.is c.requires.current.within in
    let v = vector_of S (λ m. m) c.index.result.now in
    let r = vector_of S (λ m. m) c.in_ok-r-in-Generator.r in
    let same = ap (λ l. listed S.field (vectors_of S (λ m. m) l)) c.deref.ensures.value ∙ all_members S (λ m. m) c.requires.positive.weights q c.requires.stands gs ms eg em in (
      v,
      subst (λ i. IsVectorOfItem S q i v) (sym c.in-Generator.is) (ap (vec S.field) (generator_is S (λ m. m) c.requires.positive.weights q c.requires.stands gs ms eg em c.in-Generator.i c.index.result.now within c.index.ensures)),
      subst (λ h. IsRemainder S h v r) same c.in_ok-r-in-Generator.ensures.remainder,
      c.in_ok-r-in-Generator.ensures.degrees,
    )

pub returns-in_ok-r-in-Pair-clause-remainder : goal.returns-in_ok-r-in-Pair-clause-remainder
returns-in_ok-r-in-Pair-clause-remainder g c =
    let S = over g.F.Field.field g.O.TermOrder.order c.args.space.now in
    let q = c.args.self.now in
    let gs = c.self.inside.generators.items in
    let ms = c.self.inside.members.items in
    let eg : map (entries (λ m. m)) gs ≡ q.generators = ap (λ r. r.generators) c.self.view_is in
    let em : map (entries (λ m. m)) ms ≡ q.members = ap (λ r. r.members) c.self.view_is in
    let within : c.in-Pair.i < length q.pairs = subst (IsWithin q) c.in-Pair.is c.requires.current.within in
    let at = pair_at S (λ m. m) c.requires.positive.weights q c.requires.stands gs ms eg em c.self.inside.pairs.items c.in-Pair.i c.index-in-Pair.result.now (ap (λ r. r.pairs) c.self.view_is) within c.index-in-Pair.ensures in
    let first : c.index-in-Pair.result.now.0 < length q.members = let a = at.0.rising in let b = at.0.within in omega arith in
    let p = c.index-in-Pair.result.now in
    let v = vector_of S (λ m. m) c.in_ok-v-in-Pair.v in
    let r = vector_of S (λ m. m) c.in_ok-r-in-Pair.r in
    let same = ap (λ l. listed S.field (vectors_of S (λ m. m) l)) c.deref-in-Pair.ensures.value ∙ all_members S (λ m. m) c.requires.positive.weights q c.requires.stands gs ms eg em in
    let left = member_is S (λ m. m) c.requires.positive.weights q c.requires.stands gs ms eg em p.0 c.index-left.result.now first c.index-left.ensures in
    let right = member_is S (λ m. m) c.requires.positive.weights q c.requires.stands gs ms eg em p.1 c.index-right.result.now at.0.within c.index-right.ensures in (
      v,
      subst (λ i. IsVectorOfItem S q i v) (sym c.in-Pair.is) (subst (λ x. IsSVector S (members S q x.0) (members S q x.1) v) (sym at.1)
          (subst (λ u. IsSVector S u (members S q p.1) v) (sym left) (subst (λ u. IsSVector S (vector_of S (λ m. m) c.index-left.result.now) u v) (sym right) c.in_ok-v-in-Pair.ensures.is))),
      subst (λ h. IsRemainder S h v r) same c.in_ok-r-in-Pair.ensures.remainder,
      c.in_ok-r-in-Pair.ensures.degrees,
    )
