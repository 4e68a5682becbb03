use Rattle.std.proofs.Common.{◌≡◌, sym, subst, arith}
use Rattle.alg_core.specs.Keys.{Key}
use Rattle.alg_core.specs.Lists.{In}
use Rattle.alg_core.specs.Spaces.{over}
use Rattle.alg_core.specs.SpaceOrder.{key_order}
use Rattle.alg_core.specs.Vectors.{Vect, zero_vector}
use Rattle.poly_module.specs.Modules.{LeadBy}
use Rattle.poly_module.specs.SpaceVectors.{vector_of, vectors_of}
use Rattle.module_groebner.specs.HomogeneousLists.{cap_limit, AreHomogeneousUpTo, IsHomogeneousUpTo, AreNonzero}
use Rattle.module_groebner.specs.Interreductions.{IsDividedIn, HasMinimalLeads}
use Rattle.module_groebner.proofs.CriterionSteps.{are_homogeneous}
use Rattle.module_groebner.proofs.Families.{length_map, all_in}
use Rattle.module_groebner.proofs.InterreductionSteps.{all_from, made_homogeneous, made_reduced}
use Rattle.module_groebner.proofs.ListLaws.{each_homogeneous}
use Rattle.module_groebner.proofs.interreduction.interreduced.Goals as goal

pub minimal-requires-clause-nonzero : goal.minimal-requires-clause-nonzero
minimal-requires-clause-nonzero g c =
    let S = over g.F.Field.field g.O.TermOrder.order c.args.space.now in
    let of = vectors_of S (λ m. m) in
    all_from (λ u. ¬ (u ≡ zero_vector S.field)) (of c.args.members.now) (of c.in_ok-falling.falling.items) c.in_ok-falling.ensures.from c.requires.nonzero

pub tails_reduced-requires-clause-homogeneous : goal.tails_reduced-requires-clause-homogeneous
tails_reduced-requires-clause-homogeneous g c =
    let S = over g.F.Field.field g.O.TermOrder.order c.args.space.now in
    let of = vectors_of S (λ m. m) in
    subst (λ l. AreHomogeneousUpTo S cap_limit (vectors_of S (λ m. m) l)) (sym c.deref.ensures.value)
    (all_from (IsHomogeneousUpTo S cap_limit) (of c.args.members.now) (of c.in_ok-kept.kept.items) (λ w i. c.in_ok-falling.ensures.from w (c.in_ok-kept.ensures.from w i)) c.requires.homogeneous)

pub tails_reduced-requires-clause-nonzero : goal.tails_reduced-requires-clause-nonzero
tails_reduced-requires-clause-nonzero g c =
    let S = over g.F.Field.field g.O.TermOrder.order c.args.space.now in
    let of = vectors_of S (λ m. m) in
    subst (λ l. AreNonzero S.field (vectors_of S (λ m. m) l)) (sym c.deref.ensures.value)
    (all_from (λ u. ¬ (u ≡ zero_vector S.field)) (of c.args.members.now) (of c.in_ok-kept.kept.items) (λ w i. c.in_ok-falling.ensures.from w (c.in_ok-kept.ensures.from w i)) c.requires.nonzero)

pub returns-clause-reduced : goal.returns-clause-reduced
returns-clause-reduced g c =
    let S = over g.F.Field.field g.O.TermOrder.order c.args.space.now in
    let of = vectors_of S (λ m. m) in
    let d = c.deref.result.now in
    let back = sym c.deref.ensures.value in
    let from = subst (λ l. (w : Vect S.field) → In w (vectors_of S (λ m. m) l) → In w (of c.in_ok-falling.falling.items)) back c.in_ok-kept.ensures.from in
    let low = length_map (vector_of S (λ m. m)) d in
    let b = c.in_ok-basis.ensures in
    made_reduced S (of c.args.members.now) (of c.in_ok-falling.falling.items) (of d) (of c.in_ok-basis.basis.items) c.requires.positive.weights
    (each_homogeneous S (of c.args.members.now) (are_homogeneous S (λ m. m) cap_limit (of c.args.members.now) c.requires.homogeneous))
    c.in_ok-falling.ensures.from c.in_ok-falling.ensures.leads from
    (λ w i. all_in (λ u. ¬ (u ≡ zero_vector S.field)) (of c.args.members.now) c.requires.nonzero w (c.in_ok-falling.ensures.from w (from w i)))
    (subst (λ l. HasMinimalLeads S (vectors_of S (λ m. m) l)) back c.in_ok-kept.ensures.apart)
    (subst (λ l. (w : Vect S.field) (s : Key) → In w (of c.in_ok-falling.falling.items) → LeadBy S.field (key_order S) w s → IsDividedIn S (vectors_of S (λ m. m) l) s) back c.in_ok-kept.ensures.covers)
    b.falling (λ n i. let f = b.from n i in (f.0, (let h = f.1 in omega arith), f.2)) b.leads c.requires.basis

pub returns-clause-homogeneous : goal.returns-clause-homogeneous
returns-clause-homogeneous g c =
    let S = over g.F.Field.field g.O.TermOrder.order c.args.space.now in
    let of = vectors_of S (λ m. m) in
    let d = c.deref.result.now in
    let back = sym c.deref.ensures.value in
    let from = subst (λ l. (w : Vect S.field) → In w (vectors_of S (λ m. m) l) → In w (of c.in_ok-falling.falling.items)) back c.in_ok-kept.ensures.from in
    let low = length_map (vector_of S (λ m. m)) d in
    let b = c.in_ok-basis.ensures in
    made_homogeneous S (of c.args.members.now) (of c.in_ok-falling.falling.items) (of d) (of c.in_ok-basis.basis.items) c.requires.positive.weights
    (each_homogeneous S (of c.args.members.now) (are_homogeneous S (λ m. m) cap_limit (of c.args.members.now) c.requires.homogeneous))
    c.in_ok-falling.ensures.from c.in_ok-falling.ensures.leads from
    (λ w i. all_in (λ u. ¬ (u ≡ zero_vector S.field)) (of c.args.members.now) c.requires.nonzero w (c.in_ok-falling.ensures.from w (from w i)))
    (subst (λ l. HasMinimalLeads S (vectors_of S (λ m. m) l)) back c.in_ok-kept.ensures.apart)
    (subst (λ l. (w : Vect S.field) (s : Key) → In w (of c.in_ok-falling.falling.items) → LeadBy S.field (key_order S) w s → IsDividedIn S (vectors_of S (λ m. m) l) s) back c.in_ok-kept.ensures.covers)
    b.falling (λ n i. let f = b.from n i in (f.0, (let h = f.1 in omega arith), f.2)) b.leads
