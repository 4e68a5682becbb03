use Rattle.std.proofs.Common.{◌≡◌, map, sym, ap, subst}
use Rattle.alg_core.specs.Spaces.{over, entries}
use Rattle.alg_core.specs.SpaceOrder.{key_order}
use Rattle.poly_module.specs.Modules.{IsGroebnerBasis, listed}
use Rattle.poly_module.specs.ReducedLists.{IsReducedBasis}
use Rattle.poly_module.specs.SpaceVectors.{AreVectors, vectors_of}
use Rattle.module_groebner.specs.HomogeneousLists.{cap_limit, AreHomogeneousUpTo, AreNonzero}
use Rattle.module_groebner.proofs.CompletionResults.{finished_nothing_above}
use Rattle.module_groebner.proofs.FinishSteps.{terms_fit, terms_homogeneous, terms_nonzero, at_cap, terms_basis, terms_reduced}
use Rattle.module_groebner.proofs.completion.Completion.reduced.Goals as goal

pub interreduced-requires-clause-members : goal.interreduced-requires-clause-members
interreduced-requires-clause-members g c =
    let S = over g.F.Field.field g.O.TermOrder.order c.args.space.now in
    let q = c.args.self.now in
    let ms = c.self.inside.members.items in
    let em : q.members ≡ map (entries (λ m. m)) ms = sym (ap (λ r. r.members) c.self.view_is) in
    subst (AreVectors S (λ m. m)) (sym c.deref.ensures.value) (terms_fit S (λ m. m) q ms em c.requires.stands)

pub interreduced-requires-clause-homogeneous : goal.interreduced-requires-clause-homogeneous
interreduced-requires-clause-homogeneous g c =
    let S = over g.F.Field.field g.O.TermOrder.order c.args.space.now in
    let q = c.args.self.now in
    let ms = c.self.inside.members.items in
    let em : q.members ≡ map (entries (λ m. m)) ms = sym (ap (λ r. r.members) c.self.view_is) in
    subst (λ l. AreHomogeneousUpTo S cap_limit (vectors_of S (λ m. m) l)) (sym c.deref.ensures.value) (terms_homogeneous S (λ m. m) q ms em c.requires.stands)

pub interreduced-requires-clause-nonzero : goal.interreduced-requires-clause-nonzero
interreduced-requires-clause-nonzero g c =
    let S = over g.F.Field.field g.O.TermOrder.order c.args.space.now in
    let q = c.args.self.now in
    let ms = c.self.inside.members.items in
    let em : q.members ≡ map (entries (λ m. m)) ms = sym (ap (λ r. r.members) c.self.view_is) in
    subst (λ l. AreNonzero S.field (vectors_of S (λ m. m) l)) (sym c.deref.ensures.value) (terms_nonzero S (λ m. m) q ms em c.requires.stands)

pub interreduced-requires-clause-basis : goal.interreduced-requires-clause-basis
interreduced-requires-clause-basis g c =
    let S = over g.F.Field.field g.O.TermOrder.order c.args.space.now in
    let q = c.args.self.now in
    let ms = c.self.inside.members.items in
    let em : q.members ≡ map (entries (λ m. m)) ms = sym (ap (λ r. r.members) c.self.view_is) in
    subst (λ l. IsGroebnerBasis S.field (listed S.field (vectors_of S (λ m. m) l)) (key_order S)) (sym c.deref.ensures.value) (terms_basis S (λ m. m) q ms em c.requires.stands c.requires.positive.weights c.requires.done)

pub returns-clause-reduced : goal.returns-clause-reduced
returns-clause-reduced g c =
    let S = over g.F.Field.field g.O.TermOrder.order c.args.space.now in
    let q = c.args.self.now in
    let ms = c.self.inside.members.items in
    let em : q.members ≡ map (entries (λ m. m)) ms = sym (ap (λ r. r.members) c.self.view_is) in
    let made = vectors_of S (λ m. m) c.in_ok-basis.basis.items in
    terms_reduced S (λ m. m) q ms em c.requires.stands c.requires.positive.weights c.requires.done made
    (subst (λ l. IsReducedBasis S (listed S.field (vectors_of S (λ m. m) l)) made) c.deref.ensures.value c.in_ok-basis.ensures.reduced)

pub returns-clause-homogeneous : goal.returns-clause-homogeneous
returns-clause-homogeneous g c =
    let S = over g.F.Field.field g.O.TermOrder.order c.args.space.now in
    let q = c.args.self.now in
    let ms = c.self.inside.members.items in
    let em : q.members ≡ map (entries (λ m. m)) ms = sym (ap (λ r. r.members) c.self.view_is) in
    let made = vectors_of S (λ m. m) c.in_ok-basis.basis.items in
    at_cap S (λ m. m) q ms em c.requires.stands made
    (λ d h. c.in_ok-basis.ensures.homogeneous d (subst (λ l. AreHomogeneousUpTo S d (vectors_of S (λ m. m) l)) (sym c.deref.ensures.value) h))

pub returns-clause-within : goal.returns-clause-within
returns-clause-within g c =
    let S = over g.F.Field.field g.O.TermOrder.order c.args.space.now in
    finished_nothing_above S c.requires.positive.weights c.args.self.now c.requires.stands c.requires.done
