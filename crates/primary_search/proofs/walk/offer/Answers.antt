use Rattle.std.proofs.Common.{◌⊎◌, ◌∙◌, ◌++◌, [], ◌∷◌, Err, refl, sym, ap, subst, arith}
use Rattle.std.specs.Prelude.{IsTrue, ◌↔◌}
use Rattle.alg_core.specs.SpaceOrder.{key_order}
use Rattle.alg_core.specs.Spaces.{over}
use Rattle.poly_module.specs.Modules.{listed, IsGroebnerBasis}
use Rattle.poly_module.specs.SpaceVectors.{vector_of, vectors_of}
use Rattle.module_groebner.specs.HomogeneousLists.{degree_limit, AreNonzero}
use Rattle.finite_certificate.specs.Ideals.{InIdeal, Nonzerodivisor}
use Rattle.groebner_hom.specs.Colons.{NoColonAbove, IsColonBound}
use Rattle.groebner_hom.specs.IdealBases.{AreHomogeneousPolys, IsIdealBound}
use Rattle.poly_module.proofs.Reduced.{reduced_is_basis}
use Rattle.groebner_hom.proofs.NonzerodivisorSteps.{polys_weaken}
use Rattle.groebner_hom.proofs.PolynomialLists.{members_nonzero}
use Rattle.groebner_hom.proofs.SecondParts.{not_true}
use Rattle.primary_search.proofs.KeptLaws.{copy_homogeneous, homogeneous_more}
use Rattle.primary_search.proofs.KeptSteps.{kept_colon, kept_nonzerodivisor, kept_passed, kept_colon_stop, taken_whole, grown_ideal, grown_reduced, grown_stop}
use Rattle.primary_search.proofs.OfferSteps.{told, offer_taken, offer_last, outcome, polys_push}
use Rattle.primary_search.proofs.walk.offer.Goals as goal

pub is_nonzerodivisor_by_basis-requires-clause-polynomials : goal.is_nonzerodivisor_by_basis-requires-clause-polynomials
is_nonzerodivisor_by_basis-requires-clause-polynomials g c =
    let S = over g.F.Field.field g.O.TermOrder.order c.args.space.now in
    subst (AreHomogeneousPolys S c.args.limits.now.max_basis) (sym c.as_slice.ensures.value) c.requires.kept.polynomials

pub is_nonzerodivisor_by_basis-requires-clause-nonzero : goal.is_nonzerodivisor_by_basis-requires-clause-nonzero
is_nonzerodivisor_by_basis-requires-clause-nonzero g c =
    let S = over g.F.Field.field g.O.TermOrder.order c.args.space.now in
    let xs = vectors_of S (λ m. m) in
    subst (λ l. AreNonzero S.field (xs l)) (sym c.as_slice.ensures.value)
    (members_nonzero S (InIdeal S.field (xs c.args.taken.now.members.items)) (xs c.args.taken.now.basis.items) c.requires.kept.reduced)

pub is_nonzerodivisor_by_basis-requires-clause-basis : goal.is_nonzerodivisor_by_basis-requires-clause-basis
is_nonzerodivisor_by_basis-requires-clause-basis g c =
    let S = over g.F.Field.field g.O.TermOrder.order c.args.space.now in
    let xs = vectors_of S (λ m. m) in
    subst (λ l. IsGroebnerBasis S.field (listed S.field (xs l)) (key_order S)) (sym c.as_slice.ensures.value)
    (reduced_is_basis S (listed S.field (xs c.args.taken.now.members.items)) (xs c.args.taken.now.basis.items) c.requires.kept.reduced)

pub returns-in_err-is_nonzerodivisor_by_basis-clause-stop : goal.returns-in_err-is_nonzerodivisor_by_basis-clause-stop
returns-in_err-is_nonzerodivisor_by_basis-clause-stop g c = λ b e.
    let S = over g.F.Field.field g.O.TermOrder.order c.args.space.now in
    let xs = vectors_of S (λ m. m) in
    let v = vector_of S (λ m. m) c.args.candidate in
    let most = c.args.limits.now.max_basis in
    let above = c.in_err-is_nonzerodivisor_by_basis.ensures.above b (ap (λ x. Err x) (told c.from_residual.result c.in_err-is_nonzerodivisor_by_basis.field-0.0 c.from_residual.ensures.1 b e)) in
    kept_colon_stop S most c.args.taken.now.members.items c.args.taken.now.basis.items c.requires.kept v b c.requires.ideal
    (subst (λ l. IsColonBound S (xs l) v most b ⊎ (NoColonAbove S (xs l) v most × IsIdealBound S (xs l) most b)) c.as_slice.ensures.value above)

pub returns-then-not-branch-clause-passes : goal.returns-then-not-branch-clause-passes
returns-then-not-branch-clause-passes g c = λ same.
    let S = over g.F.Field.field g.O.TermOrder.order c.args.space.now in
    let xs = vectors_of S (λ m. m) in
    let v = vector_of S (λ m. m) c.args.candidate in
    let most = c.args.limits.now.max_basis in
    let bs = c.args.taken.now.basis.items in
    let found = c.in_ok-is_nonzerodivisor_by_basis.ensures in
    let exact : IsTrue c.in_ok-is_nonzerodivisor_by_basis.field-0 ↔ Nonzerodivisor S.field (xs bs) v = subst (λ l. IsTrue c.in_ok-is_nonzerodivisor_by_basis.field-0 ↔ Nonzerodivisor S.field (xs l) v) c.as_slice.ensures.value found.exact in
    kept_passed S most c.args.taken.now.members.items bs c.requires.kept v (subst (λ l. NoColonAbove S (xs l) v most) c.as_slice.ensures.value found.colon_within)
    (λ n. not_true c.in_ok-is_nonzerodivisor_by_basis.field-0 c.if-not-branch.true (exact.1 n))

pub ideal_basis-requires-clause-polynomials : goal.ideal_basis-requires-clause-polynomials
ideal_basis-requires-clause-polynomials g c =
    let S = over g.F.Field.field g.O.TermOrder.order c.args.space.now in
    let low = c.requires.limits.max_basis.below in
    let high = c.requires.limits.max_degree.below in
    let bs = c.args.taken.now.basis.items in
    let copied = c.in_ok-copy.field-0 in
    let given = homogeneous_more S c.args.limits.now.max_degree degree_limit copied (omega arith) (copy_homogeneous S c.args.limits.now.max_degree c.args.candidate copied c.in_ok-copy.ensures.same c.requires.candidate) in
    subst (AreHomogeneousPolys S degree_limit) (sym (c.as_slice-2.ensures.value ∙ c.in_ok-append.ensures.items))
    (polys_push S degree_limit bs copied (polys_weaken S c.args.limits.now.max_basis degree_limit bs (omega arith) c.requires.kept.polynomials) given)

pub returns-in_err-basis-clause-stop : goal.returns-in_err-basis-clause-stop
returns-in_err-basis-clause-stop g c = λ b e.
    let S = over g.F.Field.field g.O.TermOrder.order c.args.space.now in
    let xs = vectors_of S (λ m. m) in
    let v = vector_of S (λ m. m) c.args.candidate in
    let T = c.args.taken.now.members.items in
    let bs = c.args.taken.now.basis.items in
    let most = c.args.limits.now.max_basis in
    let found = c.in_ok-is_nonzerodivisor_by_basis.ensures in
    let exact : IsTrue c.in_ok-is_nonzerodivisor_by_basis.field-0 ↔ Nonzerodivisor S.field (xs bs) v = subst (λ l. IsTrue c.in_ok-is_nonzerodivisor_by_basis.field-0 ↔ Nonzerodivisor S.field (xs l) v) c.as_slice.ensures.value found.exact in
    let colon = subst (λ l. NoColonAbove S (xs l) v most) c.as_slice.ensures.value found.colon_within in
    let above = c.in_err-basis.ensures.above b (ap (λ x. Err x) (told c.from_residual-in_err-basis.result c.in_err-basis.field-0.0 c.from_residual-in_err-basis.ensures.1 b e)) in
    grown_stop S most T bs c.requires.kept c.args.candidate c.in_ok-copy.field-0 c.in_ok-copy.ensures.same c.as_slice-2.result.now (T ++ c.args.candidate ∷ []) (c.as_slice-2.ensures.value ∙ c.in_ok-append.ensures.items) refl colon
    (exact.0 c.if-not-branch.false) b above

pub returns-clause-taken : goal.returns-clause-taken
returns-clause-taken g c =
    let S = over g.F.Field.field g.O.TermOrder.order c.args.space.now in
    let d = c.args.limits.now.max_degree in
    subst (AreHomogeneousPolys S d) (sym c.in_ok-append-2.ensures.items) (polys_push S d c.args.taken.now.members.items c.args.candidate c.requires.taken c.requires.candidate)

pub returns-clause-kept : goal.returns-clause-kept
returns-clause-kept g c =
    let S = over g.F.Field.field g.O.TermOrder.order c.args.space.now in
    record {
      polynomials = c.in_ok-basis.ensures.polynomials;
      reduced = grown_reduced S c.args.limits.now.max_basis c.args.taken.now.members.items c.args.taken.now.basis.items c.requires.kept c.args.candidate c.in_ok-copy.field-0 c.in_ok-copy.ensures.same c.as_slice-2.result.now
          c.append-2.new.list.items (c.as_slice-2.ensures.value ∙ c.in_ok-append.ensures.items) c.in_ok-append-2.ensures.items c.in_ok-basis.basis.items c.in_ok-basis.ensures.reduced;
    }

pub returns-clause-ideal : goal.returns-clause-ideal
returns-clause-ideal g c =
    let S = over g.F.Field.field g.O.TermOrder.order c.args.space.now in
    grown_ideal S c.args.limits.now.max_basis c.args.taken.now.members.items c.args.taken.now.basis.items c.requires.kept c.args.candidate c.in_ok-copy.field-0 c.in_ok-copy.ensures.same c.as_slice-2.result.now c.append-2.new.list.items
    (c.as_slice-2.ensures.value ∙ c.in_ok-append.ensures.items) c.in_ok-append-2.ensures.items c.in_ok-basis.ensures.within

pub returns-clause-unfinished : goal.returns-clause-unfinished
returns-clause-unfinished g c =
    let S = over g.F.Field.field g.O.TermOrder.order c.args.space.now in
    let most = c.args.limits.now.max_basis in
    let V = c.append-2.new.list.items in
    let basis = c.in_ok-basis.basis.items in
    let reduced = grown_reduced S most c.args.taken.now.members.items c.args.taken.now.basis.items c.requires.kept c.args.candidate c.in_ok-copy.field-0 c.in_ok-copy.ensures.same c.as_slice-2.result.now V
    (c.as_slice-2.ensures.value ∙ c.in_ok-append.ensures.items) c.in_ok-append-2.ensures.items basis c.in_ok-basis.ensures.reduced in
    let end = outcome S c.requires.positive c.requires.weights c.requires.shift (vectors_of S (λ m. m) V) most basis c.in_ok-basis.ensures.polynomials reduced c.as_slice-3.result.now c.powerless_variable.result c.is_none.result
    c.as_slice-3.ensures.value c.is_none.ensures c.powerless_variable.ensures.none c.powerless_variable.ensures.some in
    end.1

pub returns-clause-passes : goal.returns-clause-passes
returns-clause-passes g c = λ f.
    let S = over g.F.Field.field g.O.TermOrder.order c.args.space.now in
    let xs = vectors_of S (λ m. m) in
    let v = vector_of S (λ m. m) c.args.candidate in
    let T = c.args.taken.now.members.items in
    let bs = c.args.taken.now.basis.items in
    let most = c.args.limits.now.max_basis in
    let V = c.append-2.new.list.items in
    let basis = c.in_ok-basis.basis.items in
    let seen = c.as_slice-2.ensures.value ∙ c.in_ok-append.ensures.items in
    let reduced = grown_reduced S most T bs c.requires.kept c.args.candidate c.in_ok-copy.field-0 c.in_ok-copy.ensures.same c.as_slice-2.result.now V seen c.in_ok-append-2.ensures.items basis c.in_ok-basis.ensures.reduced in
    let end = outcome S c.requires.positive c.requires.weights c.requires.shift (xs V) most basis c.in_ok-basis.ensures.polynomials reduced c.as_slice-3.result.now c.powerless_variable.result c.is_none.result
    c.as_slice-3.ensures.value c.is_none.ensures c.powerless_variable.ensures.none c.powerless_variable.ensures.some in
    let found = c.in_ok-is_nonzerodivisor_by_basis.ensures in
    let exact : IsTrue c.in_ok-is_nonzerodivisor_by_basis.field-0 ↔ Nonzerodivisor S.field (xs bs) v = subst (λ l. IsTrue c.in_ok-is_nonzerodivisor_by_basis.field-0 ↔ Nonzerodivisor S.field (xs l) v) c.as_slice.ensures.value found.exact in
    let colon = kept_colon S most T bs c.requires.kept v (subst (λ l. NoColonAbove S (xs l) v most) c.as_slice.ensures.value found.colon_within) in
    let nonzero = kept_nonzerodivisor S most T bs c.requires.kept v (exact.0 c.if-not-branch.false) in
    let whole = taken_whole S most T bs c.requires.kept c.args.candidate c.in_ok-copy.field-0 c.in_ok-copy.ensures.same c.as_slice-2.result.now V seen c.in_ok-append-2.ensures.items in
    let ideal = grown_ideal S most T bs c.requires.kept c.args.candidate c.in_ok-copy.field-0 c.in_ok-copy.ensures.same c.as_slice-2.result.now V seen c.in_ok-append-2.ensures.items c.in_ok-basis.ensures.within in
    offer_taken S most (xs T) (xs V) v whole colon nonzero ideal (end.1 f)

pub returns-clause-last : goal.returns-clause-last
returns-clause-last g c = λ t.
    let S = over g.F.Field.field g.O.TermOrder.order c.args.space.now in
    let xs = vectors_of S (λ m. m) in
    let v = vector_of S (λ m. m) c.args.candidate in
    let T = c.args.taken.now.members.items in
    let bs = c.args.taken.now.basis.items in
    let most = c.args.limits.now.max_basis in
    let V = c.append-2.new.list.items in
    let basis = c.in_ok-basis.basis.items in
    let seen = c.as_slice-2.ensures.value ∙ c.in_ok-append.ensures.items in
    let reduced = grown_reduced S most T bs c.requires.kept c.args.candidate c.in_ok-copy.field-0 c.in_ok-copy.ensures.same c.as_slice-2.result.now V seen c.in_ok-append-2.ensures.items basis c.in_ok-basis.ensures.reduced in
    let end = outcome S c.requires.positive c.requires.weights c.requires.shift (xs V) most basis c.in_ok-basis.ensures.polynomials reduced c.as_slice-3.result.now c.powerless_variable.result c.is_none.result
    c.as_slice-3.ensures.value c.is_none.ensures c.powerless_variable.ensures.none c.powerless_variable.ensures.some in
    let found = c.in_ok-is_nonzerodivisor_by_basis.ensures in
    let exact : IsTrue c.in_ok-is_nonzerodivisor_by_basis.field-0 ↔ Nonzerodivisor S.field (xs bs) v = subst (λ l. IsTrue c.in_ok-is_nonzerodivisor_by_basis.field-0 ↔ Nonzerodivisor S.field (xs l) v) c.as_slice.ensures.value found.exact in
    let colon = kept_colon S most T bs c.requires.kept v (subst (λ l. NoColonAbove S (xs l) v most) c.as_slice.ensures.value found.colon_within) in
    let nonzero = kept_nonzerodivisor S most T bs c.requires.kept v (exact.0 c.if-not-branch.false) in
    let whole = taken_whole S most T bs c.requires.kept c.args.candidate c.in_ok-copy.field-0 c.in_ok-copy.ensures.same c.as_slice-2.result.now V seen c.in_ok-append-2.ensures.items in
    let ideal = grown_ideal S most T bs c.requires.kept c.args.candidate c.in_ok-copy.field-0 c.in_ok-copy.ensures.same c.as_slice-2.result.now V seen c.in_ok-append-2.ensures.items c.in_ok-basis.ensures.within in
    offer_last S most (xs T) (xs V) v whole colon nonzero ideal (end.0 t)
