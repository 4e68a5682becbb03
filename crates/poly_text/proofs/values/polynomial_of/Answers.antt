use Rattle.std.proofs.Common.{◌≡◌, ◌∙◌, ℕ, [], sym, ap, subst, refl}
use Rattle.std.specs.Prelude.{All, None}
use Rattle.alg_core.specs.Spaces.{over, Fits, IsTerm as IsTermOf, entries}
use Rattle.alg_core.specs.Vectors.{Entry}
use Rattle.poly_text.specs.Trees.{terms_of}
use Rattle.poly_text.proofs.EntrySteps.{field_of, fits_from}
use Rattle.poly_text.proofs.TermSteps.{positions_zero}
use Rattle.poly_text.proofs.values.polynomial_of.Goals as goal

pub returns-clause-value : goal.returns-clause-value
returns-clause-value g c = ap (entries (λ m. m)) c.of.ensures.is ∙ c.in_ok-made.ensures.value

pub returns-clause-fits : goal.returns-clause-fits
returns-clause-fits g c =
    let S = over field_of g.O.TermOrder.order c.args.space.now in
    subst (Fits S) (sym (returns-clause-value g c))
    (fits_from S c.args.names.now None 1 (terms_of c.args.terms.now) (subst (All (IsTermOf S)) c.in_ok-made.ensures.value c.in_ok-made.ensures.terms) c.in_ok-made.ensures.fault [] refl tt)

pub returns-clause-positions : goal.returns-clause-positions
returns-clause-positions g c =
    let S = over field_of g.O.TermOrder.order c.args.space.now in
    subst (All (λ (e : Entry ℕ). e.0.0 ≡ 0)) (sym (returns-clause-value g c)) (positions_zero S c.args.names.now (terms_of c.args.terms.now))
