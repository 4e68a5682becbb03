use Rattle.std.proofs.Common.{◌≡◌, ◌∙◌, ◌≤◌, length, refl, sym, subst, take, arith}
use Rattle.std.specs.Prelude.{All}
use Rattle.std.proofs.lemmas.List.{take_all}
use Rattle.std.proofs.lemmas.List.Elements.{All-push}
use Rattle.alg_core.specs.Keys.{key}
use Rattle.alg_core.specs.Vectors.{Entry}
use Rattle.alg_core.specs.Spaces.{entry, entries}
use Rattle.poly_module.proofs.GreatestValues.{take_map}
use Rattle.finite_certificate.specs.Finiteness.{IsBelow}
use Rattle.finite_certificate.proofs.ReachedSteps.{exponents, term_below, below_term, none_of, not_none_of, entry_given}
use Rattle.finite_certificate.proofs.spreading.is_spread.Goals as goal

pub reached-requires : goal.reached-requires
reached-requires g c =
    let all = subst (λ l. All (λ e. length c.args.powers.now ≤ length e.0.1) (entries (λ m. m) l)) (sym c.terms-terms.ensures.is) c.requires.within in
    record { within = entry_given (λ e. length c.args.powers.now ≤ length e.0.1) c.terms-terms.result.now c.loop-i.i c.index-terms-i.result c.loop-i-test.true c.index-terms-i.is all }

pub loop-i-preserved : goal.loop-i-preserved
loop-i-preserved g c =
    let es = exponents c.args.powers.now in
    let P : Entry g.row.E.Denot → Type 0 = λ e. IsBelow es (key e.0) in
    subst (All P) (sym (take_map (entry (λ m. m)) c.terms-terms.result.now c.loop-i.i c.index-terms-i.result c.loop-i-test.true c.index-terms-i.is))
    (All-push P (entries (λ m. m) (take c.loop-i.i c.terms-terms.result.now)) (entry (λ m. m) c.index-terms-i.result) c.loop-i.invariant
    (term_below es c.index-terms-i.result (sym c.reached.ensures.first ∙ none_of c.reached.result (sym c.if-is_some.false ∙ c.is_some.ensures))))

pub returns-then-is_some : goal.returns-then-is_some
returns-then-is_some g c =
    let es = exponents c.args.powers.now in
    let P : Entry g.row.E.Denot → Type 0 = λ e. IsBelow es (key e.0) in
    record {
      exact = (
        λ e. absurd cc,
        λ h.
            let here = entry_given P c.terms-terms.result.now c.loop-i.i c.index-terms-i.result c.loop-i-test.true c.index-terms-i.is (subst (λ l. All P (entries (λ m. m) l)) (sym c.terms-terms.ensures.is) h) in
            absurd (not_none_of c.reached.result (sym c.if-is_some.true ∙ c.is_some.ensures) (c.reached.ensures.first ∙ below_term es c.index-terms-i.result here)),
      );
    }

pub returns : goal.returns
returns g c =
    let es = exponents c.args.powers.now in
    let P : Entry g.row.E.Denot → Type 0 = λ e. IsBelow es (key e.0) in
    let whole : take c.loop-i.i c.terms-terms.result.now ≡ c.args.form.now = take_all c.loop-i.i c.terms-terms.result.now (omega arith) ∙ c.terms-terms.ensures.is in
    record { exact = (λ _. subst (λ l. All P (entries (λ m. m) l)) whole c.loop-i.invariant, λ _. refl) }
