use Rattle.std.proofs.Common.{◌≡◌, ◌∙◌, refl, sym, subst, take, arith}
use Rattle.std.specs.Prelude.{All}
use Rattle.std.proofs.lemmas.List.{take_all}
use Rattle.std.proofs.lemmas.List.Elements.{All-push}
use Rattle.alg_core.specs.Keys.{key}
use Rattle.alg_core.specs.Vectors.{Entry}
use Rattle.alg_core.specs.Spaces.{entry, entries}
use Rattle.poly_module.proofs.EntryLists.{given_at}
use Rattle.poly_module.proofs.ExponentBounds.{vec_supp, fits_keys}
use Rattle.poly_module.proofs.GreatestValues.{take_map}
use Rattle.finite_certificate.specs.MarkSpaces.{mark_space, HasMark}
use Rattle.finite_certificate.proofs.MarkTests.{term_marked, marked_term}
use Rattle.groebner_hom.proofs.least_powers.has_marks.Goals as goal

pub loop-i-preserved : goal.loop-i-preserved
loop-i-preserved g c =
    let n = c.args.space.now.order.vars in
    let P : Entry g.row.F-Elem.Denot → Type 0 = λ e. HasMark n (key e.0) in
    subst (All P) (sym (take_map (entry (λ m. m)) c.terms-terms.result.now c.loop-i.i c.index-terms-i.result c.loop-i-test.true c.index-terms-i.is))
    (All-push P (entries (λ m. m) (take c.loop-i.i c.terms-terms.result.now)) (entry (λ m. m) c.index-terms-i.result) c.loop-i.invariant
    (term_marked n c.index-terms-i.result (c.has_mark.ensures.exact.0 c.if-not-has_mark.false)))

pub returns-then-not-has_mark : goal.returns-then-not-has_mark
returns-then-not-has_mark g c =
    let S = mark_space g.F.Field.field c.args.space.now in
    let n = c.args.space.now.order.vars in
    let P : Entry g.row.F-Elem.Denot → Type 0 = λ e. HasMark n (key e.0) in
    record {
      exact = (
        λ e. absurd cc,
        λ h.
            let all : All P (entries (λ m. m) c.terms-terms.result.now) = subst (λ l. All P (entries (λ m. m) l)) (sym c.terms-terms.ensures.is) (fits_keys S (HasMark n) (entries (λ m. m) c.args.form.now) c.requires.form.fits h) in
            let here = marked_term n c.index-terms-i.result (given_at S (λ m. m) P _ _ _ c.loop-i-test.true c.index-terms-i.is all) in
            let some = c.has_mark.ensures.exact.1 here in
            let none = c.if-not-has_mark.true in
            absurd cc,
      );
    }

pub returns : goal.returns
returns g c =
    let S = mark_space g.F.Field.field c.args.space.now in
    let n = c.args.space.now.order.vars in
    let P : Entry g.row.F-Elem.Denot → Type 0 = λ e. HasMark n (key e.0) in
    let whole : take c.loop-i.i c.terms-terms.result.now ≡ c.args.form.now = take_all c.loop-i.i c.terms-terms.result.now (omega arith) ∙ c.terms-terms.ensures.is in
    record { exact = (λ _. vec_supp S.field (HasMark n) (entries (λ m. m) c.args.form.now) (subst (λ l. All P (entries (λ m. m) l)) whole c.loop-i.invariant), λ _. refl) }
