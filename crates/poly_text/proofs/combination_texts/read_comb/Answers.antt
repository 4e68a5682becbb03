use Rattle.std.proofs.Common.{◌∙◌, ℕ, List, Some, None, length, map, sym, ap, subst, refl}
use Rattle.alg_core.specs.Spaces.{over, entries}
use Rattle.poly_module.specs.declared.vector.Comb.{Comb}
use Rattle.poly_text.specs.Trees.{terms_of}
use Rattle.poly_text.specs.Values.{entry_of, first_fault, mark_names, IsFault}
use Rattle.poly_text.specs.declared.syntax.TermText.{TermText}
use Rattle.poly_text.proofs.CombinationLaws.{read_printed, read_readable, every_scanned, every_valued, every_read}
use Rattle.poly_text.proofs.EntrySteps.{field_of}
use Rattle.poly_text.proofs.ReadLaws.{read_memory}
use Rattle.poly_text.proofs.combination_texts.read_comb.Goals as goal

pub returns-clause-readable : goal.returns-clause-readable
returns-clause-readable g c =
    let S = over field_of g.O.TermOrder.order c.args.space.now in
    read_readable S c.args.text.now (terms_of c.in_ok-terms.terms.items) c.in_ok-terms.ensures.tree (ap (λ (l : List TermText). first_fault (Some (length S.shifts)) S (mark_names (length S.weights)) None 1 (terms_of l)) (sym c.deref.ensures.value) ∙ c.in_ok-combination.ensures.fault)
    _ c.in_ok-combination.ensures.vector (c.in_ok-combination.ensures.value ∙ ap (λ (l : List TermText). map (entry_of (Some (length S.shifts)) S (mark_names (length S.weights))) (terms_of l)) c.deref.ensures.value)

pub returns-clause-printed : goal.returns-clause-printed
returns-clause-printed g c =
    let S = over field_of g.O.TermOrder.order c.args.space.now in
    read_printed S c.args.text.now (terms_of c.in_ok-terms.terms.items) c.in_ok-terms.ensures.tree (ap (λ (l : List TermText). first_fault (Some (length S.shifts)) S (mark_names (length S.weights)) None 1 (terms_of l)) (sym c.deref.ensures.value) ∙ c.in_ok-combination.ensures.fault)
    _ c.in_ok-combination.ensures.vector (c.in_ok-combination.ensures.value ∙ ap (λ (l : List TermText). map (entry_of (Some (length S.shifts)) S (mark_names (length S.weights))) (terms_of l)) c.deref.ensures.value)

pub returns-in_err-terms-clause-every : goal.returns-in_err-terms-clause-every
returns-in_err-terms-clause-every g c = λ es fits readable printed.
    let S = over field_of g.O.TermOrder.order c.args.space.now in
    read_memory (λ (d : Comb ℕ). entries (λ (m : List ℕ). m) d.vector) c.from_residual.result c.in_err-terms.field-0.0 es c.from_residual.ensures.1
    (every_scanned S c.args.space.now.field.p (c.args.space.now.field.listed, refl) c.args.text.now es fits readable printed c.in_err-terms.field-0.0 c.in_err-terms.ensures.fault)

pub returns-in_err-combination-clause-every : goal.returns-in_err-combination-clause-every
returns-in_err-combination-clause-every g c = λ es fits readable printed.
    let S = over field_of g.O.TermOrder.order c.args.space.now in
    read_memory (λ (d : Comb ℕ). entries (λ (m : List ℕ). m) d.vector) c.from_residual-in_err-combination.result c.in_err-combination.field-0.0 es c.from_residual-in_err-combination.ensures.1
    (every_valued S c.args.space.now.field.p (c.args.space.now.field.listed, refl) c.args.text.now es fits readable printed (terms_of c.in_ok-terms.terms.items) c.in_ok-terms.ensures.tree c.in_err-combination.field-0.0
    (subst (λ (l : List TermText). IsFault c.in_err-combination.field-0.0 (first_fault (Some (length S.shifts)) S (mark_names (length S.weights)) None 1 (terms_of l))) c.deref.ensures.value c.in_err-combination.ensures.fault))

pub returns-clause-every : goal.returns-clause-every
returns-clause-every g c = λ es fits readable printed.
    let S = over field_of g.O.TermOrder.order c.args.space.now in
    every_read S c.args.space.now.field.p (c.args.space.now.field.listed, refl) c.args.text.now es fits readable printed (terms_of c.in_ok-terms.terms.items) c.in_ok-terms.ensures.tree
    _ c.in_ok-combination.ensures.vector (c.in_ok-combination.ensures.value ∙ ap (λ (l : List TermText). map (entry_of (Some (length S.shifts)) S (mark_names (length S.weights))) (terms_of l)) c.deref.ensures.value)
