use Rattle.std.proofs.Common.{◌≡◌, ◌∙◌, ◌+◌, ◌∷◌, ◌++◌, [], sym, ap, subst, length, arith}
use Rattle.std.proofs.lemmas.List.{map-append}
use Rattle.std.proofs.lemmas.Result.{err_from_is_err_and}
use Rattle.alg_core.specs.Spaces.{over, IsTerm as IsTermOf, entry, entries}
use Rattle.std.specs.Prelude.{All}
use Rattle.poly_text.specs.Syntax.{IsTerm}
use Rattle.poly_text.proofs.EntrySteps.{field_of}
use Rattle.poly_text.proofs.TermSteps.{Reads, given_term, reads_count, reads_more, reads_fault, reads_all}
use Rattle.poly_text.proofs.values.terms_of_tree.Goals as goal

pub next_term-requires-clause-before : goal.next_term-requires-clause-before
next_term-requires-clause-before g c =
    let S = over field_of g.O.TermOrder.order c.args.space.now in
    subst (λ l. All (IsTermOf S) (entries (λ m. m) l)) (sym c.as_slice.ensures.value) c.loop-text.invariant.terms

pub next_term-requires-clause-term : goal.next_term-requires-clause-term
next_term-requires-clause-term g c = given_term IsTerm c.args.terms.now c.loop-text.text-index c.text-item.result c.loop-text-test.true c.text-item.is c.requires.tree

pub returns-in_err-term-clause-fault : goal.returns-in_err-term-clause-fault
returns-in_err-term-clause-fault g c =
    let S = over field_of g.O.TermOrder.order c.args.space.now in
    let so_far : Reads c.args.secondaries S c.args.names.now c.args.terms.now c.loop-text.text-index (entries (λ m. m) c.as_slice.result.now) =
    subst (λ l. Reads c.args.secondaries S c.args.names.now c.args.terms.now c.loop-text.text-index (entries (λ m. m) l)) (sym c.as_slice.ensures.value) c.loop-text.invariant in
    let fault = reads_fault c.args.secondaries S c.args.names.now c.args.terms.now c.loop-text.text-index c.text-item.result (entries (λ m. m) c.as_slice.result.now) c.in_err-term.field-0.0 (length c.as_slice.result.now) c.loop-text-test.true c.text-item.is so_far
    (reads_count c.args.secondaries S c.args.names.now c.args.terms.now c.loop-text.text-index c.as_slice.result.now (omega arith) so_far) c.in_err-term.ensures.fault in
    let p = err_from_is_err_and c.from_residual.result c.from_residual.ensures.1 in
    rw (p.1, p.2) fault

pub loop-text-preserved : goal.loop-text-preserved
loop-text-preserved g c =
    let S = over field_of g.O.TermOrder.order c.args.space.now in
    let so_far : Reads c.args.secondaries S c.args.names.now c.args.terms.now c.loop-text.text-index (entries (λ m. m) c.as_slice.result.now) =
    subst (λ l. Reads c.args.secondaries S c.args.names.now c.args.terms.now c.loop-text.text-index (entries (λ m. m) l)) (sym c.as_slice.ensures.value) c.loop-text.invariant in
    let more = reads_more c.args.secondaries S c.args.names.now c.args.terms.now c.loop-text.text-index c.text-item.result (entries (λ m. m) c.as_slice.result.now) (entry (λ m. m) c.in_ok-term.term) (length c.as_slice.result.now) c.loop-text-test.true c.text-item.is so_far c.in_ok-term.ensures.fault c.in_ok-term.ensures.is c.in_ok-term.ensures.term in
    let pushed : entries (λ m. m) c.push.new.self.items ≡ entries (λ m. m) c.as_slice.result.now ++ (entry (λ m. m) c.in_ok-term.term ∷ []) =
    ap (entries (λ m. m)) (c.in_ok-push.ensures.items ∙ ap (λ l. l ++ (c.in_ok-term.term ∷ [])) (sym c.as_slice.ensures.value)) ∙ map-append (entry (λ m. m)) c.as_slice.result.now (c.in_ok-term.term ∷ []) in
    subst (Reads c.args.secondaries S c.args.names.now c.args.terms.now (c.loop-text.text-index + 1)) (sym pushed) more

pub returns-clause-value : goal.returns-clause-value
returns-clause-value g c =
    let S = over field_of g.O.TermOrder.order c.args.space.now in
    (reads_all c.args.secondaries S c.args.names.now c.args.terms.now c.loop-text.text-index (entries (λ m. m) c.loop-text.made.items) (omega arith) c.loop-text.invariant).1
