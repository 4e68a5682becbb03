use Rattle.std.proofs.Common.{◌≡◌, ◌∙◌, Some, length, ap, arith}
use Rattle.alg_core.specs.Spaces.{over, entries}
use Rattle.alg_core.specs.Vectors.{vec}
use Rattle.poly_text.specs.Trees.{terms_of}
use Rattle.poly_text.specs.Values.{mark_names}
use Rattle.poly_text.proofs.CombinationLaws.{combination_made}
use Rattle.poly_text.proofs.EntrySteps.{field_of}
use Rattle.poly_text.proofs.combination_texts.combination_of.Goals as goal

pub returns-clause-value : goal.returns-clause-value
returns-clause-value g c =
    let S = over field_of g.O.TermOrder.order c.args.space.now in
    let count : c.len-2.result ≡ length S.shifts = let same = c.args.space.now.grading.shifts.ok.0 in let told = c.len-2.ensures in omega arith in
    let width : c.len.result ≡ length S.weights = let same = c.args.space.now.grading.weights.ok.0 in let told = c.len.ensures in omega arith in
    combination_made S (Some c.len-2.result) c.mark_names-names.result (ap Some count) (c.mark_names-names.ensures.is ∙ ap mark_names width) (terms_of c.args.terms.now) c.requires.tree c.in_ok-made.ensures.fault
    (entries (λ m. m) c.in_ok-made.made.items) c.in_ok-made.ensures.value c.in_ok-made.ensures.terms (entries (λ m. m) c.in_ok-vector.vector) c.in_ok-vector.ensures.sum.fits
    (c.in_ok-vector.ensures.sum.is ∙ ap (λ l. vec S.field (entries (λ m. m) l)) c.as_slice.ensures.value)
