use Rattle.std.proofs.Common.{◌∙◌, ◌++◌, Some, length, sym, ap, subst}
use Rattle.alg_core.specs.Spaces.{SpaceOver}
use Rattle.poly_text.specs.Values.{HasPositions}
use Rattle.poly_text.proofs.EntrySteps.{field_of}
use Rattle.certificate_io.proofs.SpaceReadings.{weighted, has_positions}
use Rattle.certificate_io.proofs.values.combined.Goals as goal

pub returns-clause-is : goal.returns-clause-is
returns-clause-is c =
    let ds = c.args.degrees.now in
    let es = c.args.shifts.now in
    weighted (field_of c.args.field) ds es _ _ _ (c.in_ok-extend_from_slice.ensures.items ∙ ap (λ l. l ++ ds) c.new-weights.ensures.items)
    (c.in_ok-extend_from_slice-2.ensures.items ∙ ap (λ l. l ++ ds) c.new-weights-2.ensures.items) (c.in_ok-extend_from_slice-3.ensures.items ∙ ap (λ l. l ++ es) c.new-positions.ensures.items)

pub returns-clause-positions : goal.returns-clause-positions
returns-clause-positions c =
    let ds = c.args.degrees.now in
    let es = c.args.shifts.now in
    subst (λ (S : SpaceOver _). HasPositions (Some (length S.shifts)) S)
    (sym (weighted (field_of c.args.field) ds es _ _ _ (c.in_ok-extend_from_slice.ensures.items ∙ ap (λ l. l ++ ds) c.new-weights.ensures.items)
    (c.in_ok-extend_from_slice-2.ensures.items ∙ ap (λ l. l ++ ds) c.new-weights-2.ensures.items) (c.in_ok-extend_from_slice-3.ensures.items ∙ ap (λ l. l ++ es) c.new-positions.ensures.items)))
    (has_positions (field_of c.args.field) ds es)
