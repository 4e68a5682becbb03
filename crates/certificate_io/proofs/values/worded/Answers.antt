use Rattle.std.proofs.Common.{◌∙◌, ◌++◌, length, refl, sym, ap}
use Rattle.poly_text.proofs.EntrySteps.{field_of}
use Rattle.certificate_io.specs.Readings.{CanRead}
use Rattle.certificate_io.specs.Spaces.{word_space}
use Rattle.certificate_io.proofs.SpaceReadings.{moved, no_names}
use Rattle.certificate_io.proofs.TextSpaces.{can_worded}
use Rattle.certificate_io.proofs.values.worded.Goals as goal

pub returns-clause-space : goal.returns-clause-space
returns-clause-space c =
    let ds = c.args.primaries.now in
    let es = c.args.irreducibles.now in
    let weights = c.as_slice.ensures.value ∙ c.in_ok-extend_from_slice-2.ensures.items ∙ ap (λ l. l ++ es) (c.in_ok-extend_from_slice.ensures.items ∙ ap (λ l. l ++ ds) c.new-weights.ensures.items) in
    c.in_ok-space.ensures.is ∙ ap (word_space (field_of c.args.field)) weights

pub returns-clause-names : goal.returns-clause-names
returns-clause-names c = no_names _ (length c.args.primaries.now) (length c.args.irreducibles.now) c.new.ensures.items

pub returns-clause-ready : goal.returns-clause-ready
returns-clause-ready c =
    let ds = c.args.primaries.now in
    let es = c.args.irreducibles.now in
    let weights = c.as_slice.ensures.value ∙ c.in_ok-extend_from_slice-2.ensures.items ∙ ap (λ l. l ++ es) (c.in_ok-extend_from_slice.ensures.items ∙ ap (λ l. l ++ ds) c.new-weights.ensures.items) in
    moved (λ S n _. CanRead S n) _ _ _ _ 0 0 (sym (c.in_ok-space.ensures.is ∙ ap (word_space (field_of c.args.field)) weights)) (sym (no_names _ (length ds) (length es) c.new.ensures.items)) refl
    (can_worded (field_of c.args.field) ds es)
