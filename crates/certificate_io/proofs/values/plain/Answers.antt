use Rattle.std.proofs.Common.{◌≡◌, ◌∙◌, length, ap, ap₂, rules}
use Rattle.alg_core.specs.PolynomialSpaces.{plain_space}
use Rattle.certificate_io.specs.Spaces.{plain_names}
use Rattle.certificate_io.proofs.SpaceReadings.{field_is}
use Rattle.certificate_io.proofs.values.plain.Goals as goal

pub returns-clause-is : goal.returns-clause-is
returns-clause-is c = λ t h.
    let many : c.len.result ≡ length c.args.heading.now.names.items = search rules in (
      c.in_ok-space.ensures.is ∙ ap₂ plain_space (field_is t.characteristic _ h.field) (many ∙ ap length h.names),
      ap plain_names (c.in_ok-vars.ensures.is ∙ c.as_slice.ensures.value ∙ h.names),
    )
