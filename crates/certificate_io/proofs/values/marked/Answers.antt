use Rattle.std.proofs.Common.{◌≡◌, ◌∙◌, length, ap, ap₂, rules}
use Rattle.std.proofs.lemmas.List.{length-map}
use Rattle.alg_core.specs.PolynomialSpaces.{marked_space}
use Rattle.certificate_io.specs.PartFaults.{heading_seen}
use Rattle.certificate_io.specs.Spaces.{field_at, marked_names}
use Rattle.certificate_io.specs.Values.{tree_degree}
use Rattle.certificate_io.proofs.SpaceReadings.{field_is}
use Rattle.certificate_io.proofs.values.marked.Goals as goal

pub returns-clause-is : goal.returns-clause-is
returns-clause-is c = λ t h d.
    let many : c.len.result ≡ length c.args.heading.now.names.items = search rules in (
      c.in_ok-space.ensures.is ∙ ap₂ (λ k n. marked_space k n c.args.degrees.now) (field_is t.characteristic _ h.field) (many ∙ ap length h.names)
          ∙ ap (marked_space (field_at t.characteristic) (length t.names)) d,
      ap₂ marked_names (c.in_ok-vars.ensures.is ∙ c.as_slice.ensures.value ∙ h.names) (ap length d ∙ length-map t.primaries (tree_degree (heading_seen t))),
    )
