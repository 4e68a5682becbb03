use Rattle.std.proofs.Common.{◌∙◌, ap, ap₂}
use Rattle.certificate_io.specs.PartFaults.{degrees_of}
use Rattle.certificate_io.specs.Spaces.{combination_space, field_at}
use Rattle.certificate_io.proofs.SpaceReadings.{field_is, image_lines, kernel_case, images_case}
use Rattle.certificate_io.proofs.values.evidence.Goals as goal

pub averages-requires-clause-texts : goal.averages-requires-clause-texts
averages-requires-clause-texts c =
    let x = c.requires.text in
    image_lines x.0 x.1 c.args.lines.now.by_kernel c.args.lines.now.evidence c.if-lines.false x.2 x.3

pub returns-then-lines : goal.returns-then-lines
returns-then-lines c = record {
  is = λ t h d s i e is run.
      let space = c.in_ok-combined.ensures.is ∙ ap₂ (λ k ds. combination_space k ds c.args.shifts.now) (field_is t.characteristic _ h.field) d ∙ ap (combination_space (field_at t.characteristic) (degrees_of t t.primaries)) s in
      kernel_case t i c.args.lines.now.evidence c.members.result e c.args.lines.now.by_kernel c.if-lines.true is run (λ xs each lines. c.members.ensures.is t h d space i xs each lines);
}

pub returns : goal.returns
returns c = record {
  is = λ t h d s i e is run.
      let space = c.in_ok-combined.ensures.is ∙ ap₂ (λ k ds. combination_space k ds c.args.shifts.now) (field_is t.characteristic _ h.field) d ∙ ap (combination_space (field_at t.characteristic) (degrees_of t t.primaries)) s in
      images_case t i c.args.lines.now.evidence c.averages.result e c.args.lines.now.by_kernel c.if-lines.false is run (λ xs each lines. c.averages.ensures.is t h space i xs each lines);
}
