use Rattle.std.proofs.Common.{◌∙◌, ◌+◌, map, ap, ap₂}
use Rattle.certificate_io.specs.Lines.{line_of}
use Rattle.certificate_io.proofs.SectionRuns.{run_cut}
use Rattle.certificate_io.proofs.sections.split_run.Goals as goal

pub returns-clause-is : goal.returns-clause-is
returns-clause-is c = λ i ls ms is each stops.
    let cut = run_cut c.args.kind ls ms c.args.section.now.lines.now c.run_length-n.result is.1 each stops c.run_length-n.ensures.within c.run_length-n.ensures.run c.run_length-n.ensures.stop in
    ((is.0, ap (map line_of) c.split_at.ensures.front ∙ cut.first), (ap₂ (λ m n. m + n) is.0 cut.count, ap (map line_of) c.split_at.ensures.back ∙ cut.rest))
