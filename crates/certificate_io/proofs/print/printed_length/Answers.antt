use Rattle.std.proofs.Common.{[], ◌∙◌}
use Rattle.certificate_io.proofs.print.printed_length.Goals as goal

pub returns : goal.returns
returns c =
    let says = c.put_certificate.ensures.is [] c.counting-output.ensures.nothing in
    record { length = c.length.ensures.is ∙ says.told }
