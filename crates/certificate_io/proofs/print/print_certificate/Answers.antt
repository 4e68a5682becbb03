use Rattle.std.proofs.Common.{[]}
use Rattle.certificate_io.proofs.print.print_certificate.Goals as goal

pub returns : goal.returns
returns c = record { text = c.finish.ensures.is _ (c.put_certificate.ensures.is [] c.keeping-output.ensures.nothing) }
