use Rattle.std.proofs.Common.{refl}
use Rattle.poly_text.proofs.OutputLaws.{says_same}
use Rattle.certificate_io.proofs.CertificateLines.{text_put}
use Rattle.certificate_io.proofs.print.put_certificate.Goals as goal

pub returns : goal.returns
returns c = record {
  is = λ w says. says_same _ _ _ _ refl (text_put w c.args.cert.now) (c.put_generators.ensures.is _ (c.put_module.ensures.is _ (c.put_heading.ensures.is w says)));
}
