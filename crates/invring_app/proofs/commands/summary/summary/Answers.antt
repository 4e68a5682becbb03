use Rattle.std.proofs.Common.{◌∙◌, ℕ, [], ap}
use Rattle.poly_text.proofs.OutputLaws.{printed_at}
use Rattle.secondary_gens.specs.Forms.{degrees_of}
use Rattle.certificate_io.specs.Certificates.{CertificateOf}
use Rattle.invring_app.proofs.SummarySteps.{summary_put}
use Rattle.invring_app.proofs.commands.summary.summary.Goals as goal

pub returns : goal.returns
returns c =
    let v = c.cert.view_is in
    let same = summary_put c.args.pairs c.args.cert.now _ _ _ _ _ _ (record {
      pairs_are = c.from.ensures;
      order_is = ap (λ (x : CertificateOf ℕ). x.order) v;
      rank_is = ap (λ (x : CertificateOf ℕ). x.rank) v;
      primaries = c.deref-4.ensures.value ∙ c.in_ok-primaries.ensures.are ∙ ap degrees_of (c.deref.ensures.value ∙ ap (λ (x : CertificateOf ℕ). x.primaries) v);
      secondaries = c.deref-5.ensures.value ∙ c.in_ok-secondaries.ensures.are ∙ ap degrees_of (c.deref-2.ensures.value ∙ ap (λ (x : CertificateOf ℕ). x.secondaries) v);
      irreducibles = c.deref-6.ensures.value ∙ c.in_ok-irreducibles.ensures.are ∙ ap degrees_of (c.deref-3.ensures.value ∙ ap (λ (x : CertificateOf ℕ). x.irreducibles) v);
    }) in
    record {
      text = printed_at c.finish.result _ _ same
          (c.finish.ensures.is _ (c.put_numbers-6.ensures.is _ (c.put_numbers-5.ensures.is _ (c.put_numbers-4.ensures.is _ (c.put_numbers-3.ensures.is _ (c.put_numbers-2.ensures.is _ (c.put_numbers.ensures.is [] c.keeping-output.ensures.nothing)))))));
    }
