-- What a run of `check` or `show` has read where it is done is a certificate that holds.
use Rattle.std.proofs.Common.{◌≡◌, ℕ, List, sym, subst}
use Rattle.std.specs.Prelude.{Option}
use Rattle.alg_core.specs.declared.limits.Limits.{Limits}
use Rattle.certificate_io.specs.Certificates.{CertificateOf}
use Rattle.cert_check.specs.Work.{IsAccepted}
use Rattle.cert_check.proofs.HoldsProperties.{holds_properties}
use Rattle.invring_app.specs.declared.commands.Command.{Command}
use Rattle.invring_app.specs.declared.commands.Command.TheVariants.{Basis, Order, Primary, Ring, Check, Show, Demo}
use Rattle.invring_app.specs.declared.reading.Kind.TheVariants.{Certificate}
use Rattle.invring_app.specs.declared.status.Status.{Status}
use Rattle.invring_app.specs.declared.status.Status.TheVariants.{Done}
use Rattle.invring_app.specs.declared.words.Request.{Request}
use Rattle.invring_app.specs.Commands.{reads, EndsAs}
use Rattle.invring_app.specs.Endings.{Ending, StopsAt, Rejects, Answers}
use Rattle.invring_app.specs.Headline.{AcceptsCertificate}
use Rattle.invring_app.specs.Inputs.{Input, NoInput, OfScript, OfCertificate, ReadsAs, IsTextOf}
use Rattle.invring_app.specs.Outcomes.{IsEnd, status_of, EndsAt, Writing}

accepted-at : (c : Command) (l : Limits) (bytes text : List ℕ) (i : Input) → reads c ≡ Certificate → ReadsAs (reads c) bytes i → EndsAs c l i (Answers text)
    → (d : CertificateOf ℕ) × IsTextOf bytes d × IsAccepted d l
accepted-at (Basis d) l bytes text i kind h g = absurd cc
accepted-at Order l bytes text i kind h g = absurd cc
accepted-at Primary l bytes text i kind h g = absurd cc
accepted-at Ring l bytes text i kind h g = absurd cc
accepted-at Check l bytes text NoInput kind h g = absurd h
accepted-at Check l bytes text (OfScript q) kind h g = absurd h
accepted-at Check l bytes text (OfCertificate d) kind h g = (d, h, g.0)
accepted-at Show l bytes text NoInput kind h g = absurd h
accepted-at Show l bytes text (OfScript q) kind h g = absurd h
accepted-at Show l bytes text (OfCertificate d) kind h g = (d, h, g.0)
accepted-at (Demo k) l bytes text i kind h g = absurd cc

module _ (r : Request) (left left' : Option (List ℕ)) where
  read-at : (e : Ending) → Done ≡ status_of e → EndsAt r left left' e → reads r.command ≡ Certificate → AcceptsCertificate r.limits left left'
  read-at (StopsAt f) done a kind = absurd cc
  read-at (Rejects condition item text) done a kind = absurd cc
  read-at (Answers text) done a kind =
      let read = accepted-at r.command r.limits a.bytes text a.input kind a.read a.ends in
      record {
        bytes = a.bytes;
        gave = a.takes.gave;
        certificate = read.0;
        is_certificate = read.1.certificate;
        is_text = sym read.1.is;
        accepted = read.2;
        properties = holds_properties read.2.field read.2.matrices read.0 read.2.well_formed read.2.passes.holds;
      }

  pub certificate_accepted : (s : Status) (taken taken' : Option (List ℕ)) (f f' : ℕ) → Writing r s left left' taken taken' f f' → reads r.command ≡ Certificate → s ≡ Done
      → AcceptsCertificate r.limits left left'
  certificate_accepted s taken taken' f f' w kind done =
      let h = w.ended (subst IsEnd (sym done) tt) in
      read-at h.0 (subst (λ (t : Status). t ≡ status_of h.0) done h.1) h.2 kind
