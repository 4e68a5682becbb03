-- What a run of `ring` writes where it is done is the text of the certificate.
use Rattle.std.proofs.Common.{◌≡◌, ℕ, List, sym, subst}
use Rattle.std.specs.Prelude.{Option}
use Rattle.inv_outside.specs.Outside.{Took}
use Rattle.alg_core.specs.declared.limits.Limits.{Limits}
use Rattle.finvar_text.specs.Problems.{Problem, IsProblemText}
use Rattle.invring_app.specs.declared.commands.Command.{Command}
use Rattle.invring_app.specs.declared.commands.Command.TheVariants.{Ring}
use Rattle.invring_app.specs.declared.reading.Kind.TheVariants.{Script}
use Rattle.invring_app.specs.declared.status.Status.{Status}
use Rattle.invring_app.specs.declared.status.Status.TheVariants.{Done}
use Rattle.invring_app.specs.declared.words.Request.{Request}
use Rattle.invring_app.specs.Commands.{reads, EndsAs}
use Rattle.invring_app.specs.Commands.Rings.{IsRingBound, IsRingAnswer}
use Rattle.invring_app.specs.Endings.{Ending, StopsAt, Rejects, Answers, AtProblem}
use Rattle.invring_app.specs.Headline.{WritesCertificate}
use Rattle.invring_app.specs.Inputs.{Input, NoInput, OfScript, OfCertificate, ReadsAs}
use Rattle.invring_app.specs.Outcomes.{IsEnd, status_of, output_of, EndsAt, Writing}
use Rattle.invring_app.proofs.RingCertificates.{ring-certified}

answer-at : (l : Limits) (bytes text : List ℕ) (i : Input) → ReadsAs Script bytes i → AtProblem (IsRingBound l) (IsRingAnswer l) i (Answers text) → (q : Problem) × IsProblemText bytes q × IsRingAnswer l q text
answer-at l bytes text NoInput h g = absurd h
answer-at l bytes text (OfScript q) h g = (q, h, g)
answer-at l bytes text (OfCertificate c) h g = absurd h

module _ (r : Request) (left left' taken taken' : Option (List ℕ)) where
  written-at : (e : Ending) → Done ≡ status_of e → EndsAt r left left' e → Took taken (output_of e) taken' → r.command ≡ Ring → WritesCertificate r.limits.tries left left' taken taken'
  written-at (StopsAt f) done a took ring = absurd cc
  written-at (Rejects condition item text) done a took ring = absurd cc
  written-at (Answers text) done a took ring =
      let read = subst (λ (c : Command). ReadsAs (reads c) a.bytes a.input) ring a.read in
      let ends = subst (λ (c : Command). EndsAs c r.limits a.input (Answers text)) ring a.ends in
      let answer = answer-at r.limits a.bytes text a.input read ends in
      record {
        script = a.bytes;
        gave = a.takes.gave;
        problem = answer.0;
        is_script = answer.1;
        text = text;
        certified = ring-certified a.bytes answer.0 r.limits text answer.1 answer.2;
        took = took;
      }

  pub certificate-written : (s : Status) (f f' : ℕ) → Writing r s left left' taken taken' f f' → r.command ≡ Ring → s ≡ Done → WritesCertificate r.limits.tries left left' taken taken'
  certificate-written s f f' w ring done =
      let h = w.ended (subst IsEnd (sym done) tt) in
      written-at h.0 (subst (λ (t : Status). t ≡ status_of h.0) done h.1) h.2 h.3 ring
