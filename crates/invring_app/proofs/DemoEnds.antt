-- How `demo` ends, and that it ends in one way.
use Rattle.std.proofs.Common.{◌≡◌, ◌∙◌, ℕ, ◌≤◌, List, [], length, inr, refl, sym, ap, subst}
use Rattle.alg_core.specs.declared.limits.Limits.{Limits}
use Rattle.finvar_text.specs.Demos.{demo_problem, demo_text}
use Rattle.finvar_text.specs.Problems.{Problem, IsProblemText}
use Rattle.finvar_text.specs.Scripts.{IsScriptFault}
use Rattle.finvar_text.specs.declared.fault.ScriptFault.{ScriptFault}
use Rattle.finvar_text.specs.declared.fault.ScriptFault.TheVariants as scripts
use Rattle.finvar_text.proofs.DemoScripts.{demo_is_script}
use Rattle.finvar_text.proofs.ProblemLaws.{problem_unique, input_no_problem}
use Rattle.certificate_io.specs.Certificates.{CertificateOf}
use Rattle.certificate_io.specs.Texts.{certificate_text}
use Rattle.invring_app.specs.declared.commands.Command.TheVariants.{Demo}
use Rattle.invring_app.specs.declared.fault.Fault.{Fault}
use Rattle.invring_app.specs.declared.fault.Fault.TheVariants as faults
use Rattle.invring_app.specs.Answers.{IsAnswer, IsFault}
use Rattle.invring_app.specs.Commands.Demos.{IsDemoBound, IsDemoAnswer}
use Rattle.invring_app.specs.Commands.Rings.{IsCertificateOf, IsKept, IsRingAnswer}
use Rattle.invring_app.specs.Endings.{Ending, StopsAt, Rejects, Answers, AreAlike, AtNothing}
use Rattle.invring_app.specs.Faults.{fault_of_script}
use Rattle.invring_app.specs.Inputs.{NoInput}
use Rattle.invring_app.specs.RingFaults.{IsRingTold, IsTooLong}
use Rattle.invring_app.specs.Summaries.{summary_text}
use Rattle.invring_app.proofs.RingCertificates.{certificate-one}
use Rattle.invring_app.proofs.RingEnds.{ring-one}

module _ (k : ℕ) (some : 1 ≤ k) (few : k ≤ 4) where
  -- its script is read, but for want of memory, and sets its problem
  pub script-refused : (l : Limits) (bytes : List ℕ) (e : ScriptFault) → bytes ≡ demo_text k → IsScriptFault bytes e → IsFault (Demo k) l [] (fault_of_script e)
  script-refused l bytes (scripts.Syntax n) text is = let script = demo_is_script k some few in (subst (λ b. IsScriptFault b (scripts.Syntax n)) text is).1.none script.tree script.text
  script-refused l bytes (scripts.Input f) text is = input_no_problem (demo_text k) f (demo_problem k) (subst (λ b. IsScriptFault b (scripts.Input f)) text is) (demo_is_script k some few)
  script-refused l bytes scripts.Memory text is = tt

  pub problem-is : (bytes : List ℕ) (q : Problem) → bytes ≡ demo_text k → IsProblemText bytes q → q ≡ demo_problem k
  problem-is bytes q text is = problem_unique (demo_text k) q (demo_problem k) (subst (λ b. IsProblemText b q) text is) (demo_is_script k some few)

-- what a fault of `ring` tells at the problem, and what the certificate gives

pub ring-told : (k : ℕ) (l : Limits) (q : Problem) (e : Fault) → q ≡ demo_problem k → IsRingTold q l e → IsFault (Demo k) l [] e
ring-told k l q (faults.Syntax p) same told = absurd told
ring-told k l q (faults.Input f) same told = absurd told
ring-told k l q (faults.Bound f) same told = (NoInput, refl, subst (λ r. IsRingTold r l (faults.Bound f)) same told)
ring-told k l q faults.Memory same told = tt

module _ (k : ℕ) (l : Limits) (q : Problem) (c : CertificateOf ℕ) (same : q ≡ demo_problem k) (kept : IsKept q l) (of : IsCertificateOf q l.tries c) where
  kept-there : IsKept (demo_problem k) l
  kept-there = subst (λ r. IsKept r l) same kept

  of-there : IsCertificateOf (demo_problem k) l.tries c
  of-there = subst (λ r. IsCertificateOf r l.tries c) same of

  pub too-long : (e : Fault) → IsTooLong (length (certificate_text c)) l.max_text e → IsFault (Demo k) l [] e
  too-long (faults.Syntax p) told = absurd told
  too-long (faults.Input f) told = absurd told
  too-long (faults.Bound f) told = (NoInput, refl, inr (inr (inr (inr (inr (record { kept = kept-there; certificate = c; of_problem = of-there; longer = told.1; fault = told.0 }))))))
  too-long faults.Memory told = tt

  pub summarized : (text : List ℕ) → length (certificate_text c) ≤ l.max_text → text ≡ summary_text k c → IsAnswer (Demo k) l [] (Answers text)
  summarized text short is = (NoInput, refl, record { kept = kept-there; certificate = c; of_problem = of-there; short = short; is_text = is })

-- it ends in one way

module _ (k : ℕ) (l : Limits) where
  -- where it answers, `ring` answers the certificate
  as-ring : (text : List ℕ) (a : IsDemoAnswer k l text) → IsRingAnswer l (demo_problem k) (certificate_text a.certificate)
  as-ring text a = record { kept = a.kept; certificate = a.certificate; of_problem = a.of_problem; short = a.short; is_text = refl }

  pub demo-one : (e f : Ending) → AtNothing (IsDemoBound k l) (IsDemoAnswer k l) NoInput e → AtNothing (IsDemoBound k l) (IsDemoAnswer k l) NoInput f → AreAlike e f
  demo-one (StopsAt x) (StopsAt y) a b = ring-one (demo_problem k) l (StopsAt x) (StopsAt y) a b
  demo-one (StopsAt x) (Rejects c i text) a b = absurd b
  demo-one (Rejects c i text) f a b = absurd a
  demo-one (Answers text) (Rejects c i other) a b = absurd b
  demo-one (StopsAt x) (Answers text) a b = ring-one (demo_problem k) l (StopsAt x) (Answers (certificate_text b.certificate)) a (as-ring text b)
  demo-one (Answers text) (StopsAt y) a b = ring-one (demo_problem k) l (Answers (certificate_text a.certificate)) (StopsAt y) (as-ring text a) b
  demo-one (Answers text) (Answers other) a b = a.is_text ∙ ap (summary_text k) (certificate-one (demo_problem k) l.tries a.certificate b.certificate a.of_problem b.of_problem) ∙ sym b.is_text
