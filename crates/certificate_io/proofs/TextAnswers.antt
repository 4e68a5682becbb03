-- What the answers to the sections of a text tell of the text.
use Rattle.std.proofs.Common.{◌≡◌, ◌∙◌, ℕ, Option, None, sym, ap, ap₂, subst}
use Rattle.std.specs.Option.{option_or}
use Rattle.alg_core.specs.declared.value_kind.ValueKind.{ValueKind}
use Rattle.certificate_io.specs.PartFaults.{heading_faults, module_faults, generator_faults}
use Rattle.certificate_io.specs.Parts.{TextParts, lines_in}
use Rattle.certificate_io.specs.Readings.{AnswersFault}
use Rattle.certificate_io.specs.Values.{nothing_seen, first_fault}
use Rattle.certificate_io.specs.declared.fault.CertFault.{CertFault}
use Rattle.certificate_io.specs.declared.fault.CertFault.TheVariants as faults
use Rattle.certificate_io.proofs.TextFaults.{text_faults}

-- an error tells the first of two faults
pub fault_of_first : (e : CertFault) (a b : Option (ℕ × ValueKind)) → AnswersFault e a → AnswersFault e (option_or a b)
fault_of_first (faults.Syntax line) a b h = absurd h
fault_of_first (faults.Value line kind) a b h = ap (λ o. option_or o b) h
fault_of_first faults.Memory a b h = tt

-- the second, where there is no first
pub fault_of_second : (e : CertFault) (a b : Option (ℕ × ValueKind)) → a ≡ None → AnswersFault e b → AnswersFault e (option_or a b)
fault_of_second e a b none h = subst (λ o. AnswersFault e (option_or o b)) (sym none) h

module _ (t : TextParts) (e : CertFault) where
  whole : AnswersFault e (option_or (heading_faults t) (option_or (module_faults t) (generator_faults t))) → AnswersFault e (first_fault 1 nothing_seen (lines_in t))
  whole h = subst (AnswersFault e) (sym (text_faults t)) h

  pub heading_error : AnswersFault e (heading_faults t) → AnswersFault e (first_fault 1 nothing_seen (lines_in t))
  heading_error h = whole (fault_of_first e (heading_faults t) (option_or (module_faults t) (generator_faults t)) h)

  pub module_error : heading_faults t ≡ None → AnswersFault e (module_faults t) → AnswersFault e (first_fault 1 nothing_seen (lines_in t))
  module_error heading h = whole (fault_of_second e (heading_faults t) (option_or (module_faults t) (generator_faults t)) heading (fault_of_first e (module_faults t) (generator_faults t) h))

  pub generator_error : heading_faults t ≡ None → module_faults t ≡ None → AnswersFault e (generator_faults t) → AnswersFault e (first_fault 1 nothing_seen (lines_in t))
  generator_error heading second h =
      whole (fault_of_second e (heading_faults t) (option_or (module_faults t) (generator_faults t)) heading (fault_of_second e (module_faults t) (generator_faults t) second h))

pub no_error : (t : TextParts) → heading_faults t ≡ None → module_faults t ≡ None → generator_faults t ≡ None → first_fault 1 nothing_seen (lines_in t) ≡ None
no_error t heading second third = text_faults t ∙ ap₂ option_or heading (ap₂ option_or second third)
