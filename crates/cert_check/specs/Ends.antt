-- How a check ends, but for want of memory.
--
--   End                    it accepts, it fails at an item of a condition, or it stops at a limit
--   IsEnd k gens c l e     over the field k and the matrices gens, the check of c under the limits l ends so
use Rattle.std.specs.Prelude.{ℕ, List}
use Rattle.alg_core.specs.Fields.{FieldOn}
use Rattle.alg_core.specs.declared.limits.Limits.{Limits}
use Rattle.lin_algebra.specs.declared.matrix.Matrix.{Matrix}
use Rattle.certificate_io.specs.Certificates.{CertificateOf}
use Rattle.cert_check.specs.Conditions.{Condition}
use Rattle.cert_check.specs.Work as work

pub data End : Type 0 where
  Accepts : End
  Fails : Condition → ℕ → End
  Stops : work.Stop → End

abbrev pub IsEnd : FieldOn ℕ → List (Matrix ℕ) → CertificateOf ℕ → Limits → End → Type 0
IsEnd k gens c l Accepts = work.Passes k gens c l
IsEnd k gens c l (Fails a i) = work.Fails k gens c l a i
IsEnd k gens c l (Stops s) = work.Stops k gens c l s
