-- Faults of texts.
--
--   fault_at error n       the fault of a text whose byte at the place n, or whose end there, was not taken
--   IsSyntaxFault bytes e  a syntax fault at the first place, or want of memory
--   IsTextFault m S names bytes e   the first fault of the text, of the kind that m tells: a syntax fault, or that of the first
--                          value of its tree; or want of memory
--   IsRead o es            the entries are read, or memory is wanting
use Rattle.std.specs.Prelude.{◌≡◌, ℕ, List, Option, None, Some, Result, Ok, Err}
use Rattle.alg_core.specs.Spaces.{SpaceOver}
use Rattle.poly_text.specs.declared.fault.TextFault.{TextFault}
use Rattle.poly_text.specs.declared.fault.TextFault.TheVariants as faults
use Rattle.poly_text.specs.declared.names.Names.{Names}
use Rattle.poly_text.specs.declared.scan.ScanError.{ScanError}
use Rattle.poly_text.specs.declared.scan.ScanError.TheVariants as errors
use Rattle.poly_text.specs.Syntax.{Term, IsText, IsFirstFault}
use Rattle.poly_text.specs.Values.{first_fault}

abbrev pub fault_at : ScanError → ℕ → TextFault
fault_at errors.Unexpected n = faults.Syntax n
fault_at errors.Memory n = faults.Memory

abbrev pub IsSyntaxFault : List ℕ → TextFault → Type 0
IsSyntaxFault bytes (faults.Syntax n) = IsFirstFault bytes n
IsSyntaxFault bytes (faults.Value term kind) = ⊥
IsSyntaxFault bytes faults.Memory = Unit {0}

abbrev pub IsTextFault : Option ℕ → SpaceOver ℕ → Names → List ℕ → TextFault → Type 0
IsTextFault m S names bytes (faults.Syntax n) = IsFirstFault bytes n
IsTextFault m S names bytes (faults.Value term kind) =
    (ts : List Term) × IsText ts bytes × (first_fault m S names None 1 ts ≡ Some (term, kind))
IsTextFault m S names bytes faults.Memory = Unit {0}

abbrev pub IsRead : {A B : Type 0} → (A → B) → Result A TextFault → B → Type 0
IsRead view (Ok f) es = view f ≡ es
IsRead view (Err e) es = e ≡ faults.Memory
