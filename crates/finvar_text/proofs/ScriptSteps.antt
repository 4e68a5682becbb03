-- Where no value has a fault, the first fault is that of the generators.
use Rattle.std.proofs.Common.{◌≡◌, ◌∙◌, ℕ, ◌<◌, List, ◌∷◌, length, map, get_or, Option, Some, None, Result, Ok, Err, true, refl, sym, ap, ap₂, subst}
use Rattle.std.specs.Prelude.{All, IfErr}
use Rattle.std.specs.Borrow.{Bor}
use Rattle.std.specs.Option.{option_or}
use Rattle.std.specs.Result.{IsErrAnd}
use Rattle.std.proofs.lemmas.List.{get_or-map, length-map}
use Rattle.alg_core.specs.declared.input_fault.InputFault.{InputFault}
use Rattle.lin_algebra.specs.declared.matrix.Matrix as lin
use Rattle.prime_field.specs.ListedPrimes.{is_listed}
use Rattle.prime_field.specs.PrimeFields.{gfp, IsPrimeField}
use Rattle.alg_core.specs.Fields.{FieldOn}
use Rattle.finvar_text.specs.declared.fault.ScriptFault.{ScriptFault}
use Rattle.finvar_text.specs.declared.fault.ScriptFault.TheVariants as faults
use Rattle.finvar_text.specs.Conditions.{value, generators, number_fault, field_fault, variables_fault, twice_fault, unknown_fault, size_fault, first_of, later_conditions, value_conditions, FirstSingular, FaultFrom, HasFault}
use Rattle.finvar_text.specs.Scripts.{generator, IsFitting, IsInvertible, IsSingularFault, IsValueFault}
use Rattle.finvar_text.specs.Syntax.{Matrix, Script, IsName}
use Rattle.finvar_text.specs.Trees.{bytes_of}

pub variable_name : (xs : List (Bor (List ℕ))) (i : ℕ) (d : Bor (List ℕ)) → All IsName (bytes_of xs) → i < length xs → IsName (get_or xs i d).now
variable_name xs i d all below =
    let within : i < length (bytes_of xs) = subst (λ k. i < k) (sym (length-map xs (λ (w : Bor (List ℕ)). w.now))) below in
    subst IsName (get_or-map (λ (w : Bor (List ℕ)). w.now) xs i d d.now below) (all i d.now within)

-- the number of a field of this characteristic
pub field_number : (p q : ℕ) (listed : is_listed q ≡ true) → IsPrimeField p (gfp q listed) → q ≡ p
field_number p q listed h = ap (λ (k : FieldOn ℕ). k.characteristic) h.1

pub field_same : (p q r : ℕ) (listed : is_listed q ≡ true) → r ≡ p → IsPrimeField r (gfp q listed) → IsPrimeField p (gfp q listed)
field_same p q r listed e h = subst (λ n. IsPrimeField n (gfp q listed)) e h

pub invertible_same : (p q : ℕ) (gs : List (lin.Matrix ℕ)) → p ≡ q → All (IsInvertible p) gs → All (IsInvertible q) gs
invertible_same p q gs e all = subst (λ n. All (IsInvertible n) gs) e all

pub gens_same : (p q n m : ℕ) (ms ns : List Matrix) (gs : List (ℕ × ℕ × List ℕ)) → p ≡ q → n ≡ m → ms ≡ ns → gs ≡ map (generator p n) ms → gs ≡ map (generator q m) ns
gens_same p q n m ms ns gs e f g is = is ∙ ap₂ (λ a b. map (generator a b) ms) e f ∙ ap (map (generator q m)) g

pub fitting_same : (n m : ℕ) (ms ns : List Matrix) → n ≡ m → ms ≡ ns → All (IsFitting m) ns → All (IsFitting n) ms
fitting_same n m ms ns e f all = subst (λ k. All (IsFitting k) ms) (sym e) (subst (All (IsFitting m)) (sym f) all)

first_fault : (s : Script) (fault : InputFault) → first_of (value_conditions s) ≡ Some fault → HasFault s (Some fault)
first_fault s fault is = subst (λ o. FaultFrom o s (Some fault)) (sym is) refl

pub number_first : (s : Script) (o : Option InputFault) (fault : InputFault) → o ≡ number_fault s → o ≡ Some fault → HasFault s (Some fault)
number_first s o fault is some = first_fault s fault (ap (λ f. option_or f (first_of (field_fault s ∷ later_conditions s))) (sym is ∙ some))

pub field_first : (s : Script) (fault : InputFault) → number_fault s ≡ None → field_fault s ≡ Some fault → HasFault s (Some fault)
field_first s fault numbers is = first_fault s fault (ap₂ (λ a b. option_or a (option_or b (first_of (later_conditions s)))) numbers is)

-- where the numbers and the characteristic have no fault
later : (s : Script) → number_fault s ≡ None → field_fault s ≡ None → first_of (value_conditions s) ≡ first_of (later_conditions s)
later s numbers field = ap₂ (λ a b. option_or a (option_or b (first_of (later_conditions s)))) numbers field

pub later_first : (s : Script) (o : Option InputFault) (fault : InputFault) → number_fault s ≡ None → field_fault s ≡ None → o ≡ first_of (later_conditions s) → o ≡ Some fault → HasFault s (Some fault)
later_first s o fault numbers field is some = first_fault s fault (later s numbers field ∙ sym is ∙ some)

pub singular_fault : (s : Script) (p n : ℕ) (ms : List Matrix) (fault : Option InputFault) → number_fault s ≡ None → field_fault s ≡ None → first_of (later_conditions s) ≡ None
    → p ≡ value s.characteristic → n ≡ length s.variables → ms ≡ generators s → FirstSingular p n ms fault → HasFault s fault
singular_fault s p n ms fault numbers field none is count these h =
    subst (λ o. FaultFrom o s fault) (sym (later s numbers field ∙ none))
    (subst (λ l. FirstSingular (value s.characteristic) (length s.variables) l fault) these
    (subst (λ m. FirstSingular (value s.characteristic) m ms fault) count
    (subst (λ q. FirstSingular q n ms fault) is h)))

pub script_fault : (s : Script) (p n : ℕ) (ms : List Matrix) (e : ScriptFault) → number_fault s ≡ None → field_fault s ≡ None → first_of (later_conditions s) ≡ None
    → p ≡ value s.characteristic → n ≡ length s.variables → ms ≡ generators s → IsSingularFault p n ms e → IsValueFault s e
script_fault s p n ms (faults.Syntax place) numbers field none is count these h = absurd h
script_fault s p n ms (faults.Input fault) numbers field none is count these h = singular_fault s p n ms (Some fault) numbers field none is count these h
script_fault s p n ms faults.Memory numbers field none is count these h = tt

pub or_none : (f o : Option InputFault) → option_or f o ≡ None → (f ≡ None) × (o ≡ None)
or_none None o e = (refl, e)
or_none (Some f) o e = absurd cc

-- the fault of the sizes is among the later ones
pub sizes_none : (s : Script) → first_of (later_conditions s) ≡ None → size_fault s ≡ None
sizes_none s e = (or_none (size_fault s) _ (or_none (unknown_fault s) _ (or_none (twice_fault s) _ (or_none (variables_fault s) _ e).1).1).1).0

-- an error that is handed on
pub error_kept : {A : Type 0} (P : ScriptFault → Type 0) (r : Result A ScriptFault) (e : ScriptFault) → IsErrAnd r (λ x. x ≡ e) → P e → IfErr r P
error_kept P (Ok x) e h p = tt
error_kept P (Err x) e h p = subst P (sym h) p
