-- A problem has one certificate, its generators are invertible, and so what `ring` answers meets the conditions.
use Rattle.std.proofs.Common.{◌≡◌, ◌∙◌, ℕ, List, [], ◌∷◌, length, map, None, Some, All, inl, inr, refl, sym, subst}
use Rattle.std.specs.Prelude.{Option, slice_index_or}
use Rattle.std.proofs.lemmas.List.Elements.{All-nil, All-cons}
use Rattle.alg_core.specs.Fields.{FieldOn, scalars}
use Rattle.alg_core.specs.declared.input_fault.InputFault.{InputFault}
use Rattle.alg_core.specs.declared.limits.Limits.{Limits}
use Rattle.prime_field.specs.PrimeFields.{gfp, gfp_same, IsPrimeField}
use Rattle.lin_algebra.specs.Matrices.{cut, HasInverse}
use Rattle.lin_algebra.specs.Vectors.{vector}
use Rattle.lin_algebra.specs.declared.matrix.Matrix.{Matrix}
use Rattle.matrix_group.specs.Groups.{IsNonsingular}
use Rattle.finvar_text.specs.Conditions.{value, cells, generators, IsNonsingularModulo, FirstSingular, FaultFrom, value_conditions, first_of}
use Rattle.finvar_text.specs.Problems.{Problem, IsProblemText}
use Rattle.finvar_text.specs.Syntax.{Matrix as TreeMatrix, Script as Tree}
use Rattle.certificate_io.specs.Certificates.{CertificateOf}
use Rattle.cert_check.specs.Makings.{IsMade}
use Rattle.cert_check.specs.WellFormed.{IsWellFormed}
use Rattle.cert_check.proofs.HoldsProperties.{holds_properties}
use Rattle.cert_check.proofs.MadeHolds.{made_holds}
use Rattle.cert_check.proofs.MadeOnce.{made_once}
use Rattle.invring_app.specs.Commands.Bases.{AreMatricesOf}
use Rattle.invring_app.specs.Commands.Rings.{IsCertificateOf, IsCertified, IsRingAnswer}
use Rattle.invring_app.proofs.EndingLaws.{Shape, shape, field-one}
use Rattle.invring_app.proofs.SameCells.{made-by, formed-by}

-- the generators of a problem that a text sets have inverses

abbrev Inverse : FieldOn ℕ → Shape → Type 0
Inverse k s = HasInverse (scalars k) s.0 (λ i. vector k (slice_index_or (cut s.0 s.1 s.2) i []))

nonsingular : (p n : ℕ) (k : FieldOn ℕ) (m : Matrix ℕ) (cs : List ℕ) → IsPrimeField p k → shape m ≡ (n, n, cs) → IsNonsingularModulo p n cs → IsNonsingular k m
nonsingular p n k m cs field e h =
    let same : gfp p h.0 ≡ k = gfp_same p p refl h.0 field.0 ∙ sym field.1 in
    subst (Inverse k) (sym e) (subst (λ (l : FieldOn ℕ). Inverse l (n, n, cs)) same (h.1, h.2))

module _ (p n : ℕ) (k : FieldOn ℕ) (field : IsPrimeField p k) where
  abbrev shapes : List TreeMatrix → List Shape
  shapes ts = map {B = Shape} (λ (cs : List ℕ). (n, n, cs)) (map (cells p) ts)

  all-nonsingular : (ms : List (Matrix ℕ)) (ts : List TreeMatrix) → map shape ms ≡ shapes ts → FirstSingular p n ts None → All (IsNonsingular k) ms
  all-nonsingular [] ts e h = All-nil (IsNonsingular k)
  all-nonsingular (m ∷ ms) [] e h = absurd cc
  all-nonsingular (m ∷ ms) (t ∷ ts) e (inl h) =
      let first : shape m ≡ (n, n, cells p t) = cc in
      let rest : map shape ms ≡ shapes ts = cc in
      All-cons (IsNonsingular k) m ms (nonsingular p n k m (cells p t) field first h.0) (all-nonsingular ms ts rest h.1)
  all-nonsingular (m ∷ ms) (t ∷ ts) e (inr h) = let other = h.1 in absurd cc

none-singular : (o : Option InputFault) (t : Tree) → FaultFrom o t None → FirstSingular (value t.characteristic) (length t.variables) (generators t) None
none-singular None t h = h
none-singular (Some f) t h = absurd cc

pub generators-nonsingular : (bytes : List ℕ) (q : Problem) (k : FieldOn ℕ) (ms : List (Matrix ℕ)) → IsProblemText bytes q → IsPrimeField q.characteristic k → AreMatricesOf q ms → All (IsNonsingular k) ms
generators-nonsingular bytes q k ms is field are =
    let t = is.tree in
    all-nonsingular (value t.characteristic) (length t.variables) k (subst (λ (r : Problem). IsPrimeField r.characteristic k) is.problem field) ms (generators t)
    (subst (λ (r : Problem). AreMatricesOf r ms) is.problem are) (none-singular (first_of (value_conditions t)) t is.values)

-- the certificate of a problem is one

prime-at : (q : Problem) (tries : ℕ) (c : CertificateOf ℕ) (a : IsCertificateOf q tries c) → IsPrimeField q.characteristic a.field
prime-at q tries c a = subst (λ (p : ℕ). IsPrimeField p a.field) a.characteristic a.well_formed.field

pub certificate-one : (q : Problem) (tries : ℕ) (c d : CertificateOf ℕ) → IsCertificateOf q tries c → IsCertificateOf q tries d → c ≡ d
certificate-one q tries c d a b =
    let field = field-one q.characteristic b.field a.field (prime-at q tries d b) (prime-at q tries c a) in
    let shapes : map shape b.matrices ≡ map shape a.matrices = b.are_matrices ∙ sym a.are_matrices in
    let formed = subst (λ (k : FieldOn ℕ). IsWellFormed k d a.matrices) field (formed-by b.matrices a.matrices shapes b.field d b.well_formed) in
    let made = subst (λ (k : FieldOn ℕ). IsMade k a.matrices d tries) field (made-by b.matrices a.matrices shapes b.field d tries b.made) in
    made_once a.field a.matrices tries c a.well_formed a.made d (a.names ∙ sym b.names) formed made

-- it meets the conditions, and has the properties
pub ring-certified : (bytes : List ℕ) (q : Problem) (l : Limits) (text : List ℕ) → IsProblemText bytes q → IsRingAnswer l q text → IsCertified q l.tries text
ring-certified bytes q l text is a =
    let c = a.certificate in
    let o = a.of_problem in
    let inverses = generators-nonsingular bytes q o.field o.matrices is (prime-at q l.tries c o) o.are_matrices in
    let holds = made_holds o.field o.matrices c l.tries o.well_formed o.made inverses in
    record { certificate = c; of_problem = o; holds = holds; properties = holds_properties o.field o.matrices c o.well_formed holds; is_text = a.is_text }
