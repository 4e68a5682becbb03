-- What is given of a certificate, for the lines of its evidence.
use Rattle.std.proofs.Common.{◌≡◌, ◌∙◌, ℕ, ◌+◌, ◌<◌, ◌++◌, List, [], ◌∷◌, length, replicate, sym, ap, subst, arith}
use Rattle.std.specs.Prelude.{All, IfSome, Option, Some, None}
use Rattle.std.proofs.lemmas.List.{length-append, length-map}
use Rattle.std.proofs.lemmas.List.Elements.{All-head, All-nil, All-cons, All-weaker}
use Rattle.alg_core.specs.BlockOrder.{length_ones}
use Rattle.alg_core.specs.Fields.{FieldOn, Has}
use Rattle.alg_core.specs.PolynomialSpaces.{plain_space}
use Rattle.alg_core.specs.SpaceGrading.{AllPositive}
use Rattle.alg_core.specs.Spaces.{SpaceOver, Fits, IsPlace, entries}
use Rattle.alg_core.specs.Vectors.{Entry}
use Rattle.alg_core.specs.declared.term.Term.{Term}
use Rattle.alg_core.proofs.PolynomialSpaces.{marked_positive, plain_constants, plain_positive}
use Rattle.poly_module.proofs.Room.{low}
use Rattle.poly_module.specs.SpaceVectors.{HasPolynomials, IsUpTo, IsVector, vector_of}
use Rattle.poly_module.specs.declared.vector.Comb.{Comb}
use Rattle.lin_algebra.specs.declared.matrix.Matrix.{Matrix}
use Rattle.matrix_group.specs.Actions.{Invariant, IsSquare}
use Rattle.matrix_group.specs.Groups.{size as rows}
use Rattle.irreducible_gens.specs.Irreducibles.{IsOfPositiveDegree}
use Rattle.module_groebner.proofs.Families.{all_in}
use Rattle.secondary_gens.specs.Forms.{degree_of}
use Rattle.certificate_io.specs.Certificates.{CertificateOf}
use Rattle.certificate_io.specs.declared.evidence.Image.{Image}
use Rattle.certificate_io.specs.declared.evidence.Line.{Line}
use Rattle.cert_check.specs.Conditions.{K2}
use Rattle.cert_check.specs.Endings.{IsGiven}
use Rattle.cert_check.specs.EvidenceLines.{HasCombinations, AreLowTerms, IsLowLine, IsLowMember}
use Rattle.cert_check.specs.Parts.{size, ones, degrees, primaries}
use Rattle.cert_check.specs.SmallPolynomials.{IsSmallComb, IsSmallLine, IsSmallMember, IsSmallPoly}
use Rattle.cert_check.specs.WellFormed.{combined, marked}
use Rattle.cert_check.proofs.GivenParts.{given_well, given_primaries, given_secondaries, given_square, given_some}
use Rattle.cert_check.proofs.HoldsParts.{all_at}
use Rattle.cert_check.proofs.MadeForms.{positive_known}

-- terms of small degrees by positive weights
module _ (T : SpaceOver ℕ) (positive : AllPositive T.weights) (r : ℕ) (count : length T.weights ≡ r) where
  values : (es : List (Entry ℕ)) → Fits T es → All (λ e. Has T.field e.1) es
  values [] h = All-nil (λ (e : Entry ℕ). Has T.field e.1)
  values (e ∷ es) h = All-cons (λ (e : Entry ℕ). Has T.field e.1) e es h.0.has (values es h.2)

  wides : (es : List (Entry ℕ)) → Fits T es → All (λ e. length e.0.1 ≡ r) es
  wides [] h = All-nil (λ (e : Entry ℕ). length e.0.1 ≡ r)
  wides (e ∷ es) h = All-cons (λ (e : Entry ℕ). length e.0.1 ≡ r) e es (h.0.place.wide ∙ count) (wides es h.2)

  low_terms : (v : List (Term ℕ (List ℕ))) → IsVector T (λ m. m) v → IsUpTo T 4096 (vector_of T (λ m. m) v) → AreLowTerms T.field r v
  low_terms v fits up = record {
    variables = record { values = values (entries (λ m. m) v) fits; wide = wides (entries (λ m. m) v) fits };
    low = low T positive (λ (m : List ℕ). m) 4096 4096 v (omega arith) fits up;
  }

plain-polynomials : (k : FieldOn ℕ) (n : ℕ) → HasPolynomials (plain_space k n)
plain-polynomials k n = record { constants = subst (λ i. IsPlace (plain_space k n) (0, replicate i 0)) (sym (length_ones n)) (plain_constants k n) }

module _ (S : SpaceOver ℕ) (gens : List (Matrix ℕ)) (c : CertificateOf ℕ) (g : IsGiven S gens c) where
  pub given_width : length S.weights ≡ size c
  given_width = ap (λ (T : SpaceOver ℕ). length T.weights) g.space.is ∙ length_ones (size c)

  pub given_polynomials : HasPolynomials S
  given_polynomials = subst HasPolynomials (sym g.space.is) (plain-polynomials S.field (size c))

  pub given_combinations : HasCombinations S c.primaries c.secondaries
  given_combinations = record {
    polynomials = given_polynomials;
    positive = subst (λ (T : SpaceOver ℕ). AllPositive T.weights) (sym g.space.is) (plain_positive S.field (size c)).1;
    marks = given_primaries S gens c g;
    members = given_secondaries S gens c g;
  }

  pub given_rows : rows gens ≡ size c
  given_rows = first gens (given_some S gens c g) (given_square S gens c g)
    where
      first : (ms : List (Matrix ℕ)) → 0 < length ms → All (IsSquare S.field (size c)) ms → rows ms ≡ size c
      first [] h square = absurd (omega arith)
      first (m ∷ ms) h square = (All-head (IsSquare S.field (size c)) m ms square).rows

  -- the primary invariants have positive degrees
  pub given_degrees : ((i : ℕ) → K2 S.field gens c i) → AllPositive (degrees c)
  given_degrees met =
      let are = all_at (λ f. IsOfPositiveDegree S.field (ones c) f × Invariant S.field gens f) (primaries S.field c) met in
      positive_known S.field (size c) c.primaries (given_well S gens c g).primaries
      (λ f i. (all_in (λ f. IsOfPositiveDegree S.field (ones c) f × Invariant S.field gens f) (primaries S.field c) are f i).0)

  module _ (positive : AllPositive (degrees c)) where
    marks : length (degrees c) ≡ length c.primaries
    marks = length-map c.primaries degree_of

    -- combinations, and polynomials in the variables and marks, have small exponents
    pub low_comb : (v : List (Term ℕ (List ℕ))) → IsSmallComb (combined S.field c) v → AreLowTerms S.field (length c.primaries) v
    low_comb v h = low_terms (combined S.field c) positive (length c.primaries) marks v h.comb h.up_to

    pub low_poly : (v : List (Term ℕ (List ℕ))) → IsSmallPoly (marked S.field c) v → AreLowTerms S.field (size c + length c.primaries) v
    low_poly v h = low_terms (marked S.field c) (marked_positive S.field (size c) (degrees c) positive).1 (size c + length c.primaries) count v h.poly.fits h.up_to
      where
        count : length (replicate (size c) 1 ++ degrees c) ≡ size c + length c.primaries
        count = let a = length-append (replicate (size c) 1) (degrees c) in let b = length_ones (size c) in let d = marks in omega (arith, a, b, d)

    low_line : (x : Image ℕ) → IsSmallLine (combined S.field c) (size c) x → IsLowLine S (length c.primaries) x
    low_line x h = record { wide = h.wide ∙ sym given_width; low = h.low; combination = low_comb x.comb.vector h.combination }

    pub low_lines : (xs : List (Image ℕ)) → All (IsSmallLine (combined S.field c) (size c)) xs → All (IsLowLine S (length c.primaries)) xs
    low_lines xs = All-weaker (IsSmallLine (combined S.field c) (size c)) (IsLowLine S (length c.primaries)) low_line xs

    low_member : (l : Line ℕ) → IsSmallMember (marked S.field c) (combined S.field c) l → IsLowMember S (size c + length c.primaries) (length c.primaries) l
    low_member l h = record { polynomial = low_poly l.u h.polynomial; combination = some l.comb h.combination }
      where
        some : (o : Option (Comb ℕ)) → IfSome o (λ x. IsSmallComb (combined S.field c) x.vector) → IfSome o (λ x. AreLowTerms S.field (length c.primaries) x.vector)
        some None i = tt
        some (Some x) i = low_comb x.vector i

    pub low_members : (ls : List (Line ℕ)) → All (IsSmallMember (marked S.field c) (combined S.field c)) ls → All (IsLowMember S (size c + length c.primaries) (length c.primaries)) ls
    low_members ls = All-weaker (IsSmallMember (marked S.field c) (combined S.field c)) (IsLowMember S (size c + length c.primaries) (length c.primaries)) low_member ls
