-- What the conditions on the values of a certificate give a check: its parts belong together, and its polynomials are of small degrees.
use Rattle.std.proofs.Common.{◌≡◌, ◌∙◌, ℕ, zero, suc, ◌+◌, ◌*◌, ◌<◌, ◌≤◌, List, [], ◌∷◌, length, map, replicate, get_or, refl, sym, ap, ap₂, subst, arith}
use Rattle.std.specs.Prelude.{Bool, true, false, All, Option, Some, None, IfSome, ◌++◌}
use Rattle.std.proofs.lemmas.List.{length-map, length-replicate}
use Rattle.std.proofs.lemmas.List.Elements.{All-nil, All-cons, All-head, All-tail, All-weaker}
use Rattle.alg_core.specs.DpOrder.{weighted_degree}
use Rattle.alg_core.specs.Fields.{FieldOn, Has}
use Rattle.alg_core.specs.Keys.{key}
use Rattle.alg_core.specs.PolynomialSpaces.{plain_space, marked_space}
use Rattle.alg_core.specs.SpaceGrading.{degree}
use Rattle.alg_core.specs.Spaces.{SpaceOver, Fits, entries}
use Rattle.alg_core.specs.Vectors.{Entry}
use Rattle.alg_core.specs.declared.term.Term.{Term}
use Rattle.alg_core.proofs.PlaceDegrees.{degree_key}
use Rattle.poly_module.specs.GreatestExponents.{total}
use Rattle.poly_module.proofs.ExponentBounds.{vec_supp}
use Rattle.poly_module.specs.SpaceVectors.{IsPoly, IsVector, ArePolys}
use Rattle.poly_module.specs.declared.vector.Comb.{Comb}
use Rattle.poly_text.specs.Values.{IsReadable, IsReadableTerm}
use Rattle.poly_text.specs.declared.names.Names.{Names}
use Rattle.prime_field.specs.ListedPrimes.{is_listed}
use Rattle.prime_field.specs.PrimeFields.{gfp, gfp_same}
use Rattle.lin_algebra.specs.declared.matrix.Matrix.{Matrix}
use Rattle.matrix_group.specs.Actions.{IsSquare}
use Rattle.certificate_io.specs.Certificates.{CertificateOf, EvidenceOf, Averages, Members, matrix_of}
use Rattle.certificate_io.specs.Conditions as conditions
use Rattle.certificate_io.specs.Spaces.{field_if, field_at, combination_space, word_space, plain_names, marked_names, word_names}
use Rattle.certificate_io.specs.declared.evidence.Image.{Image}
use Rattle.certificate_io.specs.declared.evidence.Line.{Line}
use Rattle.cert_check.specs.Endings.{IsGiven}
use Rattle.cert_check.specs.Parts.{size, degrees, secondary_degrees, irreducible_degrees}
use Rattle.cert_check.specs.SmallPolynomials.{most_degree, IsSmallPoly, IsSmallComb, IsSmallLine, IsSmallMember}
use Rattle.cert_check.specs.WellFormed.{plain, marked, combined, worded, IsImage, IsMember, AreEvidence, IsWellFormed}

abbrev Terms : Type 0
Terms = List (Term ℕ (List ℕ))

-- the field of a listed characteristic
pub field_is : (p : ℕ) (b : Bool) (e : is_listed p ≡ b) (listed : is_listed p ≡ true) → field_if p b e ≡ gfp p listed
field_is p true e listed = gfp_same p p refl e listed
field_is p false e listed = absurd cc

module _ (S : SpaceOver ℕ) where
  -- the degree of each term, by its weights and the shift of its position
  degrees-up-to : (d : ℕ) (es : List (Entry ℕ)) → Fits S es → All (λ e. weighted_degree S.weights e.0.1 + get_or S.shifts e.0.0 0 ≤ d) es
      → All (λ e. degree S (key e.0) ≤ d) es
  degrees-up-to d [] f h = All-nil (λ e. degree S (key e.0) ≤ d)
  degrees-up-to d (e ∷ es) f h =
      let same = degree_key S e.0 f.0.place.wide f.0.place.low in
      let here = All-head (λ e. weighted_degree S.weights e.0.1 + get_or S.shifts e.0.0 0 ≤ d) e es h in
      All-cons (λ e. degree S (key e.0) ≤ d) e es (subst (λ n. n ≤ d) (sym same) here)
      (degrees-up-to d es f.2 (All-tail (λ e. weighted_degree S.weights e.0.1 + get_or S.shifts e.0.0 0 ≤ d) e es h))

  -- a combination
  small-comb : (v : Terms) → conditions.IsCombinationIn S v → IsSmallComb S v
  small-comb v h = record {
    comb = h.0;
    up_to = vec_supp S.field (λ t. degree S t ≤ most_degree) (entries (λ m. m) v)
        (degrees-up-to most_degree (entries (λ m. m) v) h.0 (All-weaker (IsReadableTerm S) (λ e. weighted_degree S.weights e.0.1 + get_or S.shifts e.0.0 0 ≤ most_degree) (λ e r. r.degree) (entries (λ m. m) v) h.1));
  }

  -- a polynomial, where position 0 has the shift 0
  module _ (shift : get_or S.shifts 0 0 ≡ 0) (names : Names) where
    readable-degrees : (es : List (Entry ℕ)) → All (λ e. e.0.0 ≡ 0) es → All (IsReadable S names) es
        → All (λ e. weighted_degree S.weights e.0.1 + get_or S.shifts e.0.0 0 ≤ most_degree) es
    readable-degrees [] z h = All-nil (λ e. weighted_degree S.weights e.0.1 + get_or S.shifts e.0.0 0 ≤ most_degree)
    readable-degrees (e ∷ es) z h =
        let zeroth : e.0.0 ≡ 0 = All-head (λ e. e.0.0 ≡ 0) e es z in
        let none : get_or S.shifts e.0.0 0 ≡ 0 = ap (λ (q : ℕ). get_or S.shifts q 0) zeroth ∙ shift in
        let low = (All-head (IsReadable S names) e es h).degree in
        All-cons (λ e. weighted_degree S.weights e.0.1 + get_or S.shifts e.0.0 0 ≤ most_degree) e es (omega (arith, none, low))
        (readable-degrees es (All-tail (λ e. e.0.0 ≡ 0) e es z) (All-tail (IsReadable S names) e es h))

    small-poly : (v : Terms) → conditions.IsPolynomialIn S names v → IsSmallPoly S v
    small-poly v h = record {
      poly = h.0;
      up_to = vec_supp S.field (λ t. degree S t ≤ most_degree) (entries (λ m. m) v)
          (degrees-up-to most_degree (entries (λ m. m) v) h.0.fits (readable-degrees (entries (λ m. m) v) h.0.position h.1));
    }

    small-polys : (vs : List Terms) → All (conditions.IsPolynomialIn S names) vs → All (IsSmallPoly S) vs
    small-polys vs = All-weaker (conditions.IsPolynomialIn S names) (IsSmallPoly S) small-poly vs

-- where each variable has the weight 1
total-up : (n : ℕ) (a : List ℕ) → length a ≡ n → total a ≤ weighted_degree (replicate n 1) a
total-up n [] e = omega arith
total-up zero (x ∷ a) e = absurd (omega arith)
total-up (suc n) (x ∷ a) e = let rest = total-up n a (omega arith) in omega arith

module _ (S : SpaceOver ℕ) (gens : List (Matrix ℕ)) (c : CertificateOf ℕ) (g : IsGiven S gens c) where
  abbrev k : FieldOn ℕ
  k = S.field

  field : field_at c.characteristic ≡ k
  field = field_is c.characteristic (is_listed c.characteristic) refl g.space.field.0 ∙ sym g.space.field.1

  abbrev C : conditions.IsCertificate c
  C = g.certificate

  -- what holds over one field holds over the other
  over : (P : FieldOn ℕ → Type 0) → P (field_at c.characteristic) → P k
  over P h = subst P field h

  abbrev marks : Names
  marks = marked_names c.names (length c.primaries)

  plain-polys : (vs : List Terms) → All (conditions.IsPolynomialIn (conditions.plain c) (plain_names c.names)) vs → All (IsSmallPoly (plain k c)) vs
  plain-polys vs h = small-polys (plain k c) refl (plain_names c.names) vs
      (over (λ l. All (conditions.IsPolynomialIn (plain_space l (size c)) (plain_names c.names)) vs) h)

  marked-poly : (v : Terms) → conditions.IsPolynomialIn (conditions.marked c) marks v → IsSmallPoly (marked k c) v
  marked-poly v h = small-poly (marked k c) refl marks v (over (λ l. conditions.IsPolynomialIn (marked_space l (size c) (degrees c)) marks v) h)

  combined-comb : (v : Terms) → conditions.IsCombinationIn (conditions.combined c) v → IsSmallComb (combined k c) v
  combined-comb v h = small-comb (combined k c) v (over (λ l. conditions.IsCombinationIn (combination_space l (degrees c) (secondary_degrees c)) v) h)

  in-plain : (vs : List Terms) → All (IsSmallPoly (plain k c)) vs → All (IsSmallPoly S) vs
  in-plain vs h = subst (λ T. All (IsSmallPoly T) vs) (sym g.space.is) h

  pub given_primaries : All (IsSmallPoly S) c.primaries
  given_primaries = in-plain c.primaries (plain-polys c.primaries C.primaries.1)

  pub given_secondaries : All (IsSmallPoly S) c.secondaries
  given_secondaries = in-plain c.secondaries (plain-polys c.secondaries C.secondaries.1)

  pub given_irreducibles : All (IsSmallPoly S) c.irreducibles
  given_irreducibles = in-plain c.irreducibles (plain-polys c.irreducibles C.irreducibles)

  pub given_lifts : All (IsSmallPoly (marked k c)) c.lifts
  given_lifts = All-weaker (conditions.IsPolynomialIn (conditions.marked c) marks) (IsSmallPoly (marked k c)) marked-poly c.lifts C.lifts.1

  pub given_powers : All (λ x. (x.exponent ≤ most_degree) × IsSmallPoly (marked k c) x.form) c.powers
  given_powers = All-weaker (conditions.IsPower c) (λ x. (x.exponent ≤ most_degree) × IsSmallPoly (marked k c) x.form)
      (λ x h. (h.exponent.1, marked-poly x.form h.form)) c.powers C.powers

  pub given_words : All (IsSmallPoly (worded k c)) c.words
  given_words = small-polys (worded k c) refl (word_names (length c.primaries) (length c.irreducibles)) c.words
      (over (λ l. All (conditions.IsPolynomialIn (word_space l (degrees c ++ irreducible_degrees c)) (word_names (length c.primaries) (length c.irreducibles))) c.words) C.words)

  small-line : (x : Image ℕ) → conditions.IsImage c x → IsSmallLine (combined k c) (size c) x
  small-line x h =
      let wide : length x.mono ≡ size c = h.place.wide ∙ length-replicate (size c) 1 in
      let low = total-up (size c) x.mono wide in
      let up = h.monomial.degree in
      record { wide = wide; low = omega (arith, low, up); combination = combined-comb x.comb.vector h.combination }

  some-comb : (o : Option (Comb ℕ)) → IfSome o (λ x. conditions.IsCombinationIn (conditions.combined c) x.vector) → IfSome o (λ x. IsSmallComb (combined k c) x.vector)
  some-comb None h = tt
  some-comb (Some x) h = combined-comb x.vector h

  small-member : (l : Line ℕ) → conditions.IsMember c l → IsSmallMember (marked k c) (combined k c) l
  small-member l h = record { polynomial = marked-poly l.u h.polynomial; combination = some-comb l.comb h.combination }

  averages-of : (e : EvidenceOf ℕ) → conditions.AreEvidence c e → (xs : List (Image ℕ)) → e ≡ Averages xs → All (conditions.IsImage c) xs
  averages-of (Averages ys) h xs e = subst (All (conditions.IsImage c)) same h.1
    where
      listed : EvidenceOf ℕ → List (Image ℕ)
      listed (Averages zs) = zs
      listed (Members ls) = ys

      same : ys ≡ xs
      same = ap listed e
  averages-of (Members ls) h xs e = absurd cc

  members-of : (e : EvidenceOf ℕ) → conditions.AreEvidence c e → (ls : List (Line ℕ)) → e ≡ Members ls → All (conditions.IsMember c) ls
  members-of (Averages ys) h ls e = absurd cc
  members-of (Members ms) h ls e = subst (All (conditions.IsMember c)) same h.1
    where
      listed : EvidenceOf ℕ → List (Line ℕ)
      listed (Averages zs) = ms
      listed (Members os) = os

      same : ms ≡ ls
      same = ap listed e

  pub given_averages : (xs : List (Image ℕ)) → c.evidence ≡ Averages xs → All (IsSmallLine (combined k c) (size c)) xs
  given_averages xs e = All-weaker (conditions.IsImage c) (IsSmallLine (combined k c) (size c)) small-line xs (averages-of c.evidence C.evidence xs e)

  pub given_members : (ls : List (Line ℕ)) → c.evidence ≡ Members ls → All (IsSmallMember (marked k c) (combined k c)) ls
  given_members ls e = All-weaker (conditions.IsMember c) (IsSmallMember (marked k c) (combined k c)) small-member ls (members-of c.evidence C.evidence ls e)

  -- the matrices
  class : (x : ℕ) → x < c.characteristic → Has k x
  class x h = subst (λ (l : FieldOn ℕ). Has l x) (sym g.space.field.1) ((gfp c.characteristic g.space.field.0).has_of_number x h)

  square-of : (m : Matrix ℕ) → conditions.IsSquare c.characteristic (size c) (matrix_of m) → IsSquare k (size c) m
  square-of m h = record {
    matrix = record { whole = h.cells ∙ sym (ap₂ (λ a b. a * b) h.rows h.cols); has = All-weaker (λ x. x < c.characteristic) (Has k) class m.cells.items h.classes };
    rows = h.rows;
    cols = h.cols;
  }

  square-each : (ms : List (Matrix ℕ)) → All (conditions.IsSquare c.characteristic (size c)) (map matrix_of ms) → All (IsSquare k (size c)) ms
  square-each [] h = All-nil (IsSquare k (size c))
  square-each (m ∷ ms) h = All-cons (IsSquare k (size c)) m ms
      (square-of m (All-head (conditions.IsSquare c.characteristic (size c)) (matrix_of m) (map matrix_of ms) h))
      (square-each ms (All-tail (conditions.IsSquare c.characteristic (size c)) (matrix_of m) (map matrix_of ms) h))

  pub given_square : All (IsSquare k (size c)) gens
  given_square = square-each gens (subst (All (conditions.IsSquare c.characteristic (size c))) (sym g.generators) C.matrices.1)

  pub given_some : 0 < length gens
  given_some = let some = C.matrices.0 in let same : length gens ≡ length c.matrices = sym (length-map gens matrix_of) ∙ ap length g.generators in omega (arith, some, same)

  polys : (T : SpaceOver ℕ) (vs : List Terms) → All (IsSmallPoly T) vs → ArePolys T (λ m. m) vs
  polys T vs = All-weaker (IsSmallPoly T) (IsPoly T (λ m. m)) (λ v h. h.poly) vs

  evidence-of : (e : EvidenceOf ℕ) → conditions.AreEvidence c e → AreEvidence k c e
  evidence-of (Averages xs) h = All-weaker (conditions.IsImage c) (IsImage k c) image xs h.1
    where
      image : (x : Image ℕ) → conditions.IsImage c x → IsImage k c x
      image x i = let s = small-line x i in record { wide = s.wide; combination = s.combination.comb }
  evidence-of (Members ls) h = All-weaker (conditions.IsMember c) (IsMember k c) member ls h.1
    where
      comb : (o : Option (Comb ℕ)) → IfSome o (λ x. IsSmallComb (combined k c) x.vector) → IfSome o (λ x. IsVector (combined k c) (λ m. m) x.vector)
      comb None i = tt
      comb (Some x) i = i.comb

      member : (l : Line ℕ) → conditions.IsMember c l → IsMember k c l
      member l i = let s = small-member l i in record { polynomial = s.polynomial.poly; combination = comb l.comb s.combination }

  pub given_well : IsWellFormed k c gens
  given_well = record {
    field = g.space.field;
    generators = g.generators;
    some = given_some;
    square = given_square;
    variables = C.variables.0;
    primaries = polys (plain k c) c.primaries (plain-polys c.primaries C.primaries.1);
    lifts = polys (marked k c) c.lifts given_lifts;
    powers = All-weaker (λ x. (x.exponent ≤ most_degree) × IsSmallPoly (marked k c) x.form) (λ x. IsPoly (marked k c) (λ m. m) x.form) (λ x h. h.1.poly) c.powers given_powers;
    power_each = C.power_each;
    secondaries = polys (plain k c) c.secondaries (plain-polys c.secondaries C.secondaries.1);
    evidence = evidence-of c.evidence C.evidence;
    irreducibles = polys (plain k c) c.irreducibles (plain-polys c.irreducibles C.irreducibles);
    words = polys (worded k c) c.words given_words;
    word_each = C.word_each;
  }
