-- The certificate that `ring` writes meets the conditions on values: its text can be read back, and the check of it accepts.
use Rattle.std.proofs.Common.{◌≡◌, ◌∙◌, ℕ, zero, suc, ◌+◌, ◌*◌, ◌-◌, ◌<◌, ◌≤◌, Bool, true, false, List, [], ◌∷◌, ◌++◌, length, map, replicate, None, Some, refl, sym, ap, ap₂, subst, arith}
use Rattle.std.specs.Prelude.{All, AllPairs, Option, IfSome, IsTrue, nat_lt, get_or, ◌==◌, if◌then◌else◌}
use Rattle.std.proofs.lemmas.Bool.{ltb-true}
use Rattle.std.proofs.lemmas.Bool.Decides.{nat_tests}
use Rattle.std.proofs.lemmas.List.{length-append, length-map}
use Rattle.std.proofs.lemmas.List.Elements.{All-nil, All-cons, All-head, All-tail, All-weaker}
use Rattle.alg_core.specs.BlockOrder.{length_ones}
use Rattle.alg_core.specs.DpOrder.{weighted_degree}
use Rattle.alg_core.specs.Fields.{FieldOn, Has}
use Rattle.alg_core.specs.LimitRanges.{AreLimits}
use Rattle.alg_core.specs.Names.{is_name}
use Rattle.alg_core.specs.PolynomialSpaces.{plain_space, marked_space}
use Rattle.alg_core.specs.SpaceGrading.{AllPositive}
use Rattle.alg_core.specs.declared.limits.Limits.{Limits}
use Rattle.alg_core.specs.declared.term.Term.{Term}
use Rattle.alg_core.proofs.PlaceDegrees.{within_degree}
use Rattle.alg_core.proofs.PolynomialSpaces.{plain_positive, marked_positive}
use Rattle.poly_module.specs.GreatestExponents.{total}
use Rattle.poly_module.specs.declared.vector.Comb.{Comb}
use Rattle.poly_text.specs.Syntax.{Named, Marked}
use Rattle.poly_text.specs.Texts.{variable_in}
use Rattle.poly_text.specs.Values.{IsIndexed}
use Rattle.poly_text.specs.declared.syntax.Mark.TheVariants.{Primary, Irreducible}
use Rattle.prime_field.specs.ListedPrimes.{is_listed}
use Rattle.lin_algebra.specs.declared.matrix.Matrix.{Matrix}
use Rattle.matrix_group.specs.Actions.{IsSquare}
use Rattle.finvar_text.specs.Problems.{Problem, IsProblemText}
use Rattle.certificate_io.specs.Certificates.{CertificateOf, EvidenceOf, Averages, Members, matrix_of}
use Rattle.certificate_io.specs.Conditions as conditions
use Rattle.certificate_io.specs.Conditions.{IsPolynomialIn, IsCombinationIn, IsCertificate}
use Rattle.certificate_io.specs.Spaces.{field_at, combination_space, word_space, plain_names, marked_names, word_names}
use Rattle.certificate_io.specs.Syntax.{IsBetween, IsSome}
use Rattle.certificate_io.specs.declared.evidence.Image.{Image}
use Rattle.certificate_io.specs.declared.evidence.Line.{Line}
use Rattle.cert_check.specs.Parts.{size, degrees, secondary_degrees, irreducible_degrees}
use Rattle.cert_check.specs.SmallPolynomials.{IsSmallPoly, IsSmallComb, IsSmallLine, IsSmallMember}
use Rattle.cert_check.specs.WellFormed.{plain, marked, combined, worded}
use Rattle.cert_check.specs.declared.verdict.Verdict.TheVariants.{Accepted}
use Rattle.cert_check.proofs.GivenParts.{field_is}
use Rattle.cert_check.proofs.MadeForms.{positive_known}
use Rattle.cert_check.proofs.MadeHolds.{primary_forms, made_irreducible}
use Rattle.invring_app.specs.CheckFaults.{IsVerdict}
use Rattle.invring_app.specs.Commands.Rings.{IsRingAnswer}
use Rattle.invring_app.specs.OwnCertificates.{HasShortLists}
use Rattle.invring_app.proofs.OwnReadable.{poly-read, polys-read, comb-read}
use Rattle.invring_app.proofs.OwnAccepted.{own-passes}
use Rattle.invring_app.proofs.OwnReadableDegrees.{own-primaries, own-lifts, own-powers, own-secondaries, own-irreducibles, own-words, own-rank, own-order}
use Rattle.invring_app.proofs.OwnReadableEvidence.{IsSmallEvidence, own-evidence}
use Rattle.invring_app.proofs.OwnKept.{IsOwn, own-kept}
use Rattle.invring_app.proofs.OwnReadableProblems.{IsNamed, problem-named}
use Rattle.invring_app.proofs.PrintableParts.{has_below}

abbrev Terms : Type 0
Terms = List (Term ℕ (List ℕ))

-- the indices of the marks are those of their lists
indexed-in : (ws : List (List ℕ)) (a b i : ℕ) → i < length ws + (a + b) → a ≤ 99999 → b ≤ 99999 → IsIndexed (variable_in ws a i)
indexed-in ws a b i low few less =
    go (nat_lt i (length ws)) (nat_lt i (length ws + a)) (λ y. let l = ltb-true i (length ws + a) y in omega arith) (omega arith)
  where
    go : (x y : Bool) → (y ≡ true → i - length ws + 1 ≤ 99999) → i - (length ws + a) + 1 ≤ 99999
        → IsIndexed (if x then Named (get_or ws i []) else if y then Marked Primary (i - length ws + 1) else Marked Irreducible (i - (length ws + a) + 1))
    go true y f g = tt
    go false true f g = f refl
    go false false f g = g

-- where each variable has the weight 1
weighted-low : (n : ℕ) (a : List ℕ) → length a ≡ n → weighted_degree (replicate n 1) a ≤ total a
weighted-low zero [] e = omega arith
weighted-low zero (x ∷ a) e = absurd (omega arith)
weighted-low (suc n) [] e = absurd (omega arith)
weighted-low (suc n) (x ∷ a) e = let rest = weighted-low n a (omega arith) in omega arith

equal-test : (m n : ℕ) → m ≡ n → (m == n) ≡ true
equal-test m n e = grind (arith, nat_tests)

all-positive : (ds es : List ℕ) → AllPositive ds → AllPositive es → AllPositive (ds ++ es)
all-positive [] es h g = g
all-positive (d ∷ ds) es h g = (h.0, all-positive ds es h.1 g)

module _ (q : Problem) (l : Limits) (c : CertificateOf ℕ) (k : FieldOn ℕ) (ms : List (Matrix ℕ)) (w : IsOwn q l c k ms) (r : AreLimits l) (named : IsNamed q) (short : HasShortLists c) where
  -- what holds over the field holds over the field of the characteristic
  over : (P : FieldOn ℕ → Type 0) → P k → P (field_at c.characteristic)
  over P h = subst P (sym (field_is c.characteristic (is_listed c.characteristic) refl w.well.field.0 ∙ sym w.well.field.1)) h

  -- no weight of its spaces is 0
  positive-degrees : AllPositive (degrees c)
  positive-degrees = (primary_forms k ms c l.tries w.well w.made).positive

  positive-irreducibles : AllPositive (irreducible_degrees c)
  positive-irreducibles = positive_known k (size c) c.irreducibles w.well.irreducibles (λ f i. ((made_irreducible k ms c l.tries w.well w.made).members f i).1)

  -- polynomials in the variables
  plain-polys : (vs : List Terms) → All (IsSmallPoly (plain k c)) vs → All (IsPolynomialIn (conditions.plain c) (plain_names c.names)) vs
  plain-polys vs h = over (λ f. All (IsPolynomialIn (plain_space f (size c)) (plain_names c.names)) vs)
      (polys-read (plain k c) (plain_positive k (size c)).1 (plain_names c.names) (λ i low. indexed-in c.names 0 0 i (let m = length_ones (size c) in omega arith) (omega arith) (omega arith)) vs h)

  -- and in the marks
  marked-poly : (v : Terms) → IsSmallPoly (marked k c) v → IsPolynomialIn (conditions.marked c) (marked_names c.names (length c.primaries)) v
  marked-poly v h = over (λ f. IsPolynomialIn (marked_space f (size c) (degrees c)) (marked_names c.names (length c.primaries)) v)
      (poly-read (marked k c) (marked_positive k (size c) (degrees c) positive-degrees).1 (marked_names c.names (length c.primaries))
      (λ i low. indexed-in c.names (length c.primaries) 0 i
      (let a = length-append (replicate (size c) 1) (degrees c) in let m = length_ones (size c) in let n = length-map c.primaries conditions.degree_of in omega arith) short.primaries (omega arith)) v h)

  combined-comb : (v : Terms) → IsSmallComb (combined k c) v → IsCombinationIn (conditions.combined c) v
  combined-comb v h = over (λ f. IsCombinationIn (combination_space f (degrees c) (secondary_degrees c)) v)
      (comb-read (combined k c) positive-degrees (let n = length-map c.primaries conditions.degree_of in let s = short.primaries in omega arith) (let n = length-map c.secondaries conditions.degree_of in let s = short.secondaries in omega arith) v h)

  words-read : All (IsPolynomialIn (conditions.worded c) (word_names (length c.primaries) (length c.irreducibles))) c.words
  words-read = over (λ f. All (IsPolynomialIn (word_space f (degrees c ++ irreducible_degrees c)) (word_names (length c.primaries) (length c.irreducibles))) c.words)
      (polys-read (worded k c) (all-positive (degrees c) (irreducible_degrees c) positive-degrees positive-irreducibles) (word_names (length c.primaries) (length c.irreducibles))
      (λ i low. indexed-in [] (length c.primaries) (length c.irreducibles) i
      (let a = length-append (degrees c) (irreducible_degrees c) in let m = length-map c.primaries conditions.degree_of in let n = length-map c.irreducibles conditions.degree_of in omega arith) short.primaries short.irreducibles)
      c.words (own-words q l c k ms w r))

  -- the matrices
  below : (xs : List ℕ) → All (Has k) xs → All (λ x. x < c.characteristic) xs
  below xs h = All-weaker (Has k) (λ x. x < c.characteristic) (λ x a. has_below c.characteristic k x w.well.field a) xs h

  square-read : (os : List (Matrix ℕ)) → All (IsSquare k (size c)) os → All (conditions.IsSquare c.characteristic (size c)) (map matrix_of os)
  square-read [] h = All-nil (conditions.IsSquare c.characteristic (size c))
  square-read (o ∷ os) h =
      let s = All-head (IsSquare k (size c)) o os h in
      All-cons (conditions.IsSquare c.characteristic (size c)) (matrix_of o) (map matrix_of os)
      (record { rows = s.rows; cols = s.cols; cells = s.matrix.whole ∙ ap₂ (λ a b. a * b) s.rows s.cols; classes = below o.cells.items s.matrix.has })
      (square-read os (All-tail (IsSquare k (size c)) o os h))

  -- the evidence
  line-read : (x : Image ℕ) → IsSmallLine (combined k c) (size c) x → conditions.IsImage c x
  line-read x h =
      let ones : length {A = ℕ} (replicate (size c) 1) ≡ size c = length_ones (size c) in
      let wide : length x.mono ≡ length {A = ℕ} (replicate (size c) 1) = h.wide ∙ sym ones in
      let low : weighted_degree (replicate (size c) 1) x.mono ≤ 4096 = let t = weighted-low (size c) x.mono h.wide in let u = h.low in omega arith in
      record {
        place = record { fits = equal-test (length x.mono) (length (replicate (size c) 1)) wide; wide = wide; low = omega arith };
        monomial = record {
          degree = low;
          exponents = within_degree 4096 (replicate (size c) 1) x.mono (plain_positive k (size c)).1 wide low;
          indices = λ i within other. indexed-in c.names 0 0 i (let e = h.wide in omega arith) (omega arith) (omega arith);
        };
        combination = combined-comb x.comb.vector h.combination;
      }

  member-read : (x : Line ℕ) → IsSmallMember (marked k c) (combined k c) x → conditions.IsMember c x
  member-read x h = record { polynomial = marked-poly x.u h.polynomial; combination = some x.comb h.combination }
    where
      some : (o : Option (Comb ℕ)) → IfSome o (λ y. IsSmallComb (combined k c) y.vector) → IfSome o (λ y. IsCombinationIn (conditions.combined c) y.vector)
      some None i = tt
      some (Some y) i = combined-comb y.vector i

  evidence-read : (e : EvidenceOf ℕ) → IsSmallEvidence k c e → conditions.AreEvidence c e
  evidence-read (Averages xs) h = (h.0, All-weaker (IsSmallLine (combined k c) (size c)) (conditions.IsImage c) line-read xs h.1)
  evidence-read (Members ls) h = (h.0, All-weaker (IsSmallMember (marked k c) (combined k c)) (conditions.IsMember c) member-read ls h.1)

  some-matrices : IsSome c.matrices
  some-matrices = let some = w.well.some in let same : length ms ≡ length c.matrices = sym (length-map ms matrix_of) ∙ ap length w.well.generators in omega (arith, some, same)

  pub own-certificate : IsCertificate c
  own-certificate =
      let order = own-order q l c k ms w r in
      let rank = own-rank q l c k ms w r in
      let θ = own-primaries q l c k ms w r in
      let lifts = own-lifts q l c k ms w r in
      let secs = own-secondaries q l c k ms w r in
      record {
        listed = w.well.field.0;
        variables = subst (λ ns. IsBetween 8 (length ns)) (sym w.names) named.few;
        names = subst (λ ns. All (λ v. IsTrue (is_name v)) ns) (sym w.names) named.names;
        distinct = subst (λ ns. AllPairs (λ u v. ¬ (u ≡ v)) ns) (sym w.names) named.distinct;
        matrices = (some-matrices, subst (All (conditions.IsSquare c.characteristic (size c))) w.well.generators (square-read ms w.well.square));
        order = (order.0, let o = order.1 in omega arith);
        primaries = (θ.0, plain-polys c.primaries θ.1);
        lifts = (lifts.0, All-weaker (IsSmallPoly (marked k c)) (IsPolynomialIn (conditions.marked c) (marked_names c.names (length c.primaries))) marked-poly c.lifts lifts.1);
        powers = All-weaker (λ x. IsBetween 4096 x.exponent × IsSmallPoly (marked k c) x.form) (conditions.IsPower c) (λ x h. record { exponent = h.0; form = marked-poly x.form h.1 }) c.powers (own-powers q l c k ms w r);
        power_each = w.well.power_each;
        rank = (rank.0, let o = rank.1 in omega arith);
        secondaries = (secs.0, plain-polys c.secondaries secs.1);
        evidence = evidence-read c.evidence (own-evidence q l c k ms w r);
        irreducibles = plain-polys c.irreducibles (own-irreducibles q l c k ms w r);
        words = words-read;
        word_each = w.well.word_each;
      }

pub own-read : (l : Limits) (q : Problem) (bytes text : List ℕ) → AreLimits l → IsProblemText bytes q → (a : IsRingAnswer l q text) → HasShortLists a.certificate → IsVerdict l text Accepted
own-read l q bytes text limits is a short =
    let own = own-kept l q text a in (
      a.certificate,
      record {
        short = let s = a.short in let m = limits.max_text.below in let e = ap length a.is_text in omega arith;
        certificate = own-certificate q l a.certificate a.of_problem.field own.0 own.1 limits (problem-named bytes q is) short;
        is = sym a.is_text;
      },
      own-passes bytes q l a.certificate a.of_problem.field own.0 own.1 is,
    )
