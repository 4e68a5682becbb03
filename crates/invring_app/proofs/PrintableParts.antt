-- A certificate whose parts belong together has a text: its coefficients are classes.
use Rattle.std.proofs.Common.{◌≡◌, ℕ, ◌<◌, List, [], ◌∷◌, map, length, suc, refl, ap, subst, Some, None}
use Rattle.std.specs.Prelude.{All, IfSome, Option, true}
use Rattle.std.proofs.lemmas.List.Elements.{All-nil, All-cons, All-head, All-tail}
use Rattle.alg_core.specs.Fields.{FieldOn, Has}
use Rattle.alg_core.specs.Spaces.{SpaceOver, Fits, entries}
use Rattle.alg_core.specs.declared.term.Term.{Term}
use Rattle.prime_field.specs.ListedPrimes.{is_listed}
use Rattle.prime_field.specs.PrimeFields.{gfp, IsPrimeField}
use Rattle.poly_module.specs.SpaceVectors.{IsPoly, ArePolys, IsVector}
use Rattle.poly_module.specs.declared.vector.Comb.{Comb}
use Rattle.lin_algebra.specs.declared.matrix.Matrix.{Matrix}
use Rattle.matrix_group.specs.Actions.{IsSquare}
use Rattle.finite_certificate.specs.declared.power.Power.{Power}
use Rattle.secondary_gens.specs.Forms.{degrees_of}
use Rattle.certificate_io.specs.Certificates.{CertificateOf, EvidenceOf, Averages, Members, MatrixOf, matrix_of}
use Rattle.certificate_io.specs.Printable as printable
use Rattle.certificate_io.specs.declared.evidence.Image.{Image}
use Rattle.certificate_io.specs.declared.evidence.Line.{Line}
use Rattle.cert_check.specs.Parts.{size}
use Rattle.cert_check.specs.WellFormed.{combined, IsImage, IsMember, AreEvidence, IsWellFormed}

abbrev Terms : Type 0
Terms = List (Term ℕ (List ℕ))

-- a value of GF(p) is a number below p
pub has_below : (p : ℕ) (k : FieldOn ℕ) (x : ℕ) → IsPrimeField p k → Has k x → x < p
has_below p k x field h = below field.0 (subst (λ (l : FieldOn ℕ). Has l x) field.1 h)
  where
    below : (listed : is_listed p ≡ true) → Has (gfp p listed) x → x < p
    below listed has = (gfp p listed).number_below x has

module _ (p : ℕ) (S : SpaceOver ℕ) (field : IsPrimeField p S.field) where
  pub fit_classes : (f : Terms) → Fits S (entries (λ m. m) f) → printable.HasClasses p f
  fit_classes [] h = All-nil (λ t. t.coef < p)
  fit_classes (t ∷ f) h = All-cons (λ t. t.coef < p) t f (has_below p S.field t.coef field h.0.has) (fit_classes f h.2)

  pub poly_classes : (fs : List Terms) → ArePolys S (λ m. m) fs → All (printable.HasClasses p) fs
  poly_classes [] h = All-nil (printable.HasClasses p)
  poly_classes (f ∷ fs) h = All-cons (printable.HasClasses p) f fs (fit_classes f (All-head (IsPoly S (λ m. m)) f fs h).fits) (poly_classes fs (All-tail (IsPoly S (λ m. m)) f fs h))

  form_classes : (ps : List (Power ℕ)) → All (λ x. IsPoly S (λ m. m) x.form) ps → All (λ x. printable.HasClasses p x.form) ps
  form_classes [] h = All-nil (λ x. printable.HasClasses p x.form)
  form_classes (x ∷ ps) h = All-cons (λ x. printable.HasClasses p x.form) x ps (fit_classes x.form (All-head (λ x. IsPoly S (λ m. m) x.form) x ps h).fits) (form_classes ps (All-tail (λ x. IsPoly S (λ m. m) x.form) x ps h))

  fit_positions : (f : Terms) → Fits S (entries (λ m. m) f) → All (λ t. t.at.pos < length S.shifts) f
  fit_positions [] h = All-nil (λ t. t.at.pos < length S.shifts)
  fit_positions (t ∷ f) h = All-cons (λ t. t.at.pos < length S.shifts) t f h.0.place.low (fit_positions f h.2)

module _ (k : FieldOn ℕ) (c : CertificateOf ℕ) (gens : List (Matrix ℕ)) (well : IsWellFormed k c gens) where
  p : ℕ
  p = c.characteristic

  cells : (ms : List (Matrix ℕ)) → All (IsSquare k (size c)) ms → All (λ (m : MatrixOf ℕ). All (λ x. x < c.characteristic) m.cells) (map matrix_of ms)
  cells [] h = All-nil (λ (m : MatrixOf ℕ). All (λ x. x < c.characteristic) m.cells)
  cells (m ∷ ms) h = All-cons (λ (m : MatrixOf ℕ). All (λ x. x < c.characteristic) m.cells) (matrix_of m) (map matrix_of ms)
      (each m.cells.items (All-head (IsSquare k (size c)) m ms h).matrix.has) (cells ms (All-tail (IsSquare k (size c)) m ms h))
    where
      each : (xs : List ℕ) → All (Has k) xs → All (λ x. x < c.characteristic) xs
      each [] h = All-nil (λ x. x < c.characteristic)
      each (x ∷ xs) h = All-cons (λ x. x < c.characteristic) x xs (has_below c.characteristic k x well.field (All-head (Has k) x xs h)) (each xs (All-tail (Has k) x xs h))

  count : (vs : List Terms) → length (degrees_of vs) ≡ length vs
  count [] = refl
  count (v ∷ vs) = ap suc (count vs)

  combination : (x : Comb ℕ) → IsVector (combined k c) (λ m. m) x.vector → printable.IsPrintableComb c.characteristic (length c.secondaries) x
  combination x h = record {
    classes = fit_classes c.characteristic (combined k c) well.field x.vector h;
    positions = subst (λ n. All (λ t. t.at.pos < n) x.vector) (count c.secondaries) (fit_positions c.characteristic (combined k c) well.field x.vector h);
  }

  images : (xs : List (Image ℕ)) → All (IsImage k c) xs → All (λ x. printable.IsPrintableComb c.characteristic (length c.secondaries) x.comb) xs
  images [] h = All-nil (λ x. printable.IsPrintableComb c.characteristic (length c.secondaries) x.comb)
  images (x ∷ xs) h = All-cons (λ x. printable.IsPrintableComb c.characteristic (length c.secondaries) x.comb) x xs (combination x.comb (All-head (IsImage k c) x xs h).combination) (images xs (All-tail (IsImage k c) x xs h))

  some : (o : Option (Comb ℕ)) → IfSome o (λ x. IsVector (combined k c) (λ m. m) x.vector) → IfSome o (printable.IsPrintableComb c.characteristic (length c.secondaries))
  some None h = tt
  some (Some x) h = combination x h

  members : (ls : List (Line ℕ)) → All (IsMember k c) ls → All (printable.IsPrintableMember c.characteristic (length c.secondaries)) ls
  members [] h = All-nil (printable.IsPrintableMember c.characteristic (length c.secondaries))
  members (l ∷ ls) h =
      let m = All-head (IsMember k c) l ls h in
      All-cons (printable.IsPrintableMember c.characteristic (length c.secondaries)) l ls
      (record { classes = fit_classes c.characteristic _ well.field l.u m.polynomial.fits; combination = some l.comb m.combination })
      (members ls (All-tail (IsMember k c) l ls h))

  evidence : (e : EvidenceOf ℕ) → AreEvidence k c e → printable.AreEvidence c.characteristic (length c.secondaries) e
  evidence (Averages xs) h = images xs h
  evidence (Members ls) h = members ls h

  pub printable_is : printable.IsPrintable c
  printable_is = record {
    matrices = subst (All (λ (m : MatrixOf ℕ). All (λ x. x < c.characteristic) m.cells)) well.generators (cells gens well.square);
    primaries = poly_classes c.characteristic _ well.field c.primaries well.primaries;
    lifts = poly_classes c.characteristic _ well.field c.lifts well.lifts;
    powers = form_classes c.characteristic _ well.field c.powers well.powers;
    named = well.power_each;
    secondaries = poly_classes c.characteristic _ well.field c.secondaries well.secondaries;
    evidence = evidence c.evidence well.evidence;
    irreducibles = poly_classes c.characteristic _ well.field c.irreducibles well.irreducibles;
    words = poly_classes c.characteristic _ well.field c.words well.words;
  }
