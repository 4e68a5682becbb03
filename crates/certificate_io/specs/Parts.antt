-- The lines of a text by the parts of a certificate.
--
--   PowerTree, ImageTree, MemberTree   the parts of the line of a power, of an average, of a member of the kernel
--   EvidenceTree           the lines of the averages, or of the members
--   TextParts              the parts of all lines
--   moved_or_fixed u o     the line of a member, moved where it has no combination o
--   image_line x, power_line x, member_line x   the lines of these parts
--   evidence_lines e       the line of the kind of the evidence, and those of the evidence
--   lines_in t             all lines, in their order
--   IsSomeOf P xs          there is one at least, and each is one of P
--   IsPowerTree x, IsImageTree x, IsMemberTree x, IsEvidenceTree e   the parts are those of lines
--   AreParts t             the parts are those of the lines of a text
--   cell_in p x            the entry that the class x modulo p prints
--   tree_in p ws r f       the tree that the polynomial f modulo p prints in variables with the names ws and then r marks @, and marks $
--   combination_in p m c   the tree that the combination c of m secondary invariants prints
--   power_in, image_in, member_in, evidence_in   those of the parts of a certificate
--   parts_of c             the parts of the lines that the certificate c prints
use Rattle.std.specs.Prelude.{ℕ, List, [], ◌∷◌, ◌++◌, length, map, All, Option, Some, None, IfSome, IsTrue}
use Rattle.std.specs.List.{zip}
use Rattle.std.specs.Option.{option_map}
use Rattle.alg_core.specs.Names.{is_name}
use Rattle.alg_core.specs.Spaces.{entries}
use Rattle.alg_core.specs.declared.term.Term.{Term as CodeTerm}
use Rattle.finite_certificate.specs.declared.power.Power.{Power}
use Rattle.poly_module.specs.declared.vector.Comb.{Comb}
use Rattle.poly_text.specs.Syntax.{Factor, Term, IsFactor}
use Rattle.poly_text.specs.Texts.{absolute, by_position, combination_term, factors_from, is_negative, term_in, variable_in}
use Rattle.certificate_io.specs.Certificates.{EvidenceOf, Averages, Members, CertificateOf}
use Rattle.certificate_io.specs.declared.evidence.Image.{Image}
use Rattle.certificate_io.specs.declared.evidence.Line.{Line}
use Rattle.certificate_io.specs.declared.words.Cell.{Cell}
use Rattle.certificate_io.specs.Syntax.{LineTree, VersionLine, FieldLine, NamesLine, MatrixLine, OrderLine, PrimaryLine, LiftLine, PowerLine, RankLine, SecondaryLine, ReynoldsLine, KernelLine, ImageLine, MovedLine, FixedLine, IrreducibleLine, WordLine, EndLine, IsBetween, IsSome, IsCell, IsPolynomial}

pub record PowerTree : Type 0 where
  pub name : List ℕ
  pub exponent : ℕ
  pub form : List Term

pub record ImageTree : Type 0 where
  pub monomial : List Factor
  pub combination : List Term

pub record MemberTree : Type 0 where
  pub polynomial : List Term
  pub combination : Option (List Term)

pub data EvidenceTree : Type 0 where
  Images : List ImageTree → EvidenceTree
  Kernel : List MemberTree → EvidenceTree

pub record TextParts : Type 0 where
  pub characteristic : ℕ
  pub names : List (List ℕ)
  pub matrices : List (List Cell)
  pub order : ℕ
  pub primaries : List (List Term)
  pub lifts : List (List Term)
  pub powers : List PowerTree
  pub rank : ℕ
  pub secondaries : List (List Term)
  pub evidence : EvidenceTree
  pub irreducibles : List (List Term)
  pub words : List (List Term)

abbrev pub power_line : PowerTree → LineTree
power_line x = PowerLine x.name x.exponent x.form

abbrev pub image_line : ImageTree → LineTree
image_line x = ImageLine x.monomial x.combination

abbrev pub moved_or_fixed : List Term → Option (List Term) → LineTree
moved_or_fixed ts None = MovedLine ts
moved_or_fixed ts (Some us) = FixedLine ts us

abbrev pub member_line : MemberTree → LineTree
member_line x = moved_or_fixed x.polynomial x.combination

abbrev pub evidence_lines : EvidenceTree → List LineTree
evidence_lines (Images xs) = ReynoldsLine ∷ map image_line xs
evidence_lines (Kernel xs) = KernelLine ∷ map member_line xs

unfoldable pub lines_in : TextParts → List LineTree
lines_in t =
    VersionLine ∷ FieldLine t.characteristic ∷ NamesLine t.names
    ∷ (map MatrixLine t.matrices ++ (OrderLine t.order
    ∷ (map PrimaryLine t.primaries ++ (map LiftLine t.lifts ++ (map power_line t.powers ++ (RankLine t.rank
    ∷ (map SecondaryLine t.secondaries ++ (evidence_lines t.evidence ++ (map IrreducibleLine t.irreducibles ++ (map WordLine t.words ++ (EndLine ∷ [])))))))))))

abbrev pub IsSomeOf : {A : Type 0} → (A → Type 0) → List A → Type 0
IsSomeOf P xs = IsSome xs × All P xs

pub record IsPowerTree (x : PowerTree) : Type 0 where
  pub name : IsTrue (is_name x.name)
  pub exponent : IsBetween 9999 x.exponent
  pub form : IsPolynomial x.form

pub record IsImageTree (x : ImageTree) : Type 0 where
  pub monomial : All IsFactor x.monomial
  pub combination : IsPolynomial x.combination

pub record IsMemberTree (x : MemberTree) : Type 0 where
  pub polynomial : IsPolynomial x.polynomial
  pub combination : IfSome x.combination IsPolynomial

abbrev pub IsEvidenceTree : EvidenceTree → Type 0
IsEvidenceTree (Images xs) = IsSomeOf IsImageTree xs
IsEvidenceTree (Kernel xs) = IsSomeOf IsMemberTree xs

pub record AreParts (t : TextParts) : Type 0 where
  pub characteristic : IsBetween 99999 t.characteristic
  pub names : IsSomeOf (λ w. IsTrue (is_name w)) t.names
  pub matrices : IsSomeOf (IsSomeOf IsCell) t.matrices
  pub order : IsBetween 999999999999999999 t.order
  pub primaries : IsSomeOf IsPolynomial t.primaries
  pub lifts : IsSomeOf IsPolynomial t.lifts
  pub powers : IsSomeOf IsPowerTree t.powers
  pub rank : IsBetween 999999999999999999 t.rank
  pub secondaries : IsSomeOf IsPolynomial t.secondaries
  pub evidence : IsEvidenceTree t.evidence
  pub irreducibles : All IsPolynomial t.irreducibles
  pub words : IsSomeOf IsPolynomial t.words

abbrev pub cell_in : ℕ → ℕ → Cell
cell_in p x = record { is_negative = is_negative p x; size = absolute p x }

module _ (p : ℕ) where
  abbrev pub tree_in : List (List ℕ) → ℕ → List (CodeTerm ℕ (List ℕ)) → List Term
  tree_in ws r f = map (term_in ws r p) (entries (λ a. a) f)

  abbrev pub combination_in : ℕ → Comb ℕ → List Term
  combination_in m c = map (combination_term p) (by_position m (entries (λ a. a) c.vector))

  abbrev pub power_in : List (List ℕ) → ℕ → (List ℕ × Power ℕ) → PowerTree
  power_in ws r x = record { name = x.0; exponent = x.1.exponent; form = tree_in ws r x.1.form }

  abbrev pub image_in : List (List ℕ) → ℕ → Image ℕ → ImageTree
  image_in ws m x = record { monomial = factors_from (variable_in ws 0) 0 x.mono; combination = combination_in m x.comb }

  abbrev pub member_in : List (List ℕ) → ℕ → ℕ → Line ℕ → MemberTree
  member_in ws r m x = record { polynomial = tree_in ws r x.u; combination = option_map (combination_in m) x.comb }

  abbrev pub evidence_in : List (List ℕ) → ℕ → ℕ → EvidenceOf ℕ → EvidenceTree
  evidence_in ws r m (Averages xs) = Images (map (image_in ws m) xs)
  evidence_in ws r m (Members xs) = Kernel (map (member_in ws r m) xs)

unfoldable pub parts_of : CertificateOf ℕ → TextParts
parts_of c =
    let p = c.characteristic in
    let r = length c.primaries in
    let m = length c.secondaries in
    record {
      characteristic = p;
      names = c.names;
      matrices = map (λ g. map (cell_in p) g.cells) c.matrices;
      order = c.order;
      primaries = map (tree_in p c.names 0) c.primaries;
      lifts = map (tree_in p c.names r) c.lifts;
      powers = map (power_in p c.names r) (zip c.names c.powers);
      rank = c.rank;
      secondaries = map (tree_in p c.names 0) c.secondaries;
      evidence = evidence_in p c.names r m c.evidence;
      irreducibles = map (tree_in p c.names 0) c.irreducibles;
      words = map (tree_in p [] r) c.words;
    }
