-- What is read of the sections of a text.
--
--   dp_over s, block_over s   the program's space s, by weighted dp, by the block order
--   marked_names_of, word_names_of t   the names of the variables of a lift, of a word
--   ArePlain, AreMarked t v   the variables v are those of the polynomials in the variables alone, of those with marks @
--   ArePolynomials, ArePowers S names xs v   the polynomials, the powers v are read of lines with the parts xs
--   AnswersPolynomials, AnswersPowers S names i xs r   the same of an answer, or it tells the first fault of the lines from i on
--   HasSmallTerms f        the degree of each term of f is at most 4096, where each variable has the degree 1
--   IsReady h              there are at most 8 names, and none stands twice
--   IsHeading t h          what is read of the lines up to that of the order
--   IsModule t m           of those after it, up to that of the rank
--   IsEvidence t e y       the evidence y is read of lines with the parts e
--   AreGenerators t g      what is read of the lines after that of the rank
use Rattle.std.specs.Prelude.{◌≡◌, ◌≢◌, ◌≤◌, ℕ, List, Result, length, All, AllPairs}
use Rattle.std.specs.Global.{Vec}
use Rattle.alg_core.specs.BlockOrder.{block_order}
use Rattle.alg_core.specs.DpOrder.{dp_order}
use Rattle.alg_core.specs.Spaces.{SpaceOver, entries, over}
use Rattle.alg_core.specs.declared.block_order.BlockOrder.{BlockOrder}
use Rattle.alg_core.specs.declared.dp.Dp.{Dp}
use Rattle.alg_core.specs.declared.space.Space.{Space}
use Rattle.alg_core.specs.declared.term.Term.{Term}
use Rattle.finite_certificate.specs.declared.power.Power.{Power}
use Rattle.lin_algebra.specs.declared.matrix.Matrix.{Matrix}
use Rattle.poly_module.specs.GreatestExponents.{total}
use Rattle.poly_text.specs.Syntax.{Term as TermTree}
use Rattle.poly_text.specs.declared.names.Names.{Names}
use Rattle.poly_text.proofs.EntrySteps.{field_of}
use Rattle.prime_field.specs.PrimeFields.{IsPrimeField}
use Rattle.prime_field.specs.declared.gfp.PrimeField.{PrimeField}
use Rattle.certificate_io.specs.Certificates.{EvidenceOf, Averages, Members, matrix_of, evidence_of}
use Rattle.certificate_io.specs.Conditions.{IsPolynomialIn, IsSquare}
use Rattle.certificate_io.specs.LineReadings.{power_kind, IsPowerIn, IsImageIn, IsMemberIn, power_parts, power_said, image_tree, member_tree}
use Rattle.certificate_io.specs.PartFaults.{degrees_of, plain_of, marked_of, combined_of, worded_of}
use Rattle.certificate_io.specs.Parts.{TextParts, EvidenceTree, Images, Kernel, PowerTree}
use Rattle.certificate_io.specs.Readings.{Answers, AreReadBy, matrix_cells, poly_kind, poly_tree, run_fault}
use Rattle.certificate_io.specs.Spaces.{plain_names, marked_names, word_names}
use Rattle.certificate_io.specs.declared.fault.CertFault.{CertFault}
use Rattle.certificate_io.specs.declared.values.Generators.{Generators}
use Rattle.certificate_io.specs.declared.values.Heading.{Heading}
use Rattle.certificate_io.specs.declared.values.Module.{Module}
use Rattle.certificate_io.specs.declared.values.Variables.{Variables}

abbrev pub dp_over : Space PrimeField Dp → SpaceOver ℕ
dp_over s = over field_of (λ (o : Dp). dp_order o.weights.items) s

abbrev pub block_over : Space PrimeField BlockOrder → SpaceOver ℕ
block_over s = over field_of (λ (o : BlockOrder). block_order o.vars o.weights.items) s

abbrev pub HasSmallTerms : List (Term ℕ (List ℕ)) → Type 0
HasSmallTerms f = All (λ e. total e.0.1 ≤ 4096) (entries (λ m. m) f)

abbrev pub ArePolynomials : SpaceOver ℕ → Names → List (List TermTree) → List (List (Term ℕ (List ℕ))) → Type 0
ArePolynomials S names xs fs = AreReadBy (IsPolynomialIn S names) (poly_tree S names) (λ x. x) xs fs

abbrev pub ArePowers : SpaceOver ℕ → Names → List PowerTree → List (Power ℕ) → Type 0
ArePowers S names xs ps = AreReadBy (IsPowerIn S names) (power_parts S names) power_said xs ps

abbrev pub AnswersPolynomials : SpaceOver ℕ → Names → ℕ → List (List TermTree) → Result (Vec (List (Term ℕ (List ℕ)))) CertFault → Type 0
AnswersPolynomials S names i xs r = Answers r (run_fault (λ _ ts. poly_kind S names ts) i 0 xs) (λ v. ArePolynomials S names xs v.items)

abbrev pub AnswersPowers : SpaceOver ℕ → Names → ℕ → List PowerTree → Result (Vec (Power ℕ)) CertFault → Type 0
AnswersPowers S names i xs r = Answers r (run_fault (power_kind S names) i 0 xs) (λ v. ArePowers S names xs v.items)

module _ (t : TextParts) where
  abbrev pub marked_names_of : Names
  marked_names_of = marked_names t.names (length t.primaries)

  abbrev pub word_names_of : Names
  word_names_of = word_names (length t.primaries) (length t.irreducibles)

  abbrev pub ArePlain : Variables Dp → Type 0
  ArePlain v = (dp_over v.space ≡ plain_of t) × (v.names ≡ plain_names t.names)

  abbrev pub AreMarked : Variables BlockOrder → Type 0
  AreMarked v = (block_over v.space ≡ marked_of t) × (v.names ≡ marked_names_of)

pub record IsReady (h : Heading) : Type 0 where
  pub few : length h.names.items ≤ 8
  pub distinct : AllPairs (λ v w. v ≢ w) h.names.items

pub record IsHeading (t : TextParts) (h : Heading) : Type 0 where
  pub field : IsPrimeField t.characteristic (field_of h.field)
  pub characteristic : h.characteristic ≡ t.characteristic
  pub names : h.names.items ≡ t.names
  pub matrices : AreReadBy (λ (m : Matrix ℕ). IsSquare t.characteristic (length t.names) (matrix_of m)) (λ m. matrix_cells t.characteristic (matrix_of m)) (λ x. x) t.matrices h.matrices.items
  pub order : h.order ≡ t.order

pub record IsModule (t : TextParts) (m : Module) : Type 0 where
  pub primaries : ArePolynomials (plain_of t) (plain_names t.names) t.primaries m.primaries.items
  pub degrees : m.degrees.items ≡ degrees_of t t.primaries
  pub lifts : ArePolynomials (marked_of t) (marked_names_of t) t.lifts m.lifts.items
  pub powers : ArePowers (marked_of t) (marked_names_of t) t.powers m.powers.items
  pub rank : m.rank ≡ t.rank

module _ (t : TextParts) where
  abbrev pub IsEvidence : EvidenceTree → EvidenceOf ℕ → Type 0
  IsEvidence (Images xs) (Averages ys) =
      let names = plain_names t.names in
      AreReadBy (IsImageIn (plain_of t) (combined_of t) names) (image_tree (combined_of t) names) (λ x. x) xs ys
  IsEvidence (Images xs) (Members ys) = ⊥
  IsEvidence (Kernel xs) (Averages ys) = ⊥
  IsEvidence (Kernel xs) (Members ys) =
      let names = marked_names_of t in
      AreReadBy (IsMemberIn (marked_of t) (combined_of t) names) (member_tree (marked_of t) (combined_of t) names) (λ x. x) xs ys

  pub record AreGenerators (g : Generators) : Type 0 where
    pub secondaries : ArePolynomials (plain_of t) (plain_names t.names) t.secondaries g.secondaries.items
    pub evidence : IsEvidence t.evidence (evidence_of g.evidence)
    pub irreducibles : ArePolynomials (plain_of t) (plain_names t.names) t.irreducibles g.irreducibles.items
    pub words : ArePolynomials (worded_of t) (word_names_of t) t.words g.words.items
