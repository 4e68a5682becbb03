-- The sections of a text.
--
--   section_kind k         the kind of the section of a line of the kind k: the lines of the kernel's members are one
--   IsIn k l               the line is in a section of the kind k
--   Stops k ls             the first of the lines, where there is one, is in no section of the kind k
--   StopsLines k ls        the same of lines with their parts
--   IsSection i ls s       the section begins with the line i, and has the lines ls
--   HasRoom s              the numbers of its lines can be counted
--   HasModuleRoom, HasGeneratorRoom s   so can those of these sections
--   module_trees, generator_trees t    the lines after that of the order, after that of the rank
--   IsRun text i xs s      the section begins with the line i, and text says of the parts xs what follows the first words of its lines
--   IsEvidenceRun i e by_kernel s   the section has the lines of the evidence e, which is by the kernel or not, from the line i on
--   AreHeadingLines, AreModuleLines, AreGeneratorLines t s    the sections are those of the parts of the text
use Rattle.std.specs.Prelude.{◌≡◌, ◌≢◌, ◌<◌, ℕ, ◌+◌, ◌^◌, Bool, true, false, List, [], ◌∷◌, ◌++◌, length, map, decimal}
use Rattle.poly_text.specs.Syntax.{spelling}
use Rattle.certificate_io.specs.Lines.{joined, line_of, shown}
use Rattle.certificate_io.specs.PartFaults.{heading_end, module_end, evidence_begin, evidence_end, words_begin, text_end}
use Rattle.certificate_io.specs.Parts.{TextParts, EvidenceTree, Images, Kernel, evidence_lines}
use Rattle.certificate_io.specs.Parts as parts
use Rattle.certificate_io.specs.Readings.{image_text, matrix_text, member_text, power_text, tails}
use Rattle.certificate_io.specs.Syntax.{LineTree, PrimaryLine, LiftLine, RankLine, SecondaryLine, IrreducibleLine, WordLine, EndLine, kind_of}
use Rattle.certificate_io.specs.declared.line_kind.LineKind.{LineKind}
use Rattle.certificate_io.specs.declared.line_kind.LineKind.TheVariants as kinds
use Rattle.certificate_io.specs.declared.line_text.LineText.{LineText}
use Rattle.certificate_io.specs.declared.sections.GeneratorLines.{GeneratorLines}
use Rattle.certificate_io.specs.declared.sections.HeadingLines.{HeadingLines}
use Rattle.certificate_io.specs.declared.sections.ModuleLines.{ModuleLines}
use Rattle.certificate_io.specs.declared.sections.Section.{Section}

abbrev pub section_kind : LineKind → LineKind
section_kind kinds.Moved = kinds.Fixed
section_kind kinds.Version = kinds.Version
section_kind kinds.Field = kinds.Field
section_kind kinds.Names = kinds.Names
section_kind kinds.Matrix = kinds.Matrix
section_kind kinds.Order = kinds.Order
section_kind kinds.Primary = kinds.Primary
section_kind kinds.Lift = kinds.Lift
section_kind kinds.Power = kinds.Power
section_kind kinds.Rank = kinds.Rank
section_kind kinds.Secondary = kinds.Secondary
section_kind kinds.Reynolds = kinds.Reynolds
section_kind kinds.Kernel = kinds.Kernel
section_kind kinds.Image = kinds.Image
section_kind kinds.Fixed = kinds.Fixed
section_kind kinds.Irreducible = kinds.Irreducible
section_kind kinds.Word = kinds.Word
section_kind kinds.End = kinds.End

abbrev pub IsIn : LineKind → LineText → Type 0
IsIn k l = section_kind l.kind ≡ k

abbrev pub Stops : LineKind → List LineText → Type 0
Stops k [] = Unit {0}
Stops k (l ∷ ls) = section_kind l.kind ≢ k

abbrev pub StopsLines : LineKind → List LineTree → Type 0
StopsLines k [] = Unit {0}
StopsLines k (l ∷ ls) = section_kind (kind_of l) ≢ k

abbrev pub IsSection : ℕ → List LineTree → Section → Type 0
IsSection i ls s = (s.first ≡ i) × (map line_of s.lines.now ≡ map shown ls)

abbrev pub HasRoom : Section → Type 0
HasRoom s = s.first + length s.lines.now < 2 ^ 64

pub record HasModuleRoom (s : ModuleLines) : Type 0 where
  pub primaries : HasRoom s.primaries
  pub lifts : HasRoom s.lifts
  pub powers : HasRoom s.powers

pub record HasGeneratorRoom (s : GeneratorLines) : Type 0 where
  pub secondaries : HasRoom s.secondaries
  pub evidence : HasRoom s.evidence
  pub irreducibles : HasRoom s.irreducibles
  pub words : HasRoom s.words

abbrev pub generator_trees : TextParts → List LineTree
generator_trees t =
    map SecondaryLine t.secondaries ++ (evidence_lines t.evidence ++ (map IrreducibleLine t.irreducibles ++ (map WordLine t.words ++ (EndLine ∷ []))))

abbrev pub module_trees : TextParts → List LineTree
module_trees t =
    map PrimaryLine t.primaries ++ (map LiftLine t.lifts ++ (map parts.power_line t.powers ++ (RankLine t.rank ∷ generator_trees t)))

pub record IsRun {T : Type 0} (text : T → List ℕ) (i : ℕ) (xs : List T) (s : Section) : Type 0 where
  pub number : s.first ≡ i
  pub tails : tails s.lines.now ≡ map text xs

pub record AreHeadingLines (t : TextParts) (s : HeadingLines) : Type 0 where
  pub field : s.field.now ≡ decimal t.characteristic
  pub names : s.names.now ≡ joined t.names
  pub matrices : IsRun matrix_text 4 t.matrices s.matrices
  pub order : s.order.now ≡ decimal t.order

pub record AreModuleLines (t : TextParts) (s : ModuleLines) : Type 0 where
  pub primaries : IsRun spelling (heading_end t + 1) t.primaries s.primaries
  pub lifts : IsRun spelling (heading_end t + length t.primaries + 1) t.lifts s.lifts
  pub powers : IsRun power_text (heading_end t + length t.primaries + length t.lifts + 1) t.powers s.powers
  pub rank : s.rank.now ≡ decimal t.rank
  pub rank_line : s.rank_line ≡ module_end t

abbrev pub IsEvidenceRun : ℕ → EvidenceTree → Bool → Section → Type 0
IsEvidenceRun i (Images xs) by_kernel s = (by_kernel ≡ false) × IsRun image_text i xs s
IsEvidenceRun i (Kernel xs) by_kernel s = (by_kernel ≡ true) × IsRun member_text i xs s

pub record AreGeneratorLines (t : TextParts) (s : GeneratorLines) : Type 0 where
  pub secondaries : IsRun spelling (module_end t + 1) t.secondaries s.secondaries
  pub evidence : IsEvidenceRun (evidence_begin t + 1) t.evidence s.by_kernel s.evidence
  pub irreducibles : IsRun spelling (evidence_end t + 1) t.irreducibles s.irreducibles
  pub words : IsRun spelling (words_begin t + 1) t.words s.words
  pub end_line : s.end_line ≡ text_end t
