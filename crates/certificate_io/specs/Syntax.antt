-- The grammar of certificates: lines with their parts, and which line may stand after which. A text is a spelling of a list of lines;
-- each text has one. Polynomials and combinations are the trees of polynomial texts.
--
--   LineTree               a line with its parts
--   cell_text c            the number, after `-` where it is negative
--   word_line w ts         the word w and a polynomial
--   line_text l            the bytes of a line, without the newline
--   spelling ls            the lines, each ended by a newline
--   IsBetween m n          n is a number from 1 to m
--   IsSome xs              there is one at least
--   IsCell c               the number has at most 5 digits; 0 has no sign
--   IsPolynomial ts        each term is one of the grammar of polynomial texts
--   IsLine l               so is each part of the line; numbers have at most their digits, names are names
--   kind_of l              what kind of line it is
--   successors_of k, successors before   the kinds of lines that may stand after this one; None is the beginning of a text
--   AreInOrder before ks   lines of the kinds ks may stand in this order after this one
--   last_kind before ks    the kind of the last
--   IsShaped ls            the lines stand in an order of the grammar, and the last is the end
--   IsText ls bytes        the bytes spell the lines ls of a text
--   BeginsWith n bytes     the bytes begin with the first n lines of some text
--   IsFirstFault bytes i   the bytes are no text, and i is the number of lines more than the most with which they so begin
use Rattle.std.specs.Prelude.{◌≡◌, ℕ, ◌+◌, ◌≤◌, true, IsTrue, List, [], ◌∷◌, ◌++◌, length, map, take, All, Option, Some, None, codes, decimal, if◌then◌else◌}
use Rattle.std.specs.List.{Contains}
use Rattle.alg_core.specs.Names.{is_name}
use Rattle.poly_text.specs.Syntax.{Factor, Term, IsFactor, IsTerm, product_text}
use Rattle.poly_text.specs.Syntax as polynomials
use Rattle.certificate_io.specs.Texts.{spaced, ended, number_line, names_line}
use Rattle.certificate_io.specs.declared.line_kind.LineKind.{LineKind}
use Rattle.certificate_io.specs.declared.line_kind.LineKind.TheVariants as kinds
use Rattle.certificate_io.specs.declared.words.Cell.{Cell}

pub data LineTree : Type 0 where
  VersionLine : LineTree
  FieldLine : ℕ → LineTree
  NamesLine : List (List ℕ) → LineTree
  MatrixLine : List Cell → LineTree
  OrderLine : ℕ → LineTree
  PrimaryLine : List Term → LineTree
  LiftLine : List Term → LineTree
  PowerLine : List ℕ → ℕ → List Term → LineTree
  RankLine : ℕ → LineTree
  SecondaryLine : List Term → LineTree
  ReynoldsLine : LineTree
  KernelLine : LineTree
  ImageLine : List Factor → List Term → LineTree
  MovedLine : List Term → LineTree
  FixedLine : List Term → List Term → LineTree
  IrreducibleLine : List Term → LineTree
  WordLine : List Term → LineTree
  EndLine : LineTree

abbrev pub cell_text : Cell → List ℕ
cell_text c = (if c.is_negative then 45 ∷ [] else []) ++ decimal c.size

abbrev pub word_line : List ℕ → List Term → List ℕ
word_line w ts = w ++ spaced (polynomials.spelling ts ∷ [])

unfoldable pub line_text : LineTree → List ℕ
line_text VersionLine = codes "invring certificate 1"
line_text (FieldLine p) = number_line (codes "field") p
line_text (NamesLine ns) = names_line ns
line_text (MatrixLine cs) = codes "matrix" ++ spaced (map cell_text cs)
line_text (OrderLine n) = number_line (codes "order") n
line_text (PrimaryLine ts) = word_line (codes "primary") ts
line_text (LiftLine ts) = word_line (codes "lift") ts
line_text (PowerLine w e ts) = codes "power" ++ spaced (w ∷ decimal e ∷ polynomials.spelling ts ∷ [])
line_text (RankLine n) = number_line (codes "rank") n
line_text (SecondaryLine ts) = word_line (codes "secondary") ts
line_text ReynoldsLine = codes "evidence reynolds"
line_text KernelLine = codes "evidence kernel"
line_text (ImageLine fs ts) = codes "image" ++ spaced (product_text 1 fs ∷ polynomials.spelling ts ∷ [])
line_text (MovedLine ts) = word_line (codes "moved") ts
line_text (FixedLine ts us) = codes "fixed" ++ spaced (polynomials.spelling ts ∷ polynomials.spelling us ∷ [])
line_text (IrreducibleLine ts) = word_line (codes "irreducible") ts
line_text (WordLine ts) = word_line (codes "word") ts
line_text EndLine = codes "end"

abbrev pub spelling : List LineTree → List ℕ
spelling ls = ended (map line_text ls)

abbrev pub IsBetween : ℕ → ℕ → Type 0
IsBetween m n = (1 ≤ n) × (n ≤ m)

abbrev pub IsSome : {A : Type 0} → List A → Type 0
IsSome xs = 1 ≤ length xs

pub record IsCell (c : Cell) : Type 0 where
  pub size : c.size ≤ 99999
  pub sign : c.is_negative ≡ true → 1 ≤ c.size

abbrev pub IsPolynomial : List Term → Type 0
IsPolynomial ts = All IsTerm ts

abbrev pub IsLine : LineTree → Type 0
IsLine VersionLine = Unit {0}
IsLine (FieldLine p) = IsBetween 99999 p
IsLine (NamesLine ns) = IsSome ns × All (λ w. IsTrue (is_name w)) ns
IsLine (MatrixLine cs) = IsSome cs × All IsCell cs
IsLine (OrderLine n) = IsBetween 999999999999999999 n
IsLine (PrimaryLine ts) = IsPolynomial ts
IsLine (LiftLine ts) = IsPolynomial ts
IsLine (PowerLine w e ts) = IsTrue (is_name w) × IsBetween 9999 e × IsPolynomial ts
IsLine (RankLine n) = IsBetween 999999999999999999 n
IsLine (SecondaryLine ts) = IsPolynomial ts
IsLine ReynoldsLine = Unit {0}
IsLine KernelLine = Unit {0}
IsLine (ImageLine fs ts) = All IsFactor fs × IsPolynomial ts
IsLine (MovedLine ts) = IsPolynomial ts
IsLine (FixedLine ts us) = IsPolynomial ts × IsPolynomial us
IsLine (IrreducibleLine ts) = IsPolynomial ts
IsLine (WordLine ts) = IsPolynomial ts
IsLine EndLine = Unit {0}

abbrev pub kind_of : LineTree → LineKind
kind_of VersionLine = kinds.Version
kind_of (FieldLine p) = kinds.Field
kind_of (NamesLine ns) = kinds.Names
kind_of (MatrixLine cs) = kinds.Matrix
kind_of (OrderLine n) = kinds.Order
kind_of (PrimaryLine ts) = kinds.Primary
kind_of (LiftLine ts) = kinds.Lift
kind_of (PowerLine w e ts) = kinds.Power
kind_of (RankLine n) = kinds.Rank
kind_of (SecondaryLine ts) = kinds.Secondary
kind_of ReynoldsLine = kinds.Reynolds
kind_of KernelLine = kinds.Kernel
kind_of (ImageLine fs ts) = kinds.Image
kind_of (MovedLine ts) = kinds.Moved
kind_of (FixedLine ts us) = kinds.Fixed
kind_of (IrreducibleLine ts) = kinds.Irreducible
kind_of (WordLine ts) = kinds.Word
kind_of EndLine = kinds.End

abbrev pub successors_of : LineKind → List LineKind
successors_of kinds.Version = kinds.Field ∷ []
successors_of kinds.Field = kinds.Names ∷ []
successors_of kinds.Names = kinds.Matrix ∷ []
successors_of kinds.Matrix = kinds.Matrix ∷ kinds.Order ∷ []
successors_of kinds.Order = kinds.Primary ∷ []
successors_of kinds.Primary = kinds.Primary ∷ kinds.Lift ∷ []
successors_of kinds.Lift = kinds.Lift ∷ kinds.Power ∷ []
successors_of kinds.Power = kinds.Power ∷ kinds.Rank ∷ []
successors_of kinds.Rank = kinds.Secondary ∷ []
successors_of kinds.Secondary = kinds.Secondary ∷ kinds.Reynolds ∷ kinds.Kernel ∷ []
successors_of kinds.Reynolds = kinds.Image ∷ []
successors_of kinds.Kernel = kinds.Moved ∷ kinds.Fixed ∷ []
successors_of kinds.Image = kinds.Image ∷ kinds.Irreducible ∷ kinds.Word ∷ []
successors_of kinds.Moved = kinds.Moved ∷ kinds.Fixed ∷ kinds.Irreducible ∷ kinds.Word ∷ []
successors_of kinds.Fixed = kinds.Moved ∷ kinds.Fixed ∷ kinds.Irreducible ∷ kinds.Word ∷ []
successors_of kinds.Irreducible = kinds.Irreducible ∷ kinds.Word ∷ []
successors_of kinds.Word = kinds.Word ∷ kinds.End ∷ []
successors_of kinds.End = []

abbrev pub successors : Option LineKind → List LineKind
successors None = kinds.Version ∷ []
successors (Some kind) = successors_of kind

abbrev pub AreInOrder : Option LineKind → List LineKind → Type 0
AreInOrder before [] = Unit {0}
AreInOrder before (k ∷ ks) = Contains (successors before) k × AreInOrder (Some k) ks

abbrev pub last_kind : Option LineKind → List LineKind → Option LineKind
last_kind before [] = before
last_kind before (k ∷ ks) = last_kind (Some k) ks

pub record IsShaped (ls : List LineTree) : Type 0 where
  pub lines : All IsLine ls
  pub order : AreInOrder None (map kind_of ls)
  pub last : last_kind None (map kind_of ls) ≡ Some kinds.End

pub record IsText (ls : List LineTree) (bytes : List ℕ) : Type 0 where
  pub shape : IsShaped ls
  pub spelled : spelling ls ≡ bytes

pub record BeginsWith (n : ℕ) (bytes : List ℕ) : Type 0 where
  pub lines : List LineTree
  pub rest : List ℕ
  pub shape : IsShaped lines
  pub within : n ≤ length lines
  pub begins : bytes ≡ spelling (take n lines) ++ rest

-- the line after the most lines with which some text begins
pub record IsFirstFault (bytes : List ℕ) (i : ℕ) : Type 0 where
  pub none : (ls : List LineTree) → ¬ IsText ls bytes
  pub right : ℕ
  pub line : i ≡ right + 1
  pub begins : BeginsWith right bytes
  pub most : (n : ℕ) → BeginsWith n bytes → n ≤ right
