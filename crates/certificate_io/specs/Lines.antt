-- Lines in parts: the first word, and what follows it.
--
--   bytes_at o             the bytes that are referred to, where there are some
--   after stop o           what follows a part that ends at the byte stop: nothing, or that byte and the rest
--   IsSplit stop text w o  the text is w, in which the byte stop does not stand, and what follows it
--   IsFound P o            what is found is one of P; where nothing is found, there is none
--   IsNumber m n bytes     the bytes are the number n, from 1 to m
--   IsCellText c bytes     the bytes are the entry c of a matrix
--   joined ws              the words with a space between them
--   AreWords P bytes       the bytes are some words with a space between them, each of P
--   head k                 the first word of a line of the kind k
--   named w                the kind of the lines with the first word w; of both kinds of evidence it is the first
--   is_kernel o            what follows is the word `kernel`
--   kind_in w o            the kind of the lines with the first word w, after which this stands
--   words l                the words of a line after the first; polynomials have no space
--   IsPairText P Q bytes   the bytes are one of P and one of Q, with a space between them
--   IsRaisedText bytes     the bytes are an exponent and a polynomial
--   HasWords k bytes       the bytes may follow the first word of a line of the kind k and its space
--   tail_bytes o           what follows, nothing where nothing does
--   HasTail k o            what may follow the first word of a line of the kind k
--   shown l                the kind of a line, and what follows the first word and its space
--   line_of t              the same of a line of the program
--   IsLineAfter before l text    the text is that of the line l, which may stand after one of the kind before
--   IsToldLine before text o     the line of the text is told, where it may stand there; else nothing
use Rattle.std.specs.Prelude.{◌≡◌, ℕ, ◌≢◌, Bool, false, ◌&&◌, List, [], ◌∷◌, ◌++◌, map, All, Option, Some, None, IsTrue, codes, decimal, if◌then◌else◌}
use Rattle.std.specs.Borrow.{Bor}
use Rattle.std.specs.List.{Contains}
use Rattle.std.specs.Option.{option_map}
use Rattle.std.specs.Str.{bytes_eq}
use Rattle.alg_core.specs.Names.{is_name}
use Rattle.poly_text.specs.Syntax.{HasPolynomialText, HasMonomialText, product_text}
use Rattle.poly_text.specs.Syntax as polynomials
use Rattle.certificate_io.specs.Syntax.{LineTree, VersionLine, FieldLine, NamesLine, MatrixLine, OrderLine, PrimaryLine, LiftLine, PowerLine, RankLine, SecondaryLine, ReynoldsLine, KernelLine, ImageLine, MovedLine, FixedLine, IrreducibleLine, WordLine, EndLine, IsCell, IsBetween, IsLine, cell_text, kind_of, line_text, successors}
use Rattle.certificate_io.specs.Texts.{spaced}
use Rattle.certificate_io.specs.declared.line_kind.LineKind.{LineKind}
use Rattle.certificate_io.specs.declared.line_kind.LineKind.TheVariants as kinds
use Rattle.certificate_io.specs.declared.line_text.LineText.{LineText}
use Rattle.certificate_io.specs.declared.words.Cell.{Cell}

abbrev pub bytes_at : Option (Bor (List ℕ)) → Option (List ℕ)
bytes_at o = option_map (λ (w : Bor (List ℕ)). w.now) o

abbrev pub after : ℕ → Option (List ℕ) → List ℕ
after stop None = []
after stop (Some rest) = stop ∷ rest

pub record IsSplit (stop : ℕ) (text w : List ℕ) (o : Option (List ℕ)) : Type 0 where
  pub free : All (λ b. b ≢ stop) w
  pub whole : text ≡ w ++ after stop o

abbrev pub IsFound : {A : Type 0} → (A → Type 0) → Option A → Type 0
IsFound P None = (x : _) → ¬ P x
IsFound P (Some x) = P x

abbrev pub IsNumber : ℕ → ℕ → List ℕ → Type 0
IsNumber m n bytes = IsBetween m n × (decimal n ≡ bytes)

abbrev pub IsCellText : Cell → List ℕ → Type 0
IsCellText c bytes = IsCell c × (cell_text c ≡ bytes)

abbrev pub joined : List (List ℕ) → List ℕ
joined [] = []
joined (w ∷ ws) = w ++ spaced ws

pub record AreWords (P : List ℕ → Type 0) (bytes : List ℕ) : Type 0 where
  pub first : List ℕ
  pub others : List (List ℕ)
  pub words : All P (first ∷ others)
  pub joins : joined (first ∷ others) ≡ bytes

abbrev pub head : LineKind → List ℕ
head kinds.Version = codes "invring"
head kinds.Field = codes "field"
head kinds.Names = codes "vars"
head kinds.Matrix = codes "matrix"
head kinds.Order = codes "order"
head kinds.Primary = codes "primary"
head kinds.Lift = codes "lift"
head kinds.Power = codes "power"
head kinds.Rank = codes "rank"
head kinds.Secondary = codes "secondary"
head kinds.Reynolds = codes "evidence"
head kinds.Kernel = codes "evidence"
head kinds.Image = codes "image"
head kinds.Moved = codes "moved"
head kinds.Fixed = codes "fixed"
head kinds.Irreducible = codes "irreducible"
head kinds.Word = codes "word"
head kinds.End = codes "end"

abbrev pub named : List ℕ → Option LineKind
named w =
    if bytes_eq w (codes "primary") then Some kinds.Primary
    else if bytes_eq w (codes "lift") then Some kinds.Lift
    else if bytes_eq w (codes "secondary") then Some kinds.Secondary
    else if bytes_eq w (codes "image") then Some kinds.Image
    else if bytes_eq w (codes "moved") then Some kinds.Moved
    else if bytes_eq w (codes "fixed") then Some kinds.Fixed
    else if bytes_eq w (codes "irreducible") then Some kinds.Irreducible
    else if bytes_eq w (codes "word") then Some kinds.Word
    else if bytes_eq w (codes "matrix") then Some kinds.Matrix
    else if bytes_eq w (codes "power") then Some kinds.Power
    else if bytes_eq w (codes "invring") then Some kinds.Version
    else if bytes_eq w (codes "field") then Some kinds.Field
    else if bytes_eq w (codes "vars") then Some kinds.Names
    else if bytes_eq w (codes "order") then Some kinds.Order
    else if bytes_eq w (codes "rank") then Some kinds.Rank
    else if bytes_eq w (codes "evidence") then Some kinds.Reynolds
    else if bytes_eq w (codes "end") then Some kinds.End
    else None

abbrev pub is_kernel : Option (List ℕ) → Bool
is_kernel None = false
is_kernel (Some w) = bytes_eq w (codes "kernel")

abbrev pub kind_in : List ℕ → Option (List ℕ) → Option LineKind
kind_in w o = if bytes_eq w (codes "evidence") && is_kernel o then Some kinds.Kernel else named w

abbrev pub words : LineTree → List (List ℕ)
words VersionLine = codes "certificate" ∷ codes "1" ∷ []
words (FieldLine p) = decimal p ∷ []
words (NamesLine ns) = ns
words (MatrixLine cs) = map cell_text cs
words (OrderLine n) = decimal n ∷ []
words (PrimaryLine ts) = polynomials.spelling ts ∷ []
words (LiftLine ts) = polynomials.spelling ts ∷ []
words (PowerLine w e ts) = w ∷ decimal e ∷ polynomials.spelling ts ∷ []
words (RankLine n) = decimal n ∷ []
words (SecondaryLine ts) = polynomials.spelling ts ∷ []
words ReynoldsLine = codes "reynolds" ∷ []
words KernelLine = codes "kernel" ∷ []
words (ImageLine fs ts) = product_text 1 fs ∷ polynomials.spelling ts ∷ []
words (MovedLine ts) = polynomials.spelling ts ∷ []
words (FixedLine ts us) = polynomials.spelling ts ∷ polynomials.spelling us ∷ []
words (IrreducibleLine ts) = polynomials.spelling ts ∷ []
words (WordLine ts) = polynomials.spelling ts ∷ []
words EndLine = []

pub record IsPairText (P Q : List ℕ → Type 0) (bytes : List ℕ) : Type 0 where
  pub first : List ℕ
  pub second : List ℕ
  pub is_first : P first
  pub is_second : Q second
  pub joins : first ++ (32 ∷ second) ≡ bytes

abbrev pub IsRaisedText : List ℕ → Type 0
IsRaisedText bytes = IsPairText (λ w. (n : ℕ) × IsNumber 9999 n w) HasPolynomialText bytes

abbrev pub HasWords : LineKind → List ℕ → Type 0
HasWords kinds.Version bytes = bytes ≡ codes "certificate 1"
HasWords kinds.Field bytes = (n : ℕ) × IsNumber 99999 n bytes
HasWords kinds.Names bytes = AreWords (λ w. IsTrue (is_name w)) bytes
HasWords kinds.Matrix bytes = AreWords (λ w. (c : Cell) × IsCellText c w) bytes
HasWords kinds.Order bytes = (n : ℕ) × IsNumber 999999999999999999 n bytes
HasWords kinds.Primary bytes = HasPolynomialText bytes
HasWords kinds.Lift bytes = HasPolynomialText bytes
HasWords kinds.Power bytes = IsPairText (λ w. IsTrue (is_name w)) IsRaisedText bytes
HasWords kinds.Rank bytes = (n : ℕ) × IsNumber 999999999999999999 n bytes
HasWords kinds.Secondary bytes = HasPolynomialText bytes
HasWords kinds.Reynolds bytes = bytes ≡ codes "reynolds"
HasWords kinds.Kernel bytes = bytes ≡ codes "kernel"
HasWords kinds.Image bytes = IsPairText HasMonomialText HasPolynomialText bytes
HasWords kinds.Moved bytes = HasPolynomialText bytes
HasWords kinds.Fixed bytes = IsPairText HasPolynomialText HasPolynomialText bytes
HasWords kinds.Irreducible bytes = HasPolynomialText bytes
HasWords kinds.Word bytes = HasPolynomialText bytes
HasWords kinds.End bytes = ⊥

abbrev pub HasTail : LineKind → Option (List ℕ) → Type 0
HasTail kind None = kind ≡ kinds.End
HasTail kind (Some bytes) = HasWords kind bytes

abbrev pub tail_bytes : Option (List ℕ) → List ℕ
tail_bytes None = []
tail_bytes (Some bytes) = bytes

abbrev pub shown : LineTree → LineKind × List ℕ
shown l = (kind_of l, joined (words l))

abbrev pub line_of : LineText → LineKind × List ℕ
line_of t = (t.kind, t.tail.now)

pub record IsLineAfter (before : Option LineKind) (l : LineTree) (text : List ℕ) : Type 0 where
  pub line : IsLine l
  pub spelled : line_text l ≡ text
  pub follows : Contains (successors before) (kind_of l)

abbrev pub IsToldLine : Option LineKind → List ℕ → Option LineText → Type 0
IsToldLine before text None = (l : LineTree) → ¬ IsLineAfter before l text
IsToldLine before text (Some t) = (l : LineTree) × IsLineAfter before l text × (line_of t ≡ shown l)
