-- The grammar of polynomial texts: syntax trees, and how each is spelled. A text is a spelling of a tree; each tree has one.
--
--   Variable              a name, or a mark with an index
--   Factor                a power of a variable
--   Term                  a sign, the absolute value of a coefficient, and factors
--   mark_byte m           the sign of a list: `@` of the primary invariants, `$` of the irreducible generators, `%` of
--                         the secondary invariants
--   variable_text v       a name, or the sign and the index in decimal
--   factor_text f         the variable, and after `^` the exponent where it is not 1
--   starred fs            each factor after a `*`
--   product_text c fs     the coefficient and the factors with `*` between them; a coefficient 1 only where it is alone
--   signed ts             each term after its sign
--   spelling ts           the terms with a sign before each, but no `+` before the first; `0` where there is none
--   IsShort n             a number from 1 to 99999: at most 5 digits
--   IsVariable, IsFactor, IsTerm   the names are names, and the numbers are short
--   IsText ts bytes       the bytes are the spelling of the tree ts
--   monomial_term fs      the product of the factors, as a term
--   HasPolynomialText bytes   the bytes are the text of a polynomial or a combination, by the grammar
--   IsMonomialText fs bytes, HasMonomialText bytes   the bytes spell the monomial with the factors fs, some monomial
--   IsFront bytes         the bytes begin some text
--   IsFirstFault bytes n  the bytes are no text, and the longest front among their beginnings has the length n
use Rattle.std.specs.Prelude.{◌≡◌, ◌↔◌, ℕ, ◌≤◌, Bool, false, IsTrue, ◌==◌, List, [], ◌∷◌, ◌++◌, length, take, All, decimal, if◌then◌else◌}
use Rattle.alg_core.specs.Names.{is_name}
use Rattle.poly_text.specs.declared.syntax.Mark.{Mark}
use Rattle.poly_text.specs.declared.syntax.Mark.TheVariants as marks

pub data Variable : Type 0 where
  Named : List ℕ → Variable
  Marked : Mark → ℕ → Variable

pub record Factor : Type 0 where
  pub variable : Variable
  pub exponent : ℕ

pub record Term : Type 0 where
  pub is_negative : Bool
  pub coefficient : ℕ
  pub factors : List Factor

abbrev pub mark_byte : Mark → ℕ
mark_byte marks.Primary = 64
mark_byte marks.Irreducible = 36
mark_byte marks.Secondary = 37

abbrev pub variable_text : Variable → List ℕ
variable_text (Named w) = w
variable_text (Marked m j) = mark_byte m ∷ decimal j

abbrev pub factor_text : Factor → List ℕ
factor_text f = variable_text f.variable ++ (if f.exponent == 1 then [] else 94 ∷ decimal f.exponent)

abbrev pub starred : List Factor → List ℕ
starred [] = []
starred (f ∷ fs) = 42 ∷ (factor_text f ++ starred fs)

abbrev pub product_text : ℕ → List Factor → List ℕ
product_text c [] = decimal c
product_text c (f ∷ fs) = (if c == 1 then factor_text f else decimal c ++ (42 ∷ factor_text f)) ++ starred fs

abbrev pub signed : List Term → List ℕ
signed [] = []
signed (t ∷ ts) = (if t.is_negative then 45 else 43) ∷ (product_text t.coefficient t.factors ++ signed ts)

abbrev pub spelling : List Term → List ℕ
spelling [] = 48 ∷ []
spelling (t ∷ ts) = (if t.is_negative then 45 ∷ [] else []) ++ (product_text t.coefficient t.factors ++ signed ts)

-- 1 to 5 digits, not 0
abbrev pub IsShort : ℕ → Type 0
IsShort n = (1 ≤ n) × (n ≤ 99999)

abbrev pub IsVariable : Variable → Type 0
IsVariable (Named w) = IsTrue (is_name w)
IsVariable (Marked m j) = IsShort j

pub record IsFactor (f : Factor) : Type 0 where
  pub variable : IsVariable f.variable
  pub exponent : IsShort f.exponent

pub record IsTerm (t : Term) : Type 0 where
  pub coefficient : IsShort t.coefficient
  pub factors : All IsFactor t.factors

-- a text and its tree
pub record IsText (ts : List Term) (bytes : List ℕ) : Type 0 where
  pub terms : All IsTerm ts
  pub spelled : spelling ts ≡ bytes

abbrev pub HasPolynomialText : List ℕ → Type 0
HasPolynomialText bytes = (ts : List Term) × IsText ts bytes

abbrev pub monomial_term : List Factor → Term
monomial_term fs = record { is_negative = false; coefficient = 1; factors = fs }

abbrev pub IsMonomialText : List Factor → List ℕ → Type 0
IsMonomialText fs bytes = IsText (monomial_term fs ∷ []) bytes

abbrev pub HasMonomialText : List ℕ → Type 0
HasMonomialText bytes = (fs : List Factor) × IsMonomialText fs bytes

-- some text begins so
abbrev pub IsFront : List ℕ → Type 0
IsFront bytes = (rest : List ℕ) × (ts : List Term) × IsText ts (bytes ++ rest)

-- no text; n bytes are the longest beginning of it that is a beginning of some text
pub record IsFirstFault (bytes : List ℕ) (n : ℕ) : Type 0 where
  pub none : (ts : List Term) → ¬ IsText ts bytes
  pub within : n ≤ length bytes
  pub longest : (i : ℕ) → i ≤ length bytes → IsFront (take i bytes) ↔ (i ≤ n)
