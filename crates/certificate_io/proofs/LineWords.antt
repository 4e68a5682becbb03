-- No space and no newline stands in the words of a line.
use Rattle.std.proofs.Common.{◌≡◌, ◌≢◌, ◌∙◌, ℕ, ◌<◌, ◌^◌, Bool, true, false, List, [], ◌∷◌, ◌++◌, refl, sym, ap, subst, arith}
use Rattle.std.specs.Prelude.{All, IsTrue, codes, decimal, not, ◌==◌, if◌then◌else◌}
use Rattle.std.specs.List.{list_all}
use Rattle.std.specs.Str.{all_ascii_digits}
use Rattle.std.specs.Str.Parse.{digits_value}
use Rattle.std.proofs.lemmas.Bool.Decides.{nat_tests}
use Rattle.std.proofs.lemmas.Fmt.{digits_decimal}
use Rattle.std.proofs.lemmas.List.{append-nil}
use Rattle.std.proofs.lemmas.List.Elements.{All-nil, All-cons, All-head, All-tail, All-append, All-from_get_or, All-map, All-weaker}
use Rattle.std.proofs.lemmas.Str.Parse.{IsNumeralModel, numerals_by_value, tells_all_ascii_digits, not_in_digits}
use Rattle.alg_core.specs.Names.{is_name}
use Rattle.poly_text.specs.Syntax.{Named, Factor, Term, IsFactor, IsTerm, IsText, HasPolynomialText, HasMonomialText, monomial_term, product_text}
use Rattle.poly_text.specs.Syntax as polynomials
use Rattle.poly_text.proofs.TextBytes.{text_unspaced, text_unbroken}
use Rattle.certificate_io.specs.Lines.{head, words}
use Rattle.certificate_io.specs.Syntax.{LineTree, VersionLine, FieldLine, NamesLine, MatrixLine, OrderLine, PrimaryLine, LiftLine, PowerLine, RankLine, SecondaryLine, ReynoldsLine, KernelLine, ImageLine, MovedLine, FixedLine, IrreducibleLine, WordLine, EndLine, IsCell, IsBetween, IsLine, IsPolynomial, cell_text, kind_of, line_text}
use Rattle.certificate_io.specs.Texts.{spaced}
use Rattle.certificate_io.specs.declared.line_kind.LineKind.{LineKind}
use Rattle.certificate_io.specs.declared.line_kind.LineKind.TheVariants as kinds
use Rattle.certificate_io.specs.declared.words.Cell.{Cell}
use Rattle.certificate_io.proofs.Splits.{Free}

-- neither the space nor the newline
pub record IsPlain (w : List ℕ) : Type 0 where
  pub unspaced : Free 32 w
  pub unbroken : Free 10 w

free_test : (stop : ℕ) (w : List ℕ) → list_all (λ b. not (b == stop)) w ≡ true → Free stop w
free_test stop [] e = All-nil (λ b. b ≢ stop)
free_test stop (b ∷ w) e =
    let first : b ≢ stop = grind (arith, nat_tests) in
    let rest : list_all (λ c. not (c == stop)) w ≡ true = grind (arith, nat_tests) in
    All-cons (λ c. c ≢ stop) b w first (free_test stop w rest)

plain_test : (w : List ℕ) → list_all (λ b. not (b == 32)) w ≡ true → list_all (λ b. not (b == 10)) w ≡ true → IsPlain w
plain_test w e f = record { unspaced = free_test 32 w e; unbroken = free_test 10 w f }

pub digits_model : IsNumeralModel (λ ds. all_ascii_digits ds ≡ true) (digits_value 10)
digits_model = numerals_by_value (λ ds. all_ascii_digits ds ≡ true) tells_all_ascii_digits

pub decimal_free : (stop : ℕ) → stop < 48 → (n : ℕ) → n < 2 ^ 64 → Free stop (decimal n)
decimal_free stop low n small =
    let digits = digits_decimal digits_model n small in
    All-from_get_or (λ b. b ≢ stop) (decimal n) 0 (λ i inside. not_in_digits digits_model (decimal n) stop digits (λ r. omega (arith, r)) i inside)

pub decimal_plain : (n : ℕ) → n < 2 ^ 64 → IsPlain (decimal n)
decimal_plain n small = record { unspaced = decimal_free 32 (omega arith) n small; unbroken = decimal_free 10 (omega arith) n small }

text_plain : (bytes : List ℕ) (ts : List Term) → IsText ts bytes → IsPlain bytes
text_plain bytes ts is = record { unspaced = text_unspaced bytes ts is; unbroken = text_unbroken bytes ts is }

pub polynomial_plain : (bytes : List ℕ) → HasPolynomialText bytes → IsPlain bytes
polynomial_plain bytes has = text_plain bytes has.0 has.1

pub monomial_plain : (bytes : List ℕ) → HasMonomialText bytes → IsPlain bytes
monomial_plain bytes has = text_plain bytes (monomial_term has.0 ∷ []) has.1

-- a name is the text of a polynomial
pub name_plain : (w : List ℕ) → IsTrue (is_name w) → IsPlain w
name_plain w is =
    let f : Factor = record { variable = Named w; exponent = 1 } in
    let factor : IsFactor f = record { variable = is; exponent = (omega arith, omega arith) } in
    let factors : All IsFactor (f ∷ []) = All-cons IsFactor f [] factor (All-nil IsFactor) in
    let term : IsTerm (monomial_term (f ∷ [])) = record { coefficient = (omega arith, omega arith); factors = factors } in
    let spelled : polynomials.spelling (monomial_term (f ∷ []) ∷ []) ≡ w = append-nil ((w ++ []) ++ []) ∙ append-nil (w ++ []) ∙ append-nil w in
    text_plain w (monomial_term (f ∷ []) ∷ []) (record { terms = All-cons IsTerm (monomial_term (f ∷ [])) [] term (All-nil IsTerm); spelled = spelled })

plain_append : (v w : List ℕ) → IsPlain v → IsPlain w → IsPlain (v ++ w)
plain_append v w a b = record { unspaced = All-append (λ x. x ≢ 32) v w a.unspaced b.unspaced; unbroken = All-append (λ x. x ≢ 10) v w a.unbroken b.unbroken }

sign_plain : (b : Bool) → IsPlain (if b then 45 ∷ [] else [])
sign_plain true = plain_test (45 ∷ []) refl refl
sign_plain false = plain_test [] refl refl

pub cell_plain : (c : Cell) → IsCell c → IsPlain (cell_text c)
cell_plain c is = plain_append (if c.is_negative then 45 ∷ [] else []) (decimal c.size) (sign_plain c.is_negative) (decimal_plain c.size (omega (arith, is.size)))

-- the text of a tree, and of factors
pub tree_text : (ts : List Term) → IsPolynomial ts → HasPolynomialText (polynomials.spelling ts)
tree_text ts is = (ts, record { terms = is; spelled = refl })

pub factors_text : (fs : List Factor) → All IsFactor fs → HasMonomialText (product_text 1 fs)
factors_text fs is = (
  fs,
  record {
    terms = All-cons IsTerm (monomial_term fs) [] (record { coefficient = (omega arith, omega arith); factors = is }) (All-nil IsTerm);
    spelled = append-nil (product_text 1 fs);
  },
)

spelled_plain : (ts : List Term) → IsPolynomial ts → IsPlain (polynomials.spelling ts)
spelled_plain ts is = polynomial_plain (polynomials.spelling ts) (tree_text ts is)

one_plain : (w : List ℕ) → IsPlain w → All IsPlain (w ∷ [])
one_plain w p = All-cons IsPlain w [] p (All-nil IsPlain)

small_plain : (m n : ℕ) → m < 2 ^ 64 → IsBetween m n → All IsPlain (decimal n ∷ [])
small_plain m n small between = one_plain (decimal n) (decimal_plain n (omega (arith, between.1)))

pub words_plain : (l : LineTree) → IsLine l → All IsPlain (words l)
words_plain VersionLine is = All-cons IsPlain (codes "certificate") (codes "1" ∷ []) (plain_test (codes "certificate") refl refl) (one_plain (codes "1") (plain_test (codes "1") refl refl))
words_plain (FieldLine p) is = small_plain 99999 p (omega arith) is
words_plain (NamesLine ns) is = All-weaker (λ w. IsTrue (is_name w)) IsPlain name_plain ns is.1
words_plain (MatrixLine cs) is = All-map IsPlain cell_text cs (All-weaker IsCell (λ c. IsPlain (cell_text c)) cell_plain cs is.1)
words_plain (OrderLine n) is = small_plain 999999999999999999 n (omega arith) is
words_plain (PrimaryLine ts) is = one_plain (polynomials.spelling ts) (spelled_plain ts is)
words_plain (LiftLine ts) is = one_plain (polynomials.spelling ts) (spelled_plain ts is)
words_plain (PowerLine w e ts) is =
    All-cons IsPlain w (decimal e ∷ polynomials.spelling ts ∷ []) (name_plain w is.0)
    (All-cons IsPlain (decimal e) (polynomials.spelling ts ∷ []) (decimal_plain e (omega (arith, is.1.1))) (one_plain (polynomials.spelling ts) (spelled_plain ts is.2)))
words_plain (RankLine n) is = small_plain 999999999999999999 n (omega arith) is
words_plain (SecondaryLine ts) is = one_plain (polynomials.spelling ts) (spelled_plain ts is)
words_plain ReynoldsLine is = one_plain (codes "reynolds") (plain_test (codes "reynolds") refl refl)
words_plain KernelLine is = one_plain (codes "kernel") (plain_test (codes "kernel") refl refl)
words_plain (ImageLine fs ts) is =
    All-cons IsPlain (product_text 1 fs) (polynomials.spelling ts ∷ []) (monomial_plain (product_text 1 fs) (factors_text fs is.0)) (one_plain (polynomials.spelling ts) (spelled_plain ts is.1))
words_plain (MovedLine ts) is = one_plain (polynomials.spelling ts) (spelled_plain ts is)
words_plain (FixedLine ts us) is =
    All-cons IsPlain (polynomials.spelling ts) (polynomials.spelling us ∷ []) (spelled_plain ts is.0) (one_plain (polynomials.spelling us) (spelled_plain us is.1))
words_plain (IrreducibleLine ts) is = one_plain (polynomials.spelling ts) (spelled_plain ts is)
words_plain (WordLine ts) is = one_plain (polynomials.spelling ts) (spelled_plain ts is)
words_plain EndLine is = All-nil IsPlain

pub head_plain : (k : LineKind) → IsPlain (head k)
head_plain kinds.Version = plain_test (codes "invring") refl refl
head_plain kinds.Field = plain_test (codes "field") refl refl
head_plain kinds.Names = plain_test (codes "vars") refl refl
head_plain kinds.Matrix = plain_test (codes "matrix") refl refl
head_plain kinds.Order = plain_test (codes "order") refl refl
head_plain kinds.Primary = plain_test (codes "primary") refl refl
head_plain kinds.Lift = plain_test (codes "lift") refl refl
head_plain kinds.Power = plain_test (codes "power") refl refl
head_plain kinds.Rank = plain_test (codes "rank") refl refl
head_plain kinds.Secondary = plain_test (codes "secondary") refl refl
head_plain kinds.Reynolds = plain_test (codes "evidence") refl refl
head_plain kinds.Kernel = plain_test (codes "evidence") refl refl
head_plain kinds.Image = plain_test (codes "image") refl refl
head_plain kinds.Moved = plain_test (codes "moved") refl refl
head_plain kinds.Fixed = plain_test (codes "fixed") refl refl
head_plain kinds.Irreducible = plain_test (codes "irreducible") refl refl
head_plain kinds.Word = plain_test (codes "word") refl refl
head_plain kinds.End = plain_test (codes "end") refl refl

-- a line by its words
pub line_parts : (l : LineTree) → line_text l ≡ head (kind_of l) ++ spaced (words l)
unfolding line_text
line_parts VersionLine = refl
line_parts (FieldLine p) = ap (λ w. codes "field" ++ (32 ∷ w)) (sym (append-nil (decimal p)))
line_parts (NamesLine ns) = refl
line_parts (MatrixLine cs) = refl
line_parts (OrderLine n) = ap (λ w. codes "order" ++ (32 ∷ w)) (sym (append-nil (decimal n)))
line_parts (PrimaryLine ts) = refl
line_parts (LiftLine ts) = refl
line_parts (PowerLine w e ts) = refl
line_parts (RankLine n) = ap (λ w. codes "rank" ++ (32 ∷ w)) (sym (append-nil (decimal n)))
line_parts (SecondaryLine ts) = refl
line_parts ReynoldsLine = refl
line_parts KernelLine = refl
line_parts (ImageLine fs ts) = refl
line_parts (MovedLine ts) = refl
line_parts (FixedLine ts us) = refl
line_parts (IrreducibleLine ts) = refl
line_parts (WordLine ts) = refl
line_parts EndLine = refl

spaced_unbroken : (ws : List (List ℕ)) → All IsPlain ws → Free 10 (spaced ws)
spaced_unbroken [] h = All-nil (λ b. b ≢ 10)
spaced_unbroken (w ∷ ws) h =
    All-cons (λ b. b ≢ 10) 32 (w ++ spaced ws) (λ e. omega (arith, e))
    (All-append (λ b. b ≢ 10) w (spaced ws) (All-head IsPlain w ws h).unbroken (spaced_unbroken ws (All-tail IsPlain w ws h)))

pub line_unbroken : (l : LineTree) → IsLine l → Free 10 (line_text l)
line_unbroken l is =
    subst (Free 10) (sym (line_parts l)) (All-append (λ b. b ≢ 10) (head (kind_of l)) (spaced (words l)) (head_plain (kind_of l)).unbroken (spaced_unbroken (words l) (words_plain l is)))
