-- What the calls that read the values of a text answer.
--
--   fault_on line e        the fault of a text on this line as one of the certificate
--   AnswersFault e fault   the error tells this fault, or that memory was refused
--   Answers result fault P   the result is an answer of P where there is no fault, and else the fault, unless memory was refused
--   on_line i kind         the fault of the line i
--   run_fault f i k xs     the first fault of lines from the line i on, whose parts are xs, by the conditions f on the part at a place
--                          from k on
--   AreReadBy P view said xs v   what is read of lines with the parts xs: each is one of P, and prints by view what its part says
--   tails ls               what follows the first words of lines
--   class_of p c           the class modulo p that an entry prints
--   classes_in p cs        the classes that entries print, where each prints one
--   matrix_kind p n cs     the kind of the fault of the line of an n by n matrix modulo p with these entries
--   matrix_text cs         what follows the first word of the line of a matrix
--   matrix_cells p m       the entries that a matrix prints
--   power_text, image_text, member_text x   what follows the first word of the lines of these parts
--   words_after o, text_after o   the words after the polynomial of a member, what follows it
--   poly_tree S names f    the tree that the polynomial f prints
--   comb_tree S c          that of the combination c
--   poly_kind S names ts, comb_kind S ts   the kind of the first fault of a tree as a polynomial, as a combination
--   CanRead S names        polynomials over S can be read in variables with these names
--   CanCombine S           combinations over S can be read: each of its positions has a constant
use Rattle.std.specs.Prelude.{◌≡◌, ℕ, suc, ◌-◌, ◌*◌, ◌==◌, if◌then◌else◌, List, [], ◌∷◌, length, map, All, Option, Some, None, Result, Ok, Err, IsTrue, decimal}
use Rattle.std.specs.List.{list_all}
use Rattle.std.specs.Option.{option_or}
use Rattle.alg_core.specs.Names.{is_name}
use Rattle.alg_core.specs.Spaces.{SpaceOver, entries}
use Rattle.alg_core.specs.declared.term.Term.{Term as CodeTerm}
use Rattle.alg_core.specs.declared.value_kind.ValueKind.{ValueKind}
use Rattle.alg_core.specs.declared.value_kind.ValueKind.TheVariants as kinds
use Rattle.poly_module.specs.SpaceVectors.{HasPolynomials}
use Rattle.poly_module.specs.declared.vector.Comb.{Comb}
use Rattle.poly_text.specs.Syntax.{Term, product_text, spelling}
use Rattle.poly_text.specs.Texts.{by_position, combination_term, place_count, term_of}
use Rattle.poly_text.specs.Values.{AreDistinct, HasPositions, fault_or, mark_names}
use Rattle.poly_text.specs.declared.fault.TextFault.{TextFault}
use Rattle.poly_text.specs.declared.fault.TextFault.TheVariants as texts
use Rattle.poly_text.specs.declared.names.Names.{Names}
use Rattle.certificate_io.specs.declared.fault.CertFault.{CertFault}
use Rattle.certificate_io.specs.declared.fault.CertFault.TheVariants as faults
use Rattle.certificate_io.specs.declared.line_text.LineText.{LineText}
use Rattle.certificate_io.specs.declared.words.Cell.{Cell}
use Rattle.certificate_io.specs.Lines.{joined}
use Rattle.certificate_io.specs.Certificates.{MatrixOf}
use Rattle.certificate_io.specs.Parts.{PowerTree, ImageTree, MemberTree, cell_in}
use Rattle.certificate_io.specs.Syntax.{cell_text}
use Rattle.certificate_io.specs.Values.{checked, is_printed_cell, kind_of_fault}

abbrev pub fault_on : ℕ → TextFault → CertFault
fault_on line (texts.Syntax n) = faults.Syntax line
fault_on line (texts.Value term kind) = faults.Value line kind
fault_on line texts.Memory = faults.Memory

abbrev pub AnswersFault : CertFault → Option (ℕ × ValueKind) → Type 0
AnswersFault (faults.Syntax line) fault = ⊥
AnswersFault (faults.Value line kind) fault = fault ≡ Some (line, kind)
AnswersFault faults.Memory fault = Unit {0}

abbrev pub Answers : {A : Type 0} → Result A CertFault → Option (ℕ × ValueKind) → (A → Type 0) → Type 0
Answers (Ok x) fault P = (fault ≡ None) × P x
Answers (Err e) fault P = AnswersFault e fault

abbrev pub on_line : ℕ → Option ValueKind → Option (ℕ × ValueKind)
on_line i kind = fault_or i kind None

abbrev pub run_fault : {T : Type 0} → (ℕ → T → Option ValueKind) → ℕ → ℕ → List T → Option (ℕ × ValueKind)
run_fault f i k [] = None
run_fault f i k (x ∷ xs) = fault_or i (f k x) (run_fault f (suc i) (suc k) xs)

abbrev pub AreReadBy : {A B T : Type 0} → (A → Type 0) → (A → B) → (T → B) → List T → List A → Type 0
AreReadBy P view said xs v = All P v × (map view v ≡ map said xs)

abbrev pub tails : List LineText → List (List ℕ)
tails ls = map (λ (l : LineText). l.tail.now) ls

abbrev pub class_of : ℕ → Cell → ℕ
class_of p c = if c.is_negative then p - c.size else c.size

abbrev pub classes_in : ℕ → List Cell → Option (List ℕ)
classes_in p cs = if list_all (is_printed_cell p) cs then Some (map (class_of p) cs) else None

abbrev pub matrix_kind : ℕ → ℕ → List Cell → Option ValueKind
matrix_kind p n cs =
    option_or (checked kinds.Size (length cs == n * n)) (checked kinds.Coefficient (list_all (is_printed_cell p) cs))

abbrev pub matrix_text : List Cell → List ℕ
matrix_text cs = joined (map cell_text cs)

abbrev pub matrix_cells : ℕ → MatrixOf ℕ → List Cell
matrix_cells p m = map (cell_in p) m.cells

abbrev pub power_text : PowerTree → List ℕ
power_text x = joined (x.name ∷ decimal x.exponent ∷ spelling x.form ∷ [])

abbrev pub image_text : ImageTree → List ℕ
image_text x = joined (product_text 1 x.monomial ∷ spelling x.combination ∷ [])

abbrev pub words_after : Option (List Term) → List (List ℕ)
words_after None = []
words_after (Some us) = spelling us ∷ []

abbrev pub text_after : Option (List Term) → Option (List ℕ)
text_after None = None
text_after (Some us) = Some (joined (spelling us ∷ []))

abbrev pub member_text : MemberTree → List ℕ
member_text x = joined (spelling x.polynomial ∷ words_after x.combination)

abbrev pub poly_tree : SpaceOver ℕ → Names → List (CodeTerm ℕ (List ℕ)) → List Term
poly_tree S names f = map (term_of names S.field.characteristic) (entries (λ m. m) f)

abbrev pub comb_tree : SpaceOver ℕ → Comb ℕ → List Term
comb_tree S c = map (combination_term S.field.characteristic) (by_position (length S.shifts) (entries (λ m. m) c.vector))

abbrev pub poly_kind : SpaceOver ℕ → Names → List Term → Option ValueKind
poly_kind S names ts = kind_of_fault None S names ts

abbrev pub comb_kind : SpaceOver ℕ → List Term → Option ValueKind
comb_kind S ts = kind_of_fault (Some (length S.shifts)) S (mark_names (length S.weights)) ts

pub record CanRead (S : SpaceOver ℕ) (names : Names) : Type 0 where
  pub places : length S.weights ≡ place_count names
  pub distinct : AreDistinct names
  pub polynomials : HasPolynomials S
  pub variables : All (λ w. IsTrue (is_name w)) names.vars

abbrev pub CanCombine : SpaceOver ℕ → Type 0
CanCombine S = HasPositions (Some (length S.shifts)) S
