-- The words of a line tell the line, where its kind is known; so a text has one list of lines.
use Rattle.std.proofs.Common.{◌≡◌, ◌≢◌, ◌∙◌, ℕ, ◌≤◌, Bool, true, false, List, [], ◌∷◌, ◌++◌, Option, Some, None, map, get_or, refl, sym, ap, ap₂, arith}
use Rattle.std.specs.Prelude.{All, decimal, ◌==◌, if◌then◌else◌}
use Rattle.std.proofs.lemmas.Bool.{ne_eqb}
use Rattle.std.proofs.lemmas.List.{append-nil}
use Rattle.std.proofs.lemmas.List.Elements.{All-nil, All-cons, All-head, All-tail}
use Rattle.poly_text.specs.Scanning.{State, scan, start, finish}
use Rattle.poly_text.specs.Syntax.{Factor, Term, IsFactor, IsTerm, IsText, monomial_term, product_text}
use Rattle.poly_text.specs.Syntax as polynomials
use Rattle.poly_text.proofs.Scans.{text_scanned}
use Rattle.certificate_io.specs.Lines.{after, head, words}
use Rattle.certificate_io.specs.Syntax.{LineTree, VersionLine, FieldLine, NamesLine, MatrixLine, OrderLine, PrimaryLine, LiftLine, PowerLine, RankLine, SecondaryLine, ReynoldsLine, KernelLine, ImageLine, MovedLine, FixedLine, IrreducibleLine, WordLine, EndLine, IsCell, IsLine, IsPolynomial, IsText as IsLines, cell_text, kind_of, line_text, spelling}
use Rattle.certificate_io.specs.Texts.{spaced}
use Rattle.certificate_io.specs.declared.line_kind.LineKind.{LineKind}
use Rattle.certificate_io.specs.declared.line_kind.LineKind.TheVariants as kinds
use Rattle.certificate_io.specs.declared.words.Cell.{Cell}
use Rattle.certificate_io.proofs.DigitSteps.{number_in, number_back, first_digit}
use Rattle.certificate_io.proofs.LineWords.{IsPlain, head_plain, words_plain, line_parts}
use Rattle.certificate_io.proofs.Shapes.{one_kind, heads, not_empty, spelled_cons}
use Rattle.certificate_io.proofs.Splits.{rest_of, spaced_after, split_one}

tree_or : Option (List Term) → List Term
tree_or None = []
tree_or (Some ts) = ts

tree_in : Option State → List Term
tree_in None = []
tree_in (Some s) = tree_or (finish s)

-- the tree of a text
abbrev tree_at : List ℕ → List Term
tree_at bytes = tree_in (scan start bytes)

tree_back : (bytes : List ℕ) (ts : List Term) → IsText ts bytes → tree_at bytes ≡ ts
unfolding tree_in tree_or
tree_back bytes ts is = let found = text_scanned bytes ts is in ap tree_in found.1 ∙ ap tree_or found.2

spelled_back : (ts : List Term) → IsPolynomial ts → tree_at (polynomials.spelling ts) ≡ ts
spelled_back ts is = tree_back (polynomials.spelling ts) ts (record { terms = is; spelled = refl })

factors_in : List Term → List Factor
factors_in [] = []
factors_in (t ∷ ts) = t.factors

monomial_back : (fs : List Factor) → All IsFactor fs → factors_in (tree_at (product_text 1 fs)) ≡ fs
unfolding factors_in
monomial_back fs is =
    let term : IsTerm (monomial_term fs) = record { coefficient = (omega arith, omega arith); factors = is } in
    ap factors_in (tree_back (product_text 1 fs) (monomial_term fs ∷ []) (record { terms = All-cons IsTerm (monomial_term fs) [] term (All-nil IsTerm); spelled = append-nil (product_text 1 fs) }))

-- the bytes after the first
others : List ℕ → List ℕ
others [] = []
others (b ∷ bs) = bs

cell_in : Bool → List ℕ → Cell
cell_in true w = record { is_negative = true; size = number_in (others w) }
cell_in false w = record { is_negative = false; size = number_in w }

abbrev cell_at : List ℕ → Cell
cell_at w = cell_in (get_or w 0 0 == 45) w

cell_parts : (b : Bool) (n : ℕ) → n ≤ 99999 → cell_at ((if b then 45 ∷ [] else []) ++ decimal n) ≡ record { is_negative = b; size = n }
unfolding cell_in others
cell_parts true n low = ap (λ m. record { is_negative = true; size = m }) (number_back n (omega (arith, low)))
cell_parts false n low =
    let first : get_or (decimal n) 0 0 ≢ 45 = λ e. omega (arith, e, first_digit n (omega (arith, low))) in
    ap (λ t. cell_in t (decimal n)) (ne_eqb (get_or (decimal n) 0 0) 45 first)
    ∙ ap (λ m. record { is_negative = false; size = m }) (number_back n (omega (arith, low)))

pub cell_one : (c d : Cell) → IsCell c → IsCell d → cell_text c ≡ cell_text d → c ≡ d
cell_one c d is has e = sym (cell_parts c.is_negative c.size is.size) ∙ ap cell_at e ∙ cell_parts d.is_negative d.size has.size

cells_back : (cs : List Cell) → All IsCell cs → map cell_at (map cell_text cs) ≡ cs
cells_back [] is = refl
cells_back (c ∷ cs) is = ap₂ (λ d ds. d ∷ ds) (cell_parts c.is_negative c.size (All-head IsCell c cs is).size) (cells_back cs (All-tail IsCell c cs is))

-- the line of this kind with these words
decode : LineKind → List (List ℕ) → LineTree
decode kinds.Version ws = VersionLine
decode kinds.Field ws = FieldLine (number_in (get_or ws 0 []))
decode kinds.Names ws = NamesLine ws
decode kinds.Matrix ws = MatrixLine (map cell_at ws)
decode kinds.Order ws = OrderLine (number_in (get_or ws 0 []))
decode kinds.Primary ws = PrimaryLine (tree_at (get_or ws 0 []))
decode kinds.Lift ws = LiftLine (tree_at (get_or ws 0 []))
decode kinds.Power ws = PowerLine (get_or ws 0 []) (number_in (get_or ws 1 [])) (tree_at (get_or ws 2 []))
decode kinds.Rank ws = RankLine (number_in (get_or ws 0 []))
decode kinds.Secondary ws = SecondaryLine (tree_at (get_or ws 0 []))
decode kinds.Reynolds ws = ReynoldsLine
decode kinds.Kernel ws = KernelLine
decode kinds.Image ws = ImageLine (factors_in (tree_at (get_or ws 0 []))) (tree_at (get_or ws 1 []))
decode kinds.Moved ws = MovedLine (tree_at (get_or ws 0 []))
decode kinds.Fixed ws = FixedLine (tree_at (get_or ws 0 [])) (tree_at (get_or ws 1 []))
decode kinds.Irreducible ws = IrreducibleLine (tree_at (get_or ws 0 []))
decode kinds.Word ws = WordLine (tree_at (get_or ws 0 []))
decode kinds.End ws = EndLine

decoded : (l : LineTree) → IsLine l → decode (kind_of l) (words l) ≡ l
unfolding decode
decoded VersionLine is = refl
decoded (FieldLine p) is = ap FieldLine (number_back p (omega (arith, is.1)))
decoded (NamesLine ns) is = refl
decoded (MatrixLine cs) is = ap MatrixLine (cells_back cs is.1)
decoded (OrderLine n) is = ap OrderLine (number_back n (omega (arith, is.1)))
decoded (PrimaryLine ts) is = ap PrimaryLine (spelled_back ts is)
decoded (LiftLine ts) is = ap LiftLine (spelled_back ts is)
decoded (PowerLine w e ts) is = ap₂ (PowerLine w) (number_back e (omega (arith, is.1.1))) (spelled_back ts is.2)
decoded (RankLine n) is = ap RankLine (number_back n (omega (arith, is.1)))
decoded (SecondaryLine ts) is = ap SecondaryLine (spelled_back ts is)
decoded ReynoldsLine is = refl
decoded KernelLine is = refl
decoded (ImageLine fs ts) is = ap₂ ImageLine (monomial_back fs is.0) (spelled_back ts is.1)
decoded (MovedLine ts) is = ap MovedLine (spelled_back ts is)
decoded (FixedLine ts us) is = ap₂ FixedLine (spelled_back ts is.0) (spelled_back us is.1)
decoded (IrreducibleLine ts) is = ap IrreducibleLine (spelled_back ts is)
decoded (WordLine ts) is = ap WordLine (spelled_back ts is)
decoded EndLine is = refl

-- words with a space before each are told by their bytes
same_words : (ws vs : List (List ℕ)) → All IsPlain ws → All IsPlain vs → spaced ws ≡ spaced vs → ws ≡ vs
same_words [] [] p q e = refl
same_words [] (v ∷ vs) p q e = absurd cc
same_words (w ∷ ws) [] p q e = absurd cc
same_words (w ∷ ws) (v ∷ vs) p q e =
    let joins : w ++ spaced ws ≡ v ++ spaced vs = cc in
    let found = split_one 32 w v (rest_of ws) (rest_of vs) (All-head IsPlain w ws p).unspaced (All-head IsPlain v vs q).unspaced
    (ap (λ l. w ++ l) (sym (spaced_after ws)) ∙ joins ∙ ap (λ l. v ++ l) (spaced_after vs)) in
    let tails : spaced ws ≡ spaced vs = spaced_after ws ∙ ap (after 32) found.1 ∙ sym (spaced_after vs) in
    ap₂ (λ x xs. x ∷ xs) found.0 (same_words ws vs (All-tail IsPlain w ws p) (All-tail IsPlain v vs q) tails)

-- a line is told by its text
pub one_line : (l m : LineTree) → IsLine l → IsLine m → line_text l ≡ line_text m → l ≡ m
one_line l m is has e =
    let kind = one_kind l m is has e in
    let found = split_one 32 (head (kind_of l)) (head (kind_of m)) (rest_of (words l)) (rest_of (words m)) (head_plain (kind_of l)).unspaced (head_plain (kind_of m)).unspaced
    (ap (λ z. head (kind_of l) ++ z) (sym (spaced_after (words l))) ∙ sym (line_parts l) ∙ e ∙ line_parts m ∙ ap (λ z. head (kind_of m) ++ z) (spaced_after (words m))) in
    let tails : spaced (words l) ≡ spaced (words m) = spaced_after (words l) ∙ ap (after 32) found.1 ∙ sym (spaced_after (words m)) in
    sym (decoded l is) ∙ ap₂ decode kind (same_words (words l) (words m) (words_plain l is) (words_plain m has) tails) ∙ decoded m has

one_list : (ls ms : List LineTree) → All IsLine ls → All IsLine ms → spelling ls ++ [] ≡ spelling ms ++ [] → ls ≡ ms
one_list [] [] is has e = refl
one_list [] (m ∷ ms) is has e = absurd (not_empty (line_text m) (spelling ms ++ []) (sym (spelled_cons m ms []) ∙ sym e))
one_list (l ∷ ls) [] is has e = absurd (not_empty (line_text l) (spelling ls ++ []) (sym (spelled_cons l ls []) ∙ e))
one_list (l ∷ ls) (m ∷ ms) is has e =
    let found = heads l m ls ms [] [] (All-head IsLine l ls is) (All-head IsLine m ms has) e in
    ap₂ (λ x xs. x ∷ xs) (one_line l m (All-head IsLine l ls is) (All-head IsLine m ms has) found.0) (one_list ls ms (All-tail IsLine l ls is) (All-tail IsLine m ms has) found.1)

-- a text has one list of lines
pub lines_are_one : (bytes : List ℕ) (ls ms : List LineTree) → IsLines ls bytes → IsLines ms bytes → ls ≡ ms
lines_are_one bytes ls ms is has =
    one_list ls ms is.shape.lines has.shape.lines (append-nil (spelling ls) ∙ is.spelled ∙ sym has.spelled ∙ sym (append-nil (spelling ms)))
