-- What follows the first word of a line tells the line, where the kind is known.
use Rattle.std.proofs.Common.{◌≡◌, ◌∙◌, ℕ, Bool, true, false, List, [], ◌∷◌, ◌++◌, Option, Some, None, map, IsTrue, refl, sym, ap, ap₂, subst, arith}
use Rattle.std.specs.Prelude.{All, IfSome, codes, decimal, ◌&&◌, if◌then◌else◌}
use Rattle.std.specs.Bool.{Decides}
use Rattle.std.specs.List.{Contains}
use Rattle.std.specs.Str.{bytes_eq}
use Rattle.std.proofs.lemmas.Slice.Eq.{bytes_eq-Decides}
use Rattle.std.proofs.lemmas.List.{append-nil}
use Rattle.std.proofs.lemmas.List.Elements.{All-nil, All-cons, All-head, All-tail, All-map, All-weaker}
use Rattle.alg_core.specs.Names.{is_name}
use Rattle.poly_text.specs.Syntax.{Factor, Term, IsFactor, IsTerm, HasPolynomialText, HasMonomialText, monomial_term, product_text}
use Rattle.poly_text.specs.Syntax as polynomials
use Rattle.certificate_io.specs.Lines.{after, head, named, is_kernel, kind_in, words, joined, IsSplit, IsCellText, AreWords, IsPairText, IsRaisedText, HasWords, HasTail, tail_bytes, IsToldLine}
use Rattle.certificate_io.specs.Syntax.{LineTree, VersionLine, FieldLine, NamesLine, MatrixLine, OrderLine, PrimaryLine, LiftLine, PowerLine, RankLine, SecondaryLine, ReynoldsLine, KernelLine, ImageLine, MovedLine, FixedLine, IrreducibleLine, WordLine, EndLine, IsCell, IsLine, IsPolynomial, cell_text, kind_of, line_text, successors}
use Rattle.certificate_io.specs.declared.line_kind.LineKind.{LineKind}
use Rattle.certificate_io.specs.declared.line_kind.LineKind.TheVariants as kinds
use Rattle.certificate_io.specs.declared.line_text.LineText.{LineText}
use Rattle.certificate_io.specs.declared.words.Cell.{Cell}
use Rattle.certificate_io.proofs.LineWords.{tree_text, factors_text, head_plain, line_parts}
use Rattle.certificate_io.proofs.Splits.{rest_of, spaced_after, same_split}

spelled : (ts : List Term) → IsPolynomial ts → HasPolynomialText (polynomials.spelling ts ++ [])
spelled ts is = subst HasPolynomialText (sym (append-nil (polynomials.spelling ts))) (tree_text ts is)

cells_words : (cs : List Cell) → All IsCell cs → All (λ w. (c : Cell) × IsCellText c w) (map cell_text cs)
cells_words cs is = All-map (λ w. (c : Cell) × IsCellText c w) cell_text cs (All-weaker IsCell (λ c. (d : Cell) × IsCellText d (cell_text c)) (λ c h. (c, (h, refl))) cs is)

-- what follows the first word of a line
pub tail_words : (l : LineTree) → IsLine l → HasTail (kind_of l) (rest_of (words l))
tail_words VersionLine is = refl
tail_words (FieldLine p) is = (p, (is, sym (append-nil (decimal p))))
tail_words (NamesLine []) is = absurd (omega (arith, is.0))
tail_words (NamesLine (w ∷ ws)) is = record { first = w; others = ws; words = is.1; joins = refl }
tail_words (MatrixLine []) is = absurd (omega (arith, is.0))
tail_words (MatrixLine (c ∷ cs)) is = record { first = cell_text c; others = map cell_text cs; words = cells_words (c ∷ cs) is.1; joins = refl }
tail_words (OrderLine n) is = (n, (is, sym (append-nil (decimal n))))
tail_words (PrimaryLine ts) is = spelled ts is
tail_words (LiftLine ts) is = spelled ts is
tail_words (PowerLine w e ts) is = record {
  first = w;
  second = decimal e ++ (32 ∷ polynomials.spelling ts);
  is_first = is.0;
  is_second = record { first = decimal e; second = polynomials.spelling ts; is_first = (e, (is.1, refl)); is_second = tree_text ts is.2; joins = refl };
  joins = ap (λ z. w ++ (32 ∷ (decimal e ++ (32 ∷ z)))) (sym (append-nil (polynomials.spelling ts)));
}
tail_words (RankLine n) is = (n, (is, sym (append-nil (decimal n))))
tail_words (SecondaryLine ts) is = spelled ts is
tail_words ReynoldsLine is = refl
tail_words KernelLine is = refl
tail_words (ImageLine fs ts) is = record {
  first = product_text 1 fs;
  second = polynomials.spelling ts;
  is_first = factors_text fs is.0;
  is_second = tree_text ts is.1;
  joins = ap (λ z. product_text 1 fs ++ (32 ∷ z)) (sym (append-nil (polynomials.spelling ts)));
}
tail_words (MovedLine ts) is = spelled ts is
tail_words (FixedLine ts us) is = record {
  first = polynomials.spelling ts;
  second = polynomials.spelling us;
  is_first = tree_text ts is.0;
  is_second = tree_text us is.1;
  joins = ap (λ z. polynomials.spelling ts ++ (32 ∷ z)) (sym (append-nil (polynomials.spelling us)));
}
tail_words (IrreducibleLine ts) is = spelled ts is
tail_words (WordLine ts) is = spelled ts is
tail_words EndLine is = refl

-- a line of this kind, after whose first word this stands
pub record IsTailed (k : LineKind) (o : Option (List ℕ)) : Type 0 where
  pub tree : LineTree
  pub line : IsLine tree
  pub kind : kind_of tree ≡ k
  pub tail : rest_of (words tree) ≡ o

cells_of : (ws : List (List ℕ)) → All (λ w. (c : Cell) × IsCellText c w) ws → (cs : List Cell) × All IsCell cs × (map cell_text cs ≡ ws)
cells_of [] h = ([], All-nil IsCell, refl)
cells_of (w ∷ ws) h =
    let first = All-head (λ v. (c : Cell) × IsCellText c v) w ws h in
    let rest = cells_of ws (All-tail (λ v. (c : Cell) × IsCellText c v) w ws h) in
    (first.0 ∷ rest.0, All-cons IsCell first.0 rest.0 first.1.0 rest.1, ap₂ (λ v vs. v ∷ vs) first.1.1 rest.2)

one_tail : (bytes : List ℕ) (w : List ℕ) → w ≡ bytes → rest_of (w ∷ []) ≡ Some bytes
one_tail bytes w e = ap Some (append-nil w ∙ e)

two_tail : (bytes v w : List ℕ) → v ++ (32 ∷ w) ≡ bytes → rest_of (v ∷ w ∷ []) ≡ Some bytes
two_tail bytes v w e = ap Some (ap (λ z. v ++ (32 ∷ z)) (append-nil w) ∙ e)

monomial_spelled : (fs : List Factor) (bytes : List ℕ) → polynomials.spelling (monomial_term fs ∷ []) ≡ bytes → product_text 1 fs ≡ bytes
monomial_spelled fs bytes e = sym (append-nil (product_text 1 fs)) ∙ e

matrix_tail : (bytes : List ℕ) (a : AreWords (λ w. (c : Cell) × IsCellText c w) bytes) → IsTailed kinds.Matrix (Some bytes)
matrix_tail bytes a =
    let first = All-head (λ v. (c : Cell) × IsCellText c v) a.first a.others a.words in
    let rest = cells_of a.others (All-tail (λ v. (c : Cell) × IsCellText c v) a.first a.others a.words) in
    record {
      tree = MatrixLine (first.0 ∷ rest.0);
      line = (omega arith, All-cons IsCell first.0 rest.0 first.1.0 rest.1);
      kind = refl;
      tail = ap rest_of (ap₂ (λ v vs. v ∷ vs) first.1.1 rest.2) ∙ ap Some a.joins;
    }

power_tail : (bytes : List ℕ) (p : IsPairText (λ w. IsTrue (is_name w)) IsRaisedText bytes) → IsTailed kinds.Power (Some bytes)
power_tail bytes p =
    let r = p.is_second in
    let text = r.is_second in
    let exponent : decimal r.is_first.0 ≡ r.first = r.is_first.1.1 in
    let second : decimal r.is_first.0 ++ (32 ∷ (polynomials.spelling text.0 ++ [])) ≡ p.second =
    ap₂ (λ v z. v ++ (32 ∷ z)) exponent (append-nil (polynomials.spelling text.0) ∙ text.1.spelled) ∙ r.joins in
    record {
      tree = PowerLine p.first r.is_first.0 text.0;
      line = (p.is_first, r.is_first.1.0, text.1.terms);
      kind = refl;
      tail = ap Some (ap (λ z. p.first ++ (32 ∷ z)) second ∙ p.joins);
    }

pub words_tailed : (k : LineKind) (bytes : List ℕ) → HasWords k bytes → IsTailed k (Some bytes)
words_tailed kinds.Version bytes h = record { tree = VersionLine; line = tt; kind = refl; tail = ap Some (sym h) }
words_tailed kinds.Field bytes h = record { tree = FieldLine h.0; line = h.1.0; kind = refl; tail = one_tail bytes (decimal h.0) h.1.1 }
words_tailed kinds.Names bytes h = record { tree = NamesLine (h.first ∷ h.others); line = (omega arith, h.words); kind = refl; tail = ap Some h.joins }
words_tailed kinds.Matrix bytes h = matrix_tail bytes h
words_tailed kinds.Order bytes h = record { tree = OrderLine h.0; line = h.1.0; kind = refl; tail = one_tail bytes (decimal h.0) h.1.1 }
words_tailed kinds.Primary bytes h = record { tree = PrimaryLine h.0; line = h.1.terms; kind = refl; tail = one_tail bytes (polynomials.spelling h.0) h.1.spelled }
words_tailed kinds.Lift bytes h = record { tree = LiftLine h.0; line = h.1.terms; kind = refl; tail = one_tail bytes (polynomials.spelling h.0) h.1.spelled }
words_tailed kinds.Power bytes h = power_tail bytes h
words_tailed kinds.Rank bytes h = record { tree = RankLine h.0; line = h.1.0; kind = refl; tail = one_tail bytes (decimal h.0) h.1.1 }
words_tailed kinds.Secondary bytes h = record { tree = SecondaryLine h.0; line = h.1.terms; kind = refl; tail = one_tail bytes (polynomials.spelling h.0) h.1.spelled }
words_tailed kinds.Reynolds bytes h = record { tree = ReynoldsLine; line = tt; kind = refl; tail = ap Some (sym h) }
words_tailed kinds.Kernel bytes h = record { tree = KernelLine; line = tt; kind = refl; tail = ap Some (sym h) }
words_tailed kinds.Image bytes h =
    let m = h.is_first in
    let t = h.is_second in
    let factors : All IsFactor m.0 = (All-head IsTerm (monomial_term m.0) [] m.1.terms).factors in
    record {
      tree = ImageLine m.0 t.0;
      line = (factors, t.1.terms);
      kind = refl;
      tail = two_tail bytes (product_text 1 m.0) (polynomials.spelling t.0) (ap₂ (λ v w. v ++ (32 ∷ w)) (monomial_spelled m.0 h.first m.1.spelled) t.1.spelled ∙ h.joins);
    }
words_tailed kinds.Moved bytes h = record { tree = MovedLine h.0; line = h.1.terms; kind = refl; tail = one_tail bytes (polynomials.spelling h.0) h.1.spelled }
words_tailed kinds.Fixed bytes h =
    let s = h.is_first in
    let t = h.is_second in
    record {
      tree = FixedLine s.0 t.0;
      line = (s.1.terms, t.1.terms);
      kind = refl;
      tail = two_tail bytes (polynomials.spelling s.0) (polynomials.spelling t.0) (ap₂ (λ v w. v ++ (32 ∷ w)) s.1.spelled t.1.spelled ∙ h.joins);
    }
words_tailed kinds.Irreducible bytes h = record { tree = IrreducibleLine h.0; line = h.1.terms; kind = refl; tail = one_tail bytes (polynomials.spelling h.0) h.1.spelled }
words_tailed kinds.Word bytes h = record { tree = WordLine h.0; line = h.1.terms; kind = refl; tail = one_tail bytes (polynomials.spelling h.0) h.1.spelled }
words_tailed kinds.End bytes h = absurd h

pub tailed : (k : LineKind) (o : Option (List ℕ)) → HasTail k o → IsTailed k o
tailed k None h = record { tree = EndLine; line = tt; kind = sym h; tail = refl }
tailed k (Some bytes) h = words_tailed k bytes h

-- the first word tells the kind
if_named : (w v : List ℕ) (k : LineKind) (rest : Option LineKind) → head k ≡ v → IfSome rest (λ j. head j ≡ w) → IfSome (if bytes_eq w v then Some k else rest) (λ j. head j ≡ w)
if_named w v k rest is others = go (bytes_eq w v) (bytes_eq-Decides w v)
  where
    go : (b : Bool) → Decides b (w ≡ v) → IfSome (if b then Some k else rest) (λ j. head j ≡ w)
    go true d = is ∙ sym (d.0 refl)
    go false d = others

pub named_head : (w : List ℕ) → IfSome (named w) (λ j. head j ≡ w)
named_head w =
    if_named w (codes "primary") kinds.Primary _ refl (if_named w (codes "lift") kinds.Lift _ refl (if_named w (codes "secondary") kinds.Secondary _ refl
    (if_named w (codes "image") kinds.Image _ refl (if_named w (codes "moved") kinds.Moved _ refl (if_named w (codes "fixed") kinds.Fixed _ refl
    (if_named w (codes "irreducible") kinds.Irreducible _ refl (if_named w (codes "word") kinds.Word _ refl (if_named w (codes "matrix") kinds.Matrix _ refl
    (if_named w (codes "power") kinds.Power _ refl (if_named w (codes "invring") kinds.Version _ refl (if_named w (codes "field") kinds.Field _ refl
    (if_named w (codes "vars") kinds.Names _ refl (if_named w (codes "order") kinds.Order _ refl (if_named w (codes "rank") kinds.Rank _ refl
    (if_named w (codes "evidence") kinds.Reynolds _ refl (if_named w (codes "end") kinds.End None refl tt))))))))))))))))

pub kind_head : (w : List ℕ) (o : Option (List ℕ)) → IfSome (kind_in w o) (λ j. head j ≡ w)
kind_head w o = go (bytes_eq w (codes "evidence")) (bytes_eq-Decides w (codes "evidence")) (is_kernel o)
  where
    go : (b : Bool) → Decides b (w ≡ codes "evidence") → (c : Bool) → IfSome (if b && c then Some kinds.Kernel else named w) (λ j. head j ≡ w)
    go true d true = sym (d.0 refl)
    go true d false = named_head w
    go false d c = named_head w

pub kind_every : (k : LineKind) (o : Option (List ℕ)) → HasTail k o → kind_in (head k) o ≡ Some k
kind_every kinds.Version o h = refl
kind_every kinds.Field o h = refl
kind_every kinds.Names o h = refl
kind_every kinds.Matrix o h = refl
kind_every kinds.Order o h = refl
kind_every kinds.Primary o h = refl
kind_every kinds.Lift o h = refl
kind_every kinds.Power o h = refl
kind_every kinds.Rank o h = refl
kind_every kinds.Secondary o h = refl
kind_every kinds.Reynolds None h = refl
kind_every kinds.Reynolds (Some w) h = ap (λ v. kind_in (codes "evidence") (Some v)) h
kind_every kinds.Kernel None h = absurd cc
kind_every kinds.Kernel (Some w) h = ap (λ v. kind_in (codes "evidence") (Some v)) h
kind_every kinds.Image o h = refl
kind_every kinds.Moved o h = refl
kind_every kinds.Fixed o h = refl
kind_every kinds.Irreducible o h = refl
kind_every kinds.Word o h = refl
kind_every kinds.End o h = refl

joined_tail : (ws : List (List ℕ)) → joined ws ≡ tail_bytes (rest_of ws)
joined_tail [] = refl
joined_tail (w ∷ ws) = refl

module _ (before : Option LineKind) (text w : List ℕ) (o : Option (List ℕ)) (split : IsSplit 32 text w o) where
  -- the parts of a line with this text
  of_line : (l : LineTree) → line_text l ≡ text → (w ≡ head (kind_of l)) × (o ≡ rest_of (words l))
  of_line l e =
      same_split 32 text w (head (kind_of l)) o (rest_of (words l)) split (head_plain (kind_of l)).unspaced
      (sym e ∙ line_parts l ∙ ap (λ z. head (kind_of l) ++ z) (spaced_after (words l)))

  pub told_kind : (l : LineTree) → IsLine l → line_text l ≡ text → HasTail (kind_of l) o × (kind_in w o ≡ Some (kind_of l))
  told_kind l is e =
      let parts = of_line l e in
      let tail : HasTail (kind_of l) o = subst (HasTail (kind_of l)) (sym parts.1) (tail_words l is) in
      (tail, ap (λ v. kind_in v o) parts.0 ∙ kind_every (kind_of l) o tail)

  pub told_nothing : kind_in w o ≡ None → IsToldLine before text None
  told_nothing none l is = let bad : None ≡ Some (kind_of l) = sym none ∙ (told_kind l is.line is.spelled).1 in absurd cc

  module _ (k : LineKind) (kind : kind_in w o ≡ Some k) where
    same_kind : (l : LineTree) → IsLine l → line_text l ≡ text → kind_of l ≡ k
    same_kind l is e = let both : Some (kind_of l) ≡ Some k = sym (told_kind l is e).1 ∙ kind in cc

    pub told_elsewhere : ¬ Contains (successors before) k → IsToldLine before text None
    told_elsewhere not l is = not (subst (Contains (successors before)) (same_kind l is.line is.spelled) is.follows)

    pub told_wrong : ¬ HasTail k o → IsToldLine before text None
    told_wrong not l is = not (subst (λ j. HasTail j o) (same_kind l is.line is.spelled) (told_kind l is.line is.spelled).0)

    pub told_line : Contains (successors before) k → HasTail k o → (t : LineText) → t.kind ≡ k → t.tail.now ≡ tail_bytes o → IsToldLine before text (Some t)
    told_line follows has t at bytes =
        let found = tailed k o has in
        let first : head k ≡ w = subst (λ p. IfSome p (λ j. head j ≡ w)) kind (kind_head w o) in
        let text_is : line_text found.tree ≡ text =
        line_parts found.tree ∙ ap (λ z. head (kind_of found.tree) ++ z) (spaced_after (words found.tree) ∙ ap (after 32) found.tail)
        ∙ ap (λ z. z ++ after 32 o) (ap head found.kind ∙ first) ∙ sym split.whole in
        (found.tree, record { line = found.line; spelled = text_is; follows = subst (Contains (successors before)) (sym found.kind) follows }, ap₂ (λ j z. (j, z)) (at ∙ sym found.kind) (bytes ∙ sym (joined_tail (words found.tree) ∙ ap tail_bytes found.tail)))
