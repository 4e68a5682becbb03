-- The lines with which a text begins, and the first line that leaves the grammar.
use Rattle.std.proofs.Common.{◌≡◌, ◌≢◌, ◌∙◌, ℕ, zero, suc, ◌+◌, ◌<◌, ◌≤◌, List, [], ◌∷◌, ◌++◌, Option, Some, None, length, map, take, refl, sym, ap, ap₂, subst, arith, ⊎_elim}
use Rattle.std.specs.Prelude.{All}
use Rattle.std.specs.List.{Contains}
use Rattle.std.proofs.lemmas.Bool.{cases_lt}
use Rattle.std.proofs.lemmas.List.{append_assoc, append-nil, map-append, length-append, length-map, length-take-le}
use Rattle.std.proofs.lemmas.List.Elements.{All-nil, All-head, All-tail, All-push, All-take}
use Rattle.certificate_io.specs.Lines.{after, head, words, shown, line_of, IsSplit, IsToldLine}
use Rattle.certificate_io.specs.Syntax.{LineTree, IsLine, IsText, BeginsWith, IsFirstFault, AreInOrder, kind_of, last_kind, line_text, spelling, successors}
use Rattle.certificate_io.specs.declared.line_kind.LineKind.{LineKind}
use Rattle.certificate_io.specs.declared.line_kind.LineKind.TheVariants as kinds
use Rattle.certificate_io.specs.declared.line_text.LineText.{LineText}
use Rattle.certificate_io.proofs.Completions.{order_append, last_append, completed, shaped}
use Rattle.certificate_io.proofs.LineTails.{told_kind}
use Rattle.certificate_io.proofs.LineWords.{head_plain, line_parts, line_unbroken}
use Rattle.certificate_io.proofs.Splits.{rest_of, spaced_after, split_one}

-- a text of a line tells its kind
line_split : (l : LineTree) → IsSplit 32 (line_text l) (head (kind_of l)) (rest_of (words l))
line_split l = record { free = (head_plain (kind_of l)).unspaced; whole = line_parts l ∙ ap (λ z. head (kind_of l) ++ z) (spaced_after (words l)) }

pub one_kind : (l m : LineTree) → IsLine l → IsLine m → line_text l ≡ line_text m → kind_of l ≡ kind_of m
one_kind l m is has e =
    let first = (told_kind None (line_text l) (head (kind_of l)) (rest_of (words l)) (line_split l) l is refl).1 in
    let second = (told_kind None (line_text l) (head (kind_of l)) (rest_of (words l)) (line_split l) m has (sym e)).1 in
    let both : Some (kind_of l) ≡ Some (kind_of m) = sym first ∙ second in
    cc

pub spelled_cons : (l : LineTree) (ls : List LineTree) (r : List ℕ) → spelling (l ∷ ls) ++ r ≡ line_text l ++ after 10 (Some (spelling ls ++ r))
spelled_cons l ls r = append_assoc (line_text l) (10 ∷ spelling ls) r

-- the first lines of two texts
pub heads : (l m : LineTree) (ls ms : List LineTree) (r q : List ℕ) → IsLine l → IsLine m → spelling (l ∷ ls) ++ r ≡ spelling (m ∷ ms) ++ q → (line_text l ≡ line_text m) × (spelling ls ++ r ≡ spelling ms ++ q)
heads l m ls ms r q is has e =
    let found = split_one 10 (line_text l) (line_text m) (Some (spelling ls ++ r)) (Some (spelling ms ++ q)) (line_unbroken l is) (line_unbroken m has)
    (sym (spelled_cons l ls r) ∙ e ∙ spelled_cons m ms q) in
    let rest : Some (spelling ls ++ r) ≡ Some (spelling ms ++ q) = found.1 in
    (found.0, cc)

-- a line that may stand next, with which r begins
pub record IsNext (b : Option LineKind) (r : List ℕ) : Type 0 where
  pub tree : LineTree
  pub others : List ℕ
  pub line : IsLine tree
  pub follows : Contains (successors b) (kind_of tree)
  pub begins : r ≡ line_text tree ++ (10 ∷ others)

-- a text that begins with more lines has a next one
longer : (b : Option LineKind) (ls ms : List LineTree) (r q : List ℕ) → All IsLine ls → All IsLine ms → AreInOrder b (map kind_of ms) → length ls < length ms → spelling ls ++ r ≡ spelling ms ++ q
    → IsNext (last_kind b (map kind_of ls)) r
longer b ls [] r q is has order short e = absurd (omega (arith, short))
longer b [] (m ∷ ms) r q is has order short e =
    record { tree = m; others = spelling ms ++ q; line = All-head IsLine m ms has; follows = order.0; begins = e ∙ spelled_cons m ms q }
longer b (l ∷ ls) (m ∷ ms) r q is has order short e =
    let found = heads l m ls ms r q (All-head IsLine l ls is) (All-head IsLine m ms has) e in
    let same = one_kind l m (All-head IsLine l ls is) (All-head IsLine m ms has) found.0 in
    longer (Some (kind_of l)) ls ms r q (All-tail IsLine l ls is) (All-tail IsLine m ms has) (subst (λ k. AreInOrder (Some k) (map kind_of ms)) (sym same) order.1) (omega (arith, short)) found.1

pub not_empty : (w x : List ℕ) → w ++ (10 ∷ x) ≢ []
not_empty [] x e = absurd cc
not_empty (b ∷ w) x e = absurd cc

-- a whole text of no more lines is these
whole : (b : Option LineKind) (ls ms : List LineTree) (r : List ℕ) → All IsLine ls → All IsLine ms → last_kind b (map kind_of ms) ≡ Some kinds.End → length ms ≤ length ls → spelling ls ++ r ≡ spelling ms ++ []
    → (last_kind b (map kind_of ls) ≡ Some kinds.End) × (r ≡ [])
whole b [] [] r is has last short e = (last, e)
whole b [] (m ∷ ms) r is has last short e = absurd (omega (arith, short))
whole b (l ∷ ls) [] r is has last short e = absurd (not_empty (line_text l) (spelling ls ++ r) (sym (spelled_cons l ls r) ∙ e))
whole b (l ∷ ls) (m ∷ ms) r is has last short e =
    let found = heads l m ls ms r [] (All-head IsLine l ls is) (All-head IsLine m ms has) e in
    let same = one_kind l m (All-head IsLine l ls is) (All-head IsLine m ms has) found.0 in
    whole (Some (kind_of l)) ls ms r (All-tail IsLine l ls is) (All-tail IsLine m ms has) (ap (λ k. last_kind (Some k) (map kind_of ms)) same ∙ last) (omega (arith, short)) found.1

order_take : (b : Option LineKind) (n : ℕ) (ms : List LineTree) → AreInOrder b (map kind_of ms) → AreInOrder b (map kind_of (take n ms))
order_take b zero ms h = tt
order_take b (suc n) [] h = tt
order_take b (suc n) (m ∷ ms) h = (h.0, order_take (Some (kind_of m)) n ms h.1)

take_front : (ls ms : List LineTree) → take (length ls) (ls ++ ms) ≡ ls
take_front [] ms = refl
take_front (l ∷ ls) ms = ap (λ z. l ∷ z) (take_front ls ms)

-- the bytes begin with lines in order, of which the last is of the kind `before`, and are these and the rest
pub record IsBegun (bytes : List ℕ) (told : List (LineKind × List ℕ)) (before : Option LineKind) (rest : List ℕ) : Type 0 where
  pub trees : List LineTree
  pub lines : All IsLine trees
  pub order : AreInOrder None (map kind_of trees)
  pub last : last_kind None (map kind_of trees) ≡ before
  pub begins : bytes ≡ spelling trees ++ rest
  pub are : told ≡ map shown trees

pub begun_none : (bytes : List ℕ) → IsBegun bytes [] None bytes
begun_none bytes = record { trees = []; lines = All-nil IsLine; order = tt; last = refl; begins = refl; are = refl }

spelled_push : (ls : List LineTree) (l : LineTree) (r : List ℕ) → spelling (ls ++ l ∷ []) ++ r ≡ spelling ls ++ (line_text l ++ (10 ∷ r))
spelled_push [] l r = append_assoc (line_text l) (10 ∷ []) r
spelled_push (m ∷ ls) l r =
    spelled_cons m (ls ++ l ∷ []) r ∙ ap (λ z. line_text m ++ (10 ∷ z)) (spelled_push ls l r) ∙ sym (spelled_cons m ls (line_text l ++ (10 ∷ r)))

pub begun_more : (bytes : List ℕ) (told : List (LineKind × List ℕ)) (before : Option LineKind) (rest text others : List ℕ) (o : Option (List ℕ)) (t : LineText) → IsBegun bytes told before rest
    → IsSplit 10 rest text o → o ≡ Some others → IsToldLine before text (Some t) → IsBegun bytes (told ++ line_of t ∷ []) (Some t.kind) others
begun_more bytes told before rest text others o t h split some line =
    let l = line.0 in
    let is = line.1 in
    let kind : t.kind ≡ kind_of l = ap (λ p. p.0) line.2 in
    let kinds_are : map kind_of (h.trees ++ l ∷ []) ≡ map kind_of h.trees ++ kind_of l ∷ [] = map-append kind_of h.trees (l ∷ []) in
    let follows : Contains (successors (last_kind None (map kind_of h.trees))) (kind_of l) = subst (λ b. Contains (successors b) (kind_of l)) (sym h.last) is.follows in
    record {
      trees = h.trees ++ l ∷ [];
      lines = All-push IsLine h.trees l h.lines is.line;
      order = subst (AreInOrder None) (sym kinds_are) (order_append None (map kind_of h.trees) (kind_of l ∷ []) h.order (follows, tt));
      last = ap (last_kind None) kinds_are ∙ last_append None (map kind_of h.trees) (kind_of l ∷ []) ∙ ap Some (sym kind);
      begins = h.begins ∙ ap (λ z. spelling h.trees ++ z) (split.whole ∙ ap₂ (λ v p. v ++ after 10 p) (sym is.spelled) some) ∙ sym (spelled_push h.trees l others);
      are = ap₂ (λ x y. x ++ y ∷ []) h.are line.2 ∙ sym (map-append shown h.trees (l ∷ []));
    }

-- where the last is the end and nothing is left, the bytes are a text
pub begun_text : (bytes : List ℕ) (told : List (LineKind × List ℕ)) (before : Option LineKind) (rest : List ℕ) → IsBegun bytes told before rest → before ≡ Some kinds.End → rest ≡ [] → (ls : List LineTree) × IsText ls bytes × (told ≡ map shown ls)
begun_text bytes told before rest h end none =
    (h.trees, record { shape = record { lines = h.lines; order = h.order; last = h.last ∙ end }; spelled = sym (h.begins ∙ ap (λ z. spelling h.trees ++ z) none ∙ append-nil (spelling h.trees)) }, h.are)

-- no line of the grammar is next
pub no_newline : (before : Option LineKind) (rest text : List ℕ) (o : Option (List ℕ)) → IsSplit 10 rest text o → o ≡ None → ¬ IsNext before rest
no_newline before rest text o split none next =
    let found = split_one 10 text (line_text next.tree) o (Some next.others) split.free (line_unbroken next.tree next.line) (sym split.whole ∙ next.begins) in
    let bad : None ≡ Some next.others = sym none ∙ found.1 in
    absurd cc

pub no_line : (before : Option LineKind) (rest text : List ℕ) (o : Option (List ℕ)) → IsSplit 10 rest text o → IsToldLine before text None → ¬ IsNext before rest
no_line before rest text o split none next =
    let found = split_one 10 text (line_text next.tree) o (Some next.others) split.free (line_unbroken next.tree next.line) (sym split.whole ∙ next.begins) in
    none next.tree (record { line = next.line; spelled = sym found.0; follows = next.follows })

module _ (bytes : List ℕ) (told : List (LineKind × List ℕ)) (before : Option LineKind) (rest : List ℕ) (h : IsBegun bytes told before rest) (none : ¬ IsNext before rest) where
  no_longer : (ms : List LineTree) (q : List ℕ) → All IsLine ms → AreInOrder None (map kind_of ms) → bytes ≡ spelling ms ++ q → ¬ (length h.trees < length ms)
  no_longer ms q has order e short = none (subst (λ b. IsNext b rest) h.last (longer None h.trees ms rest q h.lines has order short (sym h.begins ∙ e)))

  -- the line after these is the first fault
  pub first_fault : (n : ℕ) → n ≡ length told + 1 → ¬ ((before ≡ Some kinds.End) × (rest ≡ [])) → IsFirstFault bytes n
  first_fault n is open_ = record {
    none = λ ms text. ⊎_elim (λ short. no_longer ms [] text.shape.lines text.shape.order (sym text.spelled ∙ sym (append-nil (spelling ms))) short) (λ long. not_whole ms text long) (cases_lt (length h.trees) (length ms));
    right = length h.trees;
    line = is ∙ ap (λ z. z + 1) (ap length h.are ∙ length-map h.trees shown);
    begins =
        let rest_lines = completed (last_kind None (map kind_of h.trees)) in
        record {
          lines = h.trees ++ rest_lines.lines;
          rest = rest;
          shape = shaped h.trees h.lines h.order rest_lines;
          within = omega (arith, length-append h.trees rest_lines.lines);
          begins = h.begins ∙ ap (λ z. spelling z ++ rest) (sym (take_front h.trees rest_lines.lines));
        };
    most = λ n front. ⊎_elim (λ short. absurd (too_long n front short)) (λ long. long) (cases_lt (length h.trees) n);
  }
    where
      not_whole : (ms : List LineTree) → IsText ms bytes → length ms ≤ length h.trees → ⊥
      not_whole ms text long =
          let found = whole None h.trees ms rest h.lines text.shape.lines text.shape.last long (sym h.begins ∙ sym text.spelled ∙ sym (append-nil (spelling ms))) in
          open_ (sym h.last ∙ found.0, found.1)

      too_long : (n : ℕ) → BeginsWith n bytes → length h.trees < n → ⊥
      too_long n front short =
          no_longer (take n front.lines) front.rest (All-take IsLine n front.lines front.shape.lines) (order_take None n front.lines front.shape.order) front.begins
          (omega (arith, short, length-take-le n front.lines front.within))
