-- The lines of the parts of a text stand in an order of the grammar.
use Rattle.std.proofs.Common.{◌≡◌, List, [], ◌∷◌, ◌++◌, Option, Some, None, ◌⊎◌, inl, inr, map, refl, sym, subst, arith}
use Rattle.std.specs.Prelude.{All}
use Rattle.std.specs.List.{Contains}
use Rattle.std.proofs.lemmas.List.Elements.{All-nil, All-cons, All-head, All-tail}
use Rattle.poly_text.specs.Syntax.{Term}
use Rattle.certificate_io.specs.Parts.{PowerTree, ImageTree, MemberTree, EvidenceTree, Images, Kernel, TextParts, AreParts, IsSomeOf, IsPowerTree, IsImageTree, IsMemberTree, IsEvidenceTree, power_line, image_line, member_line, evidence_lines, lines_in}
use Rattle.certificate_io.specs.Syntax.{LineTree, VersionLine, FieldLine, NamesLine, MatrixLine, OrderLine, PrimaryLine, LiftLine, RankLine, SecondaryLine, ReynoldsLine, KernelLine, IrreducibleLine, WordLine, EndLine, IsCell, IsLine, IsPolynomial, IsShaped, AreInOrder, kind_of, last_kind, successors, successors_of}
use Rattle.certificate_io.specs.declared.line_kind.LineKind.{LineKind}
use Rattle.certificate_io.specs.declared.line_kind.LineKind.TheVariants as kinds

-- lines that end a text after one of the kind b
record AreLast (b : Option LineKind) (ls : List LineTree) : Type 0 where
  lines : All IsLine ls
  order : AreInOrder b (map kind_of ls)
  last : last_kind b (map kind_of ls) ≡ Some kinds.End

last_cons : (b : Option LineKind) (l : LineTree) (ls : List LineTree) → IsLine l → Contains (successors b) (kind_of l) → AreLast (Some (kind_of l)) ls → AreLast b (l ∷ ls)
last_cons b l ls is follows h = record { lines = All-cons IsLine l ls is h.lines; order = (follows, h.order); last = h.last }

-- lines of parts, of the kinds S
module _ {A : Type 0} (C : A → LineTree) (P : A → Type 0) (S : LineKind → Type 0) (line : (x : A) → P x → IsLine (C x)) (kind : (x : A) → S (kind_of (C x)))
    (stays : (k : LineKind) → S k → (x : A) → Contains (successors_of k) (kind_of (C x))) (more : List LineTree) (after : (k : LineKind) → S k → AreLast (Some k) more) where
  run_last : (k : LineKind) → S k → (xs : List A) → All P xs → AreLast (Some k) (map C xs ++ more)
  run_last k s [] all = after k s
  run_last k s (x ∷ xs) all = last_cons (Some k) (C x) (map C xs ++ more) (line x (All-head P x xs all)) (stays k s x) (run_last (kind_of (C x)) (kind x) xs (All-tail P x xs all))

  -- where there is one at least
  begun_last : (b : Option LineKind) → ((x : A) → Contains (successors b) (kind_of (C x))) → (xs : List A) → IsSomeOf P xs → AreLast b (map C xs ++ more)
  begun_last b begins [] all = absurd (let some = all.0 in omega (arith, some))
  begun_last b begins (x ∷ xs) all = last_cons b (C x) (map C xs ++ more) (line x (All-head P x xs all.1)) (begins x) (run_last (kind_of (C x)) (kind x) xs (All-tail P x xs all.1))

-- of one kind K
module _ {A : Type 0} (C : A → LineTree) (P : A → Type 0) (K : LineKind) (line : (x : A) → P x → IsLine (C x)) (kind : (x : A) → kind_of (C x) ≡ K)
    (stays : Contains (successors_of K) K) (more : List LineTree) (after : AreLast (Some K) more) where
  kind_last : (b : Option LineKind) → Contains (successors b) K → (xs : List A) → IsSomeOf P xs → AreLast b (map C xs ++ more)
  kind_last b begins xs all =
      begun_last C P (λ k. k ≡ K) line kind
      (λ k s x. subst (λ j. Contains (successors_of j) (kind_of (C x))) (sym s) (subst (Contains (successors_of K)) (sym (kind x)) stays)) more
      (λ k s. subst (λ j. AreLast (Some j) more) (sym s) after) b (λ x. subst (Contains (successors b)) (sym (kind x)) begins) xs all

power_is : (x : PowerTree) → IsPowerTree x → IsLine (power_line x)
power_is x h = (h.name, h.exponent, h.form)

image_is : (x : ImageTree) → IsImageTree x → IsLine (image_line x)
image_is x h = (h.monomial, h.combination)

abbrev member_tree : List Term → Option (List Term) → MemberTree
member_tree u o = record { polynomial = u; combination = o }

member_is : (u : List Term) (o : Option (List Term)) → IsMemberTree (member_tree u o) → IsLine (member_line (member_tree u o))
member_is u None h = h.polynomial
member_is u (Some v) h = (h.polynomial, h.combination)

abbrev IsOfMember : LineKind → Type 0
IsOfMember k = (k ≡ kinds.Moved) ⊎ (k ≡ kinds.Fixed)

member_kind : (u : List Term) (o : Option (List Term)) → IsOfMember (kind_of (member_line (member_tree u o)))
member_kind u None = inl refl
member_kind u (Some v) = inr refl

-- a line of a member may stand after one, and after that of the kernel
member_stays : (k : LineKind) → IsOfMember k → (u : List Term) (o : Option (List Term)) → Contains (successors_of k) (kind_of (member_line (member_tree u o)))
member_stays k (inl e) u None = subst (λ j. Contains (successors_of j) kinds.Moved) (sym e) (0, omega arith, refl)
member_stays k (inl e) u (Some v) = subst (λ j. Contains (successors_of j) kinds.Fixed) (sym e) (1, omega arith, refl)
member_stays k (inr e) u None = subst (λ j. Contains (successors_of j) kinds.Moved) (sym e) (0, omega arith, refl)
member_stays k (inr e) u (Some v) = subst (λ j. Contains (successors_of j) kinds.Fixed) (sym e) (1, omega arith, refl)

member_begins : (u : List Term) (o : Option (List Term)) → Contains (successors (Some kinds.Kernel)) (kind_of (member_line (member_tree u o)))
member_begins u None = (0, omega arith, refl)
member_begins u (Some v) = (1, omega arith, refl)

module _ (t : TextParts) (are : AreParts t) where
  abbrev word_lines : List LineTree
  word_lines = map WordLine t.words ++ (EndLine ∷ [])

  end_last : AreLast (Some kinds.Word) (EndLine ∷ [])
  end_last = last_cons (Some kinds.Word) EndLine [] tt (1, omega arith, refl) (record { lines = All-nil IsLine; order = tt; last = refl })

  words_last : (b : Option LineKind) → Contains (successors b) kinds.Word → AreLast b word_lines
  words_last b begins = kind_last WordLine IsPolynomial kinds.Word (λ x h. h) (λ x. refl) (0, omega arith, refl) (EndLine ∷ []) end_last b begins t.words are.words

  abbrev irreducible_lines : List LineTree
  irreducible_lines = map IrreducibleLine t.irreducibles ++ word_lines

  irreducibles_last : (b : Option LineKind) → Contains (successors b) kinds.Irreducible → Contains (successors b) kinds.Word → AreLast b irreducible_lines
  irreducibles_last b begins ends = go t.irreducibles are.irreducibles
    where
      go : (is : List (List Term)) → All IsPolynomial is → AreLast b (map IrreducibleLine is ++ word_lines)
      go [] all = words_last b ends
      go (x ∷ xs) all =
          kind_last IrreducibleLine IsPolynomial kinds.Irreducible (λ x h. h) (λ x. refl) (0, omega arith, refl) word_lines (words_last (Some kinds.Irreducible) (1, omega arith, refl)) b begins (x ∷ xs) (omega arith, all)

  abbrev evidence_then : List LineTree
  evidence_then = evidence_lines t.evidence ++ irreducible_lines

  after_member : (k : LineKind) → IsOfMember k → AreLast (Some k) irreducible_lines
  after_member k (inl e) = subst (λ j. AreLast (Some j) irreducible_lines) (sym e) (irreducibles_last (Some kinds.Moved) (2, omega arith, refl) (3, omega arith, refl))
  after_member k (inr e) = subst (λ j. AreLast (Some j) irreducible_lines) (sym e) (irreducibles_last (Some kinds.Fixed) (2, omega arith, refl) (3, omega arith, refl))

  evidence_last : AreLast (Some kinds.Secondary) evidence_then
  evidence_last = go t.evidence are.evidence
    where
      go : (e : EvidenceTree) → IsEvidenceTree e → AreLast (Some kinds.Secondary) (evidence_lines e ++ irreducible_lines)
      go (Images xs) all =
          last_cons (Some kinds.Secondary) ReynoldsLine (map image_line xs ++ irreducible_lines) tt (1, omega arith, refl)
          (kind_last image_line IsImageTree kinds.Image image_is (λ x. refl) (0, omega arith, refl) irreducible_lines (irreducibles_last (Some kinds.Image) (1, omega arith, refl) (2, omega arith, refl)) (Some kinds.Reynolds) (0, omega arith, refl) xs all)
      go (Kernel xs) all =
          last_cons (Some kinds.Secondary) KernelLine (map member_line xs ++ irreducible_lines) tt (2, omega arith, refl)
          (begun_last member_line IsMemberTree IsOfMember (λ x h. member_is x.polynomial x.combination h) (λ x. member_kind x.polynomial x.combination) (λ k s x. member_stays k s x.polynomial x.combination) irreducible_lines after_member (Some kinds.Kernel)
          (λ x. member_begins x.polynomial x.combination) xs all)

  abbrev secondary_lines : List LineTree
  secondary_lines = map SecondaryLine t.secondaries ++ evidence_then

  rank_last : AreLast (Some kinds.Power) (RankLine t.rank ∷ secondary_lines)
  rank_last =
      last_cons (Some kinds.Power) (RankLine t.rank) secondary_lines are.rank (1, omega arith, refl)
      (kind_last SecondaryLine IsPolynomial kinds.Secondary (λ x h. h) (λ x. refl) (0, omega arith, refl) evidence_then evidence_last (Some kinds.Rank) (0, omega arith, refl) t.secondaries are.secondaries)

  abbrev power_lines : List LineTree
  power_lines = map power_line t.powers ++ (RankLine t.rank ∷ secondary_lines)

  powers_last : AreLast (Some kinds.Lift) power_lines
  powers_last = kind_last power_line IsPowerTree kinds.Power power_is (λ x. refl) (0, omega arith, refl) (RankLine t.rank ∷ secondary_lines) rank_last (Some kinds.Lift) (1, omega arith, refl) t.powers are.powers

  abbrev lift_lines : List LineTree
  lift_lines = map LiftLine t.lifts ++ power_lines

  lifts_last : AreLast (Some kinds.Primary) lift_lines
  lifts_last = kind_last LiftLine IsPolynomial kinds.Lift (λ x h. h) (λ x. refl) (0, omega arith, refl) power_lines powers_last (Some kinds.Primary) (1, omega arith, refl) t.lifts are.lifts

  abbrev primary_lines : List LineTree
  primary_lines = map PrimaryLine t.primaries ++ lift_lines

  order_last : AreLast (Some kinds.Matrix) (OrderLine t.order ∷ primary_lines)
  order_last =
      last_cons (Some kinds.Matrix) (OrderLine t.order) primary_lines are.order (1, omega arith, refl)
      (kind_last PrimaryLine IsPolynomial kinds.Primary (λ x h. h) (λ x. refl) (0, omega arith, refl) lift_lines lifts_last (Some kinds.Order) (0, omega arith, refl) t.primaries are.primaries)

  abbrev matrix_lines : List LineTree
  matrix_lines = map MatrixLine t.matrices ++ (OrderLine t.order ∷ primary_lines)

  matrices_last : AreLast (Some kinds.Names) matrix_lines
  matrices_last = kind_last MatrixLine (IsSomeOf IsCell) kinds.Matrix (λ x h. h) (λ x. refl) (0, omega arith, refl) (OrderLine t.order ∷ primary_lines) order_last (Some kinds.Names) (0, omega arith, refl) t.matrices are.matrices

  pub parts_shaped : IsShaped (lines_in t)
  unfolding lines_in
  parts_shaped =
      let names = last_cons (Some kinds.Field) (NamesLine t.names) matrix_lines are.names (0, omega arith, refl) matrices_last in
      let field = last_cons (Some kinds.Version) (FieldLine t.characteristic) (NamesLine t.names ∷ matrix_lines) are.characteristic (0, omega arith, refl) names in
      let all = last_cons None VersionLine (FieldLine t.characteristic ∷ NamesLine t.names ∷ matrix_lines) tt (0, omega arith, refl) field in
      record { lines = all.lines; order = all.order; last = all.last }
