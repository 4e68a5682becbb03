-- The first fault of a text is the first one of its sections.
use Rattle.std.proofs.Common.{◌≡◌, ◌∙◌, ℕ, suc, ◌+◌, List, [], ◌∷◌, ◌++◌, Option, Some, None, length, map, refl, sym, ap, ap₂, append_assoc, append-nil, arith}
use Rattle.std.specs.Option.{option_or}
use Rattle.alg_core.specs.PolynomialSpaces.{plain_space, marked_space}
use Rattle.alg_core.specs.Spaces.{SpaceOver}
use Rattle.alg_core.specs.declared.value_kind.ValueKind.{ValueKind}
use Rattle.poly_text.specs.Syntax.{Term}
use Rattle.poly_text.specs.Values.{fault_or}
use Rattle.poly_text.specs.declared.names.Names.{Names}
use Rattle.certificate_io.specs.LineReadings.{power_kind, image_kind, member_kind, comb_kind_of}
use Rattle.certificate_io.specs.Parts.{PowerTree, ImageTree, MemberTree, power_line, image_line, member_line}
use Rattle.certificate_io.specs.Readings.{on_line, run_fault, matrix_kind, poly_kind}
use Rattle.certificate_io.specs.Spaces.{field_at, combination_space, plain_names, marked_names}
use Rattle.certificate_io.specs.Syntax.{LineTree, MatrixLine, PrimaryLine, LiftLine, SecondaryLine, IrreducibleLine, WordLine}
use Rattle.certificate_io.specs.Values.{Seen, tree_degree, seen_after, plain_fault, marked_fault, word_fault, line_fault, first_fault}
use Rattle.certificate_io.specs.declared.words.Cell.{Cell}

-- what the lines tell together
abbrev pub seen_all : Seen → List LineTree → Seen
seen_all s [] = s
seen_all s (l ∷ ls) = seen_all (seen_after s l) ls

fault_or_both : (i : ℕ) (a : Option ValueKind) (b c : Option (ℕ × ValueKind)) → fault_or i a (option_or b c) ≡ option_or (fault_or i a b) c
fault_or_both i None b c = refl
fault_or_both i (Some k) b c = refl

pub one_line : (i : ℕ) (a : Option ValueKind) (rest : Option (ℕ × ValueKind)) → fault_or i a rest ≡ option_or (on_line i a) rest
one_line i None rest = refl
one_line i (Some k) rest = refl

pub or_none : {A : Type 0} (o : Option A) → option_or o None ≡ o
or_none None = refl
or_none (Some x) = refl

-- the lines of parts, each by C, the part at the place k with the fault f k, while the lines so far tell what I says
module _ {T : Type 0} (C : T → LineTree) (f : ℕ → T → Option ValueKind) (I : ℕ → Seen → Type 0)
    (same : (k : ℕ) (s : Seen) (x : T) → I k s → line_fault s (C x) ≡ f k x)
    (keeps : (k : ℕ) (s : Seen) (x : T) → I k s → I (suc k) (seen_after s (C x))) where
  pub run_chain : (i k : ℕ) (s : Seen) (xs : List T) (more : List LineTree) → I k s
      → first_fault i s (map C xs ++ more) ≡ option_or (run_fault f i k xs) (first_fault (i + length xs) (seen_all s (map C xs)) more)
  run_chain i k s [] more h = let e : i ≡ i + 0 = omega arith in ap (λ n. first_fault n s more) e
  run_chain i k s (x ∷ xs) more h =
      let t = seen_after s (C x) in
      let e : suc i + length xs ≡ i + length (x ∷ xs) = omega arith in
      ap₂ (fault_or i) (same k s x h) (run_chain (suc i) (suc k) t xs more (keeps k s x h) ∙ ap (λ n. option_or (run_fault f (suc i) (suc k) xs) (first_fault n (seen_all t (map C xs)) more)) e)
      ∙ fault_or_both i (f k x) (run_fault f (suc i) (suc k) xs) (first_fault (i + length (x ∷ xs)) (seen_all t (map C xs)) more)

-- lines that tell nothing
seen_still : {T : Type 0} (C : T → LineTree) → ((s : Seen) (x : T) → seen_after s (C x) ≡ s) → (s : Seen) (xs : List T) → seen_all s (map C xs) ≡ s
seen_still C still s [] = refl
seen_still C still s (x ∷ xs) = ap (λ z. seen_all z (map C xs)) (still s x) ∙ seen_still C still s xs

module _ {T : Type 0} (C : T → LineTree) (still : (s : Seen) (x : T) → seen_after s (C x) ≡ s) where
  still_chain : (i : ℕ) (s : Seen) (xs : List T) (more : List LineTree) → first_fault i s (map C xs ++ more) ≡ option_or (run_fault (λ _ x. line_fault s (C x)) i 0 xs) (first_fault (i + length xs) s more)
  still_chain i s xs more =
      run_chain C (λ _ x. line_fault s (C x)) (λ _ z. z ≡ s) (λ k z x h. ap (λ y. line_fault y (C x)) h) (λ k z x h. ap (λ y. seen_after y (C x)) h ∙ still s x) i 0 s xs more refl
      ∙ ap (λ z. option_or (run_fault (λ _ x. line_fault s (C x)) i 0 xs) (first_fault (i + length xs) z more)) (seen_still C still s xs)

primaries_seen : (s : Seen) (xs : List (List Term)) → seen_all s (map PrimaryLine xs) ≡ record s { degrees = s.degrees ++ map (tree_degree s) xs }
primaries_seen s [] = ap (λ ds. record s { degrees = ds }) (sym (append-nil s.degrees))
primaries_seen s (x ∷ xs) =
    primaries_seen (record s { degrees = s.degrees ++ (tree_degree s x ∷ []) }) xs ∙ ap (λ ds. record s { degrees = ds }) (append_assoc s.degrees (tree_degree s x ∷ []) (map (tree_degree s) xs))

secondaries_seen : (s : Seen) (xs : List (List Term)) → seen_all s (map SecondaryLine xs) ≡ record s { secondary_degrees = s.secondary_degrees ++ map (tree_degree s) xs }
secondaries_seen s [] = ap (λ ds. record s { secondary_degrees = ds }) (sym (append-nil s.secondary_degrees))
secondaries_seen s (x ∷ xs) =
    secondaries_seen (record s { secondary_degrees = s.secondary_degrees ++ (tree_degree s x ∷ []) }) xs
    ∙ ap (λ ds. record s { secondary_degrees = ds }) (append_assoc s.secondary_degrees (tree_degree s x ∷ []) (map (tree_degree s) xs))

irreducibles_seen : (s : Seen) (xs : List (List Term)) → seen_all s (map IrreducibleLine xs) ≡ record s { irreducible_degrees = s.irreducible_degrees ++ map (tree_degree s) xs }
irreducibles_seen s [] = ap (λ ds. record s { irreducible_degrees = ds }) (sym (append-nil s.irreducible_degrees))
irreducibles_seen s (x ∷ xs) =
    irreducibles_seen (record s { irreducible_degrees = s.irreducible_degrees ++ (tree_degree s x ∷ []) }) xs
    ∙ ap (λ ds. record s { irreducible_degrees = ds }) (append_assoc s.irreducible_degrees (tree_degree s x ∷ []) (map (tree_degree s) xs))

powers_seen : (s : Seen) (xs : List PowerTree) → seen_all s (map power_line xs) ≡ record s { powers = s.powers + length xs }
powers_seen s [] = let e : s.powers ≡ s.powers + 0 = omega arith in ap (λ n. record s { powers = n }) e
powers_seen s (x ∷ xs) =
    let e : (s.powers + 1) + length xs ≡ s.powers + length (x ∷ xs) = omega arith in
    powers_seen (record s { powers = s.powers + 1 }) xs ∙ ap (λ n. record s { powers = n }) e

words_seen : (s : Seen) (xs : List (List Term)) → seen_all s (map WordLine xs) ≡ record s { words = s.words + length xs }
words_seen s [] = let e : s.words ≡ s.words + 0 = omega arith in ap (λ n. record s { words = n }) e
words_seen s (x ∷ xs) =
    let e : (s.words + 1) + length xs ≡ s.words + length (x ∷ xs) = omega arith in
    words_seen (record s { words = s.words + 1 }) xs ∙ ap (λ n. record s { words = n }) e

-- of lines of polynomials in the variables the fault is told by the characteristic and the names
abbrev IsPlain : Seen → ℕ → Seen → Type 0
IsPlain s k z = (z.characteristic ≡ s.characteristic) × (z.names ≡ s.names)

plain_same : (s z : Seen) (k : ℕ) (x : List Term) → IsPlain s k z → plain_fault z x ≡ plain_fault s x
plain_same s z k x h = ap₂ (λ p ns. poly_kind (plain_space (field_at p) (length ns)) (plain_names ns) x) h.0 h.1

module _ (i : ℕ) (s : Seen) (more : List LineTree) where
  pub matrices_chain : (xs : List (List Cell)) → first_fault i s (map MatrixLine xs ++ more) ≡ option_or (run_fault (λ _ cs. matrix_kind s.characteristic (length s.names) cs) i 0 xs) (first_fault (i + length xs) s more)
  matrices_chain xs = still_chain MatrixLine (λ z x. refl) i s xs more

  pub primaries_chain : (xs : List (List Term))
      → first_fault i s (map PrimaryLine xs ++ more) ≡ option_or (run_fault (λ _ ts. plain_fault s ts) i 0 xs) (first_fault (i + length xs) (record s { degrees = s.degrees ++ map (tree_degree s) xs }) more)
  primaries_chain xs =
      run_chain PrimaryLine (λ _ ts. plain_fault s ts) (IsPlain s) (λ k z x h. plain_same s z k x h) (λ k z x h. h) i 0 s xs more (refl, refl)
      ∙ ap (λ z. option_or (run_fault (λ _ ts. plain_fault s ts) i 0 xs) (first_fault (i + length xs) z more)) (primaries_seen s xs)

  pub secondaries_chain : (xs : List (List Term))
      → first_fault i s (map SecondaryLine xs ++ more)
      ≡ option_or (run_fault (λ _ ts. plain_fault s ts) i 0 xs) (first_fault (i + length xs) (record s { secondary_degrees = s.secondary_degrees ++ map (tree_degree s) xs }) more)
  secondaries_chain xs =
      run_chain SecondaryLine (λ _ ts. plain_fault s ts) (IsPlain s) (λ k z x h. plain_same s z k x h) (λ k z x h. h) i 0 s xs more (refl, refl)
      ∙ ap (λ z. option_or (run_fault (λ _ ts. plain_fault s ts) i 0 xs) (first_fault (i + length xs) z more)) (secondaries_seen s xs)

  pub irreducibles_chain : (xs : List (List Term))
      → first_fault i s (map IrreducibleLine xs ++ more)
      ≡ option_or (run_fault (λ _ ts. plain_fault s ts) i 0 xs) (first_fault (i + length xs) (record s { irreducible_degrees = s.irreducible_degrees ++ map (tree_degree s) xs }) more)
  irreducibles_chain xs =
      run_chain IrreducibleLine (λ _ ts. plain_fault s ts) (IsPlain s) (λ k z x h. plain_same s z k x h) (λ k z x h. h) i 0 s xs more (refl, refl)
      ∙ ap (λ z. option_or (run_fault (λ _ ts. plain_fault s ts) i 0 xs) (first_fault (i + length xs) z more)) (irreducibles_seen s xs)

  pub lifts_chain : (xs : List (List Term)) → first_fault i s (map LiftLine xs ++ more) ≡ option_or (run_fault (λ _ ts. marked_fault s ts) i 0 xs) (first_fault (i + length xs) s more)
  lifts_chain xs = still_chain LiftLine (λ z x. refl) i s xs more

  abbrev marked : SpaceOver ℕ
  marked = marked_space (field_at s.characteristic) (length s.names) s.degrees

  abbrev names_marked : Names
  names_marked = marked_names s.names (length s.degrees)

  pub powers_chain : (xs : List PowerTree)
      → first_fault i s (map power_line xs ++ more) ≡ option_or (run_fault (power_kind marked names_marked) i s.powers xs) (first_fault (i + length xs) (record s { powers = s.powers + length xs }) more)
  powers_chain xs =
      run_chain power_line (power_kind marked names_marked) (λ k z. z ≡ record s { powers = k }) (λ k z x h. ap (λ y. line_fault y (power_line x)) h)
      (λ k z x h. ap (λ y. seen_after y (power_line x)) h ∙ (let e : k + 1 ≡ suc k = omega arith in ap (λ n. record s { powers = n }) e)) i s.powers s xs more refl
      ∙ ap (λ z. option_or (run_fault (power_kind marked names_marked) i s.powers xs) (first_fault (i + length xs) z more)) (powers_seen s xs)

  abbrev combined : SpaceOver ℕ
  combined = combination_space (field_at s.characteristic) s.degrees s.secondary_degrees

  abbrev plain : SpaceOver ℕ
  plain = plain_space (field_at s.characteristic) (length s.names)

  pub images_chain : (xs : List ImageTree)
      → first_fault i s (map image_line xs ++ more) ≡ option_or (run_fault (λ _ x. image_kind plain combined (plain_names s.names) x) i 0 xs) (first_fault (i + length xs) s more)
  images_chain xs = still_chain image_line (λ z x. refl) i s xs more

  member_still : (z : Seen) (u : List Term) (o : Option (List Term)) → seen_after z (member_line (record { polynomial = u; combination = o })) ≡ z
  member_still z u None = refl
  member_still z u (Some v) = refl

  member_same : (u : List Term) (o : Option (List Term)) → line_fault s (member_line (record { polynomial = u; combination = o })) ≡ option_or (marked_fault s u) (comb_kind_of combined o)
  member_same u None = sym (or_none (marked_fault s u))
  member_same u (Some v) = refl

  pub members_chain : (xs : List MemberTree)
      → first_fault i s (map member_line xs ++ more) ≡ option_or (run_fault (λ _ x. member_kind marked combined names_marked x) i 0 xs) (first_fault (i + length xs) s more)
  members_chain xs =
      run_chain member_line (λ _ x. member_kind marked combined names_marked x) (λ _ z. z ≡ s) (λ k z x h. ap (λ y. line_fault y (member_line x)) h ∙ member_same x.polynomial x.combination)
      (λ k z x h. ap (λ y. seen_after y (member_line x)) h ∙ member_still s x.polynomial x.combination) i 0 s xs more refl
      ∙ ap (λ z. option_or (run_fault (λ _ x. member_kind marked combined names_marked x) i 0 xs) (first_fault (i + length xs) z more)) (seen_still member_line (λ z x. member_still z x.polynomial x.combination) s xs)

  pub words_chain : (xs : List (List Term))
      → first_fault i s (map WordLine xs ++ more) ≡ option_or (run_fault (λ _ ts. word_fault s ts) i s.words xs) (first_fault (i + length xs) (record s { words = s.words + length xs }) more)
  words_chain xs =
      run_chain WordLine (λ _ ts. word_fault s ts) (λ k z. z ≡ record s { words = k }) (λ k z x h. ap (λ y. line_fault y (WordLine x)) h)
      (λ k z x h. ap (λ y. seen_after y (WordLine x)) h ∙ (let e : k + 1 ≡ suc k = omega arith in ap (λ n. record s { words = n }) e)) i s.words s xs more refl
      ∙ ap (λ z. option_or (run_fault (λ _ ts. word_fault s ts) i s.words xs) (first_fault (i + length xs) z more)) (words_seen s xs)
