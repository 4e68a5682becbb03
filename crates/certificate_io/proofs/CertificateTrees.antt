-- The lines that a certificate prints spell its text.
use Rattle.std.proofs.Common.{◌≡◌, ◌∙◌, ℕ, List, [], ◌∷◌, ◌++◌, Option, Some, None, length, map, refl, ap, ap₂}
use Rattle.std.specs.Prelude.{codes}
use Rattle.std.specs.List.{zip}
use Rattle.std.specs.Option.{option_map}
use Rattle.std.proofs.lemmas.List.{append_assoc, append-nil, map-append}
use Rattle.alg_core.specs.declared.term.Term.{Term as CodeTerm}
use Rattle.poly_module.specs.declared.vector.Comb.{Comb}
use Rattle.poly_text.specs.Texts.{residue_text}
use Rattle.certificate_io.specs.Certificates.{MatrixOf, EvidenceOf, Averages, Members, CertificateOf}
use Rattle.certificate_io.specs.Parts.{cell_in, tree_in, combination_in, power_in, image_in, member_in, evidence_in, moved_or_fixed, lines_in, parts_of}
use Rattle.certificate_io.specs.Parts as parts
use Rattle.certificate_io.specs.Syntax.{LineTree, VersionLine, FieldLine, NamesLine, MatrixLine, OrderLine, PrimaryLine, LiftLine, RankLine, SecondaryLine, IrreducibleLine, WordLine, EndLine, cell_text, line_text, spelling}
use Rattle.certificate_io.specs.Texts.{spaced, ended, matrix_line, polynomial_line, polynomial_bytes, power_line, power_lines, image_line, fixed_or_moved, member_line, evidence_lines, heading_lines, module_lines, generator_lines, certificate_lines, certificate_text}

-- lines of parts, each with its text
texts : {A B : Type 0} (C : B → LineTree) (part : A → B) (text : A → List ℕ) → ((x : A) → line_text (C (part x)) ≡ text x) → (xs : List A) → map line_text (map C (map part xs)) ≡ map text xs
texts C part text same [] = refl
texts C part text same (x ∷ xs) = ap₂ (λ a l. a ∷ l) (same x) (texts C part text same xs)

-- and the lines after them
texts_then : (ls ms : List LineTree) (xs ys : List (List ℕ)) → map line_text ls ≡ xs → map line_text ms ≡ ys → map line_text (ls ++ ms) ≡ xs ++ ys
texts_then ls ms xs ys a b = map-append line_text ls ms ∙ ap₂ (λ l m. l ++ m) a b

residues : (p : ℕ) (xs : List ℕ) → map cell_text (map (cell_in p) xs) ≡ map (residue_text p) xs
residues p [] = refl
residues p (x ∷ xs) = ap (λ l. residue_text p x ∷ l) (residues p xs)

matrix_spelled : (p : ℕ) (m : MatrixOf ℕ) → line_text (MatrixLine (map (cell_in p) m.cells)) ≡ matrix_line p m
unfolding line_text
matrix_spelled p m = ap (λ l. codes "matrix" ++ spaced l) (residues p m.cells)

last_word : (w bytes : List ℕ) → w ++ spaced (bytes ∷ []) ≡ w ++ (32 ∷ bytes)
last_word w bytes = ap (λ l. w ++ (32 ∷ l)) (append-nil bytes)

member_spelled : (p : ℕ) (ws : List (List ℕ)) (r m : ℕ) (u : List (CodeTerm ℕ (List ℕ))) (o : Option (Comb ℕ))
    → line_text (moved_or_fixed (tree_in p ws r u) (option_map (combination_in p m) o)) ≡ fixed_or_moved (polynomial_bytes p ws r u) p m o
unfolding line_text
member_spelled p ws r m u None = refl
member_spelled p ws r m u (Some c) = refl

evidence_spelled : (p : ℕ) (ws : List (List ℕ)) (r m : ℕ) (e : EvidenceOf ℕ) → map line_text (parts.evidence_lines (evidence_in p ws r m e)) ≡ evidence_lines p ws r m e
unfolding line_text
evidence_spelled p ws r m (Averages xs) = ap (λ l. codes "evidence reynolds" ∷ l) (texts parts.image_line (image_in p ws m) (image_line p ws m) (λ x. refl) xs)
evidence_spelled p ws r m (Members xs) = ap (λ l. codes "evidence kernel" ∷ l) (texts parts.member_line (member_in p ws r m) (member_line p ws r m) (λ x. member_spelled p ws r m x.u x.comb) xs)

-- the lines in their order, and by the parts of the text
regroup : (hs gs os ps ls ws rs ss es is ds ends : List (List ℕ))
    → hs ++ (gs ++ (os ++ (ps ++ (ls ++ (ws ++ (rs ++ (ss ++ (es ++ (is ++ (ds ++ ends))))))))))
    ≡ ((hs ++ gs) ++ os) ++ (((ps ++ ls) ++ ws) ++ rs) ++ ((((ss ++ es) ++ is) ++ ds) ++ ends)
regroup hs gs os ps ls ws rs ss es is ds ends = simp append_assoc

module _ (c : CertificateOf ℕ) where
  -- the lines spell the text
  pub certificate_spelled : spelling (lines_in (parts_of c)) ≡ certificate_text c
  unfolding line_text lines_in parts_of heading_lines module_lines generator_lines certificate_lines certificate_text
  certificate_spelled =
      let p = c.characteristic in
      let r = length c.primaries in
      let m = length c.secondaries in
      let matrices = texts MatrixLine (λ g. map (cell_in p) g.cells) (matrix_line p) (matrix_spelled p) c.matrices in
      let primaries = texts PrimaryLine (tree_in p c.names 0) (polynomial_line (codes "primary") p c.names 0) (λ f. last_word (codes "primary") (polynomial_bytes p c.names 0 f)) c.primaries in
      let lifts = texts LiftLine (tree_in p c.names r) (polynomial_line (codes "lift") p c.names r) (λ f. last_word (codes "lift") (polynomial_bytes p c.names r f)) c.lifts in
      let powers = texts parts.power_line (power_in p c.names r) (λ x. power_line p c.names r x.0 x.1) (λ x. refl) (zip c.names c.powers) in
      let secondaries = texts SecondaryLine (tree_in p c.names 0) (polynomial_line (codes "secondary") p c.names 0) (λ f. last_word (codes "secondary") (polynomial_bytes p c.names 0 f)) c.secondaries in
      let evidence = evidence_spelled p c.names r m c.evidence in
      let irreducibles = texts IrreducibleLine (tree_in p c.names 0) (polynomial_line (codes "irreducible") p c.names 0) (λ f. last_word (codes "irreducible") (polynomial_bytes p c.names 0 f)) c.irreducibles in
      let words = texts WordLine (tree_in p [] r) (polynomial_line (codes "word") p [] r) (λ f. last_word (codes "word") (polynomial_bytes p [] r f)) c.words in
      let from_words = texts_then _ (EndLine ∷ []) _ (codes "end" ∷ []) words refl in
      let from_irreducibles = texts_then _ _ _ _ irreducibles from_words in
      let from_evidence = texts_then _ _ _ _ evidence from_irreducibles in
      let from_secondaries = texts_then _ _ _ _ secondaries from_evidence in
      let from_powers = texts_then _ (RankLine c.rank ∷ _) _ _ powers (ap (λ l. line_text (RankLine c.rank) ∷ l) from_secondaries) in
      let from_lifts = texts_then _ _ _ _ lifts from_powers in
      let from_primaries = texts_then _ _ _ _ primaries from_lifts in
      let from_matrices = texts_then _ (OrderLine c.order ∷ _) _ _ matrices (ap (λ l. line_text (OrderLine c.order) ∷ l) from_primaries) in
      ap ended (ap (λ l. line_text VersionLine ∷ line_text (FieldLine p) ∷ line_text (NamesLine c.names) ∷ l) from_matrices
      ∙ regroup (line_text VersionLine ∷ line_text (FieldLine p) ∷ line_text (NamesLine c.names) ∷ []) (map (matrix_line p) c.matrices) (line_text (OrderLine c.order) ∷ [])
      (map (polynomial_line (codes "primary") p c.names 0) c.primaries) (map (polynomial_line (codes "lift") p c.names r) c.lifts) (power_lines p c.names r c.names c.powers) (line_text (RankLine c.rank) ∷ [])
      (map (polynomial_line (codes "secondary") p c.names 0) c.secondaries) (evidence_lines p c.names r m c.evidence) (map (polynomial_line (codes "irreducible") p c.names 0) c.irreducibles)
      (map (polynomial_line (codes "word") p [] r) c.words) (codes "end" ∷ []))
