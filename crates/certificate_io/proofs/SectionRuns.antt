-- The lines of a text, cut into sections.
use Rattle.std.proofs.Common.{◌≡◌, ◌≢◌, ◌∙◌, ◌⊎◌, inl, inr, ℕ, zero, suc, ◌+◌, ◌≤◌, Bool, true, false, Option, Some, None, List, [], ◌∷◌, ◌++◌, length, map, take, drop, refl, sym, ap, ap₂, subst, arith}
use Rattle.std.specs.Prelude.{◌↔◌, All, if◌then◌else◌}
use Rattle.std.proofs.lemmas.List.{length-map}
use Rattle.std.proofs.lemmas.List.Elements.{All-nil, All-cons, All-head, All-tail}
use Rattle.certificate_io.specs.Lines.{joined, line_of, shown, words}
use Rattle.poly_text.specs.Syntax.{Term, spelling}
use Rattle.certificate_io.specs.PartFaults.{evidence_length}
use Rattle.certificate_io.specs.Parts.{TextParts, EvidenceTree, Images, Kernel, evidence_lines, image_line, member_line, moved_or_fixed}
use Rattle.certificate_io.specs.Readings.{tails, image_text, member_text, words_after}
use Rattle.certificate_io.specs.Sections.{section_kind, IsIn, Stops, StopsLines, IsSection, IsRun, IsEvidenceRun}
use Rattle.certificate_io.specs.Syntax.{LineTree, ReynoldsLine, KernelLine, IrreducibleLine, WordLine, EndLine, kind_of}
use Rattle.certificate_io.specs.declared.line_kind.LineKind.{LineKind}
use Rattle.certificate_io.specs.declared.line_kind.LineKind.TheVariants as kinds
use Rattle.certificate_io.specs.declared.line_text.LineText.{LineText}
use Rattle.certificate_io.specs.declared.sections.Section.{Section}

pub record IsCut (ls ms : List LineTree) (lines : List LineText) (n : ℕ) : Type 0 where
  pub count : n ≡ length ls
  pub first : map line_of (take n lines) ≡ map shown ls
  pub rest : map line_of (drop n lines) ≡ map shown ms

-- there is one cut where a section ends
pub run_cut : (kind : LineKind) (ls ms : List LineTree) (lines : List LineText) (n : ℕ) → map line_of lines ≡ map shown (ls ++ ms) → All (λ l. section_kind (kind_of l) ≡ kind) ls → StopsLines kind ms
    → n ≤ length lines → All (IsIn kind) (take n lines) → Stops kind (drop n lines) → IsCut ls ms lines n
run_cut kind [] ms lines zero same each stops low run stop = record { count = refl; first = refl; rest = same }
run_cut kind [] ms [] (suc n) same each stops low run stop = absurd (omega (arith, low))
run_cut kind [] [] (x ∷ lines) (suc n) same each stops low run stop = absurd cc
run_cut kind [] (m ∷ ms) (x ∷ lines) (suc n) same each stops low run stop =
    let one : line_of x ≡ shown m = cc in
    absurd (stops (ap section_kind (sym (ap (λ p. p.0) one)) ∙ All-head (IsIn kind) x (take n lines) run))
run_cut kind (l ∷ ls) ms [] n same each stops low run stop = absurd cc
run_cut kind (l ∷ ls) ms (x ∷ lines) zero same each stops low run stop =
    let one : line_of x ≡ shown l = cc in
    absurd (stop (ap section_kind (ap (λ p. p.0) one) ∙ All-head (λ l. section_kind (kind_of l) ≡ kind) l ls each))
run_cut kind (l ∷ ls) ms (x ∷ lines) (suc n) same each stops low run stop =
    let one : line_of x ≡ shown l = cc in
    let others : map line_of lines ≡ map shown (ls ++ ms) = cc in
    let rest = run_cut kind ls ms lines n others (All-tail (λ l. section_kind (kind_of l) ≡ kind) l ls each) stops (omega (arith, low)) (All-tail (IsIn kind) x (take n lines) run) stop in
    record { count = ap suc rest.count; first = ap₂ (λ y ys. y ∷ ys) one rest.first; rest = rest.rest }

pub renumbered : (i j : ℕ) (ls : List LineTree) (s : Section) → i ≡ j → IsSection i ls s → IsSection j ls s
renumbered i j ls s e h = (h.0 ∙ e, h.1)

tails_shown : (ls : List LineText) → tails ls ≡ map (λ p. p.1) (map line_of ls)
tails_shown [] = refl
tails_shown (l ∷ ls) = ap (λ ws. l.tail.now ∷ ws) (tails_shown ls)

module _ {T : Type 0} (C : T → LineTree) where
  -- the lines of one constructor are in its section
  pub in_run : (kind : LineKind) → ((x : T) → section_kind (kind_of (C x)) ≡ kind) → (xs : List T) → All (λ l. section_kind (kind_of l) ≡ kind) (map C xs)
  in_run kind is [] = All-nil (λ l. section_kind (kind_of l) ≡ kind)
  in_run kind is (x ∷ xs) = All-cons (λ l. section_kind (kind_of l) ≡ kind) (C x) (map C xs) (is x) (in_run kind is xs)

  -- those of another end it
  pub stops_run : (kind : LineKind) → ((x : T) → section_kind (kind_of (C x)) ≢ kind) → (xs : List T) (more : List LineTree) → StopsLines kind more → StopsLines kind (map C xs ++ more)
  stops_run kind other [] more stops = stops
  stops_run kind other (x ∷ xs) more stops = other x

  module _ (text : T → List ℕ) (said : (x : T) → joined (words (C x)) ≡ text x) where
    texts_shown : (xs : List T) → map (λ p. p.1) (map shown (map C xs)) ≡ map text xs
    texts_shown [] = refl
    texts_shown (x ∷ xs) = ap₂ (λ w ws. w ∷ ws) (said x) (texts_shown xs)

    pub run_of : (i : ℕ) (xs : List T) (s : Section) → IsSection i (map C xs) s → IsRun text i xs s
    run_of i xs s h = record { number = h.0; tails = tails_shown s.lines.now ∙ ap (map (λ p. p.1)) h.1 ∙ texts_shown xs }

  -- the number of the line after a section
  pub after_run : (i : ℕ) (xs : List T) (ls : List LineTree) (s : Section) → IsSection (i + length (map C xs)) ls s → IsSection (i + length xs) ls s
  after_run i xs ls s h = renumbered (i + length (map C xs)) (i + length xs) ls s (ap (λ n. i + n) (length-map xs C)) h

module _ (u : List Term) where
  member_section : (o : Option (List Term)) → section_kind (kind_of (moved_or_fixed u o)) ≡ kinds.Fixed
  member_section None = refl
  member_section (Some v) = refl

  member_said : (o : Option (List Term)) → joined (words (moved_or_fixed u o)) ≡ joined (spelling u ∷ words_after o)
  member_said None = refl
  member_said (Some v) = refl

-- the evidence ends the lines of the secondary invariants
pub stops_evidence : (e : EvidenceTree) (more : List LineTree) → StopsLines kinds.Secondary (evidence_lines e ++ more)
stops_evidence (Images xs) more = λ e. absurd cc
stops_evidence (Kernel xs) more = λ e. absurd cc

abbrev evidence_section : Bool → LineKind
evidence_section by_kernel = if by_kernel then kinds.Fixed else kinds.Image

-- the lines of the evidence, told by the first
pub evidence_cut : (t : TextParts) (e : EvidenceTree) (by_kernel : Bool) (i : ℕ) (more : List LineTree) (s rest run after : Section) → IsSection i (evidence_lines e ++ more) s
    → ((i : ℕ) (l : LineTree) (ls : List LineTree) → IsSection i (l ∷ ls) s → (by_kernel ≡ true) ↔ (kind_of l ≡ kinds.Kernel))
    → ((i : ℕ) (l : LineTree) (ls : List LineTree) → IsSection i (l ∷ ls) s → IsSection (i + 1) ls rest)
    → ((i : ℕ) (ls ms : List LineTree) → IsSection i (ls ++ ms) rest → All (λ l. section_kind (kind_of l) ≡ evidence_section by_kernel) ls → StopsLines (evidence_section by_kernel) ms
    → IsSection i ls run × IsSection (i + length ls) ms after)
    → ((k : LineKind) → (k ≡ kinds.Fixed) ⊎ (k ≡ kinds.Image) → StopsLines k more)
    → IsEvidenceRun (i + 1) e by_kernel run × IsSection (i + 1 + evidence_length t e) more after
evidence_cut t (Images xs) true i more s rest run after h begins line cut stops = absurd (let k = (begins i ReynoldsLine (map image_line xs ++ more) h).0 refl in cc)
evidence_cut t (Images xs) false i more s rest run after h begins line cut stops =
    let found = cut (i + 1) (map image_line xs) more (line i ReynoldsLine (map image_line xs ++ more) h) (in_run image_line kinds.Image (λ x. refl) xs) (stops kinds.Image (inr refl)) in
    ((refl, run_of image_line image_text (λ x. refl) (i + 1) xs run found.0), after_run image_line (i + 1) xs more after found.1)
evidence_cut t (Kernel xs) true i more s rest run after h begins line cut stops =
    let found = cut (i + 1) (map member_line xs) more (line i KernelLine (map member_line xs ++ more) h) (in_run member_line kinds.Fixed (λ x. member_section x.polynomial x.combination) xs) (stops kinds.Fixed (inl refl)) in
    ((refl, run_of member_line member_text (λ x. member_said x.polynomial x.combination) (i + 1) xs run found.0), after_run member_line (i + 1) xs more after found.1)
evidence_cut t (Kernel xs) false i more s rest run after h begins line cut stops = absurd (let k = (begins i KernelLine (map member_line xs ++ more) h).1 refl in cc)

-- what follows the evidence is in none of its sections
pub others_stop : (xs ys : List (List Term)) (k : LineKind) → (k ≡ kinds.Fixed) ⊎ (k ≡ kinds.Image) → StopsLines k (map IrreducibleLine xs ++ (map WordLine ys ++ (EndLine ∷ [])))
others_stop xs ys k (inl is) = subst (λ k. StopsLines k (map IrreducibleLine xs ++ (map WordLine ys ++ (EndLine ∷ [])))) (sym is)
    (stops_run IrreducibleLine kinds.Fixed (λ x e. absurd cc) xs (map WordLine ys ++ (EndLine ∷ [])) (stops_run WordLine kinds.Fixed (λ x e. absurd cc) ys (EndLine ∷ []) (λ e. absurd cc)))
others_stop xs ys k (inr is) = subst (λ k. StopsLines k (map IrreducibleLine xs ++ (map WordLine ys ++ (EndLine ∷ [])))) (sym is)
    (stops_run IrreducibleLine kinds.Image (λ x e. absurd cc) xs (map WordLine ys ++ (EndLine ∷ [])) (stops_run WordLine kinds.Image (λ x e. absurd cc) ys (EndLine ∷ []) (λ e. absurd cc)))
