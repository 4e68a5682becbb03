-- The spaces that are made to read the lines of a text are those of the text.
use Rattle.std.proofs.Common.{◌≡◌, ◌∙◌, ℕ, Bool, true, false, List, [], Some, Result, length, map, replicate, refl, sym, ap, subst}
use Rattle.std.specs.Prelude.{All}
use Rattle.std.proofs.lemmas.Bool.{eq-eqb}
use Rattle.std.proofs.lemmas.List.{length-replicate}
use Rattle.alg_core.specs.DpOrder.{dp_order}
use Rattle.alg_core.specs.Fields.{FieldOn}
use Rattle.alg_core.specs.Spaces.{SpaceOver}
use Rattle.poly_text.specs.Values.{HasPositions}
use Rattle.poly_text.specs.declared.names.Names.{Names}
use Rattle.prime_field.specs.PrimeFields.{IsPrimeField, gfp_same}
use Rattle.certificate_io.specs.Certificates.{evidence_of}
use Rattle.certificate_io.specs.PartFaults.{evidence_faults}
use Rattle.certificate_io.specs.Parts.{TextParts, EvidenceTree, Images, Kernel, ImageTree, MemberTree, IsEvidenceTree, IsImageTree, IsMemberTree}
use Rattle.certificate_io.specs.ReadParts.{IsEvidence}
use Rattle.certificate_io.specs.Readings.{Answers, image_text, member_text, tails}
use Rattle.certificate_io.specs.Sections.{IsEvidenceRun, IsRun}
use Rattle.certificate_io.specs.Spaces.{field_at, combination_space, word_names}
use Rattle.certificate_io.specs.declared.evidence.Evidence.{Evidence}
use Rattle.certificate_io.specs.declared.fault.CertFault.{CertFault}
use Rattle.certificate_io.specs.declared.sections.Section.{Section}
use Rattle.certificate_io.proofs.TextSpaces.{prime_at}

pub field_is : (p : ℕ) (k : FieldOn ℕ) → IsPrimeField p k → k ≡ field_at p
field_is p k prime = let at = prime_at p prime.0 in prime.1 ∙ gfp_same p p refl prime.0 at.0 ∙ sym at.1

-- what holds of the spaces, the names and the number that a call is given holds of those of the text
pub moved : (P : SpaceOver ℕ → Names → ℕ → Type 0) (S T : SpaceOver ℕ) (m n : Names) (i j : ℕ) → S ≡ T → m ≡ n → i ≡ j → P S m i → P T n j
moved P S T m n i j p q r h = subst (P T n) r (subst (λ x. P T x i) q (subst (λ X. P X m i) p h))

-- the same of three numbers
pub numbers_moved : (P : ℕ → ℕ → ℕ → Type 0) (a b m n i j : ℕ) → a ≡ b → m ≡ n → i ≡ j → P a m i → P b n j
numbers_moved P a b m n i j p q r h = subst (P b n) r (subst (λ x. P b x i) q (subst (λ x. P x m i) p h))

pub pair_moved : (P : SpaceOver ℕ → SpaceOver ℕ → Names → ℕ → Type 0) (S T S' T' : SpaceOver ℕ) (m n : Names) (i j : ℕ) → S ≡ T → S' ≡ T' → m ≡ n → i ≡ j → P S S' m i → P T T' n j
pair_moved P S T S' T' m n i j p p' q r h = moved (λ X y k. P X T' y k) S T m n i j p q r (subst (λ X. P S X m i) p' h)

abbrev space_by : FieldOn ℕ → List ℕ → List ℕ → List ℕ → SpaceOver ℕ
space_by k vs ws ss = record { field = k; order = dp_order vs; weights = ws; shifts = ss }

module _ (k : FieldOn ℕ) (ds es : List ℕ) where
  -- the space with these weights and shifts
  pub weighted : (vs ws ss : List ℕ) → vs ≡ ds → ws ≡ ds → ss ≡ es → space_by k vs ws ss ≡ combination_space k ds es
  weighted vs ws ss p q r = ap (λ l. space_by k l ws ss) p ∙ ap (λ l. space_by k ds l ss) q ∙ ap (λ l. space_by k ds ds l) r

  pub has_positions : HasPositions (Some (length es)) (combination_space k ds es)
  has_positions = λ j low.
      let zeros : length {A = ℕ} (replicate (length ds) 0) ≡ length ds = length-replicate {A = ℕ} (length ds) 0 in
      record { fits = eq-eqb (length {A = ℕ} (replicate (length ds) 0)) (length ds) zeros; wide = zeros; low = low }

abbrev names_by : List (List ℕ) → ℕ → ℕ → Names
names_by ns r q = record { vars = ns; primaries = Some r; irreducibles = Some q }

pub no_names : (ns : List (List ℕ)) (r q : ℕ) → ns ≡ [] → names_by ns r q ≡ word_names r q
no_names ns r q e = ap (λ l. names_by l r q) e

module _ (t : TextParts) (i : ℕ) (s : Section) (r : Result (Evidence ℕ) CertFault) where
  abbrev Told : EvidenceTree → Type 0
  Told e = Answers r (evidence_faults t i e) (λ y. IsEvidence t e (evidence_of y))

  -- the evidence is that of the kernel, or that of the averages
  pub kernel_case : (e : EvidenceTree) (b : Bool) → b ≡ true → IsEvidenceTree e → IsEvidenceRun i e b s → ((xs : List MemberTree) → All IsMemberTree xs → IsRun member_text i xs s → Told (Kernel xs)) → Told e
  kernel_case (Images xs) b chosen is run told = absurd (let bad = sym run.0 ∙ chosen in cc)
  kernel_case (Kernel xs) b chosen is run told = told xs is.1 run.1

  pub images_case : (e : EvidenceTree) (b : Bool) → b ≡ false → IsEvidenceTree e → IsEvidenceRun i e b s → ((xs : List ImageTree) → All IsImageTree xs → IsRun image_text i xs s → Told (Images xs)) → Told e
  images_case (Images xs) b chosen is run told = told xs is.1 run.1
  images_case (Kernel xs) b chosen is run told = absurd (let bad = sym run.0 ∙ chosen in cc)

pub image_lines : (i : ℕ) (e : EvidenceTree) (b : Bool) (s : Section) → b ≡ false → IsEvidenceTree e → IsEvidenceRun i e b s → (xs : List ImageTree) × All IsImageTree xs × (tails s.lines.now ≡ map image_text xs)
image_lines i (Images xs) b s chosen is run = (xs, is.1, run.1.tails)
image_lines i (Kernel xs) b s chosen is run = absurd (let bad = sym run.0 ∙ chosen in cc)
