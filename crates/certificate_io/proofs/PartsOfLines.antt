-- The lines of a text tell its parts.
use Rattle.std.proofs.Common.{◌≡◌, ◌∙◌, ℕ, Bool, true, false, List, [], ◌∷◌, ◌++◌, Option, Some, None, map, append-nil, refl, sym, ap}
use Rattle.poly_text.specs.Syntax.{Term}
use Rattle.certificate_io.specs.Parts.{PowerTree, ImageTree, MemberTree, EvidenceTree, Images, Kernel, TextParts, power_line, image_line, member_line, evidence_lines, lines_in}
use Rattle.certificate_io.specs.Syntax.{LineTree, VersionLine, FieldLine, NamesLine, MatrixLine, OrderLine, PrimaryLine, LiftLine, PowerLine, RankLine, SecondaryLine, ReynoldsLine, KernelLine, ImageLine, MovedLine, FixedLine, IrreducibleLine, WordLine, EndLine}
use Rattle.certificate_io.specs.declared.words.Cell.{Cell}

-- what is told by lines
record Told : Type 0 where
  characteristic : ℕ
  names : List (List ℕ)
  matrices : List (List Cell)
  order : ℕ
  primaries : List (List Term)
  lifts : List (List Term)
  powers : List PowerTree
  rank : ℕ
  secondaries : List (List Term)
  by_kernel : Bool
  images : List ImageTree
  members : List MemberTree
  irreducibles : List (List Term)
  words : List (List Term)

abbrev nothing_told : Told
nothing_told = record { characteristic = 0; names = []; matrices = []; order = 0; primaries = []; lifts = []; powers = []; rank = 0; secondaries = []; by_kernel = false; images = []; members = []; irreducibles = []; words = [] }

abbrev told_by : LineTree → Told → Told
told_by VersionLine t = t
told_by (FieldLine p) t = record t { characteristic = p }
told_by (NamesLine ns) t = record t { names = ns }
told_by (MatrixLine cs) t = record t { matrices = cs ∷ t.matrices }
told_by (OrderLine n) t = record t { order = n }
told_by (PrimaryLine ts) t = record t { primaries = ts ∷ t.primaries }
told_by (LiftLine ts) t = record t { lifts = ts ∷ t.lifts }
told_by (PowerLine w e ts) t = record t { powers = record { name = w; exponent = e; form = ts } ∷ t.powers }
told_by (RankLine n) t = record t { rank = n }
told_by (SecondaryLine ts) t = record t { secondaries = ts ∷ t.secondaries }
told_by ReynoldsLine t = record t { by_kernel = false }
told_by KernelLine t = record t { by_kernel = true }
told_by (ImageLine fs ts) t = record t { images = record { monomial = fs; combination = ts } ∷ t.images }
told_by (MovedLine ts) t = record t { members = record { polynomial = ts; combination = None } ∷ t.members }
told_by (FixedLine ts us) t = record t { members = record { polynomial = ts; combination = Some us } ∷ t.members }
told_by (IrreducibleLine ts) t = record t { irreducibles = ts ∷ t.irreducibles }
told_by (WordLine ts) t = record t { words = ts ∷ t.words }
told_by EndLine t = t

abbrev told : List LineTree → Told
told [] = nothing_told
told (l ∷ ls) = told_by l (told ls)

abbrev evidence_told : Bool → List ImageTree → List MemberTree → EvidenceTree
evidence_told true is ms = Kernel ms
evidence_told false is ms = Images is

abbrev parts_told : Told → TextParts
parts_told t = record {
  characteristic = t.characteristic;
  names = t.names;
  matrices = t.matrices;
  order = t.order;
  primaries = t.primaries;
  lifts = t.lifts;
  powers = t.powers;
  rank = t.rank;
  secondaries = t.secondaries;
  evidence = evidence_told t.by_kernel t.images t.members;
  irreducibles = t.irreducibles;
  words = t.words;
}

module _ (more : List LineTree) where
  matrices_told : (xs : List (List Cell)) → told (map MatrixLine xs ++ more) ≡ record (told more) { matrices = xs ++ (told more).matrices }
  matrices_told [] = refl
  matrices_told (x ∷ xs) = ap (told_by (MatrixLine x)) (matrices_told xs)

  primaries_told : (xs : List (List Term)) → told (map PrimaryLine xs ++ more) ≡ record (told more) { primaries = xs ++ (told more).primaries }
  primaries_told [] = refl
  primaries_told (x ∷ xs) = ap (told_by (PrimaryLine x)) (primaries_told xs)

  lifts_told : (xs : List (List Term)) → told (map LiftLine xs ++ more) ≡ record (told more) { lifts = xs ++ (told more).lifts }
  lifts_told [] = refl
  lifts_told (x ∷ xs) = ap (told_by (LiftLine x)) (lifts_told xs)

  powers_told : (xs : List PowerTree) → told (map power_line xs ++ more) ≡ record (told more) { powers = xs ++ (told more).powers }
  powers_told [] = refl
  powers_told (x ∷ xs) = ap (told_by (power_line x)) (powers_told xs)

  secondaries_told : (xs : List (List Term)) → told (map SecondaryLine xs ++ more) ≡ record (told more) { secondaries = xs ++ (told more).secondaries }
  secondaries_told [] = refl
  secondaries_told (x ∷ xs) = ap (told_by (SecondaryLine x)) (secondaries_told xs)

  images_told : (xs : List ImageTree) → told (map image_line xs ++ more) ≡ record (told more) { images = xs ++ (told more).images }
  images_told [] = refl
  images_told (x ∷ xs) = ap (told_by (image_line x)) (images_told xs)

  member_told : (u : List Term) (o : Option (List Term)) (t : Told) → told_by (member_line (record { polynomial = u; combination = o })) t ≡ record t { members = record { polynomial = u; combination = o } ∷ t.members }
  member_told u None t = refl
  member_told u (Some v) t = refl

  members_told : (xs : List MemberTree) → told (map member_line xs ++ more) ≡ record (told more) { members = xs ++ (told more).members }
  members_told [] = refl
  members_told (x ∷ xs) = ap (told_by (member_line x)) (members_told xs) ∙ member_told x.polynomial x.combination (record (told more) { members = xs ++ (told more).members })

  irreducibles_told : (xs : List (List Term)) → told (map IrreducibleLine xs ++ more) ≡ record (told more) { irreducibles = xs ++ (told more).irreducibles }
  irreducibles_told [] = refl
  irreducibles_told (x ∷ xs) = ap (told_by (IrreducibleLine x)) (irreducibles_told xs)

words_told : (xs : List (List Term)) → told (map WordLine xs ++ (EndLine ∷ [])) ≡ record nothing_told { words = xs }
words_told [] = refl
words_told (x ∷ xs) = ap (told_by (WordLine x)) (words_told xs)

evidence_back : (e : EvidenceTree) (ls : List LineTree) (is ds : List (List Term)) → told ls ≡ record nothing_told { irreducibles = is; words = ds }
    → (z : Told) × (told (evidence_lines e ++ ls) ≡ z) × (z ≡ record nothing_told { by_kernel = z.by_kernel; images = z.images; members = z.members; irreducibles = is; words = ds }) × (evidence_told z.by_kernel z.images z.members ≡ e)
evidence_back (Images xs) ls is ds h = (
  record nothing_told { images = xs; irreducibles = is; words = ds },
  ap (told_by ReynoldsLine) (images_told ls xs ∙ ap (λ (z : Told). record z { images = xs ++ z.images }) h ∙ ap (λ l. record nothing_told { images = l; irreducibles = is; words = ds }) (append-nil xs)),
  refl,
  refl,
)
evidence_back (Kernel xs) ls is ds h = (
  record nothing_told { by_kernel = true; members = xs; irreducibles = is; words = ds },
  ap (told_by KernelLine) (members_told ls xs ∙ ap (λ (z : Told). record z { members = xs ++ z.members }) h ∙ ap (λ l. record nothing_told { members = l; irreducibles = is; words = ds }) (append-nil xs)),
  refl,
  refl,
)

-- the lines of parts tell them
pub parts_back : (t : TextParts) → parts_told (told (lines_in t)) ≡ t
unfolding lines_in
parts_back t =
    let words = map WordLine t.words ++ (EndLine ∷ []) in
    let irreducibles = map IrreducibleLine t.irreducibles ++ words in
    let evidence = evidence_lines t.evidence ++ irreducibles in
    let secondaries = map SecondaryLine t.secondaries ++ evidence in
    let powers = map power_line t.powers ++ (RankLine t.rank ∷ secondaries) in
    let lifts = map LiftLine t.lifts ++ powers in
    let primaries = map PrimaryLine t.primaries ++ lifts in
    let matrices = map MatrixLine t.matrices ++ (OrderLine t.order ∷ primaries) in
    let from_irreducibles : told irreducibles ≡ record nothing_told { irreducibles = t.irreducibles; words = t.words } =
    irreducibles_told words t.irreducibles ∙ ap (λ (z : Told). record z { irreducibles = t.irreducibles ++ z.irreducibles }) (words_told t.words) ∙ ap (λ l. record nothing_told { irreducibles = l; words = t.words }) (append-nil t.irreducibles) in
    let found = evidence_back t.evidence irreducibles t.irreducibles t.words from_irreducibles in
    let y = found.0 in
    let from_evidence : told evidence ≡ record nothing_told { by_kernel = y.by_kernel; images = y.images; members = y.members; irreducibles = t.irreducibles; words = t.words } = found.1 ∙ found.2 in
    let z : Told = record nothing_told { by_kernel = y.by_kernel; images = y.images; members = y.members; irreducibles = t.irreducibles; words = t.words } in
    let from_secondaries : told secondaries ≡ record z { secondaries = t.secondaries } =
    secondaries_told evidence t.secondaries ∙ ap (λ (z : Told). record z { secondaries = t.secondaries ++ z.secondaries }) from_evidence ∙ ap (λ l. record z { secondaries = l }) (append-nil t.secondaries) in
    let from_powers : told powers ≡ record z { secondaries = t.secondaries; rank = t.rank; powers = t.powers } =
    powers_told (RankLine t.rank ∷ secondaries) t.powers ∙ ap (λ (z : Told). record z { rank = t.rank; powers = t.powers ++ z.powers }) from_secondaries ∙ ap (λ l. record z { secondaries = t.secondaries; rank = t.rank; powers = l }) (append-nil t.powers) in
    let from_lifts : told lifts ≡ record z { secondaries = t.secondaries; rank = t.rank; powers = t.powers; lifts = t.lifts } =
    lifts_told powers t.lifts ∙ ap (λ (z : Told). record z { lifts = t.lifts ++ z.lifts }) from_powers ∙ ap (λ l. record z { secondaries = t.secondaries; rank = t.rank; powers = t.powers; lifts = l }) (append-nil t.lifts) in
    let from_primaries : told primaries ≡ record z { secondaries = t.secondaries; rank = t.rank; powers = t.powers; lifts = t.lifts; primaries = t.primaries } =
    primaries_told lifts t.primaries ∙ ap (λ (z : Told). record z { primaries = t.primaries ++ z.primaries }) from_lifts
    ∙ ap (λ l. record z { secondaries = t.secondaries; rank = t.rank; powers = t.powers; lifts = t.lifts; primaries = l }) (append-nil t.primaries) in
    let y2 : Told = record z { secondaries = t.secondaries; rank = t.rank; powers = t.powers; lifts = t.lifts; primaries = t.primaries; order = t.order } in
    let from_matrices : told matrices ≡ record y2 { matrices = t.matrices } =
    matrices_told (OrderLine t.order ∷ primaries) t.matrices ∙ ap (λ (z : Told). record z { order = t.order; matrices = t.matrices ++ z.matrices }) from_primaries ∙ ap (λ l. record y2 { matrices = l }) (append-nil t.matrices) in
    ap (λ (z : Told). parts_told (record z { names = t.names; characteristic = t.characteristic })) from_matrices
    ∙ ap (λ e. record t { evidence = e }) found.3

-- lines have one list of parts
pub parts_are_one : (t u : TextParts) → lines_in t ≡ lines_in u → t ≡ u
parts_are_one t u e = sym (parts_back t) ∙ ap (λ ls. parts_told (told ls)) e ∙ parts_back u
