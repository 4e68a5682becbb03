-- Matrices with the same cells: what is made from the ones is made from the others.
use Rattle.std.proofs.Common.{◌≡◌, ◌∙◌, ℕ, zero, suc, ◌*◌, ◌<◌, List, [], ◌∷◌, length, map, All, refl, sym, ap, subst}
use Rattle.std.proofs.lemmas.List.Elements.{All-nil, All-cons, All-head, All-tail}
use Rattle.alg_core.specs.Fields.{FieldOn, Has}
use Rattle.alg_core.specs.Spaces.{SpaceOver}
use Rattle.alg_core.specs.Vectors.{Vect}
use Rattle.lin_algebra.specs.declared.matrix.Matrix.{Matrix}
use Rattle.matrix_group.specs.Actions.{IsSquare}
use Rattle.matrix_group.specs.Groups.{size, cells_of, AreElements, IsOrder}
use Rattle.reynolds_op.specs.Averages.{IsAveraging, reynolds, IsAverage}
use Rattle.primary_search.specs.Walks.{ArePlaces, FirstPrimaries}
use Rattle.secondary_gens.specs.Secondaries.{AreBases, AreSecondaries}
use Rattle.certificate_io.specs.Certificates.{CertificateOf, EvidenceOf, Averages, Members, MatrixOf, matrix_of}
use Rattle.certificate_io.specs.declared.evidence.Image.{Image}
use Rattle.certificate_io.specs.declared.evidence.Line.{Line}
use Rattle.cert_check.specs.Makings.{AreAveragesOf, AreKernelLines, IsEvidenceOf, IsMade}
use Rattle.cert_check.specs.Parts.{size as width, primaries, secondaries, degrees, members}
use Rattle.cert_check.specs.WellFormed.{IsWellFormed, plain}
use Rattle.invring_app.proofs.EndingLaws.{Shape, shape, same-form, same-basis}
use Rattle.invring_app.proofs.SameKernels.{same-count, same-kernel}

abbrev first-rows : List Shape → ℕ
first-rows [] = 0
first-rows (s ∷ ss) = s.0

size-shape : (ms : List (Matrix ℕ)) → size ms ≡ first-rows (map shape ms)
size-shape [] = refl
size-shape (m ∷ ms) = refl

cells-shape : (ms : List (Matrix ℕ)) → cells_of ms ≡ map (λ (s : Shape). s.2) (map shape ms)
cells-shape [] = refl
cells-shape (m ∷ ms) = ap (λ (cs : List (List ℕ)). m.cells.items ∷ cs) (cells-shape ms)

abbrev with-shape : Shape → MatrixOf ℕ
with-shape s = record { rows = s.0; cols = s.1; cells = s.2 }

listed-shape : (ms : List (Matrix ℕ)) → map matrix_of ms ≡ map with-shape (map shape ms)
listed-shape [] = refl
listed-shape (m ∷ ms) = ap (λ (cs : List (MatrixOf ℕ)). matrix_of m ∷ cs) (listed-shape ms)

same-square : (k : FieldOn ℕ) (n : ℕ) (m o : Matrix ℕ) → shape m ≡ shape o → IsSquare k n m → IsSquare k n o
same-square k n m o e h = record {
  matrix = record {
    whole = subst (λ (s : Shape). length s.2 ≡ s.0 * s.1) e h.matrix.whole;
    has = subst (λ (s : Shape). All (Has k) s.2) e h.matrix.has;
  };
  rows = sym (ap (λ (s : Shape). s.0) e) ∙ h.rows;
  cols = sym (ap (λ (s : Shape). s.1) e) ∙ h.cols;
}

same-squares : (k : FieldOn ℕ) (n : ℕ) (ms os : List (Matrix ℕ)) → map shape ms ≡ map shape os → All (IsSquare k n) ms → All (IsSquare k n) os
same-squares k n [] [] e all = All-nil (IsSquare k n)
same-squares k n [] (o ∷ os) e all = absurd cc
same-squares k n (m ∷ ms) [] e all = absurd cc
same-squares k n (m ∷ ms) (o ∷ os) e all =
    let first : shape m ≡ shape o = cc in
    let rest : map shape ms ≡ map shape os = cc in
    All-cons (IsSquare k n) o os (same-square k n m o first (All-head (IsSquare k n) m ms all)) (same-squares k n ms os rest (All-tail (IsSquare k n) m ms all))

module _ (ms os : List (Matrix ℕ)) (e : map shape ms ≡ map shape os) where
  same-size : size ms ≡ size os
  same-size = size-shape ms ∙ ap first-rows e ∙ sym (size-shape os)

  pub same-cells : cells_of ms ≡ cells_of os
  same-cells = cells-shape ms ∙ ap (map (λ (s : Shape). s.2)) e ∙ sym (cells-shape os)

  pub same-average : (k : FieldOn ℕ) (f h : Vect k) → IsAverage k ms f h → IsAverage k os f h
  same-average k f h a = record {
    averaging = a.averaging;
    group = subst (λ (n : ℕ). IsAveraging k n a.averaging) same-size a.group;
    generated = subst (λ (gs : List (List ℕ)). AreElements k (size os) gs (cells_of a.averaging.elements)) same-cells
        (subst (λ (n : ℕ). AreElements k n (cells_of ms) (cells_of a.averaging.elements)) same-size a.generated);
    is = subst (λ (n : ℕ). reynolds k n a.averaging f ≡ h) same-size a.is;
  }

  module _ (S : SpaceOver ℕ) where
    places-by : (tries d : ℕ) (cs : List (Vect S.field)) → ArePlaces S ms tries d cs → ArePlaces S os tries d cs
    places-by tries zero cs a = a
    places-by tries (suc d) cs a = (a.0, a.1, places-by tries d a.0 a.2, same-basis S (suc d) ms os a.1 e a.3, a.4)

    first-by : (tries : ℕ) (T : List (Vect S.field)) → FirstPrimaries S ms tries T → FirstPrimaries S os tries T
    first-by tries T a = record {
      degree = a.degree;
      passed = a.passed;
      rest = a.rest;
      places = places-by tries a.degree _ a.places;
      taken = a.taken;
      ended = a.ended;
      first = a.first;
    }

    bases-by : (d : ℕ) (fs : List (Vect S.field)) → AreBases S ms d fs → AreBases S os d fs
    bases-by zero fs a = a
    bases-by (suc d) fs a = (a.0, a.1, bases-by d a.0 a.2, same-basis S d ms os a.1 e a.3, a.4)

    secondaries-by : (θ T : List (Vect S.field)) → AreSecondaries S ms θ T → AreSecondaries S os θ T
    secondaries-by θ T a = record {
      bound = a.bound;
      forms = a.forms;
      bases = bases-by a.bound a.forms a.bases;
      kept = a.kept;
      later = λ d f past h. a.later d f past (same-form S.field (length S.weights) d os ms f (sym e) h);
    }

  module _ (k : FieldOn ℕ) (c : CertificateOf ℕ) where
    averages-by : (xs : List (Image ℕ)) → AreAveragesOf k ms c xs → AreAveragesOf k os c xs
    averages-by xs a = record {
      characteristic = a.characteristic;
      standard = a.standard;
      images = λ i x p. let m = a.images i x p in record { average = m.average; is = same-average k _ _ m.is; printed = m.printed };
    }

    kernel-by : (ls : List (Line ℕ)) → AreKernelLines k ms c ls → AreKernelLines k os c ls
    kernel-by ls a = record {
      characteristic = a.characteristic;
      basis = a.basis;
      standard = a.standard;
      kernel = same-kernel ms os e k (width c) (degrees c) (primaries k c) a.basis (members ls) a.kernel;
      lines = a.lines;
    }

    evidence-by : (v : EvidenceOf ℕ) → IsEvidenceOf k ms c v → IsEvidenceOf k os c v
    evidence-by (Averages xs) a = averages-by xs a
    evidence-by (Members ls) a = kernel-by ls a

    pub made-by : (tries : ℕ) → IsMade k ms c tries → IsMade k os c tries
    made-by tries a = record {
      order = subst (λ (gs : List (List ℕ)). IsOrder k (width c) gs c.order) same-cells a.order;
      first_primaries = first-by (plain k c) tries (primaries k c) a.first_primaries;
      are_lifts = a.are_lifts;
      least_powers = a.least_powers;
      basis = a.basis;
      standard = a.standard;
      rank = a.rank;
      are_secondaries = secondaries-by (plain k c) (primaries k c) (secondaries k c) a.are_secondaries;
      evidence = evidence-by c.evidence a.evidence;
      places = a.places;
      are_irreducibles = a.are_irreducibles;
      irreducible = a.irreducible;
      are_words = a.are_words;
    }

    pub formed-by : IsWellFormed k c ms → IsWellFormed k c os
    formed-by a = record {
      field = a.field;
      generators = listed-shape os ∙ ap (map with-shape) (sym e) ∙ sym (listed-shape ms) ∙ a.generators;
      some = subst (λ (n : ℕ). 0 < n) (same-count ms os e) a.some;
      square = same-squares k (width c) ms os e a.square;
      variables = a.variables;
      primaries = a.primaries;
      lifts = a.lifts;
      powers = a.powers;
      power_each = a.power_each;
      secondaries = a.secondaries;
      evidence = a.evidence;
      irreducibles = a.irreducibles;
      words = a.words;
      word_each = a.word_each;
    }
