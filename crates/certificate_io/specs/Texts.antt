-- The text of a certificate, line by line.
--
--   spaced ws                     each word after a space
--   ended ls                      each line and a newline, one after another
--   polynomial_bytes p ws r f     the printed polynomial f modulo p, in variables with the names ws and then r marks @, and marks $
--   combination_bytes p m c       the printed combination c of m secondary invariants
--   number_line w n               the word w and the number n
--   names_line ns                 `vars` and the names
--   matrix_line p m               `matrix` and the cells by rows, each as the integer of least absolute value in its class
--   polynomial_line w p ws r f    the word w and the polynomial
--   power_line p ws r n x         `power`, the name n, the exponent and the form
--   power_lines p ws r ns xs      a line for each of the names and the power at its place
--   image_line p ws m x           `image`, the standard monomial and the combination
--   fixed_or_moved u p m o         `moved` and the bytes u, where o is no combination; else `fixed`, u and the combination
--   member_line p ws r m l        that line of a member of the kernel
--   evidence_lines p ws r m e     `evidence reynolds` and the averages, or `evidence kernel` and the members
--   heading_lines c               the version, the field, the variables, the generators and the order
--   module_lines c                the primary invariants, the lifts, the powers and the rank
--   generator_lines c             the secondary invariants, the evidence, the irreducible generators, the words and the end
--   certificate_lines c           the lines of the certificate c
--   certificate_text c            its text
use Rattle.std.specs.Prelude.{ℕ, List, [], ◌∷◌, ◌++◌, length, map, Option, Some, None, codes, decimal}
use Rattle.std.specs.List.{zip}
use Rattle.alg_core.specs.Spaces.{entries}
use Rattle.alg_core.specs.declared.term.Term.{Term}
use Rattle.poly_module.specs.declared.vector.Comb.{Comb}
use Rattle.poly_text.specs.Syntax.{spelling}
use Rattle.poly_text.specs.Texts.{by_position, combination_term, monomial_text, residue_text, term_in}
use Rattle.finite_certificate.specs.declared.power.Power.{Power}
use Rattle.certificate_io.specs.declared.evidence.Image.{Image}
use Rattle.certificate_io.specs.declared.evidence.Line.{Line}
use Rattle.certificate_io.specs.Certificates.{MatrixOf, EvidenceOf, Averages, Members, CertificateOf}

abbrev pub spaced : List (List ℕ) → List ℕ
spaced [] = []
spaced (w ∷ ws) = 32 ∷ (w ++ spaced ws)

abbrev pub ended : List (List ℕ) → List ℕ
ended [] = []
ended (l ∷ ls) = l ++ (10 ∷ ended ls)

abbrev pub polynomial_bytes : ℕ → List (List ℕ) → ℕ → List (Term ℕ (List ℕ)) → List ℕ
polynomial_bytes p ws r f = spelling (map (term_in ws r p) (entries (λ a. a) f))

abbrev pub combination_bytes : ℕ → ℕ → Comb ℕ → List ℕ
combination_bytes p m c = spelling (map (combination_term p) (by_position m (entries (λ a. a) c.vector)))

abbrev pub number_line : List ℕ → ℕ → List ℕ
number_line w n = w ++ (32 ∷ decimal n)

abbrev pub names_line : List (List ℕ) → List ℕ
names_line ns = codes "vars" ++ spaced ns

abbrev pub matrix_line : ℕ → MatrixOf ℕ → List ℕ
matrix_line p m = codes "matrix" ++ spaced (map (residue_text p) m.cells)

abbrev pub polynomial_line : List ℕ → ℕ → List (List ℕ) → ℕ → List (Term ℕ (List ℕ)) → List ℕ
polynomial_line w p ws r f = w ++ (32 ∷ polynomial_bytes p ws r f)

abbrev pub power_line : ℕ → List (List ℕ) → ℕ → List ℕ → Power ℕ → List ℕ
power_line p ws r n x = codes "power" ++ spaced (n ∷ decimal x.exponent ∷ polynomial_bytes p ws r x.form ∷ [])

abbrev pub power_lines : ℕ → List (List ℕ) → ℕ → List (List ℕ) → List (Power ℕ) → List (List ℕ)
power_lines p ws r ns xs = map (λ x. power_line p ws r x.0 x.1) (zip ns xs)

abbrev pub image_line : ℕ → List (List ℕ) → ℕ → Image ℕ → List ℕ
image_line p ws m x = codes "image" ++ spaced (monomial_text ws x.mono ∷ combination_bytes p m x.comb ∷ [])

abbrev pub fixed_or_moved : List ℕ → ℕ → ℕ → Option (Comb ℕ) → List ℕ
fixed_or_moved u p m None = codes "moved" ++ spaced (u ∷ [])
fixed_or_moved u p m (Some c) = codes "fixed" ++ spaced (u ∷ combination_bytes p m c ∷ [])

abbrev pub member_line : ℕ → List (List ℕ) → ℕ → ℕ → Line ℕ → List ℕ
member_line p ws r m l = fixed_or_moved (polynomial_bytes p ws r l.u) p m l.comb

abbrev pub evidence_lines : ℕ → List (List ℕ) → ℕ → ℕ → EvidenceOf ℕ → List (List ℕ)
evidence_lines p ws r m (Averages xs) = codes "evidence reynolds" ∷ map (image_line p ws m) xs
evidence_lines p ws r m (Members ls) = codes "evidence kernel" ∷ map (member_line p ws r m) ls

unfoldable pub heading_lines : CertificateOf ℕ → List (List ℕ)
heading_lines c =
    codes "invring certificate 1" ∷ number_line (codes "field") c.characteristic ∷ names_line c.names ∷ []
    ++ map (matrix_line c.characteristic) c.matrices
    ++ number_line (codes "order") c.order ∷ []

unfoldable pub module_lines : CertificateOf ℕ → List (List ℕ)
module_lines c =
    let r = length c.primaries in
    map (polynomial_line (codes "primary") c.characteristic c.names 0) c.primaries
    ++ map (polynomial_line (codes "lift") c.characteristic c.names r) c.lifts
    ++ power_lines c.characteristic c.names r c.names c.powers
    ++ number_line (codes "rank") c.rank ∷ []

unfoldable pub generator_lines : CertificateOf ℕ → List (List ℕ)
generator_lines c =
    let r = length c.primaries in
    map (polynomial_line (codes "secondary") c.characteristic c.names 0) c.secondaries
    ++ evidence_lines c.characteristic c.names r (length c.secondaries) c.evidence
    ++ map (polynomial_line (codes "irreducible") c.characteristic c.names 0) c.irreducibles
    ++ map (polynomial_line (codes "word") c.characteristic [] r) c.words
    ++ codes "end" ∷ []

unfoldable pub certificate_lines : CertificateOf ℕ → List (List ℕ)
certificate_lines c = heading_lines c ++ module_lines c ++ generator_lines c

unfoldable pub certificate_text : CertificateOf ℕ → List ℕ
certificate_text c = ended (certificate_lines c)
