-- The summary of a certificate.
--
--   numbers_line w ns     the word w, each of the numbers after a space, and a newline
--   summary_text k c      the summary of the certificate c of the demonstration of k pairs: that number, the order of the group, the
--                         degrees of the primary invariants, the rank, the degrees of the secondary invariants, and those of the
--                         irreducible generators, each in a line
--   HasFewVariables f     the terms f are those of a polynomial in at most eight variables
use Rattle.std.specs.Prelude.{◌≤◌, ℕ, List, [], ◌∷◌, ◌++◌, All, length, map, codes, decimal}
use Rattle.alg_core.specs.declared.term.Term.{Term}
use Rattle.certificate_io.specs.Certificates.{CertificateOf}
use Rattle.certificate_io.specs.Texts.{spaced}
use Rattle.cert_check.specs.Parts.{degrees, irreducible_degrees, secondary_degrees}

unfoldable pub numbers_line : List ℕ → List ℕ → List ℕ
numbers_line w ns = w ++ spaced (map decimal ns) ++ 10 ∷ []

unfoldable pub summary_text : ℕ → CertificateOf ℕ → List ℕ
summary_text k c =
    numbers_line (codes "demo") (k ∷ [])
    ++ numbers_line (codes "order") (c.order ∷ [])
    ++ numbers_line (codes "primary") (degrees c)
    ++ numbers_line (codes "rank") (c.rank ∷ [])
    ++ numbers_line (codes "secondary") (secondary_degrees c)
    ++ numbers_line (codes "irreducible") (irreducible_degrees c)

abbrev pub HasFewVariables : List (Term ℕ (List ℕ)) → Type 0
HasFewVariables f = All (λ t. length t.at.mono ≤ 8) f
