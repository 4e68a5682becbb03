-- Lines of text that answers have.
--
--   polynomial_lines title S names es   for each list of entries the title, its printed text, and a newline
--   with_commas ts                      the texts with commas between them
--   listed_line title S names es   the title, the printed texts of the lists of entries with commas between them, and a newline
--   power_line w e                      a word w and an exponent e after the word `power`, and a newline
--   power_lines ws es                   these lines of words and exponents, as far as there are both
use Rattle.std.specs.Prelude.{ℕ, List, [], ◌∷◌, ◌++◌, codes, decimal, map}
use Rattle.alg_core.specs.Spaces.{SpaceOver}
use Rattle.alg_core.specs.Vectors.{Entry}
use Rattle.poly_text.specs.declared.names.Names.{Names}
use Rattle.poly_text.specs.Texts.{polynomial_text}

abbrev pub polynomial_lines : List ℕ → SpaceOver ℕ → Names → List (List (Entry ℕ)) → List ℕ
polynomial_lines title S names [] = []
polynomial_lines title S names (es ∷ rest) = (title ++ (polynomial_text S names es ++ 10 ∷ [])) ++ polynomial_lines title S names rest

abbrev pub with_commas : List (List ℕ) → List ℕ
with_commas [] = []
with_commas (t ∷ []) = t
with_commas (t ∷ u ∷ ts) = t ++ codes "," ++ with_commas (u ∷ ts)

abbrev pub listed_line : List ℕ → SpaceOver ℕ → Names → List (List (Entry ℕ)) → List ℕ
listed_line title S names es = title ++ with_commas (map (polynomial_text S names) es) ++ 10 ∷ []

abbrev pub power_line : List ℕ → ℕ → List ℕ
power_line w e = codes "power " ++ (w ++ (codes " " ++ (decimal e ++ 10 ∷ [])))

abbrev pub power_lines : List (List ℕ) → List ℕ → List ℕ
power_lines [] es = []
power_lines (w ∷ ws) [] = []
power_lines (w ∷ ws) (e ∷ es) = power_line w e ++ power_lines ws es
