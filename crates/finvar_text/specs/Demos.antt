-- The script of the group of two elements that exchanges the variables of each of some pairs, over GF(2).
--
--   letters n            the first n of the letters from `a` to `h`
--   are_paired i j       the places i and j are the two of a pair: 0 and 1, or 2 and 3, and so on
--   exchange n, cell n i   the n by n matrix, row after row, that exchanges the variables of each pair, and its cell number i
--   separated bs         the bytes with a comma between each two
--   ring_line n, matrix_line n, call_line   the lines of the ring of n variables, of the matrix and of the call, for an n below 10
--   demo_problem k       the problem of k pairs: the characteristic 2, the first 2 k letters, and that matrix
--   demo_text k          its script
use Rattle.std.specs.Prelude.{ℕ, ◌+◌, ◌*◌, ◌/◌, ◌%◌, ◌==◌, ◌&&◌, Bool, not, List, [], ◌∷◌, ◌++◌, map, take, codes, if◌then◌else◌}
use Rattle.std.specs.List.{flat_map, range_with_len}
use Rattle.finvar_text.specs.Problems.{Problem}

abbrev pub letters : ℕ → List ℕ
letters n = take n (codes "abcdefgh")

abbrev pub are_paired : ℕ → ℕ → Bool
are_paired i j = i / 2 == j / 2 && not (i == j)

abbrev pub cell : ℕ → ℕ → ℕ
cell n place = if are_paired (place / n) (place % n) then 1 else 0

unfoldable pub exchange : ℕ → List ℕ
exchange n = map (cell n) (range_with_len 0 (n * n))

unfoldable pub separated : List ℕ → List ℕ
separated [] = []
separated (b ∷ bs) = b ∷ flat_map (λ c. 44 ∷ c ∷ []) bs

unfoldable pub ring_line : ℕ → List ℕ
ring_line n = codes "ring R=2,(" ++ separated (letters n) ++ (codes "),dp;" ++ 10 ∷ [])

unfoldable pub matrix_line : ℕ → List ℕ
matrix_line n = codes "matrix A[" ++ (48 + n) ∷ [] ++ codes "][" ++ (48 + n) ∷ [] ++ codes "]=" ++ separated (map (λ c. 48 + c) (exchange n)) ++ (codes ";" ++ 10 ∷ [])

unfoldable pub call_line : List ℕ
call_line = codes "matrix P,S,IS=invariant_ring(A);" ++ 10 ∷ []

abbrev pub demo_problem : ℕ → Problem
demo_problem k = record {
  characteristic = 2;
  variables = map (λ b. b ∷ []) (letters (2 * k));
  generators = exchange (2 * k) ∷ [];
}

unfoldable pub demo_text : ℕ → List ℕ
demo_text k = ring_line (2 * k) ++ matrix_line (2 * k) ++ call_line
