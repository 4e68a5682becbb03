-- How many monomials there are.
--
--   choose n k               how many sets of k elements there are among n: the binomial coefficient
--   monomials_of_degree n d  how many monomials of degree d there are in n variables, n at least 1
use Rattle.std.specs.Prelude.{ℕ, zero, suc, ◌+◌, ◌-◌}

-- by Pascal's rule
unfoldable pub choose : ℕ → ℕ → ℕ
choose n zero = 1
choose zero (suc k) = 0
choose (suc n) (suc k) = choose n k + choose n (suc k)

-- C(n + d - 1, n - 1)
abbrev pub monomials_of_degree : ℕ → ℕ → ℕ
monomials_of_degree n d = choose (n + d - 1) (n - 1)
