-- The spaces of polynomials have constants, and their orders are positive.
use Rattle.std.proofs.Common.{◌≡◌, ℕ, zero, suc, ◌+◌, ◌==◌, true, List, [], ◌∷◌, ◌++◌, length, replicate, sym, ap, ◌∙◌, refl, arith}
use Rattle.std.proofs.lemmas.Bool.Decides.{nat_tests}
use Rattle.alg_core.specs.Fields.{FieldOn}
use Rattle.alg_core.specs.DpOrder.{all_positive}
use Rattle.alg_core.specs.BlockOrder.{ones_positive}
use Rattle.alg_core.specs.Spaces.{IsPlace}
use Rattle.alg_core.specs.SpaceGrading.{AllPositive}
use Rattle.alg_core.specs.PolynomialSpaces.{plain_space, marked_space}
use Rattle.alg_core.proofs.MonomialCounts.{positive_ones}

length_replicate : (n x : ℕ) → length {A = ℕ} (replicate n x) ≡ n
length_replicate zero x = refl
length_replicate (suc n) x = ap suc (length_replicate n x)

length_marked : (n : ℕ) (ds : List ℕ) → length (replicate n 1 ++ ds) ≡ n + length ds
length_marked zero ds = omega arith
length_marked (suc n) ds = let h = length_marked n ds in omega arith

equal_test : (m n : ℕ) → m ≡ n → (m == n) ≡ true
equal_test m n e = grind (arith, nat_tests)

test_positive : (ds : List ℕ) → AllPositive ds → all_positive ds ≡ true
test_positive [] h = refl
test_positive (d ∷ ds) h = let first = h.0 in let rest = test_positive ds h.1 in grind (arith, nat_tests)

positive_marked : (n : ℕ) (ds : List ℕ) → AllPositive ds → AllPositive (replicate n 1 ++ ds)
positive_marked zero ds h = h
positive_marked (suc n) ds h = (omega arith, positive_marked n ds h)

module _ {E : Type 0} (k : FieldOn E) (n : ℕ) where
  pub plain_constants : IsPlace (plain_space k n) (0, replicate n 0)
  plain_constants =
      let p = length_replicate n 0 in
      let q = length_replicate n 1 in
      record { fits = equal_test (length (replicate n 0)) (length (replicate n 1)) (p ∙ sym q); wide = p ∙ sym q; low = omega arith }

  pub plain_positive : (all_positive (replicate n 1) ≡ true) × AllPositive (replicate n 1)
  plain_positive = (ones_positive n, positive_ones n)

  pub marked_constants : (ds : List ℕ) → IsPlace (marked_space k n ds) (0, replicate (n + length ds) 0)
  marked_constants ds =
      let p = length_replicate (n + length ds) 0 in
      record { fits = equal_test (length (replicate (n + length ds) 0)) (n + length ds) p; wide = p ∙ sym (length_marked n ds); low = omega arith }

  pub marked_positive : (ds : List ℕ) → AllPositive ds → (all_positive ds ≡ true) × AllPositive (replicate n 1 ++ ds)
  marked_positive ds h = (test_positive ds h, positive_marked n ds h)
