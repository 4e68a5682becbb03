-- The monomials in n variables that no lead divides, by their exponents, as the search for them goes from degree to degree.
--
--   lead_exponents n ls        the exponents of the first n variables in the leads of the lists of terms ls
--   is_undivided ls a          no member of the list ls divides the exponents a
--   is_zero_from i a           the exponents from place i on are 0, where the first place is 0
--   variable_exponents n j     the exponents of variable j, from 0, of n variables
--   multiple_of ls n j a       the product of a and variable j, where a has no variable after it and no member of ls divides the
--                              product; a list of one or none
--   multiples_of ls n j bs     these of the members of the list bs
--   multiples_below ls n j bs  these by each variable before the j-th, the last one first
--   IsSmall n a                n exponents with a sum of at most 4096
--   AreUndivided ls n bs       bs are the exponents of n variables that no member of ls divides, rising
--   HasUndivided ls n m        there are m of them
use Rattle.std.specs.Prelude.{◌≡◌, ◌≤◌, ℕ, zero, suc, Bool, true, not, cond, ◌&&◌, ◌==◌, List, [], ◌∷◌, ◌++◌, All, length, take, replicate, slice_set}
use Rattle.alg_core.specs.ExponentLists.{product, divides}
use Rattle.alg_core.specs.Lists.{In}
use Rattle.alg_core.specs.declared.term.Term.{Term}
use Rattle.poly_module.specs.GreatestExponents.{total}
use Rattle.finite_certificate.specs.StandardMonomials.{Rise}
use Rattle.primary_module.specs.PrimaryModules.{rank_limit}

abbrev pub lead_exponents : {E : Type 0} → ℕ → List (List (Term E (List ℕ))) → List (List ℕ)
lead_exponents n [] = []
lead_exponents n ([] ∷ ls) = lead_exponents n ls
lead_exponents n ((t ∷ p) ∷ ls) = take n t.at.mono ∷ lead_exponents n ls

abbrev pub is_undivided : List (List ℕ) → List ℕ → Bool
is_undivided [] a = true
is_undivided (l ∷ ls) a = not (divides l a) && is_undivided ls a

abbrev pub is_zero_from : ℕ → List ℕ → Bool
is_zero_from i [] = true
is_zero_from zero (x ∷ a) = (x == 0) && is_zero_from zero a
is_zero_from (suc i) (x ∷ a) = is_zero_from i a

abbrev pub variable_exponents : ℕ → ℕ → List ℕ
variable_exponents n j = slice_set (replicate n 0) j 1

pub record IsSmall (n : ℕ) (a : List ℕ) : Type 0 where
  pub wide : length a ≡ n
  pub low : total a ≤ rank_limit

module _ (ls : List (List ℕ)) (n : ℕ) where
  abbrev pub multiple_of : ℕ → List ℕ → List (List ℕ)
  multiple_of j a =
      let b = product (variable_exponents n j) a in
      cond (is_zero_from (suc j) a && is_undivided ls b) (b ∷ []) []

  abbrev pub multiples_of : ℕ → List (List ℕ) → List (List ℕ)
  multiples_of j [] = []
  multiples_of j (b ∷ bs) = multiple_of j b ++ multiples_of j bs

  abbrev pub multiples_below : ℕ → List (List ℕ) → List (List ℕ)
  multiples_below zero bs = []
  multiples_below (suc j) bs = multiples_of j bs ++ multiples_below j bs

  pub record AreUndivided (bs : List (List ℕ)) : Type 0 where
    pub wide : All (λ a. length a ≡ n) bs
    pub rising : Rise n bs
    pub undivided : All (λ a. is_undivided ls a ≡ true) bs
    pub all : (a : List ℕ) → length a ≡ n → is_undivided ls a ≡ true → In a bs

  pub record HasUndivided (m : ℕ) : Type 0 where
    pub some : List (List ℕ)
    pub wide : All (λ a. length a ≡ n) some
    pub rising : Rise n some
    pub undivided : All (λ a. is_undivided ls a ≡ true) some
    pub count : length some ≡ m
