-- Candidates for primary invariants: the members of an echelon basis, then other combinations of them.
--
--   digits m q N           the lowest m digits of the number N to the base q, the lowest first
--   number_of q ds         the number with the digits ds to the base q
--   others ds              how many of the digits are not 0
--   ends_in_one ds         the last digit that is not 0 is 1
--   is_new ds              whether they stand for a combination that is no member: the last digit that is not 0 is 1, and there are
--                          others
--   combined k bs ds       the combination of the members bs whose coefficients have the digits ds as numbers
--   new_numbers q m        the numbers of these combinations of m members, rising
--   all_candidates k bs    bs, and then these combinations by rising number
--   candidates k tries bs  the first `tries` of them
use Rattle.std.specs.Prelude.{ℕ, zero, suc, ◌+◌, ◌*◌, ◌^◌, ◌/◌, ◌%◌, ◌==◌, ◌&&◌, Bool, false, not, nat_le, if◌then◌else◌, List, [], ◌∷◌, ◌++◌, map, filter, length, take, count_by}
use Rattle.std.specs.List.{range_with_len}
use Rattle.alg_core.specs.Fields.{FieldOn, scalar}
use Rattle.alg_core.specs.Spans.{combine}
use Rattle.alg_core.specs.Vectors.{Vect, vectors}

abbrev pub digits : ℕ → ℕ → ℕ → List ℕ
digits zero q N = []
digits (suc m) q N = (N % q) ∷ digits m q (N / q)

abbrev pub number_of : ℕ → List ℕ → ℕ
number_of q [] = 0
number_of q (d ∷ ds) = d + q * number_of q ds

abbrev pub others : List ℕ → ℕ
others ds = count_by (λ d. not (d == 0)) ds

abbrev pub ends_in_one : List ℕ → Bool
ends_in_one [] = false
ends_in_one (d ∷ ds) = if others ds == 0 then d == 1 else ends_in_one ds

abbrev pub is_new : List ℕ → Bool
is_new ds = ends_in_one ds && nat_le 2 (others ds)

unfoldable pub new_numbers : ℕ → ℕ → List ℕ
new_numbers q m = filter (λ N. is_new (digits m q N)) (range_with_len 0 (q ^ m))

module _ {E : Type 0} (k : FieldOn E) where
  abbrev pub combined : List (Vect k) → List ℕ → Vect k
  combined bs ds = combine (vectors k) (map (λ d. scalar k (k.of_number d)) ds) bs

  abbrev pub all_candidates : List (Vect k) → List (Vect k)
  all_candidates bs = bs ++ map (λ N. combined bs (digits (length bs) k.size N)) (new_numbers k.size (length bs))

  abbrev pub candidates : ℕ → List (Vect k) → List (Vect k)
  candidates tries bs = take tries (all_candidates bs)
