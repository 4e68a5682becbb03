-- The candidates of a degree, one after another: first the members of the echelon basis, then the other combinations by their digits.
--
--   one_then_zeros n      the digits 1, 0, .., 0, n of them
--   AreDigits q ds l      digits to the base q, the last of which that is not 0 is a 1 at place l; there may be none at all
--   numbers_above q m N   the numbers greater than N of combinations of m members that are no members, rising
--   Stands q m c          the list c of what is still to come is for m members and the base q
--   to_come k bs c        the candidates still to come, where bs are the members
use Rattle.std.specs.Prelude.{◌≡◌, ◌<◌, ◌≤◌, ℕ, zero, suc, ◌-◌, ◌^◌, List, [], ◌∷◌, ◌++◌, All, map, filter, length, drop, replicate}
use Rattle.std.specs.List.{range_with_len}
use Rattle.alg_core.specs.Fields.{FieldOn}
use Rattle.alg_core.specs.Vectors.{Vect}
use Rattle.primary_search.specs.declared.candidates.CandidateList.{CandidateList}
use Rattle.primary_search.specs.Candidates.{digits, number_of, is_new, combined}

abbrev pub one_then_zeros : ℕ → List ℕ
one_then_zeros zero = []
one_then_zeros (suc n) = 1 ∷ replicate n 0

pub record AreDigits (q : ℕ) (ds : List ℕ) (l : ℕ) : Type 0 where
  pub digits : All (λ d. d < q) ds
  pub within : l ≤ length ds - 1
  pub last : drop l ds ≡ one_then_zeros (length ds - l)

unfoldable pub numbers_above : ℕ → ℕ → ℕ → List ℕ
numbers_above q m N = filter (λ n. is_new (digits m q n)) (range_with_len (suc N) (q ^ m - suc N))

pub record Stands (q m : ℕ) (c : CandidateList) : Type 0 where
  pub members : c.members ≤ m
  pub count : length c.digits.items ≡ m
  pub digits : AreDigits q c.digits.items c.last

abbrev pub to_come : {E : Type 0} (k : FieldOn E) → List (Vect k) → CandidateList → List (Vect k)
to_come k bs c = drop c.members bs
    ++ map (λ N. combined k bs (digits (length bs) k.size N)) (numbers_above k.size (length bs) (number_of k.size c.digits.items))
