-- The text of a demonstration is that of a script, and sets its problem: for each number of pairs by computing.
use Rattle.std.proofs.Common.{◌≡◌, ◌⊎◌, ◌∙◌, ℕ, zero, suc, ◌+◌, ◌-◌, ◌*◌, ◌%◌, ◌<◌, ◌≤◌, Bool, true, false, ◌&&◌, List, [], ◌∷◌, length, map, Some, None, if◌then◌else◌, inl, inr, refl, sym, ap, subst, arith}
use Rattle.std.specs.Prelude.{◌==◌, Option, codes, nat_le, nat_lt, slice_index_or}
use Rattle.std.proofs.lemmas.Bool.{leb-true}
use Rattle.std.proofs.lemmas.Bool.Decides.{nat_tests}
use native.Mathlib.Decide.{ℕ_discrete}
use Rattle.alg_core.specs.Fields.{Scalar, scalar, scalars, scalar_zero, scalar_one}
use Rattle.alg_core.specs.declared.input_fault.InputFault.{InputFault}
use Rattle.lin_algebra.specs.Matrices.{cut, product, IsIdentity}
use Rattle.lin_algebra.specs.Vectors.{unit}
use Rattle.lin_algebra.proofs.DotLaws.{dot_same, dot_comm, dot_unit, unit_at, unit_other}
use Rattle.prime_field.specs.ListedPrimes.{is_listed}
use Rattle.prime_field.specs.PrimeFields.{gfp}
use Rattle.finvar_text.specs.Conditions.{value, cells, generators, entries_of_cells, first_of, value_conditions, IsNonsingularModulo, FaultFrom, HasFault}
use Rattle.finvar_text.specs.Demos.{exchange, letters, separated, ring_line, matrix_line, call_line, demo_problem, demo_text}
use Rattle.finvar_text.specs.Grammar.{After, Items, next_symbol, next_word, next_number, opening_symbol, opening_word, opening_number, body_symbol, body_word, body_number, matrix_symbol, matrix_number, call_symbol, call_word}
use Rattle.finvar_text.specs.Problems.{problem_of, IsProblemText}
use Rattle.finvar_text.specs.Scanning.{Scan, Between, at, start_scan, scan, step_in, between, in_word, in_number}
use Rattle.finvar_text.specs.Scripts.{most_bytes}
use Rattle.finvar_text.specs.Syntax.{Matrix, Call, Declared, Called, Script}
use Rattle.finvar_text.proofs.Scans.{scanned_text}

-- tests of all numbers below one

abbrev pub all_below : ℕ → (ℕ → Bool) → Bool
all_below zero test = true
all_below (suc n) test = test n && all_below n test

both : (a b : Bool) → (a && b) ≡ true → (a ≡ true) × (b ≡ true)
both true b h = (refl, h)
both false b h = absurd cc

below_more : (n : ℕ) (test : ℕ → Bool) (i : ℕ) → test n ≡ true → (i < n → test i ≡ true) → i < suc n → Dec (i ≡ n) → test i ≡ true
below_more n test i here below l (yes e) = subst (λ j. test j ≡ true) (sym e) here
below_more n test i here below l (no d) = below (omega arith)

below_at : (n : ℕ) (test : ℕ → Bool) → all_below n test ≡ true → (i : ℕ) → i < n → test i ≡ true
below_at zero test h i l = absurd (omega arith)
below_at (suc n) test h i l = let parts = both (test n) (all_below n test) h in below_more n test i parts.0 (below_at n test parts.1 i) l (ℕ_discrete i n)

-- a matrix whose row i is that of the identity at the partner of i

abbrev partner : ℕ → ℕ
partner i = if i % 2 == 0 then i + 1 else i - 1

abbrev cell_at : ℕ → List ℕ → ℕ → ℕ → ℕ
cell_at n cs i j = slice_index_or (slice_index_or (cut n n cs) i []) j 0

abbrev is_cell : ℕ → List ℕ → ℕ → ℕ → Bool
is_cell n cs i j = cell_at n cs i j == (if partner i == j then 1 else 0)

abbrev is_row : ℕ → List ℕ → ℕ → Bool
is_row n cs i = nat_lt (partner i) n && (partner (partner i) == i && all_below n (is_cell n cs i))

record IsRow (n : ℕ) (cs : List ℕ) (i : ℕ) : Type 0 where
  within : partner i < n
  back : partner (partner i) ≡ i
  cells : (j : ℕ) → j < n → is_cell n cs i j ≡ true

row_is : (n : ℕ) (cs : List ℕ) → all_below n (is_row n cs) ≡ true → (i : ℕ) → i < n → IsRow n cs i
row_is n cs test i l =
    let parts = both _ _ (below_at n (is_row n cs) test i l) in
    let more = both _ _ parts.1 in
    record { within = lt_of _ _ parts.0; back = eq_of _ _ more.0; cells = below_at n (is_cell n cs i) more.1 }
  where
    lt_of : (a b : ℕ) → nat_lt a b ≡ true → a < b
    lt_of a b h = grind (arith, nat_tests)

    eq_of : (a b : ℕ) → (a == b) ≡ true → a ≡ b
    eq_of a b h = grind (arith, nat_tests)

module _ (p : ℕ) (listed : is_listed p ≡ true) (n : ℕ) (cs : List ℕ) (test : all_below n (is_row n cs) ≡ true) where
  abbrev matrix : ℕ → ℕ → Scalar (gfp p listed)
  matrix = entries_of_cells (gfp p listed) n cs

  entry_is : (i j : ℕ) → i < n → j < n → matrix i j ≡ unit (scalars (gfp p listed)) (partner i) j
  entry_is i j li lj = go (ℕ_discrete (partner i) j)
    where
      one : (a b c : ℕ) → (a == (if b == c then 1 else 0)) ≡ true → b ≡ c → a ≡ 1
      one a b c h e = grind (arith, nat_tests)

      none : (a b c : ℕ) → (a == (if b == c then 1 else 0)) ≡ true → (b ≡ c → ⊥) → a ≡ 0
      none a b c h e = grind (arith, nat_tests)

      is : is_cell n cs i j ≡ true
      is = (row_is n cs test i li).cells j lj

      go : Dec (partner i ≡ j) → matrix i j ≡ unit (scalars (gfp p listed)) (partner i) j
      go (yes e) = ap (scalar (gfp p listed)) (one _ _ _ is e) ∙ scalar_one (gfp p listed) ∙ sym (unit_at (scalars (gfp p listed)) (partner i) j e)
      go (no d) = ap (scalar (gfp p listed)) (none _ _ _ is d) ∙ scalar_zero (gfp p listed) ∙ sym (unit_other (scalars (gfp p listed)) (partner i) j d)

  square : IsIdentity (scalars (gfp p listed)) n (product (scalars (gfp p listed)) n matrix matrix)
  square i j li lj =
      let R = scalars (gfp p listed) in
      let row = row_is n cs test i li in
      dot_same R n (matrix i) (unit R (partner i)) (λ l. matrix l j) (λ l. matrix l j) (λ l ll. entry_is i l li ll) (λ l ll. refl)
      ∙ dot_comm R n (unit R (partner i)) (λ l. matrix l j)
      ∙ dot_unit R n (λ l. matrix l j) (partner i) row.within
      ∙ entry_is (partner i) j row.within lj
      ∙ ap (λ m. unit R m j) row.back

  self_inverse : IsNonsingularModulo p n cs
  self_inverse = (listed, matrix, record { right = square; left = square })

-- the tree of the text

abbrev demo_matrix : ℕ → Matrix
demo_matrix n = record { name = codes "A"; rows = (48 + n) ∷ []; cols = (48 + n) ∷ []; entries = map (λ c. record { is_negative = false; digits = (48 + c) ∷ [] }) (exchange n) }

abbrev demo_call : Call
demo_call = record { first = codes "P"; second = codes "S"; third = codes "IS"; arguments = codes "A" ∷ [] }

abbrev demo_tree : ℕ → Script
demo_tree k = record {
  libs = [];
  ring = codes "R";
  characteristic = codes "2";
  in_parentheses = true;
  variables = map (λ b. b ∷ []) (letters (2 * k));
  items = Declared (demo_matrix (2 * k)) ∷ Called demo_call ∷ [];
}

abbrev demo_end : ℕ → Scan
demo_end k = at (After (demo_tree k) true Items) Between

-- what is computed for a number of pairs
record IsComputed (k : ℕ) : Type 0 where
  short : nat_le (length (demo_text k)) most_bytes ≡ true
  read : scan start_scan (demo_text k) ≡ Some (demo_end k)
  conditions : first_of (value_conditions (demo_tree k)) ≡ None
  count : length (demo_tree k).variables ≡ 2 * k
  cells_are : cells 2 (demo_matrix (2 * k)) ≡ exchange (2 * k)
  exchanges : all_below (2 * k) (is_row (2 * k) (exchange (2 * k))) ≡ true

computed_one : IsComputed 1
unfolding demo_text ring_line matrix_line call_line separated exchange value generators step_in between in_word in_number next_symbol next_word next_number opening_symbol opening_word opening_number body_symbol body_word body_number matrix_symbol matrix_number call_symbol call_word
computed_one = record { short = refl; read = refl; conditions = refl; count = refl; cells_are = refl; exchanges = refl }

computed_two : IsComputed 2
unfolding demo_text ring_line matrix_line call_line separated exchange value generators step_in between in_word in_number next_symbol next_word next_number opening_symbol opening_word opening_number body_symbol body_word body_number matrix_symbol matrix_number call_symbol call_word
computed_two = record { short = refl; read = refl; conditions = refl; count = refl; cells_are = refl; exchanges = refl }

computed_three : IsComputed 3
unfolding demo_text ring_line matrix_line call_line separated exchange value generators step_in between in_word in_number next_symbol next_word next_number opening_symbol opening_word opening_number body_symbol body_word body_number matrix_symbol matrix_number call_symbol call_word
computed_three = record { short = refl; read = refl; conditions = refl; count = refl; cells_are = refl; exchanges = refl }

computed_four : IsComputed 4
unfolding demo_text ring_line matrix_line call_line separated exchange value generators step_in between in_word in_number next_symbol next_word next_number opening_symbol opening_word opening_number body_symbol body_word body_number matrix_symbol matrix_number call_symbol call_word
computed_four = record { short = refl; read = refl; conditions = refl; count = refl; cells_are = refl; exchanges = refl }

computed : (k : ℕ) → 1 ≤ k → k ≤ 4 → IsComputed k
computed k some few = by (one_of k some few)
  where
    one_of : (k : ℕ) → 1 ≤ k → k ≤ 4 → (k ≡ 1) ⊎ ((k ≡ 2) ⊎ ((k ≡ 3) ⊎ (k ≡ 4)))
    one_of k some few = grind arith

    by : (k ≡ 1) ⊎ ((k ≡ 2) ⊎ ((k ≡ 3) ⊎ (k ≡ 4))) → IsComputed k
    by (inl e) = subst IsComputed (sym e) computed_one
    by (inr (inl e)) = subst IsComputed (sym e) computed_two
    by (inr (inr (inl e))) = subst IsComputed (sym e) computed_three
    by (inr (inr (inr e))) = subst IsComputed (sym e) computed_four

-- from that to the script and its problem

nonsingular : (k : ℕ) → IsComputed k → IsNonsingularModulo 2 (length (demo_tree k).variables) (cells 2 (demo_matrix (2 * k)))
nonsingular k c =
    subst (λ n. IsNonsingularModulo 2 n (cells 2 (demo_matrix (2 * k)))) (sym c.count)
    (subst (IsNonsingularModulo 2 (2 * k)) (sym c.cells_are) (self_inverse 2 refl (2 * k) (exchange (2 * k)) c.exchanges))

no_fault : (k : ℕ) → IsComputed k → HasFault (demo_tree k) None
unfolding value generators
no_fault k c = subst (λ (o : Option InputFault). FaultFrom o (demo_tree k) None) (sym c.conditions) (inl (nonsingular k c, refl))

problem_is : (k : ℕ) → IsComputed k → demo_problem k ≡ problem_of (demo_tree k)
unfolding value generators
problem_is k c = let cells_are = sym c.cells_are in λ i. record { characteristic = 2; variables = map (λ b. b ∷ []) (letters (2 * k)); generators = cells_are i ∷ [] }

script_is : (k : ℕ) → IsComputed k → IsProblemText (demo_text k) (demo_problem k)
script_is k c = record {
  short = leb-true _ _ c.short;
  tree = demo_tree k;
  text = scanned_text (demo_text k) (demo_end k) (demo_tree k) c.read refl;
  values = no_fault k c;
  problem = problem_is k c;
}

pub demo_is_script : (k : ℕ) → 1 ≤ k → k ≤ 4 → IsProblemText (demo_text k) (demo_problem k)
demo_is_script k some few = script_is k (computed k some few)
