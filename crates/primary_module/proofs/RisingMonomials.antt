-- Lists of exponents that rise by the degree reverse lexicographic order.
use Rattle.std.proofs.Common.{◌≡◌, ◌⊎◌, ◌∙◌, ◌<◌, ◌==◌, ℕ, zero, suc, Bool, true, ◌&&◌, List, [], ◌∷◌, ◌++◌, reverse, length, take, replicate, refl, sym, ap, ap₂, inl, inr, arith}
use Rattle.std.specs.declared.cmp.Ordering.{Ordering}
use Rattle.std.specs.declared.cmp.Ordering.TheVariants.{Less, Equal, Greater}
use Rattle.std.specs.Ordering.{nat_cmp, flip_args, ordering_then}
use Rattle.std.specs.Cmp.Lexicographic.{slice_cmp}
use Rattle.std.proofs.lemmas.Bool.Decides.{nat_tests}
use Rattle.std.proofs.lemmas.Cmp.{tied_itself, nat_cmp_total}
use Rattle.std.proofs.lemmas.Grind.{reverse_onto}
use Rattle.std.proofs.lemmas.List.{length-reverse}
use Rattle.alg_core.specs.DpOrder.{weighted_degree, reverse_lexicographic, dp_compare}
use Rattle.alg_core.specs.Lists.{In}
use Rattle.alg_core.specs.Monomials.{exponent}
use Rattle.alg_core.proofs.Members.{in_cases}
use Rattle.poly_module.specs.GreatestExponents.{total}
use Rattle.finite_certificate.specs.StandardMonomials.{Rise}
use Rattle.primary_module.specs.UndividedMonomials.{is_zero_from}

pub head_zero : (x : ℕ) (r : Bool) → ((x == 0) && r) ≡ true → x ≡ 0
head_zero x r h = grind (arith, nat_tests)

pub rest_zero : (x : ℕ) (r : Bool) → ((x == 0) && r) ≡ true → r ≡ true
rest_zero x r h = grind (arith, nat_tests)

-- zeros from a place on
pub zeros_same : (a b : List ℕ) → length a ≡ length b → is_zero_from 0 a ≡ true → is_zero_from 0 b ≡ true → a ≡ b
zeros_same [] [] l p q = refl
zeros_same [] (y ∷ b) l p q = absurd (omega arith)
zeros_same (x ∷ a) [] l p q = absurd (omega arith)
zeros_same (x ∷ a) (y ∷ b) l p q = ap₂ ◌∷◌ (head_zero x _ p ∙ sym (head_zero y _ q)) (zeros_same a b (omega arith) (rest_zero x _ p) (rest_zero y _ q))

module _ where
  abbrev compare : List ℕ → List ℕ → Ordering
  compare = slice_cmp (flip_args nat_cmp)

  compare_front : (xs ys us vs : List ℕ) → length xs ≡ length ys → compare xs ys ≡ Less → compare (xs ++ us) (ys ++ vs) ≡ Less
  compare_front [] [] us vs l h = absurd cc
  compare_front [] (y ∷ ys) us vs l h = absurd (omega arith)
  compare_front (x ∷ xs) [] us vs l h = absurd (omega arith)
  compare_front (x ∷ xs) (y ∷ ys) us vs l h = go (nat_cmp y x) h (compare_front xs ys us vs (omega arith))
    where
      go : (o : Ordering) → ordering_then o (compare xs ys) ≡ Less → (compare xs ys ≡ Less → compare (xs ++ us) (ys ++ vs) ≡ Less) → ordering_then o (compare (xs ++ us) (ys ++ vs)) ≡ Less
      go Less h r = refl
      go Equal h r = r h
      go Greater h r = absurd cc

  compare_same : (xs us vs : List ℕ) → compare (xs ++ us) (xs ++ vs) ≡ compare us vs
  compare_same [] us vs = refl
  compare_same (x ∷ xs) us vs = ap (λ o. ordering_then o (compare (xs ++ us) (xs ++ vs))) (tied_itself nat_cmp_total x) ∙ compare_same xs us vs

  nothing_less : (x y : ℕ) → 0 < x → y ≡ 0 → nat_cmp y x ≡ Less
  nothing_less x y h z = grind (arith, nat_tests)

  -- of two lists with zeros after place j the one with an exponent there is smaller
  pub last_smaller : (j : ℕ) (a b : List ℕ) → length a ≡ length b → is_zero_from (suc j) a ≡ true → 0 < exponent a j → is_zero_from j b ≡ true → reverse_lexicographic a b ≡ Less
  last_smaller j [] b l p some q = absurd (omega arith)
  last_smaller j (x ∷ a) [] l p some q = absurd (omega arith)
  last_smaller zero (x ∷ a) (y ∷ b) l p some q =
      let same : a ≡ b = zeros_same a b (omega arith) p (rest_zero y _ q) in
      ap₂ compare (reverse_onto a x [] ∙ ap (λ l. reverse l ++ x ∷ []) same) (reverse_onto b y []) ∙ compare_same (reverse b) (x ∷ []) (y ∷ [])
      ∙ ap (λ o. ordering_then o Equal) (nothing_less x y some (head_zero y _ q))
  last_smaller (suc j) (x ∷ a) (y ∷ b) l p some q =
      let same : length (reverse a) ≡ length (reverse b) = length-reverse a ∙ omega arith ∙ sym (length-reverse b) in
      ap₂ compare (reverse_onto a x []) (reverse_onto b y []) ∙ compare_front (reverse a) (reverse b) (x ∷ []) (y ∷ []) same (last_smaller j a b (omega arith) p some q)

weighted_total : (n : ℕ) (a : List ℕ) → length a ≡ n → weighted_degree (replicate n 1) a ≡ total a
weighted_total zero [] l = refl
weighted_total zero (x ∷ a) l = absurd (omega arith)
weighted_total (suc n) [] l = refl
weighted_total (suc n) (x ∷ a) l = omega (arith, weighted_total n a (omega arith))

number_less : (x y : ℕ) → x < y → nat_cmp x y ≡ Less
number_less x y h = grind (arith, nat_tests)

module _ (n : ℕ) (a b : List ℕ) (p : length a ≡ n) (q : length b ≡ n) where
  abbrev later : Ordering
  later = ordering_then (reverse_lexicographic a b) (nat_cmp 0 0)

  -- a smaller degree
  pub degree_smaller : total a < total b → dp_compare (replicate n 1) (0, a) (0, b) ≡ Less
  degree_smaller h = ap (λ o. ordering_then o later) (ap₂ nat_cmp (weighted_total n a p) (weighted_total n b q) ∙ number_less (total a) (total b) h)

  -- one degree
  pub degree_same : total a ≡ total b → reverse_lexicographic a b ≡ Less → dp_compare (replicate n 1) (0, a) (0, b) ≡ Less
  degree_same e h =
      ap (λ o. ordering_then o later) (ap₂ nat_cmp (weighted_total n a p ∙ e) (weighted_total n b q) ∙ tied_itself nat_cmp_total (total b))
      ∙ ap (λ o. ordering_then o (nat_cmp 0 0)) h

module _ (n : ℕ) where
  abbrev pub IsSmaller : List ℕ → List ℕ → Type 0
  IsSmaller a b = dp_compare (replicate n 1) (0, a) (0, b) ≡ Less

  pub rise_append : (xs ys : List (List ℕ)) → Rise n xs → Rise n ys → ((a b : List ℕ) → In a xs → In b ys → IsSmaller a b) → Rise n (xs ++ ys)
  rise_append [] ys r s h = s
  rise_append (x ∷ xs) ys r s h = (λ b i. go b (in_cases b xs ys i), rise_append xs ys r.1 s (λ a b p q. h a b (inr p) q))
    where
      go : (b : List ℕ) → In b xs ⊎ In b ys → IsSmaller x b
      go b (inl i) = r.0 b i
      go b (inr i) = h x b (inl refl) i

  pub in_take : (m : ℕ) (xs : List (List ℕ)) (a : List ℕ) → In a (take m xs) → In a xs
  in_take zero [] a i = i
  in_take zero (x ∷ xs) a i = absurd i
  in_take (suc m) [] a i = i
  in_take (suc m) (x ∷ xs) a (inl e) = inl e
  in_take (suc m) (x ∷ xs) a (inr i) = inr (in_take m xs a i)

  pub rise_take : (m : ℕ) (xs : List (List ℕ)) → Rise n xs → Rise n (take m xs)
  rise_take zero [] r = tt
  rise_take zero (x ∷ xs) r = tt
  rise_take (suc m) [] r = tt
  rise_take (suc m) (x ∷ xs) r = (λ b i. r.0 b (in_take m xs b i), rise_take m xs r.1)
