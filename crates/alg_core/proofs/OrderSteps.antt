-- Degrees and comparisons of exponents, as loops over them go.
use Rattle.std.proofs.Common.{◌≡◌, ℕ, zero, suc, ◌+◌, ◌*◌, ◌<◌, ◌≤◌, List, [], ◌∷◌, ◌++◌, length, get_or, take, drop, refl, sym, ap, ap₂, ◌∙◌, arith}
use Rattle.std.specs.Prelude.{reverse}
use Rattle.std.specs.declared.cmp.Ordering.TheVariants.{Equal}
use Rattle.std.specs.Ordering.{nat_cmp, flip_args, ordering_then}
use Rattle.std.specs.Cmp.Lexicographic.{slice_cmp}
use Rattle.std.proofs.lemmas.List.{drop_more, take_more, reverse-append, drop-append-le, length-take-le, drop_all}
use Rattle.alg_core.specs.DpOrder.{weighted_degree, reverse_lexicographic}

-- one weight and one exponent more
pub weighted_degree_more : (ws a : List ℕ) (j i : ℕ) → j < length ws → i < length a → weighted_degree (drop j ws) (drop i a) ≡ get_or ws j 0 * get_or a i 0 + weighted_degree (drop (j + 1) ws) (drop (i + 1) a)
weighted_degree_more ws a j i hj hi = ap₂ weighted_degree (drop_more ws j 0 hj) (drop_more a i 0 hi)

pub weighted_degree_none : (ws a : List ℕ) (i : ℕ) → length a ≤ i → weighted_degree ws (drop i a) ≡ 0
weighted_degree_none ws a i past = ap (weighted_degree ws) (drop_all i a past) ∙ nothing ws
  where
    nothing : (ws : List ℕ) → weighted_degree ws [] ≡ 0
    nothing [] = refl
    nothing (w ∷ ws) = refl

-- the exponents from one place to before another, and one more
segment_more : (a : List ℕ) (from i : ℕ) → from ≤ i → i < length a → drop from (take (i + 1) a) ≡ drop from (take i a) ++ (get_or a i 0 ∷ [])
segment_more a from i low high =
    let long : from ≤ length (take i a) = omega (arith, length-take-le i a (omega arith)) in
    ap (drop from) (take_more a i 0 high) ∙ drop-append-le from (take i a) (get_or a i 0 ∷ []) long

-- what a walk down from the last exponent knows at i
abbrev pub Walks : List ℕ → List ℕ → ℕ → ℕ → ℕ → Type 0
Walks a b from to i = reverse_lexicographic (drop from (take i a)) (drop from (take i b)) ≡ reverse_lexicographic (drop from (take to a)) (drop from (take to b))

pub walk_step : (a b : List ℕ) (from to i : ℕ) → from ≤ i → i < length a → i < length b → Walks a b from to (i + 1)
    → ordering_then (nat_cmp (get_or b i 0) (get_or a i 0)) (reverse_lexicographic (drop from (take i a)) (drop from (take i b))) ≡ reverse_lexicographic (drop from (take to a)) (drop from (take to b))
walk_step a b from to i low ha hb w =
    sym (ap₂ (slice_cmp (flip_args nat_cmp)) (ap reverse (segment_more a from i low ha) ∙ reverse-append (drop from (take i a)) (get_or a i 0 ∷ [])) (ap reverse (segment_more b from i low hb) ∙ reverse-append (drop from (take i b)) (get_or b i 0 ∷ []))) ∙ w

-- at the end of the walk nothing is left
pub walk_end : (a b : List ℕ) (from to i : ℕ) → i ≤ from → Walks a b from to i → Equal ≡ reverse_lexicographic (drop from (take to a)) (drop from (take to b))
walk_end a b from to i low w = sym (ap₂ reverse_lexicographic (none a) (none b)) ∙ w
  where
    none : (a : List ℕ) → drop from (take i a) ≡ []
    none a = drop_all from (take i a) (short a i from low)
      where
        short : (a : List ℕ) (i from : ℕ) → i ≤ from → length (take i a) ≤ from
        short a zero from h = omega arith
        short [] (suc i) from h = omega arith
        short (x ∷ a) (suc i) zero h = absurd (omega arith)
        short (x ∷ a) (suc i) (suc from) h = let rest = short a i from (omega arith) in omega arith

-- all of a list
pub segment_all : (a : List ℕ) (from to : ℕ) → length a ≤ to → drop from (take to a) ≡ drop from a
segment_all a from to h = ap (drop from) (all a to h)
  where
    all : (a : List ℕ) (n : ℕ) → length a ≤ n → take n a ≡ a
    all [] zero h = refl
    all [] (suc n) h = refl
    all (x ∷ a) zero h = absurd (omega arith)
    all (x ∷ a) (suc n) h = ap (λ l. x ∷ l) (all a n (omega arith))
