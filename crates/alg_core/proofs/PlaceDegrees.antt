-- The degree of a place of a space, by its weights and shifts.
use Rattle.std.proofs.Common.{◌≡◌, ℕ, zero, suc, ◌+◌, ◌*◌, ◌<◌, ◌≤◌, List, [], ◌∷◌, length, get_or, refl, ap, ap₂, ◌∙◌, arith}
use Rattle.alg_core.specs.DpOrder.{weighted_degree}
use Rattle.alg_core.specs.Monomials.{mono, exponent_mono}
use Rattle.alg_core.specs.Keys.{TermPlace, key}
use Rattle.alg_core.specs.Spaces.{SpaceOver}
use Rattle.alg_core.specs.ExponentLists.{Within}
use Rattle.alg_core.specs.SpaceGrading.{AllPositive, weight, weight_ext, height, degree}

pub weight_weighted_degree : (ws : List ℕ) (i : ℕ) (a : List ℕ) → length a ≡ length ws → weight ws i a ≡ weighted_degree ws a
unfolding weight
weight_weighted_degree [] i [] e = refl
weight_weighted_degree [] i (x ∷ a) e = absurd (omega arith)
weight_weighted_degree (w ∷ ws) i [] e = absurd (omega arith)
weight_weighted_degree (w ∷ ws) i (x ∷ a) e = ap (λ d. w * x + d) (weight_weighted_degree ws (suc i) a (omega arith))

height_shift : (ss : List ℕ) (q : ℕ) → q < length ss → height ss q ≡ get_or ss q 0
unfolding height
height_shift [] q h = absurd (omega arith)
height_shift (s ∷ ss) zero h = refl
height_shift (s ∷ ss) (suc q) h = height_shift ss q (omega arith)

pub degree_key : {E : Type 0} (S : SpaceOver E) (p : TermPlace) → length p.1 ≡ length S.weights → p.0 < length S.shifts → degree S (key p) ≡ weighted_degree S.weights p.1 + get_or S.shifts p.0 0
unfolding degree key
degree_key S p wide low = ap₂ (λ d h. d + h) (weight_ext S.weights 0 (mono p.1).0 p.1 (exponent_mono p.1) ∙ weight_weighted_degree S.weights 0 p.1 wide) (height_shift S.shifts p.0 low)

-- where no weight is 0, no exponent is above the degree
pub within_degree : (cap : ℕ) (ws a : List ℕ) → AllPositive ws → length a ≡ length ws → weighted_degree ws a ≤ cap → Within cap a
within_degree cap ws a positive same high = λ i d h. go ws a i d positive same high h
  where
    up : (w x : ℕ) → 0 < w → x ≤ w * x
    up zero x h = absurd (omega arith)
    up (suc w) x h = omega arith

    go : (ws a : List ℕ) (i d : ℕ) → AllPositive ws → length a ≡ length ws → weighted_degree ws a ≤ cap → i < length a → get_or a i d ≤ cap
    go [] [] i d p s h w = absurd (omega arith)
    go [] (x ∷ a) i d p s h w = absurd (omega arith)
    go (v ∷ ws) [] i d p s h w = absurd (omega arith)
    go (v ∷ ws) (x ∷ a) zero d p s h w = let m = up v x p.0 in omega arith
    go (v ∷ ws) (x ∷ a) (suc i) d p s h w = go ws a i d p.1 (omega arith) (omega arith) (omega arith)
