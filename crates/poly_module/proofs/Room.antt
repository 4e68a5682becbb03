-- Bounds of degrees give room for products: where the weights are positive and the degrees of the parts add up to at most a cap, no
-- exponent of a product is over it.
use Rattle.std.proofs.Common.{◌≡◌, ◌<◌, ◌≤◌, ◌+◌, ◌*◌, ℕ, zero, suc, List, [], ◌∷◌, map, length, get_or, mul_comm, arith}
use Rattle.std.specs.Prelude.{All}
use Rattle.alg_core.specs.DpOrder.{weighted_degree}
use Rattle.alg_core.specs.Keys.{TermPlace, key}
use Rattle.alg_core.specs.Vectors.{Entry}
use Rattle.alg_core.specs.declared.term.Term.{Term}
use Rattle.alg_core.specs.Spaces.{SpaceOver, IsPlace, entries, Fits}
use Rattle.alg_core.specs.SpaceGrading.{AllPositive, degree}
use Rattle.alg_core.proofs.PlaceDegrees.{degree_key}
use Rattle.poly_module.specs.GreatestExponents.{total, greatest, peak, highest}
use Rattle.poly_module.specs.SpaceVectors.{vector_of, IsVector, AreVectors, IsUpTo}
use Rattle.poly_module.specs.Sizes.{HasRoomAt, HasRoom, HasRoomIn, IsLow}
use Rattle.poly_module.proofs.EntryCoefficients.{term_at_index}
use Rattle.poly_module.proofs.ExponentBounds.{fits_keys, within_product, mul_mono}

mul_up : (w x : ℕ) → 0 < w → x ≤ w * x
mul_up zero x h = absurd (omega arith)
mul_up (suc w) x h = omega arith

-- positive weights
total_weighted : (ws a : List ℕ) → AllPositive ws → length a ≡ length ws → total a ≤ weighted_degree ws a
total_weighted [] [] h e = omega arith
total_weighted [] (x ∷ a) h e = absurd (omega arith)
total_weighted (w ∷ ws) [] h e = absurd (omega arith)
total_weighted (w ∷ ws) (x ∷ a) h e = let rest = total_weighted ws a h.1 (omega arith) in let here = mul_up w x h.0 in omega arith

greatest_total : (a : List ℕ) → greatest a ≤ total a
greatest_total [] = omega arith
greatest_total (x ∷ a) = let h = greatest_total a in omega arith

module _ {E : Type 0} (S : SpaceOver E) (positive : AllPositive S.weights) where
  -- of a place of a degree
  pub place_low : (d : ℕ) (p : TermPlace) → IsPlace S p → degree S (key p) ≤ d → total p.1 ≤ d
  place_low d p h low = let sum = total_weighted S.weights p.1 positive h.wide in let at = degree_key S p h.wide h.low in omega arith

  terms_low : (d : ℕ) (es : List (Entry E)) → Fits S es → All (λ e. degree S (key e.0) ≤ d) es → All (λ e. total e.0.1 ≤ d) es
  terms_low d es f up k z w = place_low d (get_or es k z).0 (term_at_index S es k z w f).place (up k z w)

  module _ {M : Type 0} (exps : M → List ℕ) where
    vector_low : (d : ℕ) (v : List (Term E M)) → IsVector S exps v → IsUpTo S d (vector_of S exps v) → All (λ e. total e.0.1 ≤ d) (entries exps v)
    vector_low d v f up = terms_low d (entries exps v) f (fits_keys S (λ t. degree S t ≤ d) (entries exps v) f up)

    -- one monomial times a vector
    pub room_at : (cap d e : ℕ) (a : List ℕ) (v : List (Term E M)) → d + e ≤ cap → length a ≡ length S.weights → weighted_degree S.weights a ≤ d
        → IsVector S exps v → IsUpTo S e (vector_of S exps v) → HasRoomAt cap exps a v
    room_at cap d e a v fits wide low f up k z w =
        let t = get_or (entries exps v) k z in
        let here = total_weighted S.weights a positive wide in
        let there : total t.0.1 ≤ e = vector_low e v f up k z w in
        let first = greatest_total a in
        let second = greatest_total t.0.1 in
        within_product cap a t.0.1 (omega arith)

    -- a polynomial times a vector
    pub room : (cap d e : ℕ) (f v : List (Term E M)) → d + e ≤ cap → IsVector S exps f → IsUpTo S d (vector_of S exps f) → IsVector S exps v → IsUpTo S e (vector_of S exps v) → HasRoom cap exps f v
    room cap d e f v fits hf uf hv uv i y x k z w =
        let s = get_or (entries exps f) i y in
        let t = get_or (entries exps v) k z in
        let here : total s.0.1 ≤ d = vector_low d f hf uf i y x in
        let there : total t.0.1 ≤ e = vector_low e v hv uv k z w in
        let first = greatest_total s.0.1 in
        let second = greatest_total t.0.1 in
        within_product cap s.0.1 t.0.1 (omega arith)

    -- linear forms for the variables of a polynomial
    pub low : (cap d : ℕ) (f : List (Term E M)) → d ≤ cap → IsVector S exps f → IsUpTo S d (vector_of S exps f) → IsLow cap exps f
    low cap d f fits hf up k z w = let h : total (get_or (entries exps f) k z).0.1 ≤ d = vector_low d f hf up k z w in omega arith

    peak_low : (d : ℕ) (es : List (Entry E)) → All (λ e. total e.0.1 ≤ d) es → peak es ≤ d
    peak_low d [] h = omega arith
    peak_low d (e ∷ es) h = let here : total e.0.1 ≤ d = h 0 e (omega arith) in let first = greatest_total e.0.1 in let rest = peak_low d es (λ k z w. h (suc k) z (omega arith)) in omega arith

    highest_low : (d : ℕ) (vs : List (List (Term E M))) → AreVectors S exps vs → All (λ v. IsUpTo S d (vector_of S exps v)) vs → highest (map (entries exps) vs) ≤ d
    highest_low d [] f h = omega arith
    highest_low d (v ∷ vs) f h =
        let first = peak_low d (entries exps v) (vector_low d v (f 0 v (omega arith)) (h 0 v (omega arith))) in
        let rest = highest_low d vs (λ k z w. f (suc k) z (omega arith)) (λ k z w. h (suc k) z (omega arith)) in
        omega arith

    -- any polynomials of degree up to e for the variables of a polynomial in another space, of degree up to d
    pub room_in : (cap d e : ℕ) (f : List (Term E M)) (images : List (List (Term E M))) → d * e ≤ cap → All (λ t. total t.0.1 ≤ d) (entries exps f)
        → AreVectors S exps images → All (λ v. IsUpTo S e (vector_of S exps v)) images → HasRoomIn cap exps f images
    room_in cap d e f images fits few hs ups k z w =
        let n = total (get_or (entries exps f) k z).0.1 in
        let most = highest (map (entries exps) images) in
        let high : most ≤ e = highest_low e images hs ups in
        let one : n ≤ d = few k z w in
        let left : n * most ≤ d * most = mul_mono n d most one in
        let right : most * d ≤ e * d = mul_mono most e d high in
        omega (arith, left, right, mul_comm d most, mul_comm d e)
