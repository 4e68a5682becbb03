-- Small polynomials meet the bounds of the calls that are tested.
use Rattle.std.proofs.Common.{◌≡◌, ◌≢◌, ◌<◌, ◌≤◌, ◌*◌, ◌++◌, ℕ, zero, suc, List, [], ◌∷◌, map, length, get_or, sym, subst, arith}
use Rattle.std.specs.Prelude.{All, AllPairs}
use Rattle.std.proofs.lemmas.List.Elements.{All-push, All-cons, All-nil}
use Rattle.std.proofs.lemmas.List.Kept.{AllPairs-cons}
use Rattle.alg_core.specs.ExponentLists.{product, Within}
use Rattle.alg_core.specs.Spaces.{entries}
use Rattle.alg_core.specs.Vectors.{Entry}
use Rattle.alg_core.specs.declared.term.Term.{Term}
use Rattle.poly_module.specs.GreatestExponents.{total, greatest, peak, highest}
use Rattle.poly_module.proofs.ExponentBounds.{mul_mono}
use Rattle.test_inputs.specs.Smallness.{IsSmallEntry, IsSmall}

-- one more at the end
pub all_added : {A : Type 0} (P : A → Type 0) (old new : List A) (x : A) → new ≡ old ++ (x ∷ []) → All P old → P x → All P new
all_added P old new x added all here = subst (All P) (sym added) (All-push P old x all here)

pub positions : (es : List (Entry ℕ)) → IsSmall es → All (λ e. e.0.0 ≡ 0) es
positions es small = λ k d h. (small k d h).position

pub widths : (es : List (Entry ℕ)) → IsSmall es → All (λ e. length e.0.1 ≡ 3) es
widths es small = λ k d h. (small k d h).three

total_within : (cap : ℕ) (a : List ℕ) → Within cap a → total a ≤ length a * cap
total_within cap [] h = omega arith
total_within cap (x ∷ a) h =
    let first : x ≤ cap = h 0 0 (omega arith) in
    let rest : total a ≤ length a * cap = total_within cap a (λ k d w. h (suc k) d (omega arith)) in
    omega arith

greatest_within : (cap : ℕ) (a : List ℕ) → Within cap a → greatest a ≤ cap
greatest_within cap [] h = omega arith
greatest_within cap (x ∷ a) h =
    let first : x ≤ cap = h 0 0 (omega arith) in
    let rest : greatest a ≤ cap = greatest_within cap a (λ k d w. h (suc k) d (omega arith)) in
    omega arith

-- the degree of an entry
total_of : (e : Entry ℕ) → IsSmallEntry e → total e.0.1 ≤ 3000
total_of e small = subst (λ n. total e.0.1 ≤ n * 1000) small.three (total_within 1000 e.0.1 small.within)

pub totals : (es : List (Entry ℕ)) → IsSmall es → All (λ e. total e.0.1 ≤ 4294967295) es
totals es small = λ k d h. let most = total_of (get_or es k d) (small k d h) in omega (arith, most)

-- each exponent of a product is at most 2000
at_most : (a b : List ℕ) → Within 1000 a → Within 1000 b → (k d : ℕ) → k < length (product a b) → get_or (product a b) k d ≤ 2000
at_most [] b p q k d h = absurd (omega arith)
at_most (x ∷ a) [] p q k d h = absurd (omega arith)
at_most (x ∷ a) (y ∷ b) p q zero d h = let u : x ≤ 1000 = p 0 0 (omega arith) in let v : y ≤ 1000 = q 0 0 (omega arith) in omega arith
at_most (x ∷ a) (y ∷ b) p q (suc k) d h = at_most a b (λ i e w. p (suc i) e (omega arith)) (λ i e w. q (suc i) e (omega arith)) k d (omega arith)

pub multiples : (m : List ℕ) (es : List (Entry ℕ)) → Within 1000 m → IsSmall es → All (λ e. Within 4294967295 (product m e.0.1)) es
multiples m es few small = λ k d h i x w. let most = at_most m _ few (small k d h).within i x w in omega (arith, most)

pub products : (fs es : List (Entry ℕ)) → IsSmall fs → IsSmall es → All (λ e. All (λ t. Within 4294967295 (product e.0.1 t.0.1)) es) fs
products fs es few small = λ k d h. multiples _ es (few k d h).within small

peak_within : (es : List (Entry ℕ)) → IsSmall es → peak es ≤ 1000
peak_within [] h = omega arith
peak_within (e ∷ es) h =
    let first : greatest e.0.1 ≤ 1000 = greatest_within 1000 e.0.1 (h 0 e (omega arith)).within in
    let rest : peak es ≤ 1000 = peak_within es (λ k d w. h (suc k) d (omega arith)) in
    omega arith

highest_within : (vs : List (List (Term ℕ (List ℕ)))) → All (λ v. IsSmall (entries (λ m. m) v)) vs → highest (map (entries (λ m. m)) vs) ≤ 1000
highest_within [] h = omega arith
highest_within (v ∷ vs) h =
    let first : peak (entries (λ m. m) v) ≤ 1000 = peak_within (entries (λ m. m) v) (h 0 v (omega arith)) in
    let rest : highest (map (entries (λ m. m)) vs) ≤ 1000 = highest_within vs (λ k d w. h (suc k) d (omega arith)) in
    omega arith

pub values : (es : List (Entry ℕ)) (vs : List (List (Term ℕ (List ℕ)))) → IsSmall es → All (λ v. IsSmall (entries (λ m. m) v)) vs
    → All (λ e. total e.0.1 * highest (map (entries (λ m. m)) vs) ≤ 4294967295) es
values es vs few small = λ k d h.
    let most = highest (map (entries (λ m. m)) vs) in
    let sum : total (get_or es k d).0.1 ≤ 3000 = total_of (get_or es k d) (few k d h) in
    let high : most ≤ 1000 = highest_within vs small in
    let times : total (get_or es k d).0.1 * most ≤ 3000 * most = mul_mono (total (get_or es k d).0.1) 3000 most sum in
    omega (arith, times, high)

-- three names of which no two are equal
pub three_distinct : (l : List (List ℕ)) → length l ≡ 3 → get_or l 0 [] ≢ get_or l 1 [] → get_or l 0 [] ≢ get_or l 2 [] → get_or l 1 [] ≢ get_or l 2 []
    → AllPairs (λ v w. v ≢ w) l
three_distinct [] n xy xz yz = absurd (omega arith)
three_distinct (x ∷ []) n xy xz yz = absurd (omega arith)
three_distinct (x ∷ y ∷ []) n xy xz yz = absurd (omega arith)
three_distinct (x ∷ y ∷ z ∷ w ∷ l) n xy xz yz = absurd (omega arith)
three_distinct (x ∷ y ∷ z ∷ []) n xy xz yz =
    AllPairs-cons (λ v w. v ≢ w) x (y ∷ z ∷ []) (All-cons (λ w. x ≢ w) y (z ∷ []) xy (All-cons (λ w. x ≢ w) z [] xz (All-nil (λ w. x ≢ w))))
    (AllPairs-cons (λ v w. v ≢ w) y (z ∷ []) (All-cons (λ w. y ≢ w) z [] yz (All-nil (λ w. y ≢ w)))
    (AllPairs-cons (λ v w. v ≢ w) z [] (All-nil (λ w. z ≢ w)) (λ i j d h k. absurd (omega arith))))
