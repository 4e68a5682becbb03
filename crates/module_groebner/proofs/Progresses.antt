-- The number that falls with each step of a completion, and the degrees of pairs.
use Rattle.std.proofs.Common.{◌≡◌, inl, inr, ℕ, zero, suc, ◌+◌, ◌*◌, ◌<◌, ◌≤◌, ◌==◌, ◌&&◌, ◌||◌, Bool, true, false, IsTrue, List, [], ◌∷◌, ◌++◌, length, get_or, sym, ap, ◌∙◌, refl, subst, arith, length-append, append-nil}
use Rattle.std.specs.Prelude.{All, filter, not, ◌↔◌}
use Rattle.std.specs.List.{list_any}
use Rattle.std.specs.List.Sorted.{IsPermutation}
use Rattle.std.proofs.lemmas.List.Sorted.{length_permutation}
use Rattle.std.proofs.lemmas.List.Folds.{list_any-append}
use Rattle.std.proofs.lemmas.Bool.Decides.{nat_tests}
use Rattle.std.proofs.Math.Nat.{mul-le-mul_left}
use Rattle.alg_core.specs.ExponentLists.{divides}
use Rattle.alg_core.specs.Keys.{TermPlace, key, times_key_one, KeyDivides}
use Rattle.alg_core.specs.KeyLists.{place_degree, places_up_to}
use Rattle.alg_core.specs.Lists.{In, map_in}
use Rattle.alg_core.specs.Monomials.{monomials}
use Rattle.alg_core.specs.Spaces.{SpaceOver, Fits, IsPlace}
use Rattle.alg_core.specs.SpaceOrder.{key_order}
use Rattle.alg_core.specs.SpaceGrading.{AllPositive}
use Rattle.alg_core.specs.Vectors.{Entry, Vect, vec, coef_at, zero_vector}
use Rattle.alg_core.proofs.Members.{filter_shorter}
use Rattle.alg_core.proofs.KeyLists.{degree_place, places_up_to_exact}
use Rattle.alg_core.proofs.KeyMultiples.{place_divides}
use Rattle.alg_core.proofs.FittingLists.{lead_first, vec_not_zero}
use Rattle.alg_core.proofs.VectorLaws.{vec_nothing}
use Rattle.poly_module.specs.Modules.{LeadBy}
use Rattle.module_groebner.specs.HomogeneousLists.{IsHomogeneousUpTo}
use Rattle.module_groebner.specs.Remainders.{IsRemainder}
use Rattle.module_groebner.specs.Progress.{Progress, lead_place, is_multiple, undivided, left}
use Rattle.module_groebner.specs.Completions.{vects, IsPair, members, StandsOver}
use Rattle.module_groebner.proofs.Completions.{appended, IsStep}
use Rattle.module_groebner.proofs.Families.{all_in, vects_at, entries_lead}

-- tests of the two parts
both_true : (a b : Bool) → a ≡ true → b ≡ true → (a && b) ≡ true
both_true a b p q = grind arith

left_true : (a b : Bool) → (a && b) ≡ true → a ≡ true
left_true a b p = grind arith

right_true : (a b : Bool) → (a && b) ≡ true → b ≡ true
right_true a b p = grind arith

equal_test : (x y : ℕ) → x ≡ y → (x == y) ≡ true
equal_test x y h = grind (arith, nat_tests)

test_equal : (x y : ℕ) → (x == y) ≡ true → x ≡ y
test_equal x y h = grind (arith, nat_tests)

is_true : (b : Bool) → b ≡ true → IsTrue b
is_true b h = grind arith

true_is : (b : Bool) → IsTrue b → b ≡ true
true_is b h = grind arith

not_either : (a b : Bool) → not (a || b) ≡ true → not a ≡ true
not_either a b h = grind arith

either_true : (a b : Bool) → b ≡ true → not (a || b) ≡ false
either_true a b h = grind arith

not_true : (a : Bool) → ((a ≡ true) → ⊥) → not a ≡ true
not_true true n = absurd (n refl)
not_true false n = refl

-- one more member and one less undivided
count_falls : (t t' s u u' : ℕ) → u' < u → t' + 1 ≤ t + s → t' + u' * ((s + 1) + u') < t + u * (s + u)
count_falls t t' s zero u' h k = absurd (omega arith)
count_falls t t' s (suc u) u' h k =
    let a : u' * ((s + 1) + u') ≤ u' * (s + suc u) = mul-le-mul_left u' (omega arith) in
    let b : (s + suc u) * u' ≤ (s + suc u) * u = mul-le-mul_left (s + suc u) (omega arith) in
    omega arith

any_in : {A : Type 0} (p : A → Bool) (xs : List A) → list_any p xs ≡ true → (x : A) × In x xs × (p x ≡ true)
any_in p [] h = absurd cc
any_in p (x ∷ xs) h = go (p x) refl (any_in p xs)
  where
    go : (b : Bool) → p x ≡ b → (list_any p xs ≡ true → (y : _) × In y xs × (p y ≡ true)) → (y : _) × In y (x ∷ xs) × (p y ≡ true)
    go true e f = (x, inl refl, e)
    go false e f = let r = f (grind arith) in (r.0, inr r.1, r.2)

place_in : {A : Type 0} (d : A) (xs : List A) (x : A) → In x xs → (i : ℕ) × (get_or xs i d ≡ x)
place_in d [] x h = absurd h
place_in d (y ∷ xs) x (inl e) = (0, e)
place_in d (y ∷ xs) x (inr h) = let r = place_in d xs x h in (suc r.0, r.1)

-- how many places up to a cap are a multiple of the lead of none of these
abbrev counted : {E : Type 0} → List (List (Entry E)) → List ℕ → List ℕ → ℕ → ℕ
counted ess ws ss cap = length (filter (λ p. not (list_any (is_multiple p) ess)) (places_up_to ws ss cap))

module _ {E : Type 0} (S : SpaceOver E) where
  -- the test of multiples of a member's lead
  pub multiple_exact : (p : TermPlace) → IsPlace S p → (es : List (Entry E)) → Fits S es → ¬ (vec S.field es ≡ zero_vector S.field) → (is_multiple p es ≡ true) ↔ KeyDivides (key (lead_place es)) (key p)
  unfolding key
  multiple_exact p hp [] f n = absurd (n (vec_nothing S.field))
  multiple_exact p hp (e ∷ es) f n = (forth, back)
    where
      wide : length e.0.1 ≡ length p.1
      wide = f.0.place.wide ∙ sym hp.wide

      forth : is_multiple p (e ∷ es) ≡ true → KeyDivides (key e.0) (key p)
      forth h = (place_divides e.0 p wide (test_equal e.0.0 p.0 (left_true (e.0.0 == p.0) (divides e.0.1 p.1) h)) (divides e.0.1 p.1) refl).0 (is_true (divides e.0.1 p.1) (right_true (e.0.0 == p.0) (divides e.0.1 p.1) h))

      back : KeyDivides (key e.0) (key p) → is_multiple p (e ∷ es) ≡ true
      back d =
          let same : e.0.0 ≡ p.0 = ap (λ u. u.0) d.1 in
          both_true (e.0.0 == p.0) (divides e.0.1 p.1) (equal_test e.0.0 p.0 same) (true_is (divides e.0.1 p.1) ((place_divides e.0 p wide same (divides e.0.1 p.1) refl).1 d))

  module _ (positive : AllPositive S.weights) (c d : Progress E) (v : Vect S.field) (r : List (Entry E)) (stands : StandsOver S c) (step : IsStep S c d v r) where
    falls : (t t' : ℕ) → t' + 1 ≤ t + length step.new_pairs → t' + undivided d * (length d.members + undivided d) < t + undivided c * (length c.members + undivided c)
    unfolding undivided coef_at
    falls t t' h = go r step.members step.fits step.remainder step.low
      where
        s : ℕ
        s = length c.members

        same : undivided d ≡ counted d.members c.weights c.shifts c.cap
        same = ap (λ w. counted d.members w d.shifts d.cap) step.weights ∙ ap (λ w. counted d.members c.weights w d.cap) step.shifts ∙ ap (λ w. counted d.members c.weights c.shifts w) step.cap

        none : (l : List (ℕ × ℕ)) → length d.members ≤ s → All (IsPair d) l → All (λ p. p.1 ≡ length c.members) l → length l ≡ 0
        none [] low are ends = refl
        none (q ∷ l) low are ends = absurd (let a = (all_in (IsPair d) (q ∷ l) are q (inl refl)).within in let b = all_in (λ p. p.1 ≡ length c.members) (q ∷ l) ends q (inl refl) in omega arith)

        go : (r : List (Entry E)) → d.members ≡ c.members ++ appended r → Fits S r → IsRemainder S (members S c) v (vec S.field r) → IsHomogeneousUpTo S c.cap (vec S.field r)
            → t' + undivided d * (length d.members + undivided d) < t + undivided c * (length c.members + undivided c)
        go [] is fits remainder low =
            let e : d.members ≡ c.members = is ∙ append-nil c.members in
            let u : undivided d ≡ undivided c = same ∙ ap (λ m. counted m c.weights c.shifts c.cap) e in
            let n : length d.members ≡ length c.members = ap length e in
            let z = none step.new_pairs (omega arith) step.are_pairs step.ends in
            subst (λ w. t' + w * (length d.members + w) < t + undivided c * (length c.members + undivided c)) (sym u)
            (subst (λ w. t' + undivided c * (w + undivided c) < t + undivided c * (length c.members + undivided c)) (sym n) (omega arith))
        go (e ∷ es) is fits remainder low =
            let n : length d.members ≡ length c.members + 1 = ap length is ∙ length-append c.members ((e ∷ es) ∷ []) in
            let few = step.few in
            subst (λ w. t' + w * (length d.members + w) < t + undivided c * (length c.members + undivided c)) (sym (same ∙ ap (λ m. counted m c.weights c.shifts c.cap) is))
            (subst (λ w. t' + fewer * (w + fewer) < t + undivided c * (length c.members + undivided c)) (sym n) (count_falls t t' s (undivided c) fewer shorter (omega arith)))
          where
            fewer : ℕ
            fewer = counted (c.members ++ ((e ∷ es) ∷ [])) c.weights c.shifts c.cap

            lead : LeadBy S.field (key_order S) (vec S.field (e ∷ es)) (key e.0)
            lead = lead_first S e es fits

            not_divided : list_any (is_multiple e.0) c.members ≡ true → ⊥
            not_divided h =
                let x = any_in (is_multiple e.0) c.members h in
                let f = all_in (Fits S) c.members stands.members_fit x.0 x.1 in
                let nz = all_in (λ w. ¬ (w ≡ zero_vector S.field)) (vects S.field c.members) stands.nonzero (vec S.field x.0) (map_in (vec S.field) x.0 c.members x.1) in
                let i = place_in [] c.members x.0 x.1 in
                let at : members S c i.0 ≡ vec S.field x.0 = vects_at S.field c.members i.0 ∙ ap (vec S.field) i.1 in
                remainder.irreducible i.0 (key (lead_place x.0)) (key e.0) (subst (λ w. LeadBy S.field (key_order S) w (key (lead_place x.0))) (sym at) (entries_lead S x.0 f nz).0) lead.there
                ((multiple_exact e.0 fits.0.place x.0 f nz).0 x.2)

            inside : In e.0 (places_up_to c.weights c.shifts c.cap)
            inside = (places_up_to_exact c.weights c.shifts c.cap (subst AllPositive (sym stands.weights) positive) e.0).1 (
              fits.0.place.wide ∙ ap length (sym stands.weights),
              subst (λ l. e.0.0 < length l) (sym stands.shifts) fits.0.place.low,
              subst (λ l. place_degree l c.shifts e.0 ≤ c.cap) (sym stands.weights) (subst (λ l. place_degree S.weights l e.0 ≤ c.cap) (sym stands.shifts)
                  (let a = low.1 in let b = low.2 (key e.0) lead.there in let f = degree_place S e.0 in omega arith)),
            )

            shorter : fewer < undivided c
            shorter = filter_shorter (λ p. not (list_any (is_multiple p) (c.members ++ ((e ∷ es) ∷ [])))) (λ p. not (list_any (is_multiple p) c.members)) (places_up_to c.weights c.shifts c.cap) e.0
                (λ p h. not_either (list_any (is_multiple p) c.members) (list_any (is_multiple p) ((e ∷ es) ∷ [])) (ap not (sym (list_any-append (is_multiple p) c.members ((e ∷ es) ∷ []))) ∙ h)) inside
                (ap not (list_any-append (is_multiple e.0) c.members ((e ∷ es) ∷ [])) ∙ either_true (list_any (is_multiple e.0) c.members) (list_any (is_multiple e.0) ((e ∷ es) ∷ [])) (last ((multiple_exact e.0 fits.0.place (e ∷ es) fits (vec_not_zero S e es fits)).1 (monomials.one, times_key_one (key e.0)))))
                (not_true (list_any (is_multiple e.0) c.members) not_divided)
              where
                last : is_multiple e.0 (e ∷ es) ≡ true → list_any (is_multiple e.0) ((e ∷ es) ∷ []) ≡ true
                last h = grind arith

    -- a generator is treated
    pub generator_falls : (es : List (Entry E)) → IsPermutation c.generators (es ∷ d.generators) → IsPermutation (c.pairs ++ step.new_pairs) d.pairs → left d < left c
    unfolding left
    generator_falls es taken pairs =
        let a = length_permutation c.generators (es ∷ d.generators) taken in
        let b = length_permutation (c.pairs ++ step.new_pairs) d.pairs pairs in
        let e = length-append c.pairs step.new_pairs in
        falls (length c.generators + length c.pairs) (length d.generators + length d.pairs) (omega arith)

    -- a pair is treated
    pub pair_falls : (p : ℕ × ℕ) → IsPermutation (c.pairs ++ step.new_pairs) (p ∷ d.pairs) → IsPermutation c.generators d.generators → left d < left c
    unfolding left
    pair_falls p taken generators =
        let a = length_permutation c.generators d.generators generators in
        let b = length_permutation (c.pairs ++ step.new_pairs) (p ∷ d.pairs) taken in
        let e = length-append c.pairs step.new_pairs in
        falls (length c.generators + length c.pairs) (length d.generators + length d.pairs) (omega arith)
