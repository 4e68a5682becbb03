-- A polynomial whose terms have exponents with one sum is homogeneous; facts of each member of a list in turn; lists that do not
-- fall.
use Rattle.std.proofs.Common.{◌≡◌, ◌⊎◌, inl, inr, ℕ, zero, suc, ◌+◌, ◌-◌, ◌<◌, ◌≤◌, List, [], ◌∷◌, ◌++◌, length, get_or, take, sym, ap, subst, ◌∙◌, refl, arith}
use Rattle.std.specs.Prelude.{All}
use Rattle.std.proofs.lemmas.Bool.{cases_lt}
use Rattle.std.proofs.lemmas.List.{take_more, take_all}
use Rattle.std.proofs.lemmas.List.Elements.{All-head, All-tail, All-cons, All-nil, All-push}
use Rattle.alg_core.specs.Keys.{key}
use Rattle.alg_core.specs.SpaceGrading.{height}
use Rattle.alg_core.specs.Spaces.{SpaceOver, Fits, entries}
use Rattle.alg_core.specs.Vectors.{Entry}
use Rattle.alg_core.specs.declared.term.Term.{Term}
use Rattle.poly_module.specs.Forms.{OfDegree}
use Rattle.poly_module.specs.GreatestExponents.{total}
use Rattle.poly_module.specs.SpaceVectors.{IsVector}
use Rattle.poly_module.proofs.ExponentBounds.{vec_supp}
use Rattle.secondary_gens.specs.Forms.{unit_weights, IsSmallForm}
use Rattle.secondary_gens.proofs.KeepSteps.{form_small}
use Rattle.secondary_gens.proofs.MonomialDegrees.{of_exponents}

module _ {E : Type 0} (S : SpaceOver E) (d : ℕ) where
  abbrev IsTested : Entry E → Type 0
  IsTested e = (e.0.0 ≡ 0) × (total e.0.1 ≡ d)

  tested_keys : (es : List (Entry E)) → Fits S es → All IsTested es → All (λ e. OfDegree S.field (unit_weights S) d (key e.0)) es
  unfolding key
  tested_keys [] f h = All-nil (λ e. OfDegree S.field (unit_weights S) d (key e.0))
  tested_keys (e ∷ es) f h =
      let here = All-head IsTested e es h in
      let of = of_exponents (length S.weights) e.0.1 f.0.place.wide in
      All-cons (λ e. OfDegree S.field (unit_weights S) d (key e.0)) e es (here.0, of.degree ∙ here.1) (tested_keys es f.2 (All-tail IsTested e es h))

  tested_positions : (es : List (Entry E)) → All IsTested es → All (λ e. e.0.0 ≡ 0) es
  tested_positions es h = λ i e l. (h i e l).0

  pub tested_form : (p : List (Term E (List ℕ))) → d ≤ 12288 → IsVector S (λ m. m) p → All IsTested (entries (λ m. m) p) → IsSmallForm S p
  tested_form [] small f h = record {
    polynomial = record { fits = f; position = tested_positions [] h };
    small = omega arith;
    form = vec_supp S.field (OfDegree S.field (unit_weights S) 0) [] (All-nil (λ e. OfDegree S.field (unit_weights S) 0 (key e.0)));
  }
  tested_form (t ∷ p) small f h =
      form_small S d (t ∷ p) small (record { fits = f; position = tested_positions (entries (λ m. m) (t ∷ p)) h })
      (vec_supp S.field (OfDegree S.field (unit_weights S) d) (entries (λ m. m) (t ∷ p)) (tested_keys (entries (λ m. m) (t ∷ p)) f h)) (λ e. cc)

-- a fact of each in turn
module _ {A : Type 0} (P : A → Type 0) where
  pub more_tested : (xs : List A) (i : ℕ) (x : A) → i < length xs → x ≡ get_or xs i x → All P (take i xs) → P x → All P (take (i + 1) xs)
  more_tested xs i x inside read h p = subst (All P) (sym (take_more xs i x inside ∙ ap (λ y. take i xs ++ y ∷ []) (sym read))) (All-push P (take i xs) x h p)

  pub all_tested : (xs : List A) (i : ℕ) → length xs ≤ i → All P (take i xs) → All P xs
  all_tested xs i past h = subst (All P) (take_all i xs past) h

-- degrees that do not fall
abbrev pub Rising : List ℕ → ℕ → Type 0
Rising ds n = (i j : ℕ) → i ≤ j → j < n → height ds i ≤ height ds j

height_read : (ds : List ℕ) (i : ℕ) → i < length ds → height ds i ≡ get_or ds i 0
unfolding height
height_read [] i h = absurd (omega arith)
height_read (d ∷ ds) zero h = refl
height_read (d ∷ ds) (suc i) h = height_read ds i (omega arith)

pub rising_first : (ds : List ℕ) → Rising ds 1
rising_first ds i j below inside = let same : j ≡ i = omega arith in subst (λ n. height ds i ≤ height ds n) (sym same) (omega arith)

pub rising_more : (ds : List ℕ) (n : ℕ) → 1 ≤ n → n < length ds → get_or ds (n - 1) 0 ≤ get_or ds n 0 → Rising ds n → Rising ds (n + 1)
rising_more ds n one inside step h i j below past = go (cases_lt j n)
  where
    here : height ds n ≡ get_or ds n 0
    here = height_read ds n inside

    before : height ds (n - 1) ≡ get_or ds (n - 1) 0
    before = height_read ds (n - 1) (omega arith)

    last : (l : ℕ) → l ≤ n → (l < n) ⊎ (n ≤ l) → height ds l ≤ height ds n
    last l p (inl q) = let r = h l (n - 1) (omega arith) (omega arith) in omega (arith, here, before)
    last l p (inr q) = let same : n ≡ l = omega arith in subst (λ m. height ds m ≤ height ds n) same (omega arith)

    go : (j < n) ⊎ (n ≤ j) → height ds i ≤ height ds j
    go (inl q) = h i j below q
    go (inr q) = let same : n ≡ j = omega arith in subst (λ m. height ds i ≤ height ds m) same (last i (omega arith) (cases_lt i n))
