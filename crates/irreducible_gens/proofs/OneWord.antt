-- There is one word that is printed for a polynomial: it is the printed combination of 1.
use Rattle.std.proofs.Common.{◌≡◌, ◌⊎◌, inl, inr, ℕ, ◌+◌, ◌<◌, List, [], ◌∷◌, ◌++◌, map, sym, ap, ap₂, ◌∙◌, refl, subst, arith}
use Rattle.std.specs.declared.cmp.Ordering.TheVariants.{Less}
use Rattle.alg_core.specs.Fields.{FieldOn}
use Rattle.alg_core.specs.Keys.{Key}
use Rattle.alg_core.specs.Lists.{In}
use Rattle.alg_core.specs.SpaceGrading.{height}
use Rattle.alg_core.specs.SpaceOrder.{key_order}
use Rattle.alg_core.specs.Vectors.{Vect}
use Rattle.poly_module.specs.Choices.{IsSpannedBefore}
use Rattle.poly_module.specs.Combinations.{term_value}
use Rattle.poly_module.specs.Echelons.{Spans}
use Rattle.poly_module.specs.Forms.{AreForms, form_one}
use Rattle.secondary_gens.specs.PrintedCombinations.{combination_space, IsTermBefore, IsPrintedCombination}
use Rattle.secondary_gens.proofs.OnePrinted.{printed_unique}
use Rattle.irreducible_gens.specs.Words.{word_value, IsMonomialBefore, IsPrintedWord}
use Rattle.irreducible_gens.proofs.Generators.{unit, unit_term, unit_value}

module _ {E : Type 0} (k : FieldOn E) (ds : List ℕ) (θ Q : List (Vect k)) where
  abbrev G : List (Vect k)
  G = θ ++ Q

  same_values : (ts : List Key) → ((s : Key) → In s ts → s.0 ≡ 0) → map (term_value k G (unit k)) ts ≡ map (word_value k θ Q) ts
  same_values [] h = refl
  same_values (t ∷ ts) h = ap₂ ◌∷◌ (unit_term k G t (h t (inl refl))) (same_values ts (λ s i. h s (inr i)))

  -- at position 0 a term that comes before is a smaller monomial
  smaller : (s t : Key) → t.0 ≡ 0 → IsTermBefore k ds (0 ∷ []) s t → IsMonomialBefore k ds s t
  smaller s t z b = go b.before
    where
      first : s.0 ≡ 0
      first = let p = b.position in omega arith

      go : (s.0 < t.0) ⊎ ((s.0 ≡ t.0) × ((key_order (combination_space k ds (0 ∷ []))).compare s t ≡ Less)) → IsMonomialBefore k ds s t
      go (inl l) = absurd (omega arith)
      go (inr e) = record { position = first; variables = b.variables; degree = degrees b.degree (ap (height (0 ∷ [])) (first ∙ sym z)); smaller = e.1 }
        where
          degrees : {a c m n : ℕ} → a + m ≡ c + n → m ≡ n → a ≡ c
          degrees p q = omega arith

  spanned : (t : Key) → t.0 ≡ 0 → IsSpannedBefore k (term_value k G (unit k)) (IsTermBefore k ds (0 ∷ [])) t → IsSpannedBefore k (word_value k θ Q) (IsMonomialBefore k ds) t
  spanned t z a = (
    a.0,
    λ s i. smaller s t z (a.1 s i),
    subst (Spans k (map (word_value k θ Q) a.0)) (unit_term k G t z)
        (subst (λ l. Spans k l (term_value k G (unit k) t)) (same_values a.0 (λ s i. (smaller s t z (a.1 s i)).position)) a.2),
  )

  as_combination : (f u : Vect k) → IsPrintedWord k ds θ Q f u → IsPrintedCombination k ds (0 ∷ []) G (unit k) f u
  as_combination f u h = record {
    combination = λ t n. (h.word.variables t n, let p = h.word.polynomial t n in omega arith);
    value = unit_value k G u h.word.polynomial ∙ h.value;
    first = λ t n a. h.first t n (spanned t (h.word.polynomial t n) a);
  }

  pub one_word : (ws : List ℕ) → AreForms k ws ds G → (f u w : Vect k) → IsPrintedWord k ds θ Q f u → IsPrintedWord k ds θ Q f w → u ≡ w
  one_word ws h f u w a b = printed_unique k ws ds (0 ∷ []) G (unit k) h (form_one k ws, tt) f u w (as_combination f u a) (as_combination f w b)
