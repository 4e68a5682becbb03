-- The greatest value of a function on a list, and lists on which a function has one value.
use Rattle.std.proofs.Common.{◌≡◌, ◌<◌, ◌≤◌, ◌+◌, ℕ, zero, suc, List, [], ◌∷◌, ◌++◌, map, length, get_or, take, max, refl, sym, ap, subst, ◌∙◌, arith}
use Rattle.std.specs.Prelude.{All, Any, Option, unwrap_or, IsNone, IfSome}
use Rattle.std.specs.declared.option.Option.TheVariants.{None, Some}
use native.Mathlib.Decide.{dec_le}
use Rattle.std.proofs.lemmas.List.{take_more, map-append}
use Rattle.std.proofs.lemmas.List.Elements.{All-push}

module _ {A : Type 0} (f : A → ℕ) where
  -- the option is the greatest value of f on the list, and nothing where the list is empty
  abbrev pub GreatestOn : List A → Option ℕ → Type 0
  GreatestOn es None = es ≡ []
  GreatestOn es (Some d) = Any (λ e. f e ≡ d) es × All (λ e. f e ≤ d) es

  get_or_left : (es : List A) (e d : A) (k : ℕ) → k < length es → get_or (es ++ (e ∷ [])) k d ≡ get_or es k d
  get_or_left [] e d k h = absurd (omega arith)
  get_or_left (x ∷ es) e d zero h = refl
  get_or_left (x ∷ es) e d (suc k) h = get_or_left es e d k (omega arith)

  get_or_last : (es : List A) (e d : A) → get_or (es ++ (e ∷ [])) (length es) d ≡ e
  get_or_last [] e d = refl
  get_or_last (x ∷ es) e d = get_or_last es e d

  length_more : (es : List A) (e : A) → length (es ++ (e ∷ [])) ≡ length es + 1
  length_more [] e = omega arith
  length_more (x ∷ es) e = let h = length_more es e in omega arith

  any_more : (P : A → Type 0) (es : List A) (e : A) → Any P es → Any P (es ++ (e ∷ []))
  any_more P es e a = (a.0, a.1, omega (arith, length_more es e, a.2), get_or_left es e a.1 a.0 a.2 ∙ a.3, a.4)

  any_last : (P : A → Type 0) (es : List A) (e : A) → P e → Any P (es ++ (e ∷ []))
  any_last P es e h = (length es, e, omega (arith, length_more es e), get_or_last es e e, h)

  all_raise : (es : List A) (d e : ℕ) → d ≤ e → All (λ x. f x ≤ d) es → All (λ x. f x ≤ e) es
  all_raise es d e h a k z w = let b = a k z w in omega arith

  none_all : (P : A → Type 0) → All P []
  none_all P k d w = absurd (omega arith)

  -- one element more
  pub greatest_more : (es : List A) (o : Option ℕ) (e : A) → GreatestOn es o → GreatestOn (es ++ (e ∷ [])) (Some (max (unwrap_or o 0) (f e)))
  greatest_more es None e h =
      let value : max 0 (f e) ≡ f e = omega arith in
      subst (λ n. GreatestOn (es ++ (e ∷ [])) (Some n)) (sym value)
      (any_last (λ x. f x ≡ f e) es e refl, All-push (λ x. f x ≤ f e) es e (subst (All (λ x. f x ≤ f e)) (sym h) (none_all (λ x. f x ≤ f e))) (omega arith))
  greatest_more es (Some d) e h = go (dec_le d (f e))
    where
      go : Dec (d ≤ f e) → GreatestOn (es ++ (e ∷ [])) (Some (max d (f e)))
      go (yes p) = let value : max d (f e) ≡ f e = omega arith in
          subst (λ n. GreatestOn (es ++ (e ∷ [])) (Some n)) (sym value)
          (any_last (λ x. f x ≡ f e) es e refl, All-push (λ x. f x ≤ f e) es e (all_raise es d (f e) p h.1) (omega arith))
      go (no p) = let value : max d (f e) ≡ d = omega arith in
          subst (λ n. GreatestOn (es ++ (e ∷ [])) (Some n)) (sym value)
          (any_more (λ x. f x ≡ d) es e h.0, All-push (λ x. f x ≤ d) es e h.1 (omega arith))

  pub greatest_reached : (es : List A) (o : Option ℕ) → GreatestOn es o → IfSome o (λ d. Any (λ e. f e ≡ d) es)
  greatest_reached es None h = tt
  greatest_reached es (Some d) h = h.0

  pub greatest_bound : (es : List A) (o : Option ℕ) → GreatestOn es o → IfSome o (λ d. All (λ e. f e ≤ d) es)
  greatest_bound es None h = tt
  greatest_bound es (Some d) h = h.1

  -- nothing exactly for the empty list
  pub greatest_none : (es : List A) (o : Option ℕ) → GreatestOn es o → (IsNone o → es ≡ []) × (es ≡ [] → IsNone o)
  greatest_none es None h = (λ n. h, λ e. refl)
  greatest_none es (Some d) h = (λ n. absurd cc, λ e. let short : h.0.0 < length es = h.0.2 in absurd (none es (h.0.0) e short))
    where
      none : (es : List A) (k : ℕ) → es ≡ [] → k < length es → ⊥
      none [] k e h = omega arith
      none (x ∷ es) k e h = cc

-- the list up to i, and one more
pub take_map : {A B : Type 0} (g : A → B) (xs : List A) (i : ℕ) (x : A) → i < length xs → x ≡ get_or xs i x → map g (take (i + 1) xs) ≡ map g (take i xs) ++ (g x ∷ [])
take_map g xs i x h read = ap (map g) (take_more xs i x h ∙ ap (λ y. take i xs ++ (y ∷ [])) (sym read)) ∙ map-append g (take i xs) (x ∷ [])
