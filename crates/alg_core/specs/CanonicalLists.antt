-- The canonical list of a vector: its terms in falling order, with no coefficient 0.
--
--   AllBelow t l       each key of l is smaller than t
--   IsCanonical l      the keys of l fall strictly, and no coefficient is 0
--   IsLead v t         t is the lead of v: its coefficient is not 0, and each greater key has the coefficient 0
--   terms v            the canonical list of the vector v
use Rattle.std.specs.Prelude.{◌≡◌, ◌⊎◌, [], ◌∷◌}
use Rattle.std.specs.declared.cmp.Ordering.TheVariants.{Less}
use Rattle.std.specs.Ordering.{Ordering-set}
use mathlib.Core.Quot.{mk as class_of, sound, Quot-set}
use mathlib.Core.HLevel.{hedberg, ×_discrete, ×_prop, ¬_prop}
use mathlib.Core.List.{List-discrete}
use Rattle.std.proofs.Common.{inl, inr, sym, ap, ap₂, ◌∙◌, refl, subst}
use Rattle.alg_core.specs.Rings.{Ring, IsField}
use Rattle.alg_core.specs.RingLaws as rings
use Rattle.alg_core.specs.FormalSums.{FormalSum, regular, indicator, coefficient, Free}
use Rattle.alg_core.specs.FreeModules.{coef}
use Rattle.alg_core.specs.Quotients.{quotient_lift, quotient_ind}
use Rattle.alg_core.specs.KeyOrders.{OrderOn, Trichotomy, trichotomy, less_asymmetric, less_irreflexive, less_transitive}

-- 0 where the decided fact does not hold
pub indicator_no : {K : Type 0} (R : Ring K) {P : Type 0} (d : Dec P) → ¬ P → indicator R d ≡ R.zero
unfolding indicator
indicator_no R (yes p) n = absurd (n p)
indicator_no R (no p) n = refl

pub indicator_yes : {K : Type 0} (R : Ring K) {P : Type 0} (d : Dec P) → P → indicator R d ≡ R.one
unfolding indicator
indicator_yes R (yes p) h = refl
indicator_yes R (no p) h = absurd (p h)

module _ {K : Type 0} (R : Ring K) (field : IsField R) {T : Type 0} (same : (s t : T) → Dec (s ≡ t)) (o : OrderOn T) where
  -- the lead of a vector: the greatest key at which its coefficient is not 0
  pub record IsLead (v : Free R same) (t : T) : Type 0 where
    pub there : ¬ (coef R same v t ≡ R.zero)
    pub above : (s : T) → o.compare t s ≡ Less → coef R same v s ≡ R.zero

  -- all keys are smaller than t
  abbrev pub AllBelow : T → FormalSum K T → Type 0
  AllBelow t [] = Unit {0}
  AllBelow t (e ∷ l) = (o.compare e.0 t ≡ Less) × AllBelow t l

  -- the keys fall, and no coefficient is 0
  abbrev pub IsCanonical : FormalSum K T → Type 0
  IsCanonical [] = Unit {0}
  IsCanonical (e ∷ l) = (¬ (e.1 ≡ R.zero)) × AllBelow e.0 l × IsCanonical l

  abbrev at : FormalSum K T → T → K
  at l t = coefficient R same l t

  pub coefficient_below : (t : T) (l : FormalSum K T) → AllBelow t l → (s : T) → ((o.compare t s ≡ Less) ⊎ (t ≡ s)) → at l s ≡ R.zero
  unfolding regular
  coefficient_below t [] h s g = refl
  coefficient_below t (e ∷ l) h s g = ap₂ R.◌+◌ (ap (R.◌*◌ e.1) (indicator_no R (same e.0 s) (λ q. differ (subst (λ u. o.compare u t ≡ Less) q h.0) g)) ∙ rings.mul_zero R e.1) (coefficient_below t l h.1 s g) ∙ R.add_zero R.zero
    where
      differ : o.compare s t ≡ Less → ¬ ((o.compare t s ≡ Less) ⊎ (t ≡ s))
      differ a (inl b) = less_asymmetric o s t a b
      differ a (inr b) = less_irreflexive o s t (sym b) a

  pub coefficient_head : (e : T × K) (l : FormalSum K T) → AllBelow e.0 l → at (e ∷ l) e.0 ≡ e.1
  unfolding regular
  coefficient_head e l h = ap₂ R.◌+◌ (ap (R.◌*◌ e.1) (indicator_yes R (same e.0 e.0) refl) ∙ R.mul_one e.1) (coefficient_below e.0 l h e.0 (inr refl)) ∙ R.add_zero e.1

  pub below_lower : (s t : T) (l : FormalSum K T) → o.compare s t ≡ Less → AllBelow s l → AllBelow t l
  below_lower s t [] h a = a
  below_lower s t (e ∷ l) h a = (less_transitive o e.0 s t a.0 h, below_lower s t l h a.1)

  -- a greater head would have a coefficient in one list alone
  not_greater : (e : T × K) (l l' : FormalSum K T) → IsCanonical (e ∷ l) → AllBelow e.0 l' → ¬ ((t : T) → at (e ∷ l) t ≡ at l' t)
  not_greater e l l' c h g = c.0 (sym (coefficient_head e l c.1) ∙ g e.0 ∙ coefficient_below e.0 l' h e.0 (inr refl))

  -- a canonical list is told by its coefficients
  pub canonical_unique : (l l' : FormalSum K T) → IsCanonical l → IsCanonical l' → ((t : T) → at l t ≡ at l' t) → l ≡ l'
  unfolding regular
  canonical_unique [] [] c d e = refl
  canonical_unique [] (y ∷ l') c d e = absurd (not_greater y l' [] d tt (λ t. sym (e t)))
  canonical_unique (x ∷ l) [] c d e = absurd (not_greater x l [] c tt e)
  canonical_unique (x ∷ l) (y ∷ l') c d e = ap₂ ◌∷◌ head (canonical_unique l l' c.2 d.2 (tails head))
    where
      keys : x.0 ≡ y.0
      keys = go (trichotomy o x.0 y.0)
        where
          go : Trichotomy o x.0 y.0 → x.0 ≡ y.0
          go (inl (inl h)) = absurd (not_greater y l' (x ∷ l) d (h, below_lower x.0 y.0 l h c.1) (λ t. sym (e t)))
          go (inl (inr h)) = h
          go (inr h) = absurd (not_greater x l (y ∷ l') c (h, below_lower y.0 x.0 l' h d.1) e)

      head : x ≡ y
      head = λ i. (keys i, (sym (coefficient_head x l c.1) ∙ e x.0 ∙ ap (at (y ∷ l')) keys ∙ coefficient_head y l' d.1) i)

      tails : x ≡ y → (t : T) → at l t ≡ at l' t
      tails q t = rings.add_cancel R _ _ _ (e t ∙ ap (λ z. (regular R).◌+◌ ((regular R).◌·◌ z.1 (indicator R (same z.0 t))) (at l' t)) (sym q))

  -- a term in front, if its coefficient is not 0
  cons_unless_zero : T → (x : K) → Dec (x ≡ R.zero) → FormalSum K T → FormalSum K T
  cons_unless_zero t x (yes z) l = l
  cons_unless_zero t x (no z) l = (t, x) ∷ l

  -- e into f ∷ l, where r is e into l
  inserted_by : (e f : T × K) → Trichotomy o e.0 f.0 → FormalSum K T → FormalSum K T → FormalSum K T
  inserted_by e f (inl (inl less)) l r = f ∷ r
  inserted_by e f (inl (inr equal)) l r = cons_unless_zero f.0 (R.◌+◌ e.1 f.1) (field.same (R.◌+◌ e.1 f.1) R.zero) l
  inserted_by e f (inr greater) l r = cons_unless_zero e.0 e.1 (field.same e.1 R.zero) (f ∷ l)

  -- one term more, at its place
  inserted : T × K → FormalSum K T → FormalSum K T
  inserted e [] = cons_unless_zero e.0 e.1 (field.same e.1 R.zero) []
  inserted e (f ∷ l) = inserted_by e f (trichotomy o e.0 f.0) l (inserted e l)

  -- the canonical list of a formal sum
  canonical : FormalSum K T → FormalSum K T
  canonical [] = []
  canonical (e ∷ l) = inserted e (canonical l)

  coefficient_cons : (t : T) (x : K) (d : Dec (x ≡ R.zero)) (l : FormalSum K T) (s : T) → at (cons_unless_zero t x d l) s ≡ R.◌+◌ (R.◌*◌ x (indicator R (same t s))) (at l s)
  unfolding cons_unless_zero regular
  coefficient_cons t x (yes z) l s = sym (ap₂ R.◌+◌ (ap (λ u. R.◌*◌ u (indicator R (same t s))) z ∙ rings.zero_mul R _) refl ∙ rings.zero_add R _)
  coefficient_cons t x (no z) l s = refl

  coefficient_inserted_by : (e f : T × K) (d : Trichotomy o e.0 f.0) (l r : FormalSum K T) (s : T) → at r s ≡ R.◌+◌ (R.◌*◌ e.1 (indicator R (same e.0 s))) (at l s)
      → at (inserted_by e f d l r) s ≡ R.◌+◌ (R.◌*◌ e.1 (indicator R (same e.0 s))) (at (f ∷ l) s)
  unfolding inserted_by regular
  coefficient_inserted_by e f (inl (inl less)) l r s h = ap (R.◌+◌ _) h ∙ rings.add_left_comm R _ _ _
  coefficient_inserted_by e f (inl (inr equal)) l r s h = coefficient_cons f.0 _ _ l s ∙ ap₂ R.◌+◌ (rings.add_mul R e.1 f.1 _ ∙ ap (λ u. R.◌+◌ (R.◌*◌ e.1 (indicator R (same u s))) (R.◌*◌ f.1 (indicator R (same f.0 s)))) (sym equal)) refl ∙ R.add_assoc _ _ _
  coefficient_inserted_by e f (inr greater) l r s h = coefficient_cons e.0 e.1 _ (f ∷ l) s

  coefficient_inserted : (e : T × K) (l : FormalSum K T) (s : T) → at (inserted e l) s ≡ R.◌+◌ (R.◌*◌ e.1 (indicator R (same e.0 s))) (at l s)
  unfolding inserted
  coefficient_inserted e [] s = coefficient_cons e.0 e.1 _ [] s
  coefficient_inserted e (f ∷ l) s = coefficient_inserted_by e f (trichotomy o e.0 f.0) l (inserted e l) s (coefficient_inserted e l s)

  coefficient_canonical : (l : FormalSum K T) (s : T) → at (canonical l) s ≡ at l s
  unfolding canonical regular
  coefficient_canonical [] s = refl
  coefficient_canonical (e ∷ l) s = coefficient_inserted e (canonical l) s ∙ ap (R.◌+◌ _) (coefficient_canonical l s)

  below_cons : (t s : T) (x : K) (d : Dec (x ≡ R.zero)) (l : FormalSum K T) → o.compare t s ≡ Less → AllBelow s l → AllBelow s (cons_unless_zero t x d l)
  unfolding cons_unless_zero
  below_cons t s x (yes z) l h b = b
  below_cons t s x (no z) l h b = (h, b)

  below_inserted_by : (e f : T × K) (d : Trichotomy o e.0 f.0) (l r : FormalSum K T) (s : T) → o.compare e.0 s ≡ Less → AllBelow s (f ∷ l) → AllBelow s r → AllBelow s (inserted_by e f d l r)
  unfolding inserted_by
  below_inserted_by e f (inl (inl less)) l r s h b g = (b.0, g)
  below_inserted_by e f (inl (inr equal)) l r s h b g = below_cons f.0 s _ _ l b.0 b.1
  below_inserted_by e f (inr greater) l r s h b g = below_cons e.0 s _ _ (f ∷ l) h b

  below_inserted : (e : T × K) (l : FormalSum K T) (s : T) → o.compare e.0 s ≡ Less → AllBelow s l → AllBelow s (inserted e l)
  unfolding inserted
  below_inserted e [] s h b = below_cons e.0 s _ _ [] h tt
  below_inserted e (f ∷ l) s h b = below_inserted_by e f (trichotomy o e.0 f.0) l (inserted e l) s h b (below_inserted e l s h b.1)

  canonical_cons : (t : T) (x : K) (d : Dec (x ≡ R.zero)) (l : FormalSum K T) → AllBelow t l → IsCanonical l → IsCanonical (cons_unless_zero t x d l)
  unfolding cons_unless_zero
  canonical_cons t x (yes z) l b c = c
  canonical_cons t x (no z) l b c = (z, b, c)

  canonical_inserted_by : (e f : T × K) (d : Trichotomy o e.0 f.0) (l r : FormalSum K T) → IsCanonical (f ∷ l) → (o.compare e.0 f.0 ≡ Less → AllBelow f.0 r) → IsCanonical r → IsCanonical (inserted_by e f d l r)
  unfolding inserted_by
  canonical_inserted_by e f (inl (inl less)) l r c b g = (c.0, b less, g)
  canonical_inserted_by e f (inl (inr equal)) l r c b g = canonical_cons f.0 _ _ l c.1 c.2
  canonical_inserted_by e f (inr greater) l r c b g = canonical_cons e.0 _ _ (f ∷ l) (greater, below_lower f.0 e.0 l greater c.1) c

  canonical_inserted : (e : T × K) (l : FormalSum K T) → IsCanonical l → IsCanonical (inserted e l)
  unfolding inserted
  canonical_inserted e [] c = canonical_cons e.0 _ _ [] tt tt
  canonical_inserted e (f ∷ l) c = canonical_inserted_by e f (trichotomy o e.0 f.0) l (inserted e l) c (λ q. below_inserted e l f.0 q c.1) (canonical_inserted e l c.2)

  canonical_canonical : (l : FormalSum K T) → IsCanonical (canonical l)
  unfolding canonical
  canonical_canonical [] = tt
  canonical_canonical (e ∷ l) = canonical_inserted e (canonical l) (canonical_canonical l)

  terms_set : IsSet (FormalSum K T)
  terms_set = hedberg (List-discrete (×_discrete same field.same))

  -- the canonical list of a vector
  pub terms : Free R same → FormalSum K T
  terms = quotient_lift terms_set canonical (λ l l' r. canonical_unique _ _ (canonical_canonical l) (canonical_canonical l') (λ t. coefficient_canonical l t ∙ r t ∙ sym (coefficient_canonical l' t)))

  below_prop : (t : T) (l : FormalSum K T) → IsProp (AllBelow t l)
  below_prop t [] = λ x y. refl
  below_prop t (e ∷ l) = ×_prop (Ordering-set _ _) (below_prop t l)

  canonical_prop : (l : FormalSum K T) → IsProp (IsCanonical l)
  canonical_prop [] = λ x y. refl
  canonical_prop (e ∷ l) = λ x y. λ i. (¬_prop x.0 y.0 i, below_prop e.0 l x.1 y.1 i, canonical_prop l x.2 y.2 i)

  pub terms_canonical : (v : Free R same) → IsCanonical (terms v)
  unfolding terms quotient_lift
  terms_canonical = quotient_ind (λ v. IsCanonical (terms v)) (λ v. canonical_prop (terms v)) canonical_canonical

  -- the vector of its terms
  pub class_terms : (v : Free R same) → ◌≡◌ {A = Free R same} (class_of (terms v)) v
  unfolding terms quotient_lift
  class_terms = quotient_ind (λ v. ◌≡◌ {A = Free R same} (class_of (terms v)) v) (λ v. Quot-set _ _) (λ l. sound (coefficient_canonical l))

  -- the terms of the vector of a canonical list
  pub terms_class : (l : FormalSum K T) → IsCanonical l → terms (class_of l) ≡ l
  unfolding terms quotient_lift
  terms_class l c = canonical_unique _ _ (canonical_canonical l) c (coefficient_canonical l)
