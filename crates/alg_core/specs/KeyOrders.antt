-- Total orders of keys.
--
--   OrderOn T          a comparison on T that is a total order, in which only equal keys tie
--   Trichotomy o s t   s is smaller, equal, or greater
use Rattle.std.specs.Prelude.{◌≡◌, ◌⊎◌}
use Rattle.std.specs.declared.cmp.Ordering.{Ordering}
use Rattle.std.specs.declared.cmp.Ordering.TheVariants.{Less, Equal, Greater}
use Rattle.std.specs.Ordering.{ordering_reverse}
use Rattle.std.specs.Cmp.{IsTotalOrder}
use Rattle.std.proofs.Common.{sym, ap, ◌∙◌, refl, subst, inl, inr, arith}

-- a total order in which only equal keys tie
pub record OrderOn (T : Type 0) : Type 0 where
  pub compare : T → T → Ordering
  pub total : IsTotalOrder compare
  pub tied : (s t : T) → compare s t ≡ Equal → s ≡ t

module _ {T : Type 0} (o : OrderOn T) where
  abbrev pub Trichotomy : T → T → Type 0
  Trichotomy s t = ((o.compare s t ≡ Less) ⊎ (s ≡ t)) ⊎ (o.compare t s ≡ Less)

  pub trichotomy : (s t : T) → Trichotomy s t
  trichotomy s t = go (o.compare s t) refl
    where
      go : (r : Ordering) → o.compare s t ≡ r → Trichotomy s t
      go Less p = inl (inl p)
      go Equal p = inl (inr (o.tied s t p))
      go Greater p = inr (o.total.antisymm t s ∙ ap ordering_reverse p)

  pub less_asymmetric : (s t : T) → o.compare s t ≡ Less → ¬ (o.compare t s ≡ Less)
  less_asymmetric s t p q = absurd (unequal (sym p ∙ o.total.antisymm s t ∙ ap ordering_reverse q))
    where
      unequal : ¬ (Less ≡ Greater)
      unequal e = grind arith

  pub less_irreflexive : (s t : T) → s ≡ t → ¬ (o.compare s t ≡ Less)
  less_irreflexive s t e p = less_asymmetric s t p (subst (λ u. o.compare u s ≡ Less) e (subst (λ u. o.compare s u ≡ Less) (sym e) p))

  pub less_transitive : (s t u : T) → o.compare s t ≡ Less → o.compare t u ≡ Less → o.compare s u ≡ Less
  less_transitive = o.total.trans

  pub greater_less : (s t : T) → o.compare s t ≡ Greater → o.compare t s ≡ Less
  greater_less s t p = o.total.antisymm t s ∙ ap ordering_reverse p

  pub less_greater : (s t : T) → o.compare s t ≡ Less → o.compare t s ≡ Greater
  less_greater s t p = o.total.antisymm t s ∙ ap ordering_reverse p
