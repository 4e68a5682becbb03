-- Each vector but 0 has exactly one lead.
--
--   HasLead v          v is 0 or has a lead
--   lead_prop          to be the lead is a proposition
--   lead_unique        a vector has at most one lead
--   has_lead           each vector is 0 or has a lead
use Rattle.std.specs.Prelude.{◌≡◌, ◌⊎◌, [], ◌∷◌}
use mathlib.Core.HLevel.{Π_prop, ¬_prop}
use mathlib.Core.Quot.{mk as class_of}
use Rattle.std.proofs.Common.{inl, inr, sym, ◌∙◌, refl, subst}
use Rattle.alg_core.specs.Rings.{Ring, IsField}
use Rattle.alg_core.specs.FormalSums.{FormalSum, Free}
use Rattle.alg_core.specs.FreeModules.{free, class, coef_class, class_nothing}
use Rattle.alg_core.specs.KeyOrders.{OrderOn, Trichotomy, trichotomy}
use Rattle.alg_core.specs.CanonicalLists.{IsLead, IsCanonical, coefficient_below, coefficient_head, below_lower, terms, terms_canonical, class_terms}

module _ {K : Type 0} (R : Ring K) (field : IsField R) {T : Type 0} (same : (s t : T) → Dec (s ≡ t)) (o : OrderOn T) where
  pub lead_prop : (v : Free R same) (t : T) → IsProp (IsLead R field same o v t)
  lead_prop v t a b = λ i. record { there = ¬_prop a.there b.there i; above = Π_prop (λ s. Π_prop (λ h. R.is_set _ _)) a.above b.above i }

  pub lead_unique : (v : Free R same) (s t : T) → IsLead R field same o v s → IsLead R field same o v t → s ≡ t
  lead_unique v s t a b = go (trichotomy o s t)
    where
      go : Trichotomy o s t → s ≡ t
      go (inl (inl h)) = absurd (b.there (a.above t h))
      go (inl (inr h)) = h
      go (inr h) = absurd (a.there (b.above s h))

  -- the first term of a canonical list is the lead
  pub lead_head : (e : T × K) (l : FormalSum K T) → IsCanonical R field same o (e ∷ l) → IsLead R field same o (class R same (e ∷ l)) e.0
  lead_head e l c = record {
    there = λ z. c.0 (sym (coefficient_head R field same o e l c.1) ∙ sym (coef_class R same (e ∷ l) e.0) ∙ z);
    above = λ s h. coef_class R same (e ∷ l) s ∙ coefficient_below R field same o s (e ∷ l) (h, below_lower R field same o e.0 s l h c.1) s (inr refl);
  }

  abbrev pub HasLead : Free R same → Type 0
  HasLead v = (v ≡ (free R same).zero) ⊎ ((t : T) × IsLead R field same o v t)

  pub has_lead : (v : Free R same) → HasLead v
  has_lead v = go (terms R field same o v) (terms_canonical R field same o v) (class_terms R field same o v)
    where
      go : (l : FormalSum K T) → IsCanonical R field same o l → ◌≡◌ {A = Free R same} (class_of l) v → HasLead v
      go [] c e = inl (sym e ∙ class_nothing R same)
      go (x ∷ l) c e = inr (x.0, subst (λ u. IsLead R field same o u x.0) e (lead_head x l c))
