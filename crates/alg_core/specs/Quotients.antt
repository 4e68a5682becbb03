-- Functions on one, two or three classes of a quotient.
--
--   quotient_ind, quotient_ind₂, quotient_ind₃   a proposition that holds of all representatives holds of all classes
--   quotient_lift, quotient_lift₂                a function of representatives that respects the relation, on classes
use Rattle.std.specs.Prelude.{◌≡◌}
use mathlib.Core.Path.{fun_ext}
use mathlib.Core.HLevel.{Π_prop, Π_set}
use mathlib.Core.Quot.{Quot, mk, ind, lift}

module _ {A : Type 0} {r : A → A → Type 0} where
  pub quotient_ind : (P : Quot r → Type 0) → ((x : Quot r) → IsProp (P x)) → ((a : A) → P (mk a)) → (x : Quot r) → P x
  quotient_ind P prop c x = ind {β = P} prop c x

  pub quotient_ind₂ : (P : Quot r → Quot r → Type 0) → ((x y : Quot r) → IsProp (P x y)) → ((a b : A) → P (mk a) (mk b)) → (x y : Quot r) → P x y
  quotient_ind₂ P prop c = quotient_ind (λ x. (y : Quot r) → P x y) (λ x. Π_prop (λ y. prop x y)) (λ a. quotient_ind (P (mk a)) (prop (mk a)) (c a))

  pub quotient_ind₃ : (P : Quot r → Quot r → Quot r → Type 0) → ((x y z : Quot r) → IsProp (P x y z)) → ((a b c : A) → P (mk a) (mk b) (mk c)) → (x y z : Quot r) → P x y z
  quotient_ind₃ P prop c = quotient_ind (λ x. (y z : Quot r) → P x y z) (λ x. Π_prop (λ y. Π_prop (λ z. prop x y z))) (λ a. quotient_ind₂ (P (mk a)) (prop (mk a)) (c a))

  unfoldable pub quotient_lift : {B : Type 0} → IsSet B → (f : A → B) → ((a b : A) → r a b → f a ≡ f b) → Quot r → B
  quotient_lift set f h x = lift set f h x

  unfoldable pub quotient_lift₂ : {C : Type 0} → IsSet C → (f : A → A → C) → ((a a' b : A) → r a a' → f a b ≡ f a' b) → ((a b b' : A) → r b b' → f a b ≡ f a b') → Quot r → Quot r → C
  unfolding quotient_lift
  quotient_lift₂ set f left right = quotient_lift (Π_set (λ _. set)) (λ a. quotient_lift set (f a) (right a))
      (λ a a' h. fun_ext (quotient_ind (λ y. quotient_lift set (f a) (right a) y ≡ quotient_lift set (f a') (right a') y) (λ y. set _ _) (λ b. left a a' b h)))
