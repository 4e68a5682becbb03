-- Members of lists by their places.
use Rattle.std.proofs.Common.{◌≡◌, ℕ, zero, suc, ◌<◌, List, [], ◌∷◌, map, length, ap, inl, inr, arith}
use Rattle.std.specs.Prelude.{Option, Some, None, slice_get, slice_index_or}
use Rattle.alg_core.specs.Fields.{FieldOn}
use Rattle.alg_core.specs.Lists.{In}
use Rattle.alg_core.specs.Vectors.{Vect}
use Rattle.poly_module.specs.Modules.{listed}

some_or : {A : Type 0} → A → Option A → A
some_or d None = d
some_or d (Some x) = x

pub same_some : {A : Type 0} (x y : A) → Some x ≡ Some y → x ≡ y
unfolding some_or
same_some x y e = ap (some_or x) e

module _ {A : Type 0} where
  pub place_in : (xs : List A) (j : ℕ) (x : A) → slice_get xs j ≡ Some x → In x xs
  place_in [] j x e = absurd cc
  place_in (y ∷ xs) zero x e = inl (same_some y x e)
  place_in (y ∷ xs) (suc j) x e = inr (place_in xs j x e)

  pub place_within : (xs : List A) (j : ℕ) (x : A) → slice_get xs j ≡ Some x → j < length xs
  place_within [] j x e = absurd cc
  place_within (y ∷ xs) zero x e = omega arith
  place_within (y ∷ xs) (suc j) x e = let r = place_within xs j x e in omega arith

  pub place_read : (d : A) (xs : List A) (j : ℕ) (x : A) → slice_get xs j ≡ Some x → slice_index_or xs j d ≡ x
  place_read d [] j x e = absurd cc
  place_read d (y ∷ xs) zero x e = same_some y x e
  place_read d (y ∷ xs) (suc j) x e = place_read d xs j x e

  pub place_map : {B : Type 0} (f : A → B) (xs : List A) (j : ℕ) (x : A) → slice_get xs j ≡ Some x → slice_get (map f xs) j ≡ Some (f x)
  place_map f [] j x e = absurd cc
  place_map f (y ∷ xs) zero x e = ap (λ z. Some (f z)) (same_some y x e)
  place_map f (y ∷ xs) (suc j) x e = place_map f xs j x e

module _ {E : Type 0} (k : FieldOn E) where
  pub place_listed : (vs : List (Vect k)) (j : ℕ) (v : Vect k) → slice_get vs j ≡ Some v → listed k vs j ≡ v
  place_listed [] j v e = absurd cc
  place_listed (w ∷ vs) zero v e = same_some w v e
  place_listed (w ∷ vs) (suc j) v e = place_listed vs j v e
