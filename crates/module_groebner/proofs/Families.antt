-- The families of the members of lists: places, larger lists, degrees, and the modules that they generate.
use Rattle.std.proofs.Common.{◌≡◌, ◌⊎◌, inl, inr, ℕ, zero, suc, ◌<◌, ◌≤◌, List, [], ◌∷◌, ◌++◌, map, length, get_or, sym, ap, refl, subst, arith}
use Rattle.std.specs.Prelude.{All}
use Rattle.std.specs.List.Sorted.{IsPermutation}
use Rattle.std.proofs.lemmas.List.Elements.{All-nil, All-cons, All-contains}
use Rattle.std.proofs.lemmas.List.Sorted.{Contains-permutation}
use native.Mathlib.Decide.{dec_le}
use Rattle.alg_core.specs.Fields.{FieldOn}
use Rattle.alg_core.specs.Lists.{In}
use Rattle.alg_core.specs.Spaces.{SpaceOver, Fits, IsPlace}
use Rattle.alg_core.specs.SpaceOrder.{key_order}
use Rattle.alg_core.specs.SpaceGrading.{degree}
use Rattle.alg_core.specs.Keys.{key}
use Rattle.alg_core.specs.Vectors.{Entry, Vect, vec, zero_vector}
use Rattle.alg_core.proofs.Members.{in_contains, contains_in}
use Rattle.alg_core.proofs.FittingLists.{lead_first}
use Rattle.alg_core.proofs.VectorLaws.{vec_nothing}
use Rattle.poly_module.specs.Parts.{supp_zero}
use Rattle.poly_module.specs.Degrees.{IsHomogeneous}
use Rattle.poly_module.specs.Modules.{LeadBy, InModule, listed}
use Rattle.poly_module.proofs.ModuleElements.{module_zero, module_member, module_within}
use Rattle.poly_module.proofs.Reduced.{place_of_member, listed_has}
use Rattle.module_groebner.specs.HomogeneousLists.{IsHomogeneousUpTo}
use Rattle.module_groebner.specs.Progress.{lead_place}
use Rattle.module_groebner.specs.Completions.{vects}
use Rattle.module_groebner.proofs.Sums.{Grows}

module _ {A : Type 0} (P : A → Type 0) where
  pub all_in : (xs : List A) → All P xs → (x : A) → In x xs → P x
  all_in xs h x i = All-contains P xs x h (in_contains x xs i)

  pub in_all : (xs : List A) → ((x : A) → In x xs → P x) → All P xs
  in_all [] h = All-nil P
  in_all (x ∷ xs) h = All-cons P x xs (h x (inl refl)) (in_all xs (λ y i. h y (inr i)))

pub in_permutation : {A : Type 0} (xs ys : List A) (x : A) → IsPermutation xs ys → In x xs → In x ys
in_permutation xs ys x p i = contains_in x ys (Contains-permutation xs ys x p (in_contains x xs i))

pub map_append : {A B : Type 0} (f : A → B) (xs ys : List A) → map f (xs ++ ys) ≡ map f xs ++ map f ys
map_append f [] ys = refl
map_append f (x ∷ xs) ys = ap (λ l. f x ∷ l) (map_append f xs ys)

pub length_map : {A B : Type 0} (f : A → B) (xs : List A) → length (map f xs) ≡ length xs
length_map f [] = refl
length_map f (x ∷ xs) = ap suc (length_map f xs)

pub get_front : {A : Type 0} (d : A) (xs ys : List A) (i : ℕ) → i < length xs → get_or (xs ++ ys) i d ≡ get_or xs i d
get_front d [] ys i h = absurd (omega arith)
get_front d (x ∷ xs) ys zero h = refl
get_front d (x ∷ xs) ys (suc i) h = get_front d xs ys i (omega arith)

pub get_last : {A : Type 0} (d : A) (xs : List A) (x : A) → get_or (xs ++ (x ∷ [])) (length xs) d ≡ x
get_last d [] x = refl
get_last d (y ∷ xs) x = get_last d xs x

pub in_get : {A : Type 0} (d : A) (xs : List A) (i : ℕ) → i < length xs → In (get_or xs i d) xs
in_get d [] i h = absurd (omega arith)
in_get d (x ∷ xs) zero h = inl refl
in_get d (x ∷ xs) (suc i) h = inr (in_get d xs i (omega arith))

module _ {E : Type 0} (k : FieldOn E) where
  pub listed_past : (vs : List (Vect k)) (i : ℕ) → length vs ≤ i → listed k vs i ≡ zero_vector k
  listed_past [] i h = refl
  listed_past (v ∷ vs) zero h = absurd (omega arith)
  listed_past (v ∷ vs) (suc i) h = listed_past vs i (omega arith)

  pub listed_front : (vs ws : List (Vect k)) (i : ℕ) → i < length vs → listed k (vs ++ ws) i ≡ listed k vs i
  listed_front [] ws i h = absurd (omega arith)
  listed_front (v ∷ vs) ws zero h = refl
  listed_front (v ∷ vs) ws (suc i) h = listed_front vs ws i (omega arith)

  pub listed_at : (vs : List (Vect k)) (w : Vect k) (ws : List (Vect k)) → listed k (vs ++ (w ∷ ws)) (length vs) ≡ w
  listed_at [] w ws = refl
  listed_at (v ∷ vs) w ws = listed_at vs w ws

  pub listed_in : (vs : List (Vect k)) (i : ℕ) → i < length vs → In (listed k vs i) vs
  listed_in [] i h = absurd (omega arith)
  listed_in (v ∷ vs) zero h = inl refl
  listed_in (v ∷ vs) (suc i) h = inr (listed_in vs i (omega arith))

  -- the vector at a place, by the entries there
  pub vects_at : (ess : List (List (Entry E))) (i : ℕ) → listed k (vects k ess) i ≡ vec k (get_or ess i [])
  vects_at [] i = sym (vec_nothing k)
  vects_at (es ∷ ess) zero = refl
  vects_at (es ∷ ess) (suc i) = vects_at ess i

  -- members and the module that they generate
  pub member_inside : (vs : List (Vect k)) (w : Vect k) → In w vs → InModule k (listed k vs) w
  member_inside vs w i = let p = place_of_member k vs w i in subst (InModule k (listed k vs)) p.1 (module_member k (listed k vs) p.0)

  pub inside_by_members : {J : Type 0} (vs : List (Vect k)) (h : J → Vect k) → ((w : Vect k) → In w vs → InModule k h w) → (v : Vect k) → InModule k (listed k vs) v → InModule k h v
  inside_by_members vs h each = module_within k (listed k vs) h (listed_has k (InModule k h) (module_zero k h) vs each)

module _ {E : Type 0} (S : SpaceOver E) where
  pub grows_append : (vs ws : List (Vect S.field)) → Grows S (listed S.field vs) (listed S.field (vs ++ ws))
  grows_append vs ws i = go (dec_le (suc i) (length vs))
    where
      go : Dec (i < length vs) → ((j : ℕ) × (listed S.field (vs ++ ws) j ≡ listed S.field vs i)) ⊎ (listed S.field vs i ≡ zero_vector S.field)
      go (yes p) = inl (i, listed_front S.field vs ws i p)
      go (no n) = inr (listed_past S.field vs i (omega arith))

  -- each place of a list of homogeneous vectors has a homogeneous one
  pub homogeneous_family : (d : ℕ) (vs : List (Vect S.field)) → ((w : Vect S.field) → In w vs → IsHomogeneousUpTo S d w) → (i : ℕ) → IsHomogeneousUpTo S d (listed S.field vs i)
  homogeneous_family d vs = listed_has S.field (IsHomogeneousUpTo S d) (0, omega arith, supp_zero S.field (λ t. degree S t ≡ 0)) vs

  pub homogeneous_each : (vs : List (Vect S.field)) → ((w : Vect S.field) → In w vs → (d : ℕ) × IsHomogeneous S d w) → (i : ℕ) → (d : ℕ) × IsHomogeneous S d (listed S.field vs i)
  homogeneous_each vs = listed_has S.field (λ w. (d : ℕ) × IsHomogeneous S d w) (0, supp_zero S.field (λ t. degree S t ≡ 0)) vs

  -- the lead of entries that fit
  pub entries_lead : (es : List (Entry E)) → Fits S es → ¬ (vec S.field es ≡ zero_vector S.field) → LeadBy S.field (key_order S) (vec S.field es) (key (lead_place es)) × IsPlace S (lead_place es)
  entries_lead [] f n = absurd (n (vec_nothing S.field))
  entries_lead (e ∷ es) f n = (lead_first S e es f, f.0.place)
