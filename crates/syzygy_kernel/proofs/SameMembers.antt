-- Lists of members with the same polynomials and the same names.
use Rattle.std.proofs.Common.{◌≡◌, ◌∙◌, ◌+◌, ◌<◌, ◌≤◌, ℕ, zero, suc, Bool, List, [], ◌∷◌, ◌++◌, length, map, take, get_or, sym, ap, ap₂, subst, arith}
use Rattle.std.specs.Prelude.{IsTrue}
use Rattle.std.proofs.lemmas.List.{take_all}
use Rattle.alg_core.specs.Fields.{FieldOn}
use Rattle.alg_core.specs.Vectors.{Vect}
use Rattle.lin_algebra.specs.declared.matrix.Matrix.{Matrix}
use Rattle.poly_module.proofs.GreatestValues.{take_map}
use Rattle.module_groebner.proofs.Families.{length_map}
use Rattle.syzygy_kernel.specs.Kernels.{AreKernel, AreListedAs, polynomial_of}
use Rattle.syzygy_kernel.specs.declared.member.Member.{Member}

first_or : {A : Type 0} → A → List A → A
first_or d [] = d
first_or d (x ∷ xs) = x

rest_of : {A : Type 0} → List A → List A
rest_of [] = []
rest_of (x ∷ xs) = xs

pub same_first : {A : Type 0} (x y : A) (xs ys : List A) → x ∷ xs ≡ y ∷ ys → x ≡ y
unfolding first_or
same_first x y xs ys e = ap (first_or x) e

pub same_rest : {A : Type 0} (x y : A) (xs ys : List A) → x ∷ xs ≡ y ∷ ys → xs ≡ ys
unfolding rest_of
same_rest x y xs ys e = ap rest_of e

module _ {A B : Type 0} (f : A → B) where
  same_read : (xs ys : List A) (i : ℕ) (x y : A) → i < length xs → i < length ys → x ≡ get_or xs i x → y ≡ get_or ys i y → map f xs ≡ map f ys → f x ≡ f y
  same_read [] ys i x y h l p q e = absurd (omega arith)
  same_read (a ∷ xs) [] i x y h l p q e = absurd (omega arith)
  same_read (a ∷ xs) (b ∷ ys) zero x y h l p q e = ap f p ∙ same_first (f a) (f b) (map f xs) (map f ys) e ∙ ap f (sym q)
  same_read (a ∷ xs) (b ∷ ys) (suc i) x y h l p q e = same_read xs ys i x y (omega arith) (omega arith) p q (same_rest (f a) (f b) (map f xs) (map f ys) e)

module _ {E : Type 0} (k : FieldOn E) where
  abbrev names : List (Member E) → List Bool
  names ms = map (λ (m : Member E). m.is_fixed) ms

  -- the same polynomials and names
  abbrev pub Same : List (Member E) → List (Member E) → Type 0
  Same xs ys = (map (polynomial_of k) xs ≡ map (polynomial_of k) ys) × (map (λ (m : Member E). m.is_fixed) xs ≡ map (λ (m : Member E). m.is_fixed) ys)

  abbrev pub Alike : Member E → Member E → Type 0
  Alike x y = (polynomial_of k x ≡ polynomial_of k y) × (x.is_fixed ≡ y.is_fixed)

  pub same_next : (xs ys : List (Member E)) (i : ℕ) (x y : Member E) → i < length xs → length xs ≡ length ys → x ≡ get_or xs i x → y ≡ get_or ys i y → Alike x y
      → Same (take i xs) (take i ys) → Same (take (i + 1) xs) (take (i + 1) ys)
  same_next xs ys i x y h e p q a s = (
    take_map (polynomial_of k) xs i x h p ∙ ap₂ (λ l z. l ++ z ∷ []) s.0 a.0 ∙ sym (take_map (polynomial_of k) ys i y (omega arith) q),
    take_map (λ (m : Member E). m.is_fixed) xs i x h p ∙ ap₂ (λ l z. l ++ z ∷ []) s.1 a.1 ∙ sym (take_map (λ (m : Member E). m.is_fixed) ys i y (omega arith) q),
  )

  pub same_all : (xs ys : List (Member E)) (i : ℕ) → length xs ≡ length ys → length xs ≤ i → Same (take i xs) (take i ys) → Same xs ys
  same_all xs ys i e h s = (
    ap (map (polynomial_of k)) (sym (take_all i xs h)) ∙ s.0 ∙ ap (map (polynomial_of k)) (take_all i ys (omega arith)),
    ap names (sym (take_all i xs h)) ∙ s.1 ∙ ap names (take_all i ys (omega arith)),
  )

  pub same_length : (xs ys : List (Member E)) → Same xs ys → length xs ≡ length ys
  same_length xs ys s = sym (length_map (polynomial_of k) xs) ∙ ap length s.0 ∙ length_map (polynomial_of k) ys

  pub same_at : (xs ys : List (Member E)) (i : ℕ) (x y : Member E) → i < length xs → i < length ys → x ≡ get_or xs i x → y ≡ get_or ys i y → Same xs ys → Alike x y
  same_at xs ys i x y h l p q s = (same_read (polynomial_of k) xs ys i x y h l p q s.0, same_read (λ (m : Member E). m.is_fixed) xs ys i x y h l p q s.1)

  module _ (n : ℕ) (gens : List (Matrix E)) (B : List (List ℕ)) where
    same_listed : (ws : List (Vect k)) (ms ls : List (Member E)) → Same ms ls → AreListedAs k n gens B ws ms → AreListedAs k n gens B ws ls
    same_listed [] [] [] s h = tt
    same_listed [] [] (l ∷ ls) s h = absurd (let e = same_length [] (l ∷ ls) s in omega arith)
    same_listed [] (m ∷ ms) ls s h = absurd h
    same_listed (w ∷ ws) [] ls s h = absurd h
    same_listed (w ∷ ws) (m ∷ ms) [] s h = absurd (let e = same_length (m ∷ ms) [] s in omega arith)
    same_listed (w ∷ ws) (m ∷ ms) (l ∷ ls) s h =
        let poly = same_first (polynomial_of k m) (polynomial_of k l) (map (polynomial_of k) ms) (map (polynomial_of k) ls) s.0 in
        let name = same_first m.is_fixed l.is_fixed (names ms) (names ls) s.1 in (
          record { last = sym poly ∙ h.0.last; fixed = (λ t. h.0.fixed.0 (subst IsTrue (sym name) t), λ e. subst IsTrue name (h.0.fixed.1 e)) },
          same_listed ws ms ls (
            same_rest (polynomial_of k m) (polynomial_of k l) (map (polynomial_of k) ms) (map (polynomial_of k) ls) s.0,
            same_rest m.is_fixed l.is_fixed (names ms) (names ls) s.1,
          ) h.1,
        )

    pub same_kernel : (ds : List ℕ) (θ : List (Vect k)) (ms ls : List (Member E)) → Same ms ls → AreKernel k n ds θ gens B ms → AreKernel k n ds θ gens B ls
    same_kernel ds θ ms ls s h = record { basis = h.basis; reduced = h.reduced; listed_as = same_listed h.basis ms ls s h.listed_as }
