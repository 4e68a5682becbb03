-- The standard monomials of a module by their places, and lists that are made for one after another.
use Rattle.std.proofs.Common.{◌≡◌, ◌∙◌, ◌+◌, ◌<◌, ◌≤◌, ℕ, zero, suc, List, [], ◌∷◌, ◌++◌, length, get_or, refl, sym, ap, ap₂, subst, inl, inr, ◌⊎◌, arith}
use Rattle.std.proofs.lemmas.Bool.{cases_lt}
use Rattle.std.proofs.lemmas.List.{length-append, get_or_default, get_or_append_left, get_or_push}
use Rattle.std.specs.Prelude.{All}
use Rattle.alg_core.specs.Lists.{In}
use Rattle.alg_core.specs.Monomials.{mono}
use Rattle.alg_core.specs.Spaces.{SpaceOver}
use Rattle.alg_core.specs.Vectors.{Vect}
use Rattle.alg_core.specs.declared.term.Term.{Term}
use Rattle.poly_module.specs.GreatestExponents.{total}
use Rattle.poly_module.specs.Polynomials.{single_vector}
use Rattle.poly_module.specs.Signs.{minus}
use Rattle.poly_module.specs.SpaceVectors.{IsPolyOf, IsVectorOf, vector_of, vectors_of}
use Rattle.lin_algebra.specs.declared.matrix.Matrix.{Matrix}
use Rattle.matrix_group.specs.Actions.{IsSquare}
use Rattle.module_groebner.proofs.Families.{all_in}
use Rattle.finite_certificate.specs.StandardMonomials.{IsStandard}
use Rattle.primary_module.specs.PrimaryModules.{Primaries, StandsOver, IsLowMonomial, IsStandardImage, IsStandardDifference}
use Rattle.primary_module.proofs.StandardDegrees.{standard_wide, total_below}
use Rattle.primary_module.proofs.StandardImages.{image_less}

in_place : {A : Type 0} (l : List A) (i : ℕ) (d : A) → i < length l → In (get_or l i d) l
in_place [] i d h = absurd (omega arith)
in_place (x ∷ l) zero d h = inl refl
in_place (x ∷ l) (suc i) d h = inr (in_place l i d (omega arith))

module _ {A B : Type 0} (P : A → B → Type 0) (xs : List A) (a : A) (b : B) where
  -- one for each of the first i
  pub record AreFirst (ys : List B) (i : ℕ) : Type 0 where
    pub count : length ys ≡ i
    pub each : (j : ℕ) → j < i → P (get_or xs j a) (get_or ys j b)

  pub first_none : (ys : List B) → ys ≡ [] → AreFirst ys 0
  first_none ys e = record { count = ap length e; each = λ j h. absurd (omega arith) }

  pub first_more : (ys new : List B) (y : B) (i : ℕ) → new ≡ ys ++ y ∷ [] → AreFirst ys i → P (get_or xs i a) y → AreFirst new (i + 1)
  first_more ys new y i e h p = record { count = ap length e ∙ length-append ys (y ∷ []) ∙ ap (λ n. n + 1) h.count; each = λ j low. subst (λ l. P (get_or xs j a) (get_or l j b)) (sym e) (at j low (cases_lt j i)) }
    where
      at : (j : ℕ) → j < i + 1 → (j < i) ⊎ (i ≤ j) → P (get_or xs j a) (get_or (ys ++ y ∷ []) j b)
      at j low (inl less) = subst (P (get_or xs j a)) (sym (get_or_append_left ys (y ∷ []) b j (let c = h.count in omega arith))) (h.each j less)
      at j low (inr past) = let same : i ≡ j = omega arith in
          subst (λ (m : ℕ). P (get_or xs m a) (get_or (ys ++ y ∷ []) m b)) same (subst (P (get_or xs i a)) (sym (get_or_push ys y b i h.count)) p)

module _ {E : Type 0} (S : SpaceOver E) (n : ℕ) (ds : List ℕ) (p : Primaries E) (stands : StandsOver S n ds p) where
  abbrev Terms : Type 0
  Terms = List (Term E (List ℕ))

  abbrev θs : List (Vect S.field)
  θs = vectors_of S (λ m. m) p.theta

  -- a member
  low_member : (a : List ℕ) → In a p.monomials → IsLowMonomial n a
  low_member a i = record {
    wide = standard_wide S.field n θs p.monomials stands.monomials a i;
    low = let t = total_below S.field n θs p.monomials stands.monomials a i in let f = stands.few in omega arith;
  }

  -- as it is read from a list
  pub low_place : (seen : List (List ℕ)) (i : ℕ) (a : List ℕ) → seen ≡ p.monomials → i < length p.monomials → a ≡ get_or seen i a → IsLowMonomial n a
  low_place seen i a same h is = low_member a (subst (λ x. In x p.monomials) (sym (is ∙ ap (λ l. get_or l i a) same)) (in_place p.monomials i a h))

  pub wide_places : (seen : List (List ℕ)) → seen ≡ p.monomials → All (λ a. length a ≡ n) seen
  wide_places seen same = subst (All (λ a. length a ≡ n)) (sym same) stands.monomials.wide

  module _ (m : Matrix E) where
    -- what is known of the member at a place
    pub known_place : (seen : List (List ℕ)) (images : List Terms) (i : ℕ) (a : List ℕ) (u : Terms) → seen ≡ p.monomials → i < length p.monomials → i < length images → a ≡ get_or seen i a → u ≡ get_or images i u
        → IsStandardImage S n θs m (get_or p.monomials i []) (get_or images i []) → IsStandardImage S n θs m a u
    known_place seen images i a u same h low is read known =
        subst (λ x. IsStandardImage S n θs m x u) (sym (is ∙ ap (λ l. get_or l i a) same ∙ get_or_default p.monomials i a [] h))
        (subst (IsStandardImage S n θs m (get_or p.monomials i [])) (sym (read ∙ get_or_default images i u [] low)) known)

    -- the difference there
    pub less_place : IsSquare S.field n m → (seen : List (List ℕ)) (images : List Terms) (i : ℕ) (a : List ℕ) (u s r : Terms) → seen ≡ p.monomials → i < length p.monomials → i < length images
        → a ≡ get_or seen i a → u ≡ get_or images i u → IsStandardImage S n θs m (get_or p.monomials i []) (get_or images i [])
        → IsPolyOf S (λ m. m) (single_vector S.field (0, mono a)) s → IsVectorOf S (λ m. m) (minus S.field (vector_of S (λ m. m) u) (vector_of S (λ m. m) s)) r
        → IsStandardDifference S n θs m (get_or p.monomials i []) r
    less_place square seen images i a u s r same h low is read known single less =
        let here : a ≡ get_or p.monomials i a = is ∙ ap (λ l. get_or l i a) same in
        let inside : In a p.monomials = subst (λ x. In x p.monomials) (sym here) (in_place p.monomials i a h) in
        let bounds = low_member a inside in
        subst (λ x. IsStandardDifference S n θs m x r) (here ∙ get_or_default p.monomials i a [] h)
        (image_less S n ds stands.is.space m square a bounds.wide θs u s r (all_in (λ x. IsStandard S.field n θs (mono x)) p.monomials stands.monomials.standard a inside) bounds.low
        (known_place seen images i a u same h low is read known) single less)
