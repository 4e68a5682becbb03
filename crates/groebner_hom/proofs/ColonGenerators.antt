-- The generators of a colon module, one by one.
use Rattle.std.proofs.Common.{◌≡◌, ◌∙◌, ◌+◌, ◌<◌, ◌≤◌, ℕ, List, [], ◌∷◌, ◌++◌, length, take, get_or, replicate, sym, ap, ap₂, subst}
use Rattle.std.specs.Prelude.{All}
use Rattle.std.proofs.lemmas.List.{map-append, take_all}
use Rattle.std.proofs.lemmas.List.Elements.{All-push, All-nil}
use Rattle.alg_core.specs.Keys.{key}
use Rattle.alg_core.specs.Monomials.{Mon, mono}
use Rattle.alg_core.specs.declared.term.Term.{Term}
use Rattle.alg_core.specs.Spaces.{SpaceOver}
use Rattle.alg_core.specs.Vectors.{plus}
use Rattle.poly_module.specs.Polynomials.{single_vector}
use Rattle.poly_module.specs.SpaceVectors.{vector_of, vectors_of, IsVector, AreVectors, IsVectorOf}
use Rattle.poly_module.specs.Substitutions.{position_vector}
use Rattle.poly_module.proofs.ConstantSteps.{mono_zeros}
use Rattle.poly_module.proofs.ExponentBounds.{vec_scaled}
use Rattle.poly_module.proofs.GreatestValues.{take_map}
use Rattle.poly_module.proofs.PowerSteps.{scale_one}
use Rattle.groebner_hom.specs.Colons.{colon}

-- a member of a list at a place
pub all_at : {A : Type 0} (P : A → Type 0) (xs : List A) (i : ℕ) (x : A) → All P xs → i < length xs → x ≡ get_or xs i x → P x
all_at P xs i x h below read = subst P (sym read) (h i x below)

module _ {E : Type 0} (T : SpaceOver E) where
  abbrev Terms : Type 0
  Terms = List (Term E (List ℕ))

  -- the monomial 1 at position 1
  one_given : (c : E) (a : List ℕ) (n : ℕ) → c ≡ T.field.one → a ≡ replicate n 0 → vector_of T (λ m. m) (record { coef = c; at = record { pos = 1; mono = a } } ∷ []) ≡ position_vector T.field
  unfolding key position_vector
  one_given c a n unit zeros = vec_scaled T.field ((1, a), c) ∙ scale_one T (λ (m : List ℕ). m) c unit _ ∙ ap (λ (l : List ℕ). single_vector T.field (1, mono l)) zeros ∙ ap (λ (p : ℕ × Mon). single_vector T.field (1, p.1)) (mono_zeros n)

  -- the pair of a polynomial and 1
  pub pair_given : (f seen first one sum : Terms) (c : E) (a : List ℕ) (n : ℕ) → seen ≡ f → c ≡ T.field.one → a ≡ replicate n 0
      → IsVectorOf T (λ m. m) (vector_of T (λ m. m) seen) first → IsVectorOf T (λ m. m) (vector_of T (λ m. m) (record { coef = c; at = record { pos = 1; mono = a } } ∷ [])) one
      → IsVectorOf T (λ m. m) (plus T.field (vector_of T (λ m. m) first) (vector_of T (λ m. m) one)) sum
      → IsVectorOf T (λ m. m) (plus T.field (vector_of T (λ m. m) f) (position_vector T.field)) sum
  pair_given f seen first one sum c a n same unit zeros is_first is_one is_sum =
      subst (λ u. IsVectorOf T (λ (m : List ℕ). m) u sum) (ap₂ (plus T.field) (is_first.is ∙ ap (vector_of T (λ m. m)) same) (is_one.is ∙ one_given c a n unit zeros)) is_sum

  -- the first generators
  pub record AreGenerators (f : Terms) (θ gs : List Terms) : Type 0 where
    pub fit : AreVectors T (λ m. m) gs
    pub are : vectors_of T (λ m. m) gs ≡ colon T.field (vectors_of T (λ m. m) θ) (vector_of T (λ m. m) f)

  pub first_generator : (f p : Terms) (before gs θ : List Terms) → before ≡ [] → gs ≡ before ++ p ∷ [] → IsVectorOf T (λ m. m) (plus T.field (vector_of T (λ m. m) f) (position_vector T.field)) p → AreGenerators f (take 0 θ) gs
  first_generator f p before gs θ empty push is =
      let e = push ∙ ap (λ l. l ++ p ∷ []) empty in
      record {
        fit = subst (AreVectors T (λ m. m)) (sym e) (All-push (IsVector T (λ m. m)) [] p (All-nil (IsVector T (λ m. m))) is.fits);
        are = ap (vectors_of T (λ m. m)) e ∙ ap (λ v. v ∷ []) is.is;
      }

  pub next_generator : (f p x seen : Terms) (θ old new : List Terms) (i : ℕ) → i < length θ → x ≡ get_or θ i x → seen ≡ x → IsVectorOf T (λ m. m) (vector_of T (λ m. m) seen) p → new ≡ old ++ p ∷ []
      → AreGenerators f (take i θ) old → AreGenerators f (take (i + 1) θ) new
  next_generator f p x seen θ old new i below read same is push h = record {
    fit = subst (AreVectors T (λ m. m)) (sym push) (All-push (IsVector T (λ m. m)) old p h.fit is.fits);
    are = ap (vectors_of T (λ m. m)) push ∙ map-append (vector_of T (λ m. m)) old (p ∷ []) ∙ ap₂ (λ l v. l ++ v ∷ []) h.are (is.is ∙ ap (vector_of T (λ m. m)) same)
        ∙ ap (λ l. plus T.field (vector_of T (λ m. m) f) (position_vector T.field) ∷ l) (sym (take_map (vector_of T (λ m. m)) θ i x below read));
  }

  pub all_generators : (f : Terms) (θ gs : List Terms) (i : ℕ) → length θ ≤ i → AreGenerators f (take i θ) gs → AreGenerators f θ gs
  all_generators f θ gs i past h = subst (λ l. AreGenerators f l gs) (take_all i θ past) h
