-- Whether a list is the reduced basis: what the two answers of the search for the basis say of it.
use Rattle.std.proofs.Common.{◌≡◌, inl, inr, ℕ, zero, suc, ◌+◌, ◌<◌, ◌≤◌, List, [], ◌∷◌, length, get_or, sym, ap, ap₂, ◌∙◌, refl, subst, arith, Bool, false, IsTrue}
use Rattle.std.specs.Prelude.{◌↔◌}
use native.Mathlib.Decide.{dec_le}
use Rattle.alg_core.specs.Lists.{In}
use Rattle.alg_core.specs.Keys.{key}
use Rattle.alg_core.specs.declared.term.Term.{Term}
use Rattle.alg_core.specs.Spaces.{SpaceOver, entries}
use Rattle.alg_core.specs.SpaceGrading.{degree}
use Rattle.alg_core.specs.Vectors.{Vect, zero_vector}
use Rattle.alg_core.proofs.Members.{from_map}
use Rattle.poly_module.specs.Parts.{Supp, supp_zero, supp_weaken}
use Rattle.poly_module.specs.Degrees.{IsDegree}
use Rattle.poly_module.specs.Modules.{InModule, listed}
use Rattle.poly_module.specs.ReducedLists.{FitsOrder, IsReducedBasis}
use Rattle.poly_module.specs.SpaceVectors.{IsPositive, IsVector, AreVectors, vector_of, vectors_of, IsUpTo}
use Rattle.poly_module.proofs.ExponentBounds.{vec_supp}
use Rattle.poly_module.proofs.EntryCoefficients.{term_at_index}
use Rattle.poly_module.proofs.Reduced.{reduced_basis_unique}
use Rattle.module_groebner.specs.declared.bound.BasisBound.{BasisBound}
use Rattle.module_groebner.specs.declared.bound.Which.{Which}
use Rattle.module_groebner.specs.HomogeneousLists.{degree_limit, AreUpTo, AreHomogeneousUpTo}
use Rattle.module_groebner.specs.BasisBounds.{IsBasisBound}
use Rattle.module_groebner.proofs.CriterionSteps.{are_homogeneous}
use Rattle.module_groebner.proofs.DivisionSteps.{listed_at}
use Rattle.module_groebner.proofs.Families.{all_in, in_all}
use Rattle.module_groebner.proofs.ListLaws.{fitting, above_over}
use Rattle.module_groebner.proofs.ReductionSteps.{lead_there}

pub never : IsTrue false → ⊥
never t = grind arith

module _ {E M : Type 0} (S : SpaceOver E) (exps : M → List ℕ) where
  abbrev Terms : Type 0
  Terms = List (Term E M)

  -- vectors of the space have positions for which its order is
  fits_order : (v : Terms) → IsVector S exps v → Supp S.field (FitsOrder S) (vector_of S exps v)
  unfolding key
  fits_order v f = vec_supp S.field (FitsOrder S) (entries exps v) (λ i d w. let t = term_at_index S (entries exps v) i d w f in ap (S.order.fits (get_or (entries exps v) i d).0.0) (sym t.place.wide) ∙ t.place.fits)

  fit_order : (gens : List Terms) → AreVectors S exps gens → (w : Vect S.field) → In w (vectors_of S exps gens) → Supp S.field (FitsOrder S) w
  fit_order gens f w i = let x = from_map (vector_of S exps) w gens i in subst (Supp S.field (FitsOrder S)) x.2 (fits_order x.0 (all_in (IsVector S exps) gens f x.0 x.1))

  module _ (positive : IsPositive S) (gens : List Terms) (list : List Terms) (fit : AreVectors S exps gens) (homogeneous : AreHomogeneousUpTo S degree_limit (vectors_of S exps gens)) where
    -- where there is a reduced basis, the list is one exactly if it is that one
    pub same_basis : (basis : List Terms) → IsReducedBasis S (listed S.field (vectors_of S exps gens)) (vectors_of S exps basis) → (b : Bool)
        → IsTrue b ↔ (vectors_of S exps list ≡ vectors_of S exps basis) → IsTrue b ↔ IsReducedBasis S (listed S.field (vectors_of S exps gens)) (vectors_of S exps list)
    same_basis basis r b h = (
      λ t. subst (IsReducedBasis S (listed S.field (vectors_of S exps gens))) (sym (h.0 t)) r,
      λ q. h.1 (reduced_basis_unique S (listed S.field (vectors_of S exps gens)) positive.order (fitting S (vectors_of S exps gens) (fit_order gens fit)) (vectors_of S exps list) (vectors_of S exps basis) q r),
    )

    -- where there is an element above the degrees of the list, it is none
    pub no_basis : (cap : ℕ) (w : Which) (b : BasisBound E) → AreUpTo S cap (vectors_of S exps list) → IsBasisBound S (InModule S.field (listed S.field (vectors_of S exps gens))) cap w b
        → IsTrue false ↔ IsReducedBasis S (listed S.field (vectors_of S exps gens)) (vectors_of S exps list)
    no_basis cap w b up i = (λ t. absurd (not_true t), λ q. absurd (against q))
      where
        not_true : IsTrue false → ⊥
        not_true t = grind arith

        against : IsReducedBasis S (listed S.field (vectors_of S exps gens)) (vectors_of S exps list) → ⊥
        against q =
            let m = above_over S positive (vectors_of S exps gens) (vectors_of S exps list) (are_homogeneous S exps degree_limit (vectors_of S exps gens) homogeneous) (fit_order gens fit) q cap (vector_of S (λ m. m) b.vector) i.lead i.above in
            let low = all_in (IsUpTo S cap) (vectors_of S exps list) up m.0 m.2 m.1 (lead_there S m.0 m.1 m.3) in
            let high = m.4 in
            omega arith

  -- the greatest degree of a list
  abbrev pub UpToBefore : List Terms → ℕ → ℕ → Type 0
  UpToBefore list i d = (j : ℕ) (z : Terms) → j < i → j < length list → IsUpTo S d (vector_of S exps (get_or list j z))

  pub up_to_more : (d e : ℕ) → d ≤ e → (v : Vect S.field) → IsUpTo S d v → IsUpTo S e v
  up_to_more d e h = supp_weaken S.field (λ t. degree S t ≤ d) (λ t. degree S t ≤ e) (λ t l. omega arith)

  pub before_next : (list : List Terms) (i d e : ℕ) (x : Terms) → x ≡ get_or list i x → d ≤ e → IsUpTo S e (vector_of S exps x) → UpToBefore list i d → UpToBefore list (i + 1) e
  before_next list i d e x is le up h j z low within = go (dec_le (j + 1) i)
    where
      go : Dec (j + 1 ≤ i) → IsUpTo S e (vector_of S exps (get_or list j z))
      go (yes p) = up_to_more d e le (vector_of S exps (get_or list j z)) (h j z (omega arith) within)
      go (no n) = let same : i ≡ j = omega arith in subst (λ q. IsUpTo S e (vector_of S exps q)) (is ∙ ap (λ m. get_or list m x) same ∙ reads list j x z within) up
        where
          reads : (l : List Terms) (m : ℕ) (a b : Terms) → m < length l → get_or l m a ≡ get_or l m b
          reads [] m a b w = absurd (omega arith)
          reads (y ∷ l) zero a b w = refl
          reads (y ∷ l) (suc m) a b w = reads l m a b (omega arith)

  pub zero_up_to : (d : ℕ) (v : Vect S.field) → v ≡ zero_vector S.field → IsUpTo S d v
  zero_up_to d v z = subst (IsUpTo S d) (sym z) (supp_zero S.field (λ t. degree S t ≤ d))

  pub degree_low : (n d : ℕ) (v : Vect S.field) → IsUpTo S n v → IsDegree S v d → d ≤ n
  degree_low n d v up h = let a = up h.reached.0 h.reached.2 in let b = h.reached.1 in omega arith

  pub degree_up_to : (d e : ℕ) (v : Vect S.field) → IsDegree S v d → d ≤ e → IsUpTo S e v
  degree_up_to d e v h le = up_to_more d e le v h.most

  pub all_before : (list : List Terms) (i d : ℕ) → length list ≤ i → UpToBefore list i d → AreUpTo S d (vectors_of S exps list)
  all_before list i d all h = in_all (IsUpTo S d) (vectors_of S exps list) (λ w j. let x = from_map (vector_of S exps) w list j in subst (IsUpTo S d) x.2 (at x.0 (place list x.0 x.1)))
    where
      place : (l : List Terms) (x : Terms) → In x l → (m : ℕ) × (m < length l) × (get_or l m x ≡ x)
      place [] x h = absurd h
      place (y ∷ l) x (inl e) = (0, omega arith, e)
      place (y ∷ l) x (inr h) = let r = place l x h in (suc r.0, (let w = r.1 in omega arith), r.2)

      at : (x : Terms) → (m : ℕ) × (m < length list) × (get_or list m x ≡ x) → IsUpTo S d (vector_of S exps x)
      at x p = subst (λ q. IsUpTo S d (vector_of S exps q)) p.2 (h p.0 x (let w = p.1 in omega arith) p.1)

  -- equal lists, member by member
  abbrev pub SameBefore : List Terms → List Terms → ℕ → Type 0
  SameBefore a b i = (j : ℕ) (y z : Terms) → j < i → j < length a → vector_of S exps (get_or a j y) ≡ vector_of S exps (get_or b j z)

  pub same_all : (a b : List Terms) (i : ℕ) → length a ≡ length b → length a ≤ i → SameBefore a b i → vectors_of S exps a ≡ vectors_of S exps b
  same_all [] [] i e all h = refl
  same_all [] (y ∷ b) i e all h = absurd (omega arith)
  same_all (x ∷ a) [] i e all h = absurd (omega arith)
  same_all (x ∷ a) (y ∷ b) i e all h = ap₂ ◌∷◌ (h 0 x y (omega arith) (omega arith)) (same_all a b i (omega arith) (omega arith) (λ j u v low w. h (suc j) u v (omega arith) (omega arith)))

  pub same_lengths : (a b : List Terms) → vectors_of S exps a ≡ vectors_of S exps b → length a ≡ length b
  same_lengths a b e = sym (many a) ∙ ap length e ∙ many b
    where
      many : (l : List Terms) → length (vectors_of S exps l) ≡ length l
      many [] = refl
      many (x ∷ l) = ap suc (many l)

  pub same_at : (a b : List Terms) (i : ℕ) (x y : Terms) → i < length a → i < length b → x ≡ get_or a i x → y ≡ get_or b i y → vectors_of S exps a ≡ vectors_of S exps b → vector_of S exps x ≡ vector_of S exps y
  same_at a b i x y ha hb xi yi e = listed_at S exps a i x ha xi ∙ ap (λ l. listed S.field l i) e ∙ sym (listed_at S exps b i y hb yi)

  pub same_next : (a b : List Terms) (i : ℕ) (x y : Terms) → i < length a → length a ≡ length b → x ≡ get_or a i x → y ≡ get_or b i y → vector_of S exps x ≡ vector_of S exps y → SameBefore a b i → SameBefore a b (i + 1)
  same_next a b i x y hi len xi yi e h j u v low within = go (dec_le (j + 1) i)
    where
      reads : (l : List Terms) (m : ℕ) (p q : Terms) → m < length l → get_or l m p ≡ get_or l m q
      reads [] m p q w = absurd (omega arith)
      reads (z ∷ l) zero p q w = refl
      reads (z ∷ l) (suc m) p q w = reads l m p q (omega arith)

      go : Dec (j + 1 ≤ i) → vector_of S exps (get_or a j u) ≡ vector_of S exps (get_or b j v)
      go (yes p) = h j u v (omega arith) within
      go (no n) = let same : i ≡ j = omega arith in
          ap (vector_of S exps) (reads a j u x within ∙ ap (λ m. get_or a m x) (sym same) ∙ sym xi) ∙ e ∙ ap (vector_of S exps) (yi ∙ ap (λ m. get_or b m y) same ∙ reads b j y v (omega arith))
