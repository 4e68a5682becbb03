-- What is said of a list of polynomials by its ideal holds of each basis of the ideal.
use Rattle.std.proofs.Common.{◌≡◌, ◌⊎◌, ◌≤◌, ℕ, List, [], ◌∷◌, ◌++◌, inl, inr, sym, subst, arith}
use Rattle.std.specs.Prelude.{◌↔◌}
use Rattle.alg_core.specs.Fields.{FieldOn}
use Rattle.alg_core.specs.Lists.{In, in_left, in_right}
use Rattle.alg_core.specs.Spaces.{SpaceOver, entries, Fits}
use Rattle.alg_core.specs.Vectors.{Vect, vec, plus}
use Rattle.alg_core.specs.declared.term.Term.{Term}
use Rattle.alg_core.proofs.Members.{in_cases}
use Rattle.poly_module.specs.Modules.{InModule, listed}
use Rattle.poly_module.specs.ReducedLists.{IsReducedBasisOf}
use Rattle.poly_module.specs.SpaceVectors.{vectors_of}
use Rattle.poly_module.specs.Substitutions.{position_vector}
use Rattle.std.specs.Prelude.{All}
use Rattle.module_groebner.specs.Completions.{SameModule}
use Rattle.module_groebner.specs.HomogeneousLists.{IsHomogeneousUpTo}
use Rattle.module_groebner.specs.declared.bound.BasisBound.{BasisBound}
use Rattle.module_groebner.specs.declared.bound.Which.TheVariants.{Ideal, Colon}
use Rattle.module_groebner.proofs.Families.{member_inside, inside_by_members}
use Rattle.module_groebner.proofs.Transports.{nothing_back, bound_back, reduced_back}
use Rattle.finite_certificate.specs.Ideals.{InIdeal, Nonzerodivisor}
use Rattle.groebner_hom.specs.Colons.{colon, colon_space, NoColonAbove, IsColonBound}
use Rattle.groebner_hom.specs.IdealBases.{IsHomogeneousPoly, NoIdealAbove, IsIdealBound}
use Rattle.groebner_hom.proofs.PolynomialLists.{same_ideal}
use Rattle.primary_search.specs.KeptBases.{IsKept}

module _ {E : Type 0} (k : FieldOn E) where
  -- lists with one module have it with the same members more
  wider : (us bs cs ds : List (Vect k)) → ((w : Vect k) → InModule k (listed k us) w → InModule k (listed k bs) w) → ((w : Vect k) → In w cs → In w us ⊎ In w ds)
      → ((w : Vect k) → In w bs → In w (ds ++ bs)) → (v : Vect k) → InModule k (listed k cs) v → InModule k (listed k (ds ++ bs)) v
  wider us bs cs ds from parts keep = inside_by_members k cs (listed k (ds ++ bs)) (λ w i. go w (parts w i))
    where
      go : (w : Vect k) → In w us ⊎ In w ds → InModule k (listed k (ds ++ bs)) w
      go w (inl i) = inside_by_members k bs (listed k (ds ++ bs)) (λ x j. member_inside k (ds ++ bs) x (in_right x ds bs j)) w (from w (member_inside k us w i))
      go w (inr i) = member_inside k (ds ++ bs) w (in_left w ds bs i)

  module _ (ws θ : List (Vect k)) (same : (v : Vect k) → InIdeal k ws v ↔ InIdeal k θ v) where
    front_same : (ds : List (Vect k)) → SameModule k (listed k (ds ++ ws)) (listed k (ds ++ θ))
    front_same ds v = (
      wider ws θ (ds ++ ws) ds (λ w. (same w).0) (λ w i. turned (in_cases w ds ws i)) (λ w i. in_right w ds θ i) v,
      wider θ ws (ds ++ θ) ds (λ w. (same w).1) (λ w i. turned (in_cases w ds θ i)) (λ w i. in_right w ds ws i) v,
    )
      where
        turned : {A B : Type 0} → A ⊎ B → B ⊎ A
        turned (inl a) = inr a
        turned (inr b) = inl b

    -- the same colon module
    pub colon_same : (f : Vect k) → SameModule k (listed k (colon k ws f)) (listed k (colon k θ f))
    colon_same f = front_same (plus k f (position_vector k) ∷ [])

    -- the same with one member more, at the end
    pub push_same : (c : Vect k) → SameModule k (listed k (ws ++ c ∷ [])) (listed k (θ ++ c ∷ []))
    push_same c v = (through ws θ (λ u. (front_same (c ∷ []) u).0), through θ ws (λ u. (front_same (c ∷ []) u).1))
      where
        turn : (us : List (Vect k)) (w : Vect k) → InModule k (listed k (us ++ c ∷ [])) w → InModule k (listed k (c ∷ us)) w
        turn us w = inside_by_members k (us ++ c ∷ []) (listed k (c ∷ us)) (λ x i. member_inside k (c ∷ us) x (back (in_cases x us (c ∷ []) i))) w
          where
            back : {x : Vect k} → In x us ⊎ In x (c ∷ []) → In x (c ∷ us)
            back (inl i) = inr i
            back (inr (inl e)) = inl e
            back (inr (inr i)) = absurd i

        away : (us : List (Vect k)) (w : Vect k) → InModule k (listed k (c ∷ us)) w → InModule k (listed k (us ++ c ∷ [])) w
        away us w = inside_by_members k (c ∷ us) (listed k (us ++ c ∷ [])) (λ x i. member_inside k (us ++ c ∷ []) x (end x i)) w
          where
            end : (x : Vect k) → In x (c ∷ us) → In x (us ++ c ∷ [])
            end x (inl e) = in_right x us (c ∷ []) (inl e)
            end x (inr i) = in_left x us (c ∷ []) i

        through : (us bs : List (Vect k)) → ((w : Vect k) → InModule k (listed k (c ∷ us)) w → InModule k (listed k (c ∷ bs)) w) → InModule k (listed k (us ++ c ∷ [])) v → InModule k (listed k (bs ++ c ∷ [])) v
        through us bs from h = away bs v (from v (turn us v h))

    pub nonzerodivisor_same : (f : Vect k) → Nonzerodivisor k ws f ↔ Nonzerodivisor k θ f
    nonzerodivisor_same f = (λ n h p i. (same h).0 (n h p ((same _).1 i)), λ n h p i. (same h).1 (n h p ((same _).0 i)))

module _ {E : Type 0} (S : SpaceOver E) (ws θ : List (Vect S.field)) (same : (v : Vect S.field) → InIdeal S.field ws v ↔ InIdeal S.field θ v) where
  back : (v : Vect S.field) → InIdeal S.field θ v ↔ InIdeal S.field ws v
  back v = ((same v).1, (same v).0)

  pub no_colon_same : (f : Vect S.field) (cap : ℕ) → NoColonAbove S ws f cap → NoColonAbove S θ f cap
  no_colon_same f cap n d h = nothing_back (colon_space S d) (listed S.field (colon S.field θ f)) (listed S.field (colon S.field ws f)) (colon_same S.field θ ws back f) cap (n d h)

  pub colon_bound_same : (f : Vect S.field) (cap : ℕ) (b : BasisBound E) → IsColonBound S ws f cap b → IsColonBound S θ f cap b
  colon_bound_same f cap b h = (h.0, h.1, bound_back (colon_space S h.0) (listed S.field (colon S.field θ f)) (listed S.field (colon S.field ws f)) (colon_same S.field θ ws back f) cap Colon b h.2)

  pub no_ideal_same : (cap : ℕ) → NoIdealAbove S ws cap → NoIdealAbove S θ cap
  no_ideal_same cap = nothing_back S (listed S.field θ) (listed S.field ws) back cap

  pub ideal_bound_same : (cap : ℕ) (b : BasisBound E) → IsIdealBound S ws cap b → IsIdealBound S θ cap b
  ideal_bound_same cap b = bound_back S (listed S.field θ) (listed S.field ws) back cap Ideal b

  pub reduced_same : (vs : List (Vect S.field)) → IsReducedBasisOf S (InIdeal S.field ws) vs → IsReducedBasisOf S (InIdeal S.field θ) vs
  reduced_same vs = reduced_back S (listed S.field θ) (listed S.field ws) back vs

module _ {E : Type 0} (S : SpaceOver E) (cap : ℕ) where
  abbrev Terms : Type 0
  Terms = List (Term E (List ℕ))

  -- the ideal of the kept basis
  pub kept_ideal : (T bs : List (List (Term E (List ℕ)))) → IsKept S cap T bs → (v : Vect S.field) → InIdeal S.field (vectors_of S (λ m. m) bs) v ↔ InIdeal S.field (vectors_of S (λ m. m) T) v
  kept_ideal T bs kept = same_ideal S (vectors_of S (λ m. m) T) (vectors_of S (λ m. m) bs) kept.reduced

-- a copy has the same terms
pub copy_homogeneous : {E : Type 0} (S : SpaceOver E) (d : ℕ) (p q : List (Term E (List ℕ))) → entries (λ m. m) q ≡ entries (λ m. m) p → IsHomogeneousPoly S d p → IsHomogeneousPoly S d q
copy_homogeneous S d p q same h = record {
  polynomial = record {
    fits = subst (Fits S) (sym same) h.polynomial.fits;
    position = subst (λ es. All (λ e. e.0.0 ≡ 0) es) (sym same) h.polynomial.position;
  };
  homogeneous = subst (λ es. IsHomogeneousUpTo S d (vec S.field es)) (sym same) h.homogeneous;
}

-- a greater bound on the degree
pub homogeneous_more : {E : Type 0} (S : SpaceOver E) (d e : ℕ) (p : List (Term E (List ℕ))) → d ≤ e → IsHomogeneousPoly S d p → IsHomogeneousPoly S e p
homogeneous_more S d e p low h = record { polynomial = h.polynomial; homogeneous = let x = h.homogeneous in let y = x.1 in (x.0, omega arith, x.2) }
