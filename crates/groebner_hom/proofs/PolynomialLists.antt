-- Lists of homogeneous polynomials as lists of vectors, reduced bases of their ideals, and membership by remainders.
use Rattle.std.proofs.Common.{◌≡◌, ℕ, suc, Bool, List, [], ◌∷◌, map, length, Result, Ok, Err, ap, subst, refl, arith}
use Rattle.std.proofs.lemmas.Bool.Decides.{nat_tests}
use Rattle.std.specs.Global.{Vec}
use Rattle.std.specs.Prelude.{All, IfOk, IsTrue, ◌↔◌, ◌==◌}
use native.Mathlib.Decide.{ℕ_discrete}
use Rattle.alg_core.specs.Lists.{In, map_in}
use Rattle.alg_core.specs.declared.term.Term.{Term}
use Rattle.alg_core.specs.Spaces.{SpaceOver, entry, entries}
use Rattle.alg_core.specs.SpaceOrder.{key_order}
use Rattle.alg_core.specs.Vectors.{Vect, zero_vector}
use Rattle.alg_core.proofs.FittingLists.{vec_not_zero}
use Rattle.alg_core.proofs.Members.{from_map}
use Rattle.alg_core.proofs.VectorLaws.{vec_nothing}
use Rattle.poly_module.specs.Parts.{IsPolynomial, supp_zero}
use Rattle.poly_module.specs.Degrees.{IsHomogeneous}
use Rattle.poly_module.specs.Modules.{InModule, listed, IsGroebnerBasis}
use Rattle.poly_module.specs.ReducedLists.{IsReducedBasisOf}
use Rattle.poly_module.specs.SpaceVectors.{vector_of, vectors_of, IsVector, AreVectors}
use Rattle.poly_module.proofs.ModuleElements.{module_positions}
use Rattle.poly_module.proofs.Reduced.{listed_has}
use Rattle.poly_module.proofs.SpaceVectorLaws.{vector_given, is_polynomial}
use Rattle.module_groebner.specs.HomogeneousLists.{IsHomogeneousUpTo, AreHomogeneous, AreHomogeneousUpTo, AreNonzero}
use Rattle.module_groebner.specs.Remainders.{IsRemainder}
use Rattle.module_groebner.proofs.BasisLaws.{remainder_zero}
use Rattle.module_groebner.proofs.CompletionEnds.{lead_not_zero}
use Rattle.module_groebner.proofs.Families.{all_in, in_all, inside_by_members}
use Rattle.finite_certificate.specs.Ideals.{InIdeal}
use Rattle.groebner_hom.specs.IdealBases.{IsHomogeneousPoly, AreHomogeneousPolys}

-- a test whether a list is empty
empty : (b : Bool) (n : ℕ) → n ≡ 0 → b ≡ (n == 0) → IsTrue b
empty b n z e = grind (arith, nat_tests)

not_empty : (b : Bool) (n m : ℕ) → n ≡ suc m → b ≡ (n == 0) → IsTrue b → ⊥
not_empty b n m z e h = grind (arith, nat_tests)

-- what holds of the members of a list holds of their images
pub all_map : {A B : Type 0} (Q : A → Type 0) (P : B → Type 0) (f : A → B) → ((x : A) → Q x → P (f x)) → (xs : List A) → All Q xs → All P (map f xs)
all_map Q P f h xs a = in_all P (map f xs) (λ z i. let w = from_map f z xs i in subst P w.2 (h w.0 (all_in Q xs a w.0 w.1)))

pub all_weaken : {A : Type 0} (Q P : A → Type 0) → ((x : A) → Q x → P x) → (xs : List A) → All Q xs → All P xs
all_weaken Q P h xs a = in_all P xs (λ x i. h x (all_in Q xs a x i))

module _ {E : Type 0} (S : SpaceOver E) where
  abbrev of : List (List (Term E (List ℕ))) → List (Vect S.field)
  of = vectors_of S (λ m. m)

  module _ (d : ℕ) (ps : List (List (Term E (List ℕ)))) (h : AreHomogeneousPolys S d ps) where
    pub are_vectors : AreVectors S (λ m. m) ps
    are_vectors = all_weaken (IsHomogeneousPoly S d) (IsVector S (λ m. m)) (λ p a. a.polynomial.fits) ps h

    pub are_homogeneous_up_to : AreHomogeneousUpTo S d (vectors_of S (λ m. m) ps)
    are_homogeneous_up_to = all_map (IsHomogeneousPoly S d) (IsHomogeneousUpTo S d) (vector_of S (λ m. m)) (λ p a. a.homogeneous) ps h

    pub are_homogeneous : AreHomogeneous S (vectors_of S (λ m. m) ps)
    are_homogeneous = all_map (IsHomogeneousPoly S d) (λ v. (e : ℕ) × IsHomogeneous S e v) (vector_of S (λ m. m)) (λ p a. let w = a.homogeneous in (w.0, w.2)) ps h

    pub are_polynomials : (v : Vect S.field) → In v (vectors_of S (λ m. m) ps) → IsPolynomial S.field v
    are_polynomials v i = let w = from_map (vector_of S (λ m. m)) v ps i in
        subst (IsPolynomial S.field) w.2 (is_polynomial S (λ m. m) w.0 (all_in (IsHomogeneousPoly S d) ps h w.0 w.1).polynomial)

    pub ideal_polynomials : (v : Vect S.field) → InIdeal S.field (vectors_of S (λ m. m) ps) v → IsPolynomial S.field v
    ideal_polynomials = module_positions S.field (listed S.field (of ps)) (λ q. q ≡ 0) (λ q. ℕ_discrete q 0)
        (listed_has S.field (IsPolynomial S.field) (supp_zero S.field (λ t. t.0 ≡ 0)) (of ps) are_polynomials)

  -- a list of homogeneous vectors in the ideal is one of homogeneous polynomials
  pub basis_polys : (d cap : ℕ) (ps vs : List (List (Term E (List ℕ)))) → AreHomogeneousPolys S d ps → AreVectors S (λ m. m) vs → AreHomogeneousUpTo S cap (vectors_of S (λ m. m) vs)
      → IsReducedBasisOf S (InIdeal S.field (vectors_of S (λ m. m) ps)) (vectors_of S (λ m. m) vs) → AreHomogeneousPolys S cap vs
  basis_polys d cap ps vs h fit homogeneous reduced = in_all (IsHomogeneousPoly S cap) vs (λ v i.
      let u = vector_of S (λ m. m) v in
      let j : In u (of vs) = map_in (vector_of S (λ m. m)) v vs i in
      let f : IsVector S (λ m. m) v = all_in (IsVector S (λ m. m)) vs fit v i in
      let g = vector_given S (λ m. m) u v f refl in
      record {
        polynomial = record { fits = f; position = g.position (ideal_polynomials d ps h u (reduced.reduced.inside u j)) };
        homogeneous = all_in (IsHomogeneousUpTo S cap) (of vs) homogeneous u j;
      })

  -- the members of a reduced basis of an ideal are a Gröbner basis of it, and none is 0
  module _ (U : Vect S.field → Type 0) (ws : List (Vect S.field)) (reduced : IsReducedBasisOf S U ws) where
    pub members_nonzero : AreNonzero S.field ws
    members_nonzero = in_all (λ v. ¬ (v ≡ zero_vector S.field)) ws (λ v i. let l = reduced.reduced.lead v i in lead_not_zero S v l.0 l.1)

  pub same_ideal : (θ ws : List (Vect S.field)) → IsReducedBasisOf S (InIdeal S.field θ) ws → (v : Vect S.field) → InIdeal S.field ws v ↔ InIdeal S.field θ v
  same_ideal θ ws reduced v = (inside_by_members S.field ws (listed S.field θ) reduced.reduced.inside v, reduced.generates v)

  pub basis_result : {Y : Type 0} (d cap : ℕ) (ps : List (List (Term E (List ℕ)))) (r : Result (Vec (List (Term E (List ℕ)))) Y) → AreHomogeneousPolys S d ps
      → IfOk r (λ vs. AreVectors S (λ m. m) vs.items) → IfOk r (λ vs. AreHomogeneousUpTo S cap (vectors_of S (λ m. m) vs.items))
      → IfOk r (λ vs. IsReducedBasisOf S (InIdeal S.field (vectors_of S (λ m. m) ps)) (vectors_of S (λ m. m) vs.items)) → IfOk r (λ vs. AreHomogeneousPolys S cap vs.items)
  basis_result d cap ps (Ok vs) h fit homogeneous reduced = basis_polys d cap ps vs.items h fit homogeneous reduced
  basis_result d cap ps (Err e) h fit homogeneous reduced = tt

  -- an element of a module is a vector with the remainder 0, which has no term
  pub member_exact : (g : ℕ → Vect S.field) (v : Vect S.field) (r seen : List (Term E (List ℕ))) (b : Bool) → IsGroebnerBasis S.field g (key_order S)
      → IsVector S (λ m. m) r → IsRemainder S g v (vector_of S (λ m. m) r) → seen ≡ r → b ≡ (length seen == 0) → IsTrue b ↔ InModule S.field g v
  member_exact g v [] seen b basis fits remainder same e = (λ h. (remainder_zero S g basis v _ remainder).1 (vec_nothing S.field), λ p. empty b (length seen) (ap length same) e)
  member_exact g v (t ∷ r) seen b basis fits remainder same e = (
    λ h. absurd (not_empty b (length seen) (length r) (ap length same) e h),
    λ p. absurd (vec_not_zero S (entry (λ m. m) t) (entries (λ m. m) r) fits ((remainder_zero S g basis v _ remainder).0 p)),
  )
