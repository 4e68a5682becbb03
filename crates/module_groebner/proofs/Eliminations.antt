-- Elimination: by an elimination order the members of a basis that have no key in the first block generate all elements that have
-- none there; those of the reduced basis are their reduced basis.
use Rattle.std.proofs.Common.{◌≡◌, ℕ, suc, ◌<◌, ◌≤◌, true, List, length, sym, ap, subst, arith}
use Rattle.std.specs.Prelude.{◌↔◌}
use native.Mathlib.Decide.{dec_le}
use Rattle.alg_core.specs.Fields.{FieldOn, scalars}
use Rattle.alg_core.specs.Keys.{Key, KeyDivides}
use Rattle.alg_core.specs.Lists.{In}
use Rattle.alg_core.specs.Spaces.{SpaceOver}
use Rattle.alg_core.specs.SpaceOrder.{key_order}
use Rattle.alg_core.specs.SpaceGrading.{AllPositive, degree}
use Rattle.alg_core.specs.EliminationOrder.{elimination_order}
use Rattle.alg_core.specs.Vectors.{Vect, coef_at}
use Rattle.poly_module.specs.Parts.{Supp, InVariables, supp_zero, supp_plus, supp_act}
use Rattle.poly_module.specs.Variables.{product_positions}
use Rattle.poly_module.specs.Degrees.{IsHomogeneous, graded_part_supp}
use Rattle.poly_module.specs.Modules.{LeadBy, InModule, IsGroebnerBasis, listed}
use Rattle.poly_module.specs.ReducedLists.{LeadsFall, FitsOrder, IsReducedBasis, IsReducedBasisOf}
use Rattle.poly_module.proofs.ModuleElements.{module_zero, module_plus, module_act, module_product, module_part}
use Rattle.poly_module.proofs.LeadLaws.{lead_second}
use Rattle.poly_module.proofs.Reduced.{place_of_member, reduced_homogeneous}
use Rattle.poly_module.proofs.ReducedVariables.{reduced_variables}
use Rattle.module_groebner.proofs.Remainders.{Divided}
use Rattle.module_groebner.proofs.Families.{homogeneous_each, member_inside, listed_in, listed_past}
use Rattle.module_groebner.proofs.ReducedBases.{IsGradedModule, basis_generates, reduced_from}
use Rattle.module_groebner.proofs.CompletionEnds.{lead_there, lead_not_zero}

module _ {E : Type 0} (k : FieldOn E) (first : ℕ) (os ws ss : List ℕ) (many : length os ≡ length ws) (positive : AllPositive ws) where
  abbrev pub T : SpaceOver E
  T = record { field = k; order = elimination_order first os; weights = ws; shifts = ss }

  -- no key in the first block
  abbrev pub Second : Vect k → Type 0
  Second = Supp k (λ t. first ≤ t.0)

  -- the elements of a module that have none
  abbrev pub Eliminated : {I : Type 0} → (I → Vect k) → Vect k → Type 0
  Eliminated g v = InModule k g v × Second v

  eliminated_graded : {I : Type 0} (g : I → Vect k) → ((i : I) → (d : ℕ) × IsHomogeneous T d (g i)) → IsGradedModule T (Eliminated g)
  eliminated_graded g h = record {
    subspace = record {
      zero = (module_zero k g, supp_zero k (λ t. first ≤ t.0));
      plus = λ u v a b. (module_plus k g u v a.0 b.0, supp_plus k (λ t. first ≤ t.0) u v a.1 b.1);
      act = λ c u a. (module_act k g c u a.0, supp_act k (λ t. first ≤ t.0) c u a.1);
    };
    product = λ f v p a. (module_product k g f v p a.0, product_positions k (λ q. first ≤ q) (λ q. dec_le first q) f v p a.1);
    part = λ e v a. (module_part T g (λ i. (h i).0) (λ i. (h i).1) e v a.0, graded_part_supp k (degree T) e (λ t. first ≤ t.0) v a.1);
  }

  -- the members of a list whose lead is in the second block
  module _ {I : Type 0} (g : I → Vect k) (vs fs : List (Vect k)) (inside : (w : Vect k) → In w vs → InModule k g w) (homogeneous : (w : Vect k) → In w vs → (d : ℕ) × IsHomogeneous T d w)
      (variables : (w : Vect k) → In w vs → InVariables k (length ws) w) (covers : (v : Vect k) (t : Key) → InModule k g v → LeadBy k (key_order T) v t → Divided T vs t)
      (chosen : (w : Vect k) → In w fs ↔ (In w vs × Second w)) where
    covers_second : (v : Vect k) (t : Key) → Eliminated g v → LeadBy k (key_order T) v t → Divided T fs t
    covers_second v t a lead =
        let c = covers v t a.0 lead in
        let i = within c.0 c.1 c.2 in
        let second : first ≤ c.1.0 = let s = a.1 t (lead_there T v t lead) in let e = ap (λ q. q.0) c.3.1 in omega arith in
        let w = listed k vs c.0 in
        let f = (chosen w).1 (i, lead_second k first os ws ss many w c.1 (variables w i) c.2 second) in
        let p = place_of_member k fs w f in
        (p.0, c.1, subst (λ u. LeadBy k (key_order T) u c.1) (sym p.1) c.2, c.3)
      where
        within : (i : ℕ) (s : Key) → LeadBy k (key_order T) (listed k vs i) s → In (listed k vs i) vs
        within i s l = go (dec_le (suc i) (length vs))
          where
            go : Dec (i < length vs) → In (listed k vs i) vs
            go (yes p) = listed_in k vs i p
            go (no n) = absurd (lead_not_zero T (listed k vs i) s l (listed_past k vs i (omega arith)))

    chosen_inside : (w : Vect k) → In w fs → Eliminated g w
    chosen_inside w i = let c = (chosen w).0 i in (inside w c.0, c.1)

    chosen_homogeneous : (w : Vect k) → In w fs → (d : ℕ) × IsHomogeneous T d w
    chosen_homogeneous w i = homogeneous w ((chosen w).0 i).0

    module _ (graded : (i : I) → (d : ℕ) × IsHomogeneous T d (g i)) where
      pub second_generates : (v : Vect k) → Eliminated g v → InModule k (listed k fs) v
      second_generates = basis_generates T (Eliminated g) (eliminated_graded g graded) positive fs chosen_inside chosen_homogeneous covers_second

      pub second_reduced : ((w : Vect k) → In w fs → (t : Key) × LeadBy k (key_order T) w t) → ((w : Vect k) (t : Key) → In w fs → LeadBy k (key_order T) w t → coef_at k w t ≡ (scalars k).one)
          → ((v w : Vect k) (s t : Key) → In v fs → In w fs → LeadBy k (key_order T) w s → ¬ (coef_at k v t ≡ (scalars k).zero) → KeyDivides s t → w ≡ v)
          → LeadsFall k (key_order T) fs → IsReducedBasisOf T (Eliminated g) fs
      second_reduced = reduced_from T (Eliminated g) (eliminated_graded g graded) positive fs chosen_inside chosen_homogeneous covers_second

  -- members of a basis with no key in the first block generate the elements with none
  pub elimination_generates : (vs fs : List (Vect k)) → IsGroebnerBasis k (listed k vs) (key_order T) → ((w : Vect k) → In w vs → (d : ℕ) × IsHomogeneous T d w) → ((w : Vect k) → In w vs → InVariables k (length ws) w)
      → ((w : Vect k) → In w fs ↔ (In w vs × Second w)) → (v : Vect k) → InModule k (listed k vs) v → Second v → InModule k (listed k fs) v
  elimination_generates vs fs basis homogeneous variables chosen v a b = second_generates (listed k vs) vs fs (member_inside k vs) homogeneous variables basis chosen (homogeneous_each T vs homogeneous) v (a, b)

  -- those of the reduced basis are the reduced basis
  pub elimination_reduced : (g : ℕ → Vect k) → ((i : ℕ) → (d : ℕ) × IsHomogeneous T d (g i)) → ((i : ℕ) → InVariables k (length ws) (g i)) → (elimination_order first os).is_positive ≡ true → ((i : ℕ) → Supp k (FitsOrder T) (g i))
      → (vs fs : List (Vect k)) → IsReducedBasis T g vs → ((w : Vect k) → In w fs ↔ (In w vs × Second w)) → LeadsFall k (key_order T) fs → IsReducedBasisOf T (Eliminated g) fs
  elimination_reduced g homogeneous variables order fits vs fs a chosen falling =
      second_reduced g vs fs a.reduced.inside (λ w i. let l = a.reduced.lead w i in (degree T l.0, reduced_homogeneous T g (λ j. (homogeneous j).0) (λ j. (homogeneous j).1) order fits vs a w l.0 i l.1))
      (λ w i. reduced_variables T g (length ws) variables order fits vs a w i)
      (λ v t u l. let c = a.reduced.covers v t u l in let p = place_of_member k vs c.0 c.2 in (p.0, c.1, subst (λ w. LeadBy k (key_order T) w c.1) (sym p.1) c.3, c.4))
      chosen homogeneous
      (λ w i. a.reduced.lead w ((chosen w).0 i).0) (λ w t i. a.reduced.monic w t ((chosen w).0 i).0)
      (λ v w s t i j. a.reduced.apart v w s t ((chosen v).0 i).0 ((chosen w).0 j).0) falling
