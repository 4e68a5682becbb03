-- Bases and reduced bases: a list of elements whose leads divide all leads generates the module; what makes a reduced basis.
use Rattle.std.proofs.Common.{◌≡◌, inl, inr, ℕ, zero, suc, List, [], ◌∷◌, sym, ap, ◌∙◌, refl, subst}
use Rattle.alg_core.specs.ModuleLaws as modules
use Rattle.alg_core.specs.Fields.{FieldOn, scalars, is_field}
use Rattle.alg_core.specs.Keys.{Key, key_same, KeyDivides}
use Rattle.alg_core.specs.KeyOrders.{OrderOn}
use Rattle.alg_core.specs.Leads.{has_lead, HasLead}
use Rattle.alg_core.specs.Lists.{In}
use Rattle.alg_core.specs.Spaces.{SpaceOver}
use Rattle.alg_core.specs.SpaceOrder.{key_order}
use Rattle.alg_core.specs.SpaceGrading.{AllPositive, degree}
use Rattle.alg_core.specs.Vectors.{Vect, vectors, coef_at, plus, zero_vector}
use Rattle.alg_core.proofs.VectorLaws.{zero_plus}
use Rattle.poly_module.specs.Signs.{minus}
use Rattle.poly_module.specs.Polynomials.{product}
use Rattle.poly_module.specs.Parts.{IsPolynomial}
use Rattle.poly_module.specs.Degrees.{IsHomogeneous, part, parts_below, parts_sum, grade_bound, graded_part_graded}
use Rattle.poly_module.specs.Modules.{IsSubspace, LeadBy, InModule, listed}
use Rattle.poly_module.specs.ReducedLists.{LeadsFall, IsReducedBasisOf}
use Rattle.poly_module.proofs.ModuleElements.{module_zero, module_plus, module_product, module_subspace, module_part, module_ind}
use Rattle.poly_module.proofs.SpaceVectorLaws.{minus_unique}
use Rattle.poly_module.proofs.Reduced.{divides_trans, listed_has}
use Rattle.module_groebner.specs.Remainders.{IsRemainder, KeepsDegrees}
use Rattle.module_groebner.proofs.Remainders.{Divided, remainder_exists, remainder_difference}
use Rattle.module_groebner.proofs.Families.{homogeneous_each}
use Rattle.module_groebner.proofs.CompletionEnds.{lead_there, lead_not_zero}

module _ {E : Type 0} (S : SpaceOver E) where
  abbrev k : FieldOn E
  k = S.field

  abbrev o : OrderOn Key
  o = key_order S

  -- a set of vectors that is a module and has the parts of its elements
  pub record IsGradedModule (U : Vect S.field → Type 0) : Type 0 where
    pub subspace : IsSubspace S.field U
    pub product : (f v : Vect S.field) → IsPolynomial S.field f → U v → U (product S.field f v)
    pub part : (e : ℕ) (v : Vect S.field) → U v → U (part S e v)

  pub module_graded : {I : Type 0} (g : I → Vect S.field) → ((i : I) → (d : ℕ) × IsHomogeneous S d (g i)) → IsGradedModule (InModule S.field g)
  module_graded g h = record { subspace = module_subspace k g; product = module_product k g; part = module_part S g (λ i. (h i).0) (λ i. (h i).1) }

  module _ (U : Vect S.field → Type 0) (graded : IsGradedModule U) where
    pub set_difference : (u v w : Vect S.field) → plus S.field u w ≡ v → U v → U w → U u
    unfolding minus
    set_difference u v w e hv hw = subst U (sym (minus_unique k u v w e)) (graded.subspace.plus v _ hv (subst U (sym (modules.minus_is (vectors k) w)) (graded.subspace.act _ w hw)))

    pub generated_within : {I : Type 0} (g : I → Vect S.field) → ((i : I) → U (g i)) → (v : Vect S.field) → InModule S.field g v → U v
    generated_within g each = module_ind k g U graded.subspace.zero (λ f v i p a. graded.subspace.plus _ v (graded.product f (g i) p (each i)) a)

    module _ (positive : AllPositive S.weights) (vs : List (Vect S.field)) (inside : (w : Vect S.field) → In w vs → U w) (homogeneous : (w : Vect S.field) → In w vs → (d : ℕ) × IsHomogeneous S d w)
        (covers : (v : Vect S.field) (t : Key) → U v → LeadBy S.field (key_order S) v t → Divided S vs t) where
      members_within : (i : ℕ) → U (listed S.field vs i)
      members_within = listed_has k U graded.subspace.zero vs inside

      generates_homogeneous : (v : Vect S.field) (d : ℕ) → IsHomogeneous S d v → U v → InModule S.field (listed S.field vs) v
      unfolding zero_vector
      generates_homogeneous v d hv uv = go (has_lead (scalars k) (is_field k) key_same o r.0)
        where
          r : (r : Vect k) × IsRemainder S (listed k vs) v r × KeepsDegrees S v r
          r = remainder_exists S positive vs (homogeneous_each S vs homogeneous) v d hv

          w : (w : Vect k) × InModule k (listed k vs) w × (plus k r.0 w ≡ v)
          w = remainder_difference S (listed k vs) v r.0 r.1

          ur : U r.0
          ur = set_difference r.0 v w.0 w.2 uv (generated_within (listed k vs) members_within w.0 w.1)

          go : HasLead (scalars k) (is_field k) key_same o r.0 → InModule k (listed k vs) v
          go (inl z) = subst (InModule k (listed k vs)) (sym (zero_plus k w.0) ∙ ap (λ u. plus k u w.0) (sym z) ∙ w.2) w.1
          go (inr l) = absurd (let c = covers r.0 l.0 ur l.1 in r.1.irreducible c.0 c.1 l.0 c.2 (lead_there S r.0 l.0 l.1) c.3)

      -- elements whose leads divide all leads generate the module
      pub basis_generates : (v : Vect S.field) → U v → InModule S.field (listed S.field vs) v
      basis_generates v uv = let b = grade_bound k (degree S) o v in subst (InModule k (listed k vs)) (parts_sum k (degree S) b.0 v b.1) (below b.0)
        where
          below : (n : ℕ) → InModule k (listed k vs) (parts_below k (degree S) n v)
          below zero = module_zero k (listed k vs)
          below (suc n) = module_plus k (listed k vs) _ _ (below n) (generates_homogeneous (part S n v) n (graded_part_graded k (degree S) n v) (graded.part n v uv))

      -- and are the reduced basis where the list is reduced
      pub reduced_from : ((w : Vect S.field) → In w vs → (t : Key) × LeadBy S.field (key_order S) w t) → ((w : Vect S.field) (t : Key) → In w vs → LeadBy S.field (key_order S) w t → coef_at S.field w t ≡ (scalars S.field).one)
          → ((v w : Vect S.field) (s t : Key) → In v vs → In w vs → LeadBy S.field (key_order S) w s → ¬ (coef_at S.field v t ≡ (scalars S.field).zero) → KeyDivides s t → w ≡ v)
          → LeadsFall S.field (key_order S) vs → IsReducedBasisOf S U vs
      reduced_from lead monic apart falling = record {
        reduced = record {
          inside = inside;
          lead = lead;
          monic = monic;
          covers = λ v t uv l. let c = covers v t uv l in at vs c.0 c.1 t c.2 c.3;
          apart = apart;
          falling = falling;
        };
        generates = basis_generates;
      }
        where
          place : (vs : List (Vect k)) (i : ℕ) (s : Key) → LeadBy k o (listed k vs i) s → In (listed k vs i) vs
          place [] i s l = absurd (lead_not_zero S (zero_vector k) s l refl)
          place (v ∷ vs) zero s l = inl refl
          place (v ∷ vs) (suc i) s l = inr (place vs i s l)

          at : (vs : List (Vect k)) (i : ℕ) (s t : Key) → LeadBy k o (listed k vs i) s → KeyDivides s t → (w : Vect k) × (s : Key) × In w vs × LeadBy k o w s × KeyDivides s t
          at vs i s t l d = (listed k vs i, s, place vs i s l, l, d)

  -- from a basis to a list whose leads divide those of its members
  pub covers_from : (g : ℕ → Vect S.field) (U : Vect S.field → Type 0) → ((v : Vect S.field) (t : Key) → U v → LeadBy S.field (key_order S) v t → (i : ℕ) × (s : Key) × LeadBy S.field (key_order S) (g i) s × KeyDivides s t)
      → (vs : List (Vect S.field)) → ((i : ℕ) (s : Key) → LeadBy S.field (key_order S) (g i) s → Divided S vs s)
      → (v : Vect S.field) (t : Key) → U v → LeadBy S.field (key_order S) v t → Divided S vs t
  covers_from g U basis vs finer v t uv l = let c = basis v t uv l in let d = finer c.0 c.1 c.2 in (d.0, d.1, d.2, divides_trans S g d.1 c.1 t d.3 c.3)
