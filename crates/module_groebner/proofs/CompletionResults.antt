-- What a completion answers: an element above the cap, or, where nothing is left to treat, that its members are a basis.
use Rattle.std.proofs.Common.{◌≡◌, inl, inr, ℕ, suc, ◌<◌, ◌≤◌, [], ◌++◌, sym, ap, ◌∙◌, subst, arith, append-nil}
use Rattle.std.specs.Prelude.{All}
use Rattle.alg_core.specs.Fields.{FieldOn, scalars, is_field}
use Rattle.alg_core.specs.Keys.{Key, key_same, KeyDivides}
use Rattle.alg_core.specs.KeyOrders.{OrderOn}
use Rattle.alg_core.specs.Leads.{has_lead, HasLead}
use Rattle.alg_core.specs.Spaces.{SpaceOver}
use Rattle.alg_core.specs.SpaceOrder.{key_order}
use Rattle.alg_core.specs.SpaceGrading.{AllPositive, degree}
use Rattle.alg_core.specs.Vectors.{Vect, coef_at, zero_vector}
use Rattle.alg_core.proofs.VectorLaws.{coef_at_zero}
use Rattle.poly_module.specs.Parts.{supp_zero}
use Rattle.poly_module.specs.Degrees.{IsHomogeneous, IsDegree}
use Rattle.poly_module.specs.Modules.{LeadBy, InModule, listed}
use Rattle.poly_module.specs.SpaceVectors.{IsVector, vector_of}
use Rattle.module_groebner.specs.declared.bound.BasisBound.{BasisBound}
use Rattle.module_groebner.specs.declared.bound.Which.TheVariants.{Ideal}
use Rattle.module_groebner.specs.HomogeneousLists.{IsHomogeneousUpTo}
use Rattle.module_groebner.specs.Remainders.{IsRemainder, KeepsDegrees}
use Rattle.module_groebner.specs.BasisBounds.{NothingAbove}
use Rattle.module_groebner.specs.Progress.{Progress, generator_degree, pair_degree, IsLeast, IsDone}
use Rattle.module_groebner.specs.Completions.{vects, SameModule, IsCurrentVector, IsOver, members, generated, StandsOver}
use Rattle.module_groebner.proofs.Families.{in_all}
use Rattle.module_groebner.proofs.CompletionEnds.{low_degrees_done, least_above, above_cap, current_vector}

module _ {E : Type 0} (S : SpaceOver E) (positive : AllPositive S.weights) (c : Progress E) (stands : StandsOver S c) where
  abbrev k : FieldOn E
  k = S.field

  abbrev o : OrderOn Key
  o = key_order S

  -- the remainder of the current vector has its degree
  pub low_remainder : (v r : Vect S.field) → IsCurrentVector S c v → KeepsDegrees S v r → (n : ℕ) → IsDegree S r n → n ≤ c.cap → IsHomogeneousUpTo S c.cap r
  low_remainder v r current keeps n deg low =
      let m = current_vector S positive c stands v current in
      let h = keeps.homogeneous m.0 m.2 in
      let a : degree S deg.reached.0 ≡ m.0 = h deg.reached.0 deg.reached.2 in
      let b = deg.reached.1 in
      (m.0, omega arith, h)

  pub zero_remainder : IsHomogeneousUpTo S c.cap (zero_vector S.field)
  zero_remainder = (0, omega arith, supp_zero k (λ t. degree S t ≡ 0))

  -- where it has a degree over the cap it is an element above the cap, of the least degree
  pub over_bound : (v : Vect S.field) → IsCurrentVector S c v → (b : BasisBound E) → IsVector S (λ m. m) b.vector → IsRemainder S (members S c) v (vector_of S (λ m. m) b.vector)
      → KeepsDegrees S v (vector_of S (λ m. m) b.vector) → IsDegree S (vector_of S (λ m. m) b.vector) b.degree → c.cap < b.degree → b.which ≡ Ideal → IsOver S c b
  unfolding zero_vector coef_at
  over_bound v current b fits rem keeps deg over which = record {
    current = v;
    is_current = current;
    remainder = rem;
    bound = record {
      fits = fits;
      lead = lead.0;
      above = above_cap S positive c stands m.0 m.1 v r lead.0 m.3 rem h lead.1 (let y = same in omega arith);
      reached = h lead.0 lead.1.there ∙ same;
      least = λ w t a. let x = least_above S positive c stands m.0 m.1 w t a in let y = same in omega arith;
      which = which;
    };
  }
    where
      r : Vect k
      r = vector_of S (λ m. m) b.vector

      m : (m : ℕ) × IsLeast c m × IsHomogeneous S m v × InModule S.field (generated S c) v
      m = current_vector S positive c stands v current

      h : IsHomogeneous S m.0 r
      h = keeps.homogeneous m.0 m.2

      same : m.0 ≡ b.degree
      same = sym (h deg.reached.0 deg.reached.2) ∙ deg.reached.1

      lead : (t : Key) × LeadBy k o r t
      lead = go (has_lead (scalars k) (is_field k) key_same o r)
        where
          go : HasLead (scalars k) (is_field k) key_same o r → (t : Key) × LeadBy k o r t
          go (inl z) = absurd (deg.reached.2 (ap (λ w. coef_at k w deg.reached.0) z ∙ coef_at_zero k deg.reached.0))
          go (inr l) = l

  module _ (done : IsDone c) where
    done_least : (m : ℕ) → IsLeast c m
    done_least m = record {
      generators = subst (All (λ es. m ≤ generator_degree c es)) (sym done.generators) (in_all (λ es. m ≤ generator_degree c es) [] (λ x i. absurd i));
      pairs = subst (All (λ p. m ≤ pair_degree c p)) (sym done.pairs) (in_all (λ p. m ≤ pair_degree c p) [] (λ x i. absurd i));
    }

    -- where nothing is left to treat the members are a basis of the module
    pub finished_basis : (v : Vect S.field) (t : Key) → InModule S.field (generated S c) v → LeadBy S.field (key_order S) v t → (i : ℕ) × (s : Key) × LeadBy S.field (key_order S) (members S c i) s × KeyDivides s t
    finished_basis v t inside lead = low_degrees_done S positive c stands (suc (degree S t)) (done_least (suc (degree S t))) v t inside lead (omega arith)

    pub finished_same : SameModule S.field (generated S c) (members S c)
    finished_same v = (λ a. subst (λ g. InModule k g v) same a, λ a. subst (λ g. InModule k g v) (sym same) a)
      where
        same : generated S c ≡ members S c
        same = ap (λ gs. listed k (vects k c.members ++ vects k gs)) done.generators ∙ ap (listed k) (append-nil (vects k c.members))

    -- and no element is above the cap
    pub finished_nothing_above : NothingAbove S (InModule S.field (generated S c)) c.cap
    finished_nothing_above v t a = let x = least_above S positive c stands (suc (degree S t)) (done_least (suc (degree S t))) v t a in absurd (omega arith)
