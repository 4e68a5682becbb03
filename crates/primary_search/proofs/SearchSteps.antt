-- The walk of a search, degree by degree.
use Rattle.std.proofs.Common.{◌≡◌, ◌⊎◌, Result, Ok, Err, inl, inr, ◌∙◌, ℕ, suc, ◌+◌, ◌<◌, ◌≤◌, List, [], ◌∷◌, ◌++◌, length, sym, ap, subst, refl, arith}
use Rattle.std.specs.Prelude.{IsErrAnd}
use Rattle.alg_core.specs.Binomials.{monomials_of_degree}
use Rattle.alg_core.specs.Fields.{scalars}
use Rattle.alg_core.specs.declared.limits.Limits.{Limits}
use Rattle.alg_core.specs.Keys.{Key}
use Rattle.alg_core.specs.declared.term.Term.{Term}
use Rattle.alg_core.specs.SpaceOrder.{key_order}
use Rattle.alg_core.specs.Spaces.{SpaceOver}
use Rattle.alg_core.specs.Vectors.{Vect, coef_at}
use Rattle.lin_algebra.specs.declared.matrix.Matrix.{Matrix}
use Rattle.poly_module.specs.Modules.{LeadBy, listed}
use Rattle.poly_module.specs.Parts.{supp_zero}
use Rattle.poly_module.specs.ReducedLists.{IsReducedBasisOf}
use Rattle.poly_module.specs.SpaceVectors.{vectors_of}
use Rattle.poly_module.proofs.ModuleElements.{module_positions}
use Rattle.module_groebner.specs.declared.bound.BasisBound.{BasisBound}
use Rattle.module_groebner.specs.declared.bound.BasisFault.{BasisFault}
use Rattle.module_groebner.specs.declared.bound.BasisFault.TheVariants as bases
use Rattle.primary_search.specs.Faults.{fault_of_basis}
use Rattle.primary_search.specs.declared.fault.SearchFault.{SearchFault}
use Rattle.primary_search.specs.declared.fault.SearchFault.TheVariants as searches
use Rattle.invariant_space.specs.InvariantSpaces.{IsEchelonBasis}
use Rattle.finite_certificate.specs.Ideals.{InIdeal, variable_power}
use Rattle.finite_certificate.proofs.VariablePowers.{power_single}
use Rattle.groebner_hom.specs.IdealBases.{AreHomogeneousPolys, NoIdealAbove, IsIdealBound}
use Rattle.groebner_hom.specs.Colons.{IsColonBound}
use Rattle.primary_search.specs.Candidates.{candidates}
use Rattle.primary_search.specs.KeptBases.{IsKept}
use Rattle.primary_search.specs.Searches.{IsUnfinished, Passes, PassesDegrees, Reaches, Takes, IsStop, IsLast, ComesTo, IsNoPrimary, IsTermBound, IsColonStop, IsIdealStop, IsEnd}
use Rattle.primary_search.proofs.EndedLaws.{power_key, single_lead}

-- at most so many, where more are refused
pub few_enough : (count most : ℕ) → ¬ (most < count) → count ≤ most
few_enough count most n = omega arith

-- the fault that is handed on
pub handed : {X E : Type 0} (r : Result X (SearchFault E)) (e : BasisFault E) → IsErrAnd r (λ x. x ≡ fault_of_basis e) → (b : BasisBound E) → r ≡ Err (searches.Basis b) → e ≡ bases.Above b
handed (Ok x) e t b q = absurd t
handed {E = E} (Err x) e t b q = go e (sym t ∙ ap (error_or (searches.Basis b)) q)
  where
    error_or : {X E : Type 0} → E → Result X E → E
    error_or d (Ok y) = d
    error_or d (Err y) = y

    go : (f : BasisFault E) → fault_of_basis f ≡ searches.Basis b → f ≡ bases.Above b
    go (bases.Above c) h = ap (bound_or c) h
      where
        bound_or : {E : Type 0} → BasisBound E → SearchFault E → BasisFault E
        bound_or d (searches.Basis y) = bases.Above y
        bound_or d (searches.NoPrimary y z) = bases.Above d
        bound_or d (searches.TermBound y z) = bases.Above d
        bound_or d searches.Memory = bases.Above d
    go bases.Memory h = absurd cc

module _ {E : Type 0} (S : SpaceOver E) where
  -- the ideal of nothing has no key
  nothing_inside : (v : Vect S.field) → InIdeal S.field [] v → (t : Key) → ¬ (coef_at S.field v t ≡ (scalars S.field).zero) → ⊥
  nothing_inside v a t c = module_positions S.field (listed S.field []) (λ q. ⊥) (λ q. no (λ e. e)) (λ i. supp_zero S.field (λ t. ⊥)) v a t c

  pub nothing_above : (most : ℕ) (T : List (Vect S.field)) → T ≡ [] → NoIdealAbove S T most
  unfolding coef_at
  nothing_above most T e = subst (λ l. NoIdealAbove S l most) (sym e) (λ v t h. nothing_inside v h.inside t h.lead.there)

  pub nothing_ended : 0 < length S.weights → (T : List (Vect S.field)) → T ≡ [] → IsUnfinished S.field (length S.weights) T
  unfolding coef_at
  nothing_ended some T e = subst (IsUnfinished S.field (length S.weights)) (sym e) (record {
    variable = 0;
    within = some;
    powerless = λ n a. nothing_inside (variable_power S.field 0 n) a (power_key 0 n)
        (subst (λ v. LeadBy S.field (key_order S) v (power_key 0 n)) (sym (power_single S.field 0 n)) (single_lead S (power_key 0 n))).there;
  })

  pub no_polys : (d : ℕ) (ps : List (List (Term E (List ℕ)))) → ps ≡ [] → AreHomogeneousPolys S d ps
  no_polys d ps e = subst (AreHomogeneousPolys S d) (sym e) (λ k p l. absurd (omega arith))

  -- no basis of the ideal of nothing
  pub nothing_kept : (cap : ℕ) (T bs : List (List (Term E (List ℕ)))) → T ≡ [] → bs ≡ [] → IsKept S cap T bs
  unfolding coef_at
  nothing_kept cap T bs e f = record {
    polynomials = no_polys cap bs f;
    reduced = subst (λ l. IsReducedBasisOf S (InIdeal S.field (vectors_of S (λ m. m) l)) (vectors_of S (λ m. m) bs)) (sym e)
        (subst (λ l. IsReducedBasisOf S (InIdeal S.field []) (vectors_of S (λ m. m) l)) (sym f) (record {
          reduced = record {
            inside = λ v i. absurd i;
            lead = λ v i. absurd i;
            monic = λ v t i. absurd i;
            covers = λ v t i h. absurd (nothing_inside v i t h.there);
            apart = λ v w s t i. absurd i;
            falling = tt;
          };
          generates = λ v i. i;
        }));
  }

  module _ (gens : List (Matrix E)) (l : Limits) (d : ℕ) (T bs : List (Vect S.field)) (passed : PassesDegrees S gens l d T) where
    -- the next degree has too many monomials
    pub search_terms : (e count : ℕ) → e ≡ d + 1 → d < l.max_degree → count ≡ monomials_of_degree (length S.weights) (d + 1) → l.max_terms < count → IsTermBound S gens l e count
    search_terms e count same within is over =
        let next : d + 1 ≡ e = sym same in
        record { found = T; before = d; next = omega arith; within = omega arith; passed = passed; counted = is ∙ ap (monomials_of_degree (length S.weights)) next; over = over }

    module _ (within : d < l.max_degree) (terms : monomials_of_degree (length S.weights) (d + 1) ≤ l.max_terms) (echelon : IsEchelonBasis S gens (d + 1) bs) where
      next : d + 1 ≡ suc d
      next = omega arith

      -- it is passed
      pub search_more : (U : List (Vect S.field)) → Passes S l.max_basis T (candidates S.field l.tries bs) U → PassesDegrees S gens l (d + 1) U
      search_more U h = subst (λ n. PassesDegrees S gens l n U) (sym next)
          (T, bs, passed, subst (λ n. monomials_of_degree (length S.weights) n ≤ l.max_terms) next terms, subst (λ n. IsEchelonBasis S gens n bs) next echelon, h)

      comes : (U : List (Vect S.field)) (c : Vect S.field) → Reaches S l.max_basis T (candidates S.field l.tries bs) U c → ComesTo S gens l U c
      comes U c r = record {
        degree = d;
        before = T;
        basis = bs;
        within = within;
        passed = passed;
        terms = subst (λ n. monomials_of_degree (length S.weights) n ≤ l.max_terms) next terms;
        echelon = subst (λ n. IsEchelonBasis S gens n bs) next echelon;
        reaches = r;
      }

      -- the walk ends there
      pub search_last : (V : List (Vect S.field)) → IsLast S l.max_basis T (candidates S.field l.tries bs) V → IsEnd S gens l V
      search_last V h = record { taken = h.taken; candidate = h.candidate; comes = comes h.taken h.candidate h.reaches; takes = h.takes; ideal = h.ideal; whole = h.whole; ended = h.ended }

      -- or stops there
      pub search_stop : (b : BasisBound E) → IsStop S l.max_basis T (candidates S.field l.tries bs) b → IsColonStop S gens l b ⊎ IsIdealStop S gens l b
      search_stop b h = go h.bound
        where
          go : IsColonBound S h.taken h.candidate l.max_basis b ⊎ (Takes S l.max_basis h.taken h.candidate × IsIdealBound S (h.taken ++ h.candidate ∷ []) l.max_basis b)
              → IsColonStop S gens l b ⊎ IsIdealStop S gens l b
          go (inl x) = inl (record { taken = h.taken; candidate = h.candidate; comes = comes h.taken h.candidate h.reaches; bound = x })
          go (inr x) = inr (record { taken = h.taken; candidate = h.candidate; comes = comes h.taken h.candidate h.reaches; takes = x.0; bound = x.1 })

  -- the last degree is passed
  pub search_over : (gens : List (Matrix E)) (l : Limits) (d : ℕ) (T : List (Vect S.field)) → PassesDegrees S gens l d T → IsUnfinished S.field (length S.weights) T → d ≡ l.max_degree → IsNoPrimary S gens l T l.max_degree
  search_over gens l d T h u e = record { passed = subst (λ n. PassesDegrees S gens l n T) e h; unfinished = u; degree = refl }
