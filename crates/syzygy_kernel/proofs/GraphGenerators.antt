-- The elements of the graph whose last parts have the monomials of the list as values generate it.
use Rattle.std.proofs.Common.{◌≡◌, ◌∙◌, ◌↔◌, ◌-◌, ◌*◌, ◌≤◌, ℕ, suc, List, [], ◌∷◌, length, refl, sym, ap, ap₂, subst, arith, suc-mul}
use Rattle.std.specs.Prelude.{All}
use native.Mathlib.Decide.{dec_le}
use Rattle.alg_core.specs.CanonicalLists.{terms, class_terms}
use Rattle.alg_core.specs.Fields.{FieldOn, Scalar, scalars, is_field}
use Rattle.alg_core.specs.FormalSums.{FormalSum}
use Rattle.alg_core.specs.FreeModules.{class, class_cons, class_nothing}
use Rattle.alg_core.specs.KeyOrders.{OrderOn}
use Rattle.alg_core.specs.Keys.{Key, key_same, keys}
use Rattle.alg_core.specs.Monomials.{Mon, monomials}
use Rattle.alg_core.specs.SpaceOrder.{key_order}
use Rattle.alg_core.specs.Vectors.{Vect, vectors, plus, zero_vector}
use Rattle.alg_core.proofs.MonomialLists.{length_one}
use Rattle.poly_module.specs.Modules.{InModule, listed}
use Rattle.poly_module.specs.Parts.{IsPolynomial, InVariables, supp_act, supp_single}
use Rattle.poly_module.specs.Polynomials.{single_vector, product}
use Rattle.poly_module.specs.Products.{product_linear_left, product_single}
use Rattle.poly_module.specs.Substitutions.{substitute}
use Rattle.poly_module.proofs.CombinationLaws.{combination_value_plus, combination_value_zero, combination_value_member, combination_value_product}
use Rattle.poly_module.proofs.ModuleElements.{module_zero, module_plus, module_product, module_member, module_ind}
use Rattle.lin_algebra.specs.declared.matrix.Matrix.{Matrix}
use Rattle.matrix_group.specs.Actions.{IsSquare, Invariant}
use Rattle.module_groebner.proofs.Families.{listed_past}
use Rattle.finite_certificate.specs.MarkSpaces.{ArePositiveForms}
use Rattle.finite_certificate.specs.StandardMonomials.{AreStandardMonomials, CoordinatesAreUnique}
use Rattle.syzygy_kernel.specs.Graphs.{part_values, last_value, InGraph, AreGenerators, graph_space}
use Rattle.syzygy_kernel.proofs.GraphBlocks.{graph_determined}
use Rattle.syzygy_kernel.proofs.GraphModules.{graph_restricted}
use Rattle.syzygy_kernel.proofs.PartValues.{part_early, part_late, part_own}
use Rattle.syzygy_kernel.proofs.RestrictedModules.{IsRestricted}
use Rattle.syzygy_kernel.proofs.Stripped.{stripped, stripped_zero, stripped_plus, stripped_product, stripped_same, stripped_polynomial, stripped_variables}

module _ {E : Type 0} (k : FieldOn E) where
  -- by terms, one after another
  vector_ind : OrderOn Key → (P : Vect k → Type 0) → P (zero_vector k) → ((c : Scalar k) (t : Key) (v : Vect k) → P v → P (plus k ((vectors k).◌·◌ c (single_vector k t)) v)) → (v : Vect k) → P v
  unfolding zero_vector plus single_vector
  vector_ind o P none step v = subst P (class_terms (scalars k) (is_field k) key_same o v) (go (terms (scalars k) (is_field k) key_same o v))
    where
      go : (l : FormalSum (Scalar k) Key) → P (class (scalars k) key_same l)
      go [] = subst P (sym (class_nothing (scalars k) key_same)) none
      go (e ∷ l) = subst P (sym (class_cons (scalars k) key_same e l)) (step e.1 e.0 (class (scalars k) key_same l) (go l))

  term_key : (t : Key) → keys.◌·◌ (0, t.1) (t.0, monomials.one) ≡ t
  unfolding keys
  term_key t = ap₂ (λ (q : ℕ) (m : Mon). (q, m)) (omega arith) (monomials.mul_one t.1)

  term_product : (c : Scalar k) (t : Key) → product k ((vectors k).◌·◌ c (single_vector k (0, t.1))) (single_vector k (t.0, monomials.one)) ≡ (vectors k).◌·◌ c (single_vector k t)
  term_product c t = (product_linear_left k (single_vector k (t.0, monomials.one))).act c (single_vector k (0, t.1))
      ∙ ap ((vectors k).◌·◌ c) (product_single k (0, t.1) (t.0, monomials.one) ∙ ap (single_vector k) (term_key t))

module _ {E : Type 0} (k : FieldOn E) (n : ℕ) (ds : List ℕ) (θ : List (Vect k)) (primaries : ArePositiveForms k n ds θ) (gens : List (Matrix E)) (fixed : All (Invariant k gens) θ) (square : All (IsSquare k n) gens)
    (B : List (List ℕ)) (standard : AreStandardMonomials k n θ B) (vs : List (Vect k)) (generators : AreGenerators k θ gens B vs) where
  abbrev U : Vect k → Type 0
  U = InGraph k θ gens B

  abbrev last : Vect k → Vect k
  last w = last_value k θ gens B w

  abbrev S : List (Vect k)
  S = part_values k B (suc (length gens)) (length gens)

  pub restricted : IsRestricted (graph_space k ds (length gens) B) (length θ) (InGraph k θ gens B)
  restricted = graph_restricted k n ds θ primaries B standard.wide gens fixed square

  pub member_inside : (j : ℕ) → InGraph k θ gens B (listed k vs j)
  member_inside j = go (dec_le (suc j) (length B))
    where
      go : Dec (suc j ≤ length B) → InGraph k θ gens B (listed k vs j)
      go (yes p) = generators.inside j p
      go (no p) = subst (InGraph k θ gens B) (sym (listed_past k vs j (let e = generators.count in omega arith))) restricted.zero

  -- an element with a given value
  pub record Reached (f : Vect k) : Type 0 where
    pub vector : Vect k
    pub generated : InModule k (listed k vs) vector
    pub inside : InGraph k θ gens B vector
    pub value : last_value k θ gens B vector ≡ f

  unit_reached : (q : ℕ) → Reached (last_value k θ gens B (single_vector k (q, monomials.one)))
  unit_reached q = go (dec_le (length gens * length B) q) (dec_le (suc q) (suc (length gens) * length B))
    where
      nothing : listed k S q ≡ zero_vector k → Reached (last_value k θ gens B (single_vector k (q, monomials.one)))
      nothing e = record {
        vector = zero_vector k;
        generated = module_zero k (listed k vs);
        inside = restricted.zero;
        value = combination_value_zero k θ S ∙ sym (combination_value_member k θ S q ∙ e);
      }

      go : Dec (length gens * length B ≤ q) → Dec (suc q ≤ suc (length gens) * length B) → Reached (last_value k θ gens B (single_vector k (q, monomials.one)))
      go (no p) h = nothing (part_early k B (suc (length gens)) (length gens) q (omega arith))
      go (yes p) (no h) = nothing (part_late k B (suc (length gens)) (length gens) q (omega arith))
      go (yes p) (yes h) = record {
        vector = listed k vs (q - length gens * length B);
        generated = module_member k (listed k vs) (q - length gens * length B);
        inside = member_inside (q - length gens * length B);
        value = generators.values (q - length gens * length B) (let s = suc-mul (length gens) (length B) in omega arith)
            ∙ sym (combination_value_member k θ S q ∙ part_own k B (suc (length gens)) (length gens) q (omega arith) p h);
      }

  more_reached : (c : Scalar k) (t : Key) (v : Vect k) → Reached (last_value k θ gens B (stripped k (length θ) v))
      → Reached (last_value k θ gens B (stripped k (length θ) (plus k ((vectors k).◌·◌ c (single_vector k t)) v)))
  more_reached c t v a =
      let r = length θ in
      let f : Vect k = (vectors k).◌·◌ c (single_vector k (0, t.1)) in
      let poly : IsPolynomial k f = supp_act k (λ s. s.0 ≡ 0) c (single_vector k (0, t.1)) (supp_single k (λ s. s.0 ≡ 0) (0, t.1) refl) in
      let g : Vect k = stripped k r f in
      let pg = stripped_polynomial k r f poly in
      let unit : Vect k = single_vector k (t.0, monomials.one) in
      let u = unit_reached t.0 in
      let same = stripped_same k r unit (supp_single k (λ s. length s.1.0 ≤ r) (t.0, monomials.one) (length_one r)) in
      let split : stripped k r (plus k ((vectors k).◌·◌ c (single_vector k t)) v) ≡ plus k (product k g unit) (stripped k r v) =
      stripped_plus k r _ v ∙ ap (λ x. plus k x (stripped k r v)) (ap (stripped k r) (sym (term_product k c t)) ∙ stripped_product k r f unit ∙ ap (product k g) same) in
      record {
        vector = plus k (product k g u.vector) a.vector;
        generated = module_plus k (listed k vs) _ _ (module_product k (listed k vs) g u.vector pg u.generated) a.generated;
        inside = restricted.plus _ _ (restricted.product g u.vector pg (stripped_variables k r f) u.inside) a.inside;
        value = combination_value_plus k θ S _ _ ∙ ap₂ (plus k) (combination_value_product k θ S g u.vector pg ∙ ap (product k (substitute k θ g)) u.value) a.value
            ∙ sym (ap (last_value k θ gens B) split ∙ combination_value_plus k θ S _ _ ∙ ap (λ x. plus k x (last_value k θ gens B (stripped k r v))) (combination_value_product k θ S g unit pg));
      }

  reached : (v : Vect k) → Reached (last_value k θ gens B (stripped k (length θ) v))
  reached = vector_ind k (key_order (graph_space k ds (length gens) B)) (λ v. Reached (last_value k θ gens B (stripped k (length θ) v)))
      (record { vector = zero_vector k; generated = module_zero k (listed k vs); inside = restricted.zero; value = ap (last_value k θ gens B) (sym (stripped_zero k (length θ))) })
      more_reached

  stripped_generated : (v : Vect k) → InModule k (listed k vs) v → InGraph k θ gens B (stripped k (length θ) v)
  stripped_generated = module_ind k (listed k vs) (λ v. InGraph k θ gens B (stripped k (length θ) v)) (subst (InGraph k θ gens B) (sym (stripped_zero k (length θ))) restricted.zero)
      (λ f v i p a. subst (InGraph k θ gens B)
      (sym (stripped_plus k (length θ) _ v ∙ ap (λ x. plus k x (stripped k (length θ) v)) (stripped_product k (length θ) f (listed k vs i)
      ∙ ap (product k (stripped k (length θ) f)) (stripped_same k (length θ) (listed k vs i) (restricted.variables (listed k vs i) (member_inside i))))))
      (restricted.plus _ _ (restricted.product (stripped k (length θ) f) (listed k vs i) (stripped_polynomial k (length θ) f p) (stripped_variables k (length θ) f) (member_inside i)) a))

  pub graph_generated : CoordinatesAreUnique k n θ → (w : Vect k) → InGraph k θ gens B w ↔ (InModule k (listed k vs) w × InVariables k (length θ) w)
  graph_generated unique w = (to, λ a. subst (InGraph k θ gens B) (stripped_same k (length θ) w a.1) (stripped_generated w a.0))
    where
      to : InGraph k θ gens B w → InModule k (listed k vs) w × InVariables k (length θ) w
      to u =
          let x = reached w in
          let same = stripped_same k (length θ) w (restricted.variables w u) in
          let e = graph_determined k n θ gens B standard unique x.vector w x.inside u (x.value ∙ ap (last_value k θ gens B) same) in
          (subst (InModule k (listed k vs)) e x.generated, restricted.variables w u)
