-- The values of the fixed members of kernel evidence are invariants, and every invariant is a combination of them.
use Rattle.std.proofs.Common.{◌≡◌, ◌∙◌, ◌↔◌, ◌*◌, ◌<◌, ◌≤◌, ℕ, zero, suc, Bool, true, false, List, [], ◌∷◌, length, map, replicate, ◌==◌, ◌⊎◌, refl, sym, ap, ap₂, subst, inl, inr, arith, suc-mul, zero-mul}
use Rattle.std.specs.Prelude.{All, IsTrue, if◌then◌else◌}
use Rattle.std.proofs.lemmas.Bool.Decides.{nat_tests}
use native.Mathlib.Decide.{dec_le}
use Rattle.alg_core.specs.Fields.{FieldOn}
use Rattle.alg_core.specs.Lists.{In}
use Rattle.alg_core.specs.ModuleLaws as modules
use Rattle.alg_core.specs.Rings.{Linear}
use Rattle.alg_core.specs.SpaceGrading.{degree}
use Rattle.alg_core.specs.Spaces.{SpaceOver}
use Rattle.alg_core.specs.Vectors.{Vect, vectors, plus, zero_vector}
use Rattle.alg_core.proofs.Members.{from_map}
use Rattle.alg_core.proofs.PolynomialSpaces.{marked_positive}
use Rattle.alg_core.proofs.VectorLaws.{zero_plus}
use Rattle.poly_module.specs.Combinations.{IsCombination, Over, mark_value}
use Rattle.poly_module.specs.Degrees.{IsHomogeneous}
use Rattle.poly_module.specs.Modules.{InModule, listed}
use Rattle.poly_module.specs.Parts.{Supp, InVariables, supp_zero, linear_unique_supp}
use Rattle.poly_module.specs.Polynomials.{product}
use Rattle.poly_module.specs.Products.{product_zero}
use Rattle.poly_module.specs.ReducedLists.{IsReducedBasis}
use Rattle.poly_module.proofs.CombinationLaws.{combination_value_linear, combination_value_plus, combination_value_zero, combination_value_single, combination_value_product, over_zero, over_plus, over_product, over_member}
use Rattle.poly_module.proofs.ModuleElements.{module_ind}
use Rattle.poly_module.proofs.Reduced.{listed_has, reduced_homogeneous, reduced_is_basis}
use Rattle.lin_algebra.specs.declared.matrix.Matrix.{Matrix}
use Rattle.matrix_group.specs.Actions.{IsSquare, Invariant, act_by}
use Rattle.module_groebner.proofs.Eliminations.{elimination_generates}
use Rattle.module_groebner.proofs.Families.{all_in, in_all, length_map, listed_past}
use Rattle.finite_certificate.specs.MarkSpaces.{ArePositiveForms}
use Rattle.finite_certificate.specs.StandardMonomials.{AreStandardMonomials, IsCoordinates}
use Rattle.finite_certificate.proofs.Coordinates.{coordinates}
use Rattle.finite_certificate.proofs.PowerForms.{forms_count}
use Rattle.secondary_gens.specs.Secondaries.{IsComplete}
use Rattle.primary_module.specs.Positions.{HasParts, at_positions}
use Rattle.primary_module.proofs.Places.{standard_parts}
use Rattle.primary_module.proofs.Translations.{at_keys, from_at}
use Rattle.syzygy_kernel.specs.Graphs.{part_value, last_value, InGraph, graph_space}
use Rattle.syzygy_kernel.specs.Kernels.{AreKernel, AreListedAs, fixed_values, polynomial_of}
use Rattle.syzygy_kernel.specs.declared.member.Member.{Member}
use Rattle.syzygy_kernel.proofs.GraphModules.{graph_restricted, read_in, read_within, in_read}
use Rattle.syzygy_kernel.proofs.LastParts.{lifted, last_lifted, lifted_positions, value_of_last}
use Rattle.syzygy_kernel.proofs.PartValues.{part_late}
use Rattle.syzygy_kernel.proofs.RestrictedModules.{element, reduced_restricted}
use Rattle.syzygy_kernel.proofs.Stripped.{stripped, stripped_zero, stripped_plus, stripped_product, stripped_same, stripped_polynomial, stripped_variables}

block_below : (b i c : ℕ) → i < c → suc i * b ≤ c * b
block_below b i zero h = absurd (omega arith)
block_below b zero (suc c) h = let z = zero-mul b in let s = suc-mul 0 b in let r = suc-mul c b in omega arith
block_below b (suc i) (suc c) h = let r = block_below b i c (omega arith) in let s = suc-mul (suc i) b in let q = suc-mul c b in omega arith

pub equal_test : (m : ℕ) → (m == m) ≡ true
equal_test m = grind (arith, nat_tests)

pub is_true : (b : Bool) → b ≡ true → IsTrue b
is_true b e = grind (arith, nat_tests)

pub not_true : (b : Bool) → b ≡ false → IsTrue b → ⊥
not_true b e h = grind (arith, nat_tests)

pub bool_cases : (b : Bool) → (b ≡ true) ⊎ (b ≡ false)
bool_cases true = inl refl
bool_cases false = inr refl

nothing_linear : {E : Type 0} (k : FieldOn E) → Linear (vectors k) (vectors k) (λ v. zero_vector k)
unfolding zero_vector
nothing_linear k = record { add = λ x y. sym ((vectors k).add_zero _); act = λ c x. sym (modules.act_zero (vectors k) c) }

module _ {E : Type 0} (k : FieldOn E) (θ : List (Vect k)) (gens : List (Matrix E)) (B : List (List ℕ)) where
  abbrev Second : Vect k → Type 0
  Second = Supp k (λ t. length gens * length B ≤ t.0)

  -- the other parts of a vector that has none
  early_value : (i : ℕ) → i < length gens → (w : Vect k) → Supp k (λ t. length gens * length B ≤ t.0) w → part_value k θ gens B i w ≡ zero_vector k
  early_value i l = linear_unique_supp k (vectors k) (part_value k θ gens B i) (λ w. zero_vector k) (combination_value_linear k θ _) (nothing_linear k)
      (λ t. length gens * length B ≤ t.0)
      (λ t q. combination_value_single k θ _ t ∙ ap (product k _) (part_late k B (suc (length gens)) i t.0 (let b = block_below (length B) i (length gens) l in omega arith)) ∙ product_zero k _)

  -- the last value of an element of the graph that has no other part
  second_invariant : (w : Vect k) → InGraph k θ gens B w → Supp k (λ t. length gens * length B ≤ t.0) w → Invariant k gens (last_value k θ gens B w)
  second_invariant w a s = in_all (λ m. act_by k m (last_value k θ gens B w) ≡ last_value k θ gens B w) gens (λ m i.
      let r = in_read gens m i in
      sym (a.differences r.0 m r.2) ∙ ap (λ x. plus k x (last_value k θ gens B w)) (early_value r.0 r.1 w s) ∙ zero_plus k _)

  module _ (n : ℕ) (wide : All (λ b. length b ≡ n) B) where
    -- the elements whose members are named fixed
    pub record Fixed (ws : List (Vect k)) (ms : List (Member E)) : Type 0 where
      pub elements : List (Vect k)
      pub chosen : (w : Vect k) → In w elements ↔ (In w ws × Supp k (λ t. length gens * length B ≤ t.0) w)
      pub values : fixed_values k n θ ms ≡ map (last_value k θ gens B) elements

    fixed_elements : (ws : List (Vect k)) (ms : List (Member E)) → AreListedAs k n gens B ws ms
        → ((w : Vect k) → In w ws → Supp k (λ t. t.0 < suc (length gens) * length B) w) → Fixed ws ms
    fixed_elements [] [] h positions = record { elements = []; chosen = λ w. ((λ i. absurd i), (λ a. absurd a.0)); values = refl }
    fixed_elements [] (m ∷ ms) h positions = absurd h
    fixed_elements (w ∷ ws) [] h positions = absurd h
    fixed_elements (w ∷ ws) (m ∷ ms) h positions = go (fixed_elements ws ms h.1 (λ v i. positions v (inr i))) (bool_cases m.is_fixed)
      where
        go : Fixed ws ms → (m.is_fixed ≡ true) ⊎ (m.is_fixed ≡ false) → Fixed (w ∷ ws) (m ∷ ms)
        go r (inl e) = record { elements = w ∷ r.elements; chosen = λ v. (to v, from v); values = values }
          where
            to : (v : Vect k) → In v (w ∷ r.elements) → In v (w ∷ ws) × Supp k (λ t. length gens * length B ≤ t.0) v
            to v (inl q) = (inl q, subst (Supp k (λ t. length gens * length B ≤ t.0)) q (h.0.fixed.0 (is_true m.is_fixed e)))
            to v (inr i) = let a = (r.chosen v).0 i in (inr a.0, a.1)

            from : (v : Vect k) → In v (w ∷ ws) × Supp k (λ t. length gens * length B ≤ t.0) v → In v (w ∷ r.elements)
            from v (inl q, s) = inl q
            from v (inr i, s) = inr ((r.chosen v).1 (i, s))

            values : fixed_values k n θ (m ∷ ms) ≡ last_value k θ gens B w ∷ map (last_value k θ gens B) r.elements
            values = ap (λ (b : Bool). if b then mark_value k n θ (polynomial_of k m) ∷ fixed_values k n θ ms else fixed_values k n θ ms) e
                ∙ ap₂ ◌∷◌ (ap (mark_value k n θ) h.0.last ∙ value_of_last k n gens B θ wide w (positions w (inl refl))) r.values
        go r (inr e) = record { elements = r.elements; chosen = λ v. (to v, from v); values = values }
          where
            to : (v : Vect k) → In v r.elements → In v (w ∷ ws) × Supp k (λ t. length gens * length B ≤ t.0) v
            to v i = let a = (r.chosen v).0 i in (inr a.0, a.1)

            from : (v : Vect k) → In v (w ∷ ws) × Supp k (λ t. length gens * length B ≤ t.0) v → In v r.elements
            from v (inl q, s) = absurd (not_true m.is_fixed e (h.0.fixed.1 (subst (Supp k (λ t. length gens * length B ≤ t.0)) (sym q) s)))
            from v (inr i, s) = (r.chosen v).1 (i, s)

            values : fixed_values k n θ (m ∷ ms) ≡ map (last_value k θ gens B) r.elements
            values = ap (λ (b : Bool). if b then mark_value k n θ (polynomial_of k m) ∷ fixed_values k n θ ms else fixed_values k n θ ms) e ∙ r.values

  -- values of what is generated
  listed_map : (fs : List (Vect k)) (i : ℕ) → listed k (map (last_value k θ gens B) fs) i ≡ last_value k θ gens B (listed k fs i)
  listed_map [] i = sym (combination_value_zero k θ _)
  listed_map (f ∷ fs) zero = refl
  listed_map (f ∷ fs) (suc i) = listed_map fs i

  over_listed : (fs : List (Vect k)) (i : ℕ) → Over k θ (map (last_value k θ gens B) fs) (last_value k θ gens B (listed k fs i))
  over_listed fs i = go (dec_le (suc i) (length fs))
    where
      go : Dec (suc i ≤ length fs) → Over k θ (map (last_value k θ gens B) fs) (last_value k θ gens B (listed k fs i))
      go (yes p) = subst (Over k θ (map (last_value k θ gens B) fs)) (listed_map fs i)
          (over_member k θ (map (last_value k θ gens B) fs) i (let e = length_map (last_value k θ gens B) fs in omega arith))
      go (no p) = subst (Over k θ (map (last_value k θ gens B) fs)) (sym (ap (last_value k θ gens B) (listed_past k fs i (omega arith)) ∙ combination_value_zero k θ _))
          (over_zero k θ (map (last_value k θ gens B) fs))

  generated_over : (fs : List (Vect k)) → ((w : Vect k) → In w fs → InVariables k (length θ) w) → (v : Vect k) → InModule k (listed k fs) v
      → Over k θ (map (last_value k θ gens B) fs) (last_value k θ gens B (stripped k (length θ) v))
  generated_over fs variables = module_ind k (listed k fs) (λ v. Over k θ (map (last_value k θ gens B) fs) (last_value k θ gens B (stripped k (length θ) v)))
      (subst (Over k θ (map (last_value k θ gens B) fs)) (sym (ap (last_value k θ gens B) (stripped_zero k (length θ)) ∙ combination_value_zero k θ _)) (over_zero k θ _))
      (λ f v i p a.
      let g = stripped k (length θ) f in
      let pg = stripped_polynomial k (length θ) f p in
      let same = stripped_same k (length θ) (listed k fs i) (listed_has k (InVariables k (length θ)) (supp_zero k (λ t. length t.1.0 ≤ length θ)) fs variables i) in
      subst (Over k θ (map (last_value k θ gens B) fs))
      (sym (ap (last_value k θ gens B) (stripped_plus k (length θ) _ v ∙ ap (λ x. plus k x (stripped k (length θ) v)) (stripped_product k (length θ) f (listed k fs i) ∙ ap (product k g) same))
      ∙ combination_value_plus k θ _ _ _ ∙ ap (λ x. plus k x (last_value k θ gens B (stripped k (length θ) v))) (combination_value_product k θ _ g (listed k fs i) pg)))
      (over_plus k θ _ _ _ (over_product k θ _ g _ pg (stripped_variables k (length θ) f) (over_listed fs i)) a))

  module _ (n : ℕ) (ds : List ℕ) (primaries : ArePositiveForms k n ds θ) (fixed : All (Invariant k gens) θ) (square : All (IsSquare k n) gens)
      (standard : AreStandardMonomials k n θ B) (ms : List (Member E)) (kernel : AreKernel k n ds θ gens B ms) where
    abbrev S : SpaceOver E
    S = graph_space k ds (length gens) B

    abbrev U : Vect k → Type 0
    U = InGraph k θ gens B

    abbrev ws : List (Vect k)
    ws = kernel.basis

    which : Fixed n standard.wide ws ms
    which = fixed_elements n standard.wide ws ms kernel.listed_as (λ w i t c. ((kernel.reduced.reduced.inside w i).positions t c).1)

    fs : List (Vect k)
    fs = which.elements

    pub values_invariant : All (Invariant k gens) (fixed_values k n θ ms)
    values_invariant = subst (All (Invariant k gens)) (sym which.values) (in_all (Invariant k gens) (map (last_value k θ gens B) which.elements) (λ f i.
        let p = from_map (last_value k θ gens B) f which.elements i in
        let a = (which.chosen p.0).0 p.1 in
        subst (Invariant k gens) p.2 (second_invariant p.0 (kernel.reduced.reduced.inside p.0 a.0) a.1)))

    reduced : IsReducedBasis S (element S (length θ) U) ws
    reduced = reduced_restricted S (length θ) U (graph_restricted k n ds θ primaries B standard.wide gens fixed square) ws kernel.reduced

    pub homogeneous : (w : Vect k) → In w kernel.basis → (d : ℕ) × IsHomogeneous (graph_space k ds (length gens) B) d w
    homogeneous w i =
        let l = kernel.reduced.reduced.lead w i in (
          degree S l.0,
          reduced_homogeneous S (element S (length θ) U) (λ x. x.degree) (λ x. x.homogeneous) (marked_positive k n ds primaries.positive).0
              (λ x t c. equal_test (length ds)) ws reduced w l.0 i l.1,
        )

    variables : (w : Vect k) → In w ws → InVariables k (length ds) w
    variables w i t c = let h = ((kernel.reduced.reduced.inside w i).positions t c).0 in let e = forms_count k (replicate n 1) ds θ primaries.forms in omega arith

    second_generated : (v : Vect k) → U v → Supp k (λ t. length gens * length B ≤ t.0) v → InModule k (listed k which.elements) v
    second_generated v u s = elimination_generates k (length gens * length B) ds ds (S.shifts) refl primaries.positive ws which.elements
        (reduced_is_basis S (element S (length θ) U) ws reduced) homogeneous variables which.chosen v (kernel.reduced.generates v u) s

    -- the element of the graph of an invariant
    pub values_complete : IsComplete k n gens θ (fixed_values k n θ ms)
    values_complete f poly vars invariant = subst (λ xs. Over k θ xs f) (sym which.values)
        (subst (Over k θ (map (last_value k θ gens B) which.elements)) (ap (last_value k θ gens B) (stripped_same k (length θ) w (λ t c. (positions.0 t c).0)) ∙ value)
        (generated_over which.elements (λ x i t c. ((kernel.reduced.reduced.inside x ((which.chosen x).0 i).0).positions t c).0) w (second_generated w inside positions.1)))
      where
        u : (u : Vect k) × IsCoordinates k n θ f u
        u = coordinates k n ds θ primaries f poly vars

        parts : HasParts k n B u.0
        parts = (standard_parts n k θ B standard u.0).0 u.1.standard

        v : Vect k
        v = at_positions k n B u.0

        w : Vect k
        w = lifted k n gens B v

        positions : IsCombination k (length θ) (suc (length gens) * length B) w × Supp k (λ t. length gens * length B ≤ t.0) w
        positions = lifted_positions k n gens B (length θ) v (at_keys k n B (length θ) u.0 u.1.mixed parts)

        value : last_value k θ gens B w ≡ f
        value = sym (value_of_last k n gens B θ standard.wide w (λ t c. (positions.0 t c).1))
            ∙ ap (mark_value k n θ) (last_lifted k n gens B v ∙ from_at k n B u.0 u.1.mixed.polynomial parts) ∙ u.1.value

        inside : InGraph k θ gens B w
        inside = record {
          positions = positions.0;
          differences = λ i m r. ap₂ (plus k) (early_value i (read_within gens i m r) w positions.1) value ∙ zero_plus k f
              ∙ sym (all_in (λ m. act_by k m f ≡ f) gens invariant m (read_in gens i m r)) ∙ ap (act_by k m) (sym value);
        }
