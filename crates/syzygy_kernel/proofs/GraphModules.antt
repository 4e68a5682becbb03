-- The graph is a module over the polynomials in the marks, and has the parts of its elements.
use Rattle.std.proofs.Common.{◌≡◌, ◌∙◌, ◌+◌, ◌*◌, ◌<◌, ◌≤◌, ℕ, zero, suc, List, [], ◌∷◌, length, map, replicate, refl, sym, ap, ap₂, subst, inl, inr, arith}
use Rattle.std.specs.Prelude.{All, Option, Some, None, slice_get}
use native.Mathlib.Decide.{ℕ_discrete, dec_le}
use Rattle.alg_core.specs.Fields.{FieldOn}
use Rattle.alg_core.specs.Keys.{Key, keys}
use Rattle.alg_core.specs.Lists.{In}
use Rattle.alg_core.specs.Monomials.{mono}
use Rattle.alg_core.specs.SpaceGrading.{degree}
use Rattle.alg_core.specs.Spaces.{SpaceOver}
use Rattle.alg_core.specs.Vectors.{Vect, plus, zero_vector}
use Rattle.alg_core.proofs.MonomialLists.{length_mono, length_one}
use Rattle.alg_core.proofs.VectorLaws.{plus_swap, plus_zero}
use Rattle.poly_module.specs.Combinations.{combination_value}
use Rattle.poly_module.specs.Degrees.{part, graded_part_supp, graded_part_plus, graded_map}
use Rattle.poly_module.specs.Forms.{form_part, key_weight, OfDegree}
use Rattle.poly_module.specs.GreatestExponents.{total}
use Rattle.poly_module.specs.Modules.{listed}
use Rattle.poly_module.specs.Parts.{Supp, IsPolynomial, InVariables, supp_zero, supp_plus, supp_single, linear_supp}
use Rattle.poly_module.specs.Polynomials.{single_vector, one_vector, product, vector_ring}
use Rattle.poly_module.specs.Products.{product_plus, ring_one, ring_product}
use Rattle.poly_module.specs.Substitutions.{substitute, monomial_value}
use Rattle.poly_module.specs.Variables.{monomial_value_has, product_positions, product_polynomial, product_in_variables}
use Rattle.poly_module.proofs.CombinationLaws.{combination_value_linear, combination_value_plus, combination_value_zero, combination_value_single, combination_value_product, combination_value_part}
use Rattle.lin_algebra.specs.declared.matrix.Matrix.{Matrix}
use Rattle.lin_algebra.specs.Matrices.{entries as cells_of}
use Rattle.matrix_group.specs.Actions.{IsSquare, Invariant, act_by}
use Rattle.matrix_group.proofs.ActionLaws.{act_linear, act_plus, act_zero, act_product, act_form}
use Rattle.module_groebner.proofs.Families.{all_in}
use Rattle.finite_certificate.specs.MarkSpaces.{ArePositiveForms}
use Rattle.finite_certificate.proofs.ModuleTerms.{forms_at, listed_all}
use Rattle.secondary_gens.proofs.Lists.{place_of_in}
use Rattle.primary_module.proofs.ImageValues.{marks_fixed}
use Rattle.syzygy_kernel.specs.Graphs.{copies, part_values, part_value, last_value, InGraph, graph_space}
use Rattle.syzygy_kernel.proofs.PartValues.{part_has, part_forms}
use Rattle.syzygy_kernel.proofs.RestrictedModules.{IsRestricted}

some_or : {A : Type 0} → A → Option A → A
some_or d None = d
some_or d (Some x) = x

same_some : {A : Type 0} (x y : A) → Some x ≡ Some y → x ≡ y
unfolding some_or
same_some x y e = ap (some_or x) e

module _ {A : Type 0} where
  -- what is read at a place is a member, and each member is read at some place
  pub read_in : (xs : List A) (j : ℕ) (x : A) → slice_get xs j ≡ Some x → In x xs
  read_in [] j x e = absurd cc
  read_in (y ∷ xs) zero x e = inl (same_some y x e)
  read_in (y ∷ xs) (suc j) x e = inr (read_in xs j x e)

  pub read_within : (xs : List A) (j : ℕ) (x : A) → slice_get xs j ≡ Some x → j < length xs
  read_within [] j x e = absurd cc
  read_within (y ∷ xs) zero x e = omega arith
  read_within (y ∷ xs) (suc j) x e = let r = read_within xs j x e in omega arith

  pub in_read : (xs : List A) (x : A) → In x xs → (j : ℕ) × (j < length xs) × (slice_get xs j ≡ Some x)
  in_read [] x i = absurd i
  in_read (y ∷ xs) x (inl e) = (0, omega arith, ap Some e)
  in_read (y ∷ xs) x (inr i) = let r = in_read xs x i in (suc r.0, (let l = r.1 in omega arith), r.2)

one_plain : {E : Type 0} (k : FieldOn E) (n : ℕ) → IsPolynomial k (one_vector k) × InVariables k n (one_vector k)
unfolding one_vector keys single_vector
one_plain k n = (supp_single k (λ t. t.0 ≡ 0) keys.one refl, supp_single k (λ t. length t.1.0 ≤ n) keys.one (length_one n))

-- forms go to forms, so parts go to parts
module _ {E : Type 0} (k : FieldOn E) (n : ℕ) (m : Matrix E) (rows : m.rows ≡ n) where
  act_part : (e : ℕ) (f : Vect k) → IsPolynomial k f → InVariables k n f → form_part k (replicate n 1) e (act_by k m f) ≡ act_by k m (form_part k (replicate n 1) e f)
  act_part e f poly vars = subst (λ (d : ℕ). form_part k (replicate n 1) d (act_by k m f) ≡ act_by k m (form_part k (replicate n 1) e f)) (omega arith)
      (graded_map k (key_weight (replicate n 1)) (key_weight (replicate n 1)) 0 (act_by k m) (act_linear k m.rows (cells_of k m)) (λ t. (t.0 ≡ 0) × (length t.1.0 ≤ n)) single_part e f (λ t c. (poly t c, vars t c)))
    where
      single_part : (t : Key) → (t.0 ≡ 0) × (length t.1.0 ≤ n) → Supp k (λ s. key_weight (replicate n 1) s ≡ 0 + key_weight (replicate n 1) t) (act_by k m (single_vector k t))
      single_part t q s c =
          let form = act_form k m.rows (cells_of k m) n (omega arith) (key_weight (replicate n 1) t) (single_vector k t)
          (supp_single k (λ r. length r.1.0 ≤ n) t q.1) (supp_single k (OfDegree k (replicate n 1) (key_weight (replicate n 1) t)) t (q.0, refl)) in
          let w = (form s c).1 in omega arith

module _ {E : Type 0} (k : FieldOn E) (n : ℕ) (ds : List ℕ) (θ : List (Vect k)) (primaries : ArePositiveForms k n ds θ) (B : List (List ℕ)) (wide : All (λ b. length b ≡ n) B) where
  -- polynomials in the variables
  abbrev IsPlain : Vect k → Type 0
  IsPlain f = IsPolynomial k f × InVariables k n f

  primary_plain : (f : Vect k) → In f θ → IsPlain f
  primary_plain f i =
      let p = place_of_in k θ f i in
      let form = forms_at k (replicate n 1) ds θ primaries.forms p.0 p.1 in
      (subst (IsPolynomial k) p.2 (λ t c. (form t c).0), all_in (InVariables k n) θ primaries.variables f i)

  product_plain : (f g : Vect k) → IsPlain f → IsPlain g → IsPlain (product k f g)
  product_plain f g a b = (product_polynomial k f g a.0 b.0, product_in_variables k n f g a.1 b.1)

  zero_plain : IsPlain (zero_vector k)
  zero_plain = (supp_zero k (λ t. t.0 ≡ 0), supp_zero k (λ t. length t.1.0 ≤ n))

  monomial_plain : (a : List ℕ) → IsPlain (monomial_value (vector_ring k) θ a)
  monomial_plain = monomial_value_has (vector_ring k) IsPlain
      (subst IsPlain (sym (ring_one k)) (one_plain k n))
      (λ u v h g. subst IsPlain (sym (ring_product k u v)) (product_plain u v h g)) θ primary_plain

  member_plain : (c i q : ℕ) → IsPlain (listed k (part_values k B c i) q)
  member_plain = part_has k B IsPlain zero_plain (λ b i. (
    supp_single k (λ t. t.0 ≡ 0) (0, mono b) refl,
    supp_single k (λ t. length t.1.0 ≤ n) (0, mono b) (let l = length_mono b in let w = all_in (λ b. length b ≡ n) B wide b i in omega arith),
  ))

  -- the values of the parts
  pub value_plain : (c i : ℕ) (w : Vect k) → IsPolynomial k (combination_value k θ (part_values k B c i) w) × InVariables k n (combination_value k θ (part_values k B c i) w)
  value_plain c i w = (
    linear_supp k (combination_value k θ S) (combination_value_linear k θ S) (λ t. Unit {0}) (λ t. t.0 ≡ 0) (λ t. ℕ_discrete t.0 0) (λ t q. (term t).0) w (λ t c. tt),
    linear_supp k (combination_value k θ S) (combination_value_linear k θ S) (λ t. Unit {0}) (λ t. length t.1.0 ≤ n) (λ t. dec_le (length t.1.0) n) (λ t q. (term t).1) w (λ t c. tt),
  )
    where
      S : List (Vect k)
      S = part_values k B c i

      term : (t : Key) → IsPlain (combination_value k θ (part_values k B c i) (single_vector k t))
      term t = subst IsPlain (sym (combination_value_single k θ (part_values k B c i) t)) (product_plain _ _ (monomial_plain t.1.0) (member_plain c i t.0))

  module _ (gens : List (Matrix E)) (fixed : All (Invariant k gens) θ) (square : All (IsSquare k n) gens) where
    abbrev value : ℕ → Vect k → Vect k
    value i w = part_value k θ gens B i w

    abbrev last : Vect k → Vect k
    last w = last_value k θ gens B w

    abbrev S : SpaceOver E
    S = graph_space k ds (length gens) B

    rows : (m : Matrix E) → In m gens → m.rows ≡ n
    rows m i = (all_in (IsSquare k n) gens square m i).rows

    pub value_fixed : (m : Matrix E) → In m gens → (a : Vect k) → act_by k m (substitute k θ a) ≡ substitute k θ a
    value_fixed m i a = marks_fixed k n θ m.rows (rows m i) (cells_of k m)
        (λ j l. all_in (λ m. act_by k m (listed k θ j) ≡ listed k θ j) gens (listed_all_primaries j l) m i) a
      where
        listed_all_primaries : (j : ℕ) → j < length θ → Invariant k gens (listed k θ j)
        listed_all_primaries j l = listed_all k (Invariant k gens) θ fixed j l

    graph_zero : InGraph k θ gens B (zero_vector k)
    graph_zero = record {
      positions = supp_zero k (λ t. (length t.1.0 ≤ length θ) × (t.0 < suc (length gens) * length B));
      differences = λ i m r. ap₂ (plus k) (combination_value_zero k θ (part_values k B (suc (length gens)) i)) (none (length gens)) ∙ plus_zero k (zero_vector k)
          ∙ sym (ap (act_by k m) (none (length gens)) ∙ act_zero k m.rows (cells_of k m));
    }
      where
        none : (i : ℕ) → value i (zero_vector k) ≡ zero_vector k
        none i = combination_value_zero k θ (part_values k B (suc (length gens)) i)

    graph_plus : (u v : Vect k) → InGraph k θ gens B u → InGraph k θ gens B v → InGraph k θ gens B (plus k u v)
    graph_plus u v a b = record {
      positions = supp_plus k (λ t. (length t.1.0 ≤ length θ) × (t.0 < suc (length gens) * length B)) u v a.positions b.positions;
      differences = λ i m r. ap₂ (plus k) (sum i) (sum (length gens)) ∙ plus_swap k (value i u) (value i v) (last u) (last v) ∙ ap₂ (plus k) (a.differences i m r) (b.differences i m r)
          ∙ sym (ap (act_by k m) (sum (length gens)) ∙ act_plus k m.rows (cells_of k m) (last u) (last v));
    }
      where
        sum : (i : ℕ) → value i (plus k u v) ≡ plus k (value i u) (value i v)
        sum i = combination_value_plus k θ (part_values k B (suc (length gens)) i) u v

    graph_product : (f v : Vect k) → IsPolynomial k f → InVariables k (length θ) f → InGraph k θ gens B v → InGraph k θ gens B (product k f v)
    graph_product f v poly vars a = record {
      positions = λ t c. (
        product_in_variables k (length θ) f v vars (λ t c. (a.positions t c).0) t c,
        product_positions k (λ q. q < suc (length gens) * length B) (λ q. dec_le (suc q) (suc (length gens) * length B)) f v poly (λ t c. (a.positions t c).1) t c,
      );
      differences = λ i m r. ap₂ (plus k) (multiple i) (multiple (length gens)) ∙ sym (product_plus k F (value i v) (last v)) ∙ ap (product k F) (a.differences i m r)
          ∙ ap (λ x. product k x (act_by k m (last v))) (sym (value_fixed m (read_in gens i m r) f)) ∙ sym (act_product k m.rows (cells_of k m) F (last v))
          ∙ sym (ap (act_by k m) (multiple (length gens)));
    }
      where
        F : Vect k
        F = substitute k θ f

        multiple : (i : ℕ) → value i (product k f v) ≡ product k (substitute k θ f) (value i v)
        multiple i = combination_value_product k θ (part_values k B (suc (length gens)) i) f v poly

    graph_part : (e : ℕ) (v : Vect k) → InGraph k θ gens B v → InGraph k θ gens B (part (graph_space k ds (length gens) B) e v)
    unfolding degree
    graph_part e v a = record {
      positions = graded_part_supp k (degree S) e (λ t. (length t.1.0 ≤ length θ) × (t.0 < suc (length gens) * length B)) v a.positions;
      differences = λ i m r. ap₂ (plus k) (sym (piece i)) (sym (piece (length gens))) ∙ sym (graded_part_plus k (key_weight (replicate n 1)) e (value i v) (last v))
          ∙ ap (form_part k (replicate n 1) e) (a.differences i m r)
          ∙ act_part k n m (rows m (read_in gens i m r)) e (last v) (value_plain (suc (length gens)) (length gens) v).0 (value_plain (suc (length gens)) (length gens) v).1
          ∙ ap (act_by k m) (piece (length gens));
    }
      where
        piece : (i : ℕ) → form_part k (replicate n 1) e (value i v) ≡ value i (part (graph_space k ds (length gens) B) e v)
        piece i = combination_value_part k (replicate n 1) ds (copies (suc (length gens)) (map total B)) θ (part_values k B (suc (length gens)) i)
            primaries.forms (part_forms k n B wide (suc (length gens)) i) e v (λ t c. (a.positions t c).0)

    pub graph_restricted : IsRestricted (graph_space k ds (length gens) B) (length θ) (InGraph k θ gens B)
    graph_restricted = record {
      variables = λ v a t c. (a.positions t c).0;
      zero = graph_zero;
      plus = graph_plus;
      product = graph_product;
      part = graph_part;
    }
