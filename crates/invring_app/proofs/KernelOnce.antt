-- A graph of differences has one kernel list, whatever its matrices are: it is closed under sums and multiples.
use Rattle.std.proofs.Common.{◌≡◌, ◌∙◌, ◌↔◌, ◌⊎◌, ◌<◌, ◌≤◌, ◌*◌, ℕ, suc, Bool, true, false, List, [], ◌∷◌, length, refl, sym, ap, ap₂, subst, inl, inr}
use Rattle.std.specs.Prelude.{IsTrue, if◌then◌else◌}
use Rattle.alg_core.specs.Fields.{FieldOn, Scalar}
use Rattle.alg_core.specs.SpaceGrading.{AllPositive}
use Rattle.alg_core.specs.SpaceOrder.{key_order}
use Rattle.alg_core.specs.Keys.{Key, KeyDivides}
use Rattle.alg_core.specs.Vectors.{Vect, vectors, plus, zero_vector}
use Rattle.alg_core.proofs.PolynomialSpaces.{marked_positive}
use Rattle.alg_core.proofs.VectorLaws.{plus_swap, plus_zero}
use Rattle.poly_module.specs.Combinations.{mark_value}
use Rattle.poly_module.specs.Modules.{IsSubspace}
use Rattle.poly_module.specs.Parts.{supp_zero, supp_plus, supp_act}
use Rattle.poly_module.specs.ReducedLists.{FitsOrder}
use Rattle.poly_module.proofs.CombinationLaws.{combination_value_linear, combination_value_plus, combination_value_zero}
use Rattle.poly_module.proofs.KeyGrowth.{divisor_not_greater}
use Rattle.poly_module.proofs.Reduced.{reduced_unique, divides_trans}
use Rattle.lin_algebra.specs.Matrices.{entries as cells_of}
use Rattle.lin_algebra.specs.declared.matrix.Matrix.{Matrix}
use Rattle.matrix_group.specs.Actions.{act_by}
use Rattle.matrix_group.proofs.ActionLaws.{act_linear, act_plus, act_zero}
use Rattle.syzygy_kernel.specs.Graphs.{part_values, part_value, last_value, InGraph, graph_space}
use Rattle.syzygy_kernel.specs.Kernels.{AreKernel, AreListedAs, polynomial_of, fixed_values}
use Rattle.syzygy_kernel.specs.declared.member.Member.{Member}
use Rattle.syzygy_kernel.proofs.FixedMembers.{equal_test, is_true, not_true, bool_cases}

same-test : {P : Type 0} (a b : Bool) → IsTrue a ↔ P → IsTrue b ↔ P → a ≡ b
same-test {P} a b h g = go (bool_cases a) (bool_cases b)
  where
    go : (a ≡ true) ⊎ (a ≡ false) → (b ≡ true) ⊎ (b ≡ false) → a ≡ b
    go (inl p) (inl q) = p ∙ sym q
    go (inl p) (inr q) = absurd (not_true b q (g.1 (h.0 (is_true a p))))
    go (inr p) (inl q) = absurd (not_true a p (h.1 (g.0 (is_true b q))))
    go (inr p) (inr q) = p ∙ sym q

module _ {E : Type 0} (k : FieldOn E) (θ : List (Vect k)) (gens : List (Matrix E)) (B : List (List ℕ)) where
  abbrev value : ℕ → Vect k → Vect k
  value i w = part_value k θ gens B i w

  abbrev last : Vect k → Vect k
  last w = last_value k θ gens B w

  abbrev Places : Key → Type 0
  Places t = (length t.1.0 ≤ length θ) × (t.0 < suc (length gens) * length B)

  graph-zero : InGraph k θ gens B (zero_vector k)
  graph-zero = record {
    positions = supp_zero k Places;
    differences = λ i m r. ap₂ (plus k) (none i) (none (length gens)) ∙ plus_zero k (zero_vector k)
        ∙ sym (ap (act_by k m) (none (length gens)) ∙ act_zero k m.rows (cells_of k m));
  }
    where
      none : (i : ℕ) → value i (zero_vector k) ≡ zero_vector k
      none i = combination_value_zero k θ (part_values k B (suc (length gens)) i)

  graph-plus : (u v : Vect k) → InGraph k θ gens B u → InGraph k θ gens B v → InGraph k θ gens B (plus k u v)
  graph-plus u v a b = record {
    positions = supp_plus k Places u v a.positions b.positions;
    differences = λ i m r. ap₂ (plus k) (sum i) (sum (length gens)) ∙ plus_swap k (value i u) (value i v) (last u) (last v) ∙ ap₂ (plus k) (a.differences i m r) (b.differences i m r)
        ∙ sym (ap (act_by k m) (sum (length gens)) ∙ act_plus k m.rows (cells_of k m) (last u) (last v));
  }
    where
      sum : (i : ℕ) → value i (plus k u v) ≡ plus k (value i u) (value i v)
      sum i = combination_value_plus k θ (part_values k B (suc (length gens)) i) u v

  act-plus : (c : Scalar k) (u v : Vect k) → (vectors k).◌·◌ c (plus k u v) ≡ plus k ((vectors k).◌·◌ c u) ((vectors k).◌·◌ c v)
  unfolding plus
  act-plus c u v = (vectors k).act_add c u v

  graph-act : (c : Scalar k) (u : Vect k) → InGraph k θ gens B u → InGraph k θ gens B ((vectors k).◌·◌ c u)
  graph-act c u a = record {
    positions = supp_act k Places c u a.positions;
    differences = λ i m r. ap₂ (plus k) (multiple i) (multiple (length gens)) ∙ sym (act-plus c (value i u) (last u)) ∙ ap ((vectors k).◌·◌ c) (a.differences i m r)
        ∙ sym (ap (act_by k m) (multiple (length gens)) ∙ (act_linear k m.rows (cells_of k m)).act c (last u));
  }
    where
      multiple : (i : ℕ) → value i ((vectors k).◌·◌ c u) ≡ (vectors k).◌·◌ c (value i u)
      multiple i = (combination_value_linear k θ (part_values k B (suc (length gens)) i)).act c u

  graph-subspace : IsSubspace k (InGraph k θ gens B)
  graph-subspace = record { zero = graph-zero; plus = graph-plus; act = graph-act }

  module _ (n : ℕ) where
    fixed-same : (ws : List (Vect k)) (ms ls : List (Member E)) → AreListedAs k n gens B ws ms → AreListedAs k n gens B ws ls → fixed_values k n θ ms ≡ fixed_values k n θ ls
    fixed-same [] [] [] h g = refl
    fixed-same [] [] (l ∷ ls) h g = absurd g
    fixed-same [] (m ∷ ms) ls h g = absurd h
    fixed-same (w ∷ ws) [] ls h g = absurd h
    fixed-same (w ∷ ws) (m ∷ ms) [] h g = absurd g
    fixed-same (w ∷ ws) (m ∷ ms) (l ∷ ls) h g =
        let test = same-test m.is_fixed l.is_fixed h.0.fixed g.0.fixed in
        let polynomial : polynomial_of k m ≡ polynomial_of k l = h.0.last ∙ sym g.0.last in
        let rest = fixed-same ws ms ls h.1 g.1 in
        λ i. if test i then mark_value k n θ (polynomial i) ∷ rest i else rest i

    -- the values of the fixed members are one list
    pub values-one : (ds : List ℕ) → AllPositive ds → (ms ls : List (Member E)) → AreKernel k n ds θ gens B ms → AreKernel k n ds θ gens B ls → fixed_values k n θ ms ≡ fixed_values k n θ ls
    values-one ds positive ms ls a b =
        let S = graph_space k ds (length gens) B in
        let same = reduced_unique k (key_order S) KeyDivides (InGraph k θ gens B) graph-subspace (divides_trans S (λ (i : ℕ). zero_vector k)) (FitsOrder S) (λ v h t c. equal_test (length ds))
        (divisor_not_greater S (marked_positive k n ds positive).0) a.basis b.basis a.reduced.reduced b.reduced.reduced in
        fixed-same b.basis ms ls (subst (λ ws. AreListedAs k n gens B ws ms) same a.listed_as) b.listed_as
