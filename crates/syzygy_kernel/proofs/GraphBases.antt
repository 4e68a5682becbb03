-- The reduced basis of the graph and its elements above a cap are those of the module of what generates it.
use Rattle.std.proofs.Common.{◌≡◌, ◌∙◌, ◌↔◌, ◌≤◌, ℕ, List, length, sym, ap, subst, arith}
use Rattle.std.specs.Prelude.{All}
use Rattle.alg_core.specs.Fields.{FieldOn}
use Rattle.alg_core.specs.Keys.{Key, KeyDivides}
use Rattle.alg_core.specs.MonomialParts.{variable_part, mark_part, as_marks}
use Rattle.alg_core.specs.Monomials.{Mon, monomials}
use Rattle.alg_core.specs.SpaceOrder.{key_order}
use Rattle.alg_core.specs.Spaces.{SpaceOver}
use Rattle.alg_core.specs.SpaceGrading.{degree}
use Rattle.alg_core.specs.Vectors.{Vect}
use Rattle.alg_core.proofs.MonomialLists.{length_mul, length_one}
use Rattle.alg_core.proofs.MonomialParts.{parts, length_as_marks, length_variable_part, mark_part_none}
use Rattle.alg_core.proofs.PolynomialSpaces.{marked_positive}
use Rattle.poly_module.specs.Caps.{IsAboveCap}
use Rattle.poly_module.specs.Modules.{InModule, LeadBy, listed}
use Rattle.poly_module.specs.Parts.{InVariables, select, select_supp, supp_select}
use Rattle.poly_module.specs.ReducedLists.{IsReducedBasis, IsReducedBasisOf}
use Rattle.poly_module.specs.SpaceVectors.{IsUpTo}
use Rattle.poly_module.proofs.ModuleElements.{module_within}
use Rattle.poly_module.proofs.ReducedVariables.{reduced_variables}
use Rattle.lin_algebra.specs.declared.matrix.Matrix.{Matrix}
use Rattle.matrix_group.specs.Actions.{IsSquare, Invariant}
use Rattle.module_groebner.proofs.CompletionEnds.{lead_there}
use Rattle.finite_certificate.specs.MarkSpaces.{ArePositiveForms}
use Rattle.finite_certificate.specs.StandardMonomials.{AreStandardMonomials, CoordinatesAreUnique}
use Rattle.finite_certificate.proofs.ModuleTerms.{factor_length}
use Rattle.syzygy_kernel.specs.Graphs.{InGraph, AreGenerators, graph_space}
use Rattle.syzygy_kernel.proofs.FixedMembers.{equal_test}
use Rattle.syzygy_kernel.proofs.GraphGenerators.{graph_generated, member_inside, restricted}
use Rattle.syzygy_kernel.proofs.RestrictedModules.{IsRestricted, element, element_sum, reduced_restricted}
use Rattle.syzygy_kernel.proofs.Selections.{rest_test, module_rest, select_lead}

no_marks : (n : ℕ) (m : Mon) → mark_part n m ≡ monomials.one → length m.0 ≤ n
no_marks n m e =
    let l = length_as_marks n monomials.one in
    let z = length_one 0 in
    subst (λ (a : Mon). length a.0 ≤ n) (ap (λ (a : Mon). monomials.◌·◌ (variable_part n m) (as_marks n a)) (sym e) ∙ parts n m)
    (length_mul n (variable_part n m) (as_marks n monomials.one) (length_variable_part n m) (omega arith))

module _ {E : Type 0} (k : FieldOn E) (n : ℕ) (ds : List ℕ) (θ : List (Vect k)) (primaries : ArePositiveForms k n ds θ) (gens : List (Matrix E)) (fixed : All (Invariant k gens) θ) (square : All (IsSquare k n) gens)
    (B : List (List ℕ)) (standard : AreStandardMonomials k n θ B) (unique : CoordinatesAreUnique k n θ) (vs : List (Vect k)) (generators : AreGenerators k θ gens B vs) where
  abbrev S : SpaceOver E
  S = graph_space k ds (length gens) B

  abbrev U : Vect k → Type 0
  U = InGraph k θ gens B

  exact : (w : Vect k) → InGraph k θ gens B w ↔ (InModule k (listed k vs) w × InVariables k (length θ) w)
  exact = graph_generated k n ds θ primaries gens fixed square B standard vs generators unique

  inside : (j : ℕ) → InGraph k θ gens B (listed k vs j)
  inside = member_inside k n ds θ primaries gens fixed square B standard vs generators

  R : IsRestricted (graph_space k ds (length gens) B) (length θ) (InGraph k θ gens B)
  R = restricted k n ds θ primaries gens fixed square B standard vs generators

  given : (j : ℕ) → InVariables k (length θ) (listed k vs j)
  given j = R.variables (listed k vs j) (inside j)

  pub reduced_bases : (ws : List (Vect k)) → IsReducedBasis (graph_space k ds (length gens) B) (listed k vs) ws ↔ IsReducedBasisOf (graph_space k ds (length gens) B) (InGraph k θ gens B) ws
  reduced_bases ws = (to, from)
    where
      to : IsReducedBasis S (listed k vs) ws → IsReducedBasisOf S (InGraph k θ gens B) ws
      to a = record {
        reduced = record {
          inside = λ w i. (exact w).1 (a.reduced.inside w i, reduced_variables S (listed k vs) (length θ) given (marked_positive k n ds primaries.positive).0 (λ x t c. equal_test (length ds)) ws a w i);
          lead = a.reduced.lead;
          monic = a.reduced.monic;
          covers = λ v t u. a.reduced.covers v t ((exact v).0 u).0;
          apart = a.reduced.apart;
          falling = a.reduced.falling;
        };
        generates = λ v u. a.generates v ((exact v).0 u).0;
      }

      down : (v : Vect k) → InModule k (element S (length θ) U) v → InModule k (listed k vs) v
      down = module_within k (element S (length θ) U) (listed k vs) (λ x. ((exact x.vector).0 x.inside).0)

      up : (v : Vect k) → InModule k (listed k vs) v → InModule k (element S (length θ) U) v
      up = module_within k (listed k vs) (element S (length θ) U) (λ j. element_sum S (length θ) U R (listed k vs j) (inside j))

      from : IsReducedBasisOf S (InGraph k θ gens B) ws → IsReducedBasis S (listed k vs) ws
      from b =
          let a = reduced_restricted S (length θ) U R ws b in
          record {
            reduced = record {
              inside = λ w i. down w (a.reduced.inside w i);
              lead = a.reduced.lead;
              monic = a.reduced.monic;
              covers = λ v t u. a.reduced.covers v t (up v u);
              apart = a.reduced.apart;
              falling = a.reduced.falling;
            };
            generates = λ v u. a.generates v (up v u);
          }

  pub above_caps : (cap : ℕ) (v : Vect k) (t : Key) → IsAboveCap (graph_space k ds (length gens) B) (InGraph k θ gens B) cap v t
      ↔ (IsAboveCap (graph_space k ds (length gens) B) (InModule k (listed k vs)) cap v t × InVariables k (length θ) v)
  above_caps cap v t = (to, from)
    where
      from : IsAboveCap S (InModule k (listed k vs)) cap v t × InVariables k (length θ) v → IsAboveCap S (InGraph k θ gens B) cap v t
      from (a, h) = record { inside = (exact v).1 (a.inside, h); lead = a.lead; homogeneous = a.homogeneous; over = a.over; new = λ w s u. a.new w s ((exact w).0 u).0 }

      to : IsAboveCap S (InGraph k θ gens B) cap v t → IsAboveCap S (InModule k (listed k vs)) cap v t × InVariables k (length θ) v
      to a = (record { inside = ((exact v).0 a.inside).0; lead = a.lead; homogeneous = a.homogeneous; over = a.over; new = new }, ((exact v).0 a.inside).1)
        where
          new : (w : Vect k) (s : Key) → InModule k (listed k vs) w → IsUpTo S cap w → LeadBy k (key_order S) w s → ¬ KeyDivides s t
          new w s m low lead d =
              let r = length θ in
              let short : length t.1.0 ≤ r = ((exact v).0 a.inside).1 t (lead_there S v t a.lead) in
              let both : length (monomials.◌·◌ s.1 d.0).0 ≤ r = subst (λ (b : Mon). length b.0 ≤ r) (sym (monomials.comm s.1 d.0 ∙ ap (λ (q : Key). q.1) d.1)) short in
              let free = mark_part_none r s.1 (factor_length r s.1 d.0 both) in
              let chosen : Vect k = select k (rest_test k r monomials.one) w in
              let vars : InVariables k r chosen = λ q c. no_marks r q.1 (supp_select k (rest_test k r monomials.one) w q c) in
              a.new chosen s ((exact chosen).1 (module_rest k r monomials.one (listed k vs) given w m, vars))
              (select_supp k (rest_test k r monomials.one) (λ q. degree S q ≤ cap) w low)
              (select_lead k (rest_test k r monomials.one) (key_order S) w s lead free) d
