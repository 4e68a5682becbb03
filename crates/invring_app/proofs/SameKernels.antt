-- Matrices with the same cells have the same graph of differences, and the same kernel evidence.
use Rattle.std.proofs.Common.{◌≡◌, ◌∙◌, ◌-◌, ◌*◌, ◌<◌, ℕ, suc, List, [], ◌∷◌, length, map, sym, ap, subst}
use Rattle.std.specs.Prelude.{◌↔◌, IsTrue, slice_get, nat_lt, if◌then◌else◌}
use Rattle.std.proofs.lemmas.List.{length-map}
use Rattle.alg_core.specs.Fields.{FieldOn, scalars}
use Rattle.alg_core.specs.FreeModules.{extend}
use Rattle.alg_core.specs.Keys.{key_same}
use Rattle.alg_core.specs.Spaces.{SpaceOver}
use Rattle.alg_core.specs.Vectors.{Vect, vectors, plus, zero_vector}
use Rattle.poly_module.specs.Combinations.{IsCombination, combination_value}
use Rattle.poly_module.specs.Polynomials.{single_vector}
use Rattle.poly_module.specs.ReducedLists.{IsReducedBasisOf}
use Rattle.lin_algebra.specs.declared.matrix.Matrix.{Matrix}
use Rattle.matrix_group.specs.Actions.{act_by}
use Rattle.module_groebner.specs.Eliminations.{IsEliminated}
use Rattle.primary_module.specs.Positions.{key_from_position}
use Rattle.syzygy_kernel.specs.Graphs.{part_values, InGraph, graph_space, last_part}
use Rattle.syzygy_kernel.specs.Kernels.{AreKernel, AreListedAs}
use Rattle.syzygy_kernel.specs.declared.member.Member.{Member}
use Rattle.cert_check.proofs.MadeLists.{place_there}
use Rattle.cert_check.proofs.MadePlaces.{same_some, place_map, place_within}
use Rattle.invring_app.proofs.EndingLaws.{shape, same-action}

-- a reduced basis of a set is one of a set with the same members
same-reduced : (S : SpaceOver ℕ) (U V : Vect S.field → Type 0) (vs : List (Vect S.field)) → ((f : Vect S.field) → U f → V f) → ((f : Vect S.field) → V f → U f)
    → IsReducedBasisOf S U vs → IsReducedBasisOf S V vs
same-reduced S U V vs to from h =
    let r = h.reduced in
    record {
      reduced = record {
        inside = λ v is. to v (r.inside v is);
        lead = r.lead;
        monic = r.monic;
        covers = λ v t is. r.covers v t (from v is);
        apart = r.apart;
        falling = r.falling;
      };
      generates = λ v is. h.generates v (from v is);
    }

module _ (ms os : List (Matrix ℕ)) (e : map shape ms ≡ map shape os) where
  pub same-count : length ms ≡ length os
  same-count = sym (length-map ms shape) ∙ ap length e ∙ length-map os shape

  module _ (k : FieldOn ℕ) (B : List (List ℕ)) where
    module _ (θ : List (Vect k)) where
      -- the value of a part, of so many parts before the last
      abbrev value : ℕ → ℕ → Vect k → Vect k
      value c i w = combination_value k θ (part_values k B (suc c) i) w

      graph-by : (w : Vect k) → InGraph k θ ms B w → InGraph k θ os B w
      graph-by w a = record {
        positions = subst (λ (c : ℕ). IsCombination k (length θ) (suc c * length B) w) same-count a.positions;
        differences = λ i o q.
            let there = place_there ms i (subst (λ (c : ℕ). i < c) (sym same-count) (place_within os i o q)) in
            let m = there.0 in
            let alike = same_some (shape m) (shape o) (sym (place_map shape ms i m there.1) ∙ ap (λ l. slice_get l i) e ∙ place_map shape os i o q) in
            subst (λ (c : ℕ). plus k (value c i w) (value c c w) ≡ act_by k m (value c c w)) same-count (a.differences i m there.1)
            ∙ same-action k m o (value (length os) (length os) w) alike;
      }

    module _ (n : ℕ) where
      last-by : (w : Vect k) → last_part k n ms B w ≡ last_part k n os B w
      unfolding last_part
      last-by w = ap (λ (c : ℕ). extend (scalars k) key_same (vectors k)
          (λ t. if nat_lt t.0 (c * length B) then zero_vector k else single_vector k (key_from_position k n B (t.0 - c * length B, t.1))) w) same-count

      listed-by : (ws : List (Vect k)) (ls : List (Member ℕ)) → AreListedAs k n ms B ws ls → AreListedAs k n os B ws ls
      listed-by [] [] h = tt
      listed-by [] (l ∷ ls) h = absurd h
      listed-by (w ∷ ws) [] h = absurd h
      listed-by (w ∷ ws) (l ∷ ls) h = (
        record {
          last = h.0.last ∙ last-by w;
          fixed = subst (λ (c : ℕ). IsTrue l.is_fixed ↔ IsEliminated k (c * length B) w) same-count h.0.fixed;
        },
        listed-by ws ls h.1,
      )

module _ (ms os : List (Matrix ℕ)) (e : map shape ms ≡ map shape os) (k : FieldOn ℕ) where
  pub same-kernel : (n : ℕ) (ds : List ℕ) (θ : List (Vect k)) (B : List (List ℕ)) (ls : List (Member ℕ)) → AreKernel k n ds θ ms B ls → AreKernel k n ds θ os B ls
  same-kernel n ds θ B ls a = record {
    basis = a.basis;
    reduced = subst (λ (c : ℕ). IsReducedBasisOf (graph_space k ds c B) (InGraph k θ os B) a.basis) (same-count ms os e)
        (same-reduced (graph_space k ds (length ms) B) (InGraph k θ ms B) (InGraph k θ os B) a.basis (graph-by ms os e k B θ) (graph-by os ms (sym e) k B θ) a.reduced);
    listed_as = listed-by ms os e k B n a.basis ls a.listed_as;
  }
