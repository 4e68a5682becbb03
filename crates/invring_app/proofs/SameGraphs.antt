-- The graphs of matrices with the same cells: they have the same elements, the same kernel lists, and the same elements above a cap.
use Rattle.std.proofs.Common.{◌≡◌, ◌∙◌, ℕ, zero, suc, ◌*◌, ◌-◌, List, [], ◌∷◌, length, map, Some, refl, sym, ap, subst, arith}
use Rattle.std.specs.Prelude.{IsTrue, ◌↔◌, slice_get, nat_lt, if◌then◌else◌}
use Rattle.std.proofs.lemmas.List.{length-map}
use Rattle.std.proofs.lemmas.Option.{same_Some}
use Rattle.alg_core.specs.Fields.{FieldOn, scalars}
use Rattle.alg_core.specs.FreeModules.{extend}
use Rattle.alg_core.specs.Keys.{Key, key_same}
use Rattle.alg_core.specs.Spaces.{SpaceOver}
use Rattle.alg_core.specs.Vectors.{Vect, vectors, plus, zero_vector}
use Rattle.poly_module.specs.Caps.{IsAboveCap}
use Rattle.poly_module.specs.Combinations.{combination_value, IsCombination}
use Rattle.poly_module.specs.Polynomials.{single_vector}
use Rattle.poly_module.specs.ReducedLists.{IsReducedBasisOf}
use Rattle.poly_module.specs.SpaceVectors.{vector_of}
use Rattle.lin_algebra.specs.declared.matrix.Matrix.{Matrix}
use Rattle.matrix_group.specs.Actions.{act_by}
use Rattle.module_groebner.specs.BasisBounds.{IsBasisBound}
use Rattle.module_groebner.specs.Eliminations.{IsEliminated}
use Rattle.module_groebner.specs.declared.bound.BasisBound.{BasisBound}
use Rattle.module_groebner.specs.declared.bound.Which.{Which}
use Rattle.primary_module.specs.Positions.{key_from_position}
use Rattle.syzygy_kernel.specs.Graphs.{part_values, InGraph, graph_space, last_part}
use Rattle.syzygy_kernel.specs.Kernels.{AreKernel, AreListedAs}
use Rattle.syzygy_kernel.specs.declared.member.Member.{Member}
use Rattle.invring_app.proofs.EndingLaws.{shape, same-action}

-- the same set, told in another way
module _ {E : Type 0} (S : SpaceOver E) (U V : Vect S.field → Type 0) (to : (v : Vect S.field) → U v → V v) (from : (v : Vect S.field) → V v → U v) where
  above-set : (cap : ℕ) (v : Vect S.field) (t : Key) → IsAboveCap S U cap v t → IsAboveCap S V cap v t
  above-set cap v t a = record {
    inside = to v a.inside;
    lead = a.lead;
    homogeneous = a.homogeneous;
    over = a.over;
    new = λ w s inside. a.new w s (from w inside);
  }

  reduced-set : (vs : List (Vect S.field)) → IsReducedBasisOf S U vs → IsReducedBasisOf S V vs
  reduced-set vs a =
      let r = a.reduced in
      record {
        reduced = record {
          inside = λ v i. to v (r.inside v i);
          lead = r.lead;
          monic = r.monic;
          covers = λ v t inside. r.covers v t (from v inside);
          apart = r.apart;
          falling = r.falling;
        };
        generates = λ v inside. a.generates v (from v inside);
      }

module _ {E : Type 0} (S : SpaceOver E) (U V : Vect S.field → Type 0) (to : (v : Vect S.field) → U v → V v) (from : (v : Vect S.field) → V v → U v) (cap : ℕ) where
  bound-set : (w : Which) (b : BasisBound E) → IsBasisBound S U cap w b → IsBasisBound S V cap w b
  bound-set w b a = record {
    fits = a.fits;
    lead = a.lead;
    above = above-set S U V to from cap (vector_of S (λ m. m) b.vector) a.lead a.above;
    reached = a.reached;
    least = λ v t h. a.least v t (above-set S V U from to cap v t h);
    which = a.which;
  }

-- the least degree of an element above a cap
pub least-one : {E : Type 0} (S : SpaceOver E) (U : Vect S.field → Type 0) (cap : ℕ) (w : Which) (b c : BasisBound E) → IsBasisBound S U cap w b → IsBasisBound S U cap w c → b.degree ≡ c.degree
least-one S U cap w b c h g =
    let x = h.least (vector_of S (λ m. m) c.vector) g.lead g.above in
    let y = g.least (vector_of S (λ m. m) b.vector) h.lead h.above in
    let p = h.reached in
    let q = g.reached in
    omega arith

at-place : (ms os : List (Matrix ℕ)) → map shape ms ≡ map shape os → (i : ℕ) (o : Matrix ℕ) → slice_get os i ≡ Some o → (m : Matrix ℕ) × (slice_get ms i ≡ Some m) × (shape m ≡ shape o)
at-place ms [] e i o h = absurd cc
at-place [] (x ∷ os) e i o h = absurd cc
at-place (m ∷ ms) (x ∷ os) e zero o h = let first : shape m ≡ shape x = cc in (m, refl, first ∙ ap shape (same_Some x o h))
at-place (m ∷ ms) (x ∷ os) e (suc i) o h = let rest : map shape ms ≡ map shape os = cc in at-place ms os rest i o h

module _ (k : FieldOn ℕ) (ms os : List (Matrix ℕ)) (e : map shape ms ≡ map shape os) where
  same-length : length ms ≡ length os
  same-length = sym (length-map ms shape) ∙ ap length e ∙ length-map os shape

  abbrev Value : List (Vect k) → List (List ℕ) → ℕ → ℕ → Vect k → Vect k
  Value θ B c i w = combination_value k θ (part_values k B (suc c) i) w

  graph-by : (θ : List (Vect k)) (B : List (List ℕ)) (w : Vect k) → InGraph k θ ms B w → InGraph k θ os B w
  graph-by θ B w a = record {
    positions = subst (λ (c : ℕ). IsCombination k (length θ) (suc c * length B) w) same-length a.positions;
    differences = λ i o h.
        let m = at-place ms os e i o h in
        subst (λ (c : ℕ). plus k (Value θ B c i w) (Value θ B c c w) ≡ act_by k o (Value θ B c c w)) same-length
        (a.differences i m.0 m.1 ∙ same-action k m.0 o (Value θ B (length ms) (length ms) w) m.2);
  }

  module _ (n : ℕ) (B : List (List ℕ)) where
    last-same : (w : Vect k) → last_part k n ms B w ≡ last_part k n os B w
    unfolding last_part
    last-same w = ap (λ (c : ℕ). extend (scalars k) key_same (vectors k) (λ t. if nat_lt t.0 (c * length B) then zero_vector k else single_vector k (key_from_position k n B (t.0 - c * length B, t.1))) w) same-length

    listed-by : (ws : List (Vect k)) (ls : List (Member ℕ)) → AreListedAs k n ms B ws ls → AreListedAs k n os B ws ls
    listed-by [] [] a = a
    listed-by [] (l ∷ ls) a = a
    listed-by (w ∷ ws) [] a = a
    listed-by (w ∷ ws) (l ∷ ls) a = (record { last = a.0.last ∙ last-same w; fixed = subst (λ (c : ℕ). IsTrue l.is_fixed ↔ IsEliminated k (c * length B) w) same-length a.0.fixed }, listed-by ws ls a.1)

module _ (k : FieldOn ℕ) (ms os : List (Matrix ℕ)) (e : map shape ms ≡ map shape os) (θ : List (Vect k)) (B : List (List ℕ)) (ds : List ℕ) where
  abbrev T : ℕ → SpaceOver ℕ
  T c = graph_space k ds c B

  abbrev to : (w : Vect k) → InGraph k θ ms B w → InGraph k θ os B w
  to = graph-by k ms os e θ B

  abbrev from : (w : Vect k) → InGraph k θ os B w → InGraph k θ ms B w
  from = graph-by k os ms (sym e) θ B

  pub kernel-by : (n : ℕ) (ls : List (Member ℕ)) → AreKernel k n ds θ ms B ls → AreKernel k n ds θ os B ls
  kernel-by n ls a = record {
    basis = a.basis;
    reduced = reduced-set (T (length os)) (InGraph k θ ms B) (InGraph k θ os B) to from a.basis
        (subst (λ (c : ℕ). IsReducedBasisOf (T c) (InGraph k θ ms B) a.basis) (same-length k ms os e) a.reduced);
    listed_as = listed-by k ms os e n B a.basis ls a.listed_as;
  }

  pub bound-by : (cap : ℕ) (w : Which) (b : BasisBound ℕ) → IsBasisBound (T (length ms)) (InGraph k θ ms B) cap w b → IsBasisBound (T (length os)) (InGraph k θ os B) cap w b
  bound-by cap w b a = bound-set (T (length os)) (InGraph k θ ms B) (InGraph k θ os B) to from cap w b
      (subst (λ (c : ℕ). IsBasisBound (T c) (InGraph k θ ms B) cap w b) (same-length k ms os e) a)
