-- The members that list vectors, one by one.
use Rattle.std.proofs.Common.{◌≡◌, ◌↔◌, ◌+◌, ◌*◌, ◌<◌, ◌≤◌, ℕ, zero, suc, List, [], ◌∷◌, ◌++◌, length, take, get_or, sym, subst, arith}
use Rattle.std.specs.Prelude.{All, IsTrue}
use Rattle.std.proofs.lemmas.List.{take_all}
use Rattle.std.proofs.lemmas.List.Elements.{All-push, All-nil}
use Rattle.alg_core.specs.Keys.{key}
use Rattle.alg_core.specs.Spaces.{SpaceOver, entry, entries}
use Rattle.alg_core.specs.Vectors.{Vect}
use Rattle.alg_core.specs.declared.term.Term.{Term}
use Rattle.poly_module.specs.SpaceVectors.{IsPoly, IsPolyOf, IsVector, vector_of, vectors_of}
use Rattle.poly_module.proofs.ExponentBounds.{vec_supp, fits_keys}
use Rattle.poly_module.proofs.GreatestValues.{take_map}
use Rattle.lin_algebra.specs.declared.matrix.Matrix.{Matrix}
use Rattle.module_groebner.specs.Eliminations.{IsEliminated}
use Rattle.syzygy_kernel.specs.Graphs.{graph_space, last_part}
use Rattle.syzygy_kernel.specs.Kernels.{AreListedAs, IsListedAs}
use Rattle.syzygy_kernel.specs.declared.member.Member.{Member}

module _ {E : Type 0} (S : SpaceOver E) (n : ℕ) (ds : List ℕ) (gens : List (Matrix E)) (B : List (List ℕ)) where
  abbrev Terms : Type 0
  Terms = List (Term E (List ℕ))

  all_entries : (q : ℕ) (v : List (Term E (List ℕ))) → All (λ t. q ≤ t.at.pos) v → All (λ e. q ≤ e.0.0) (entries (λ (m : List ℕ). m) v)
  all_entries q [] h i d w = absurd (omega arith)
  all_entries q (t ∷ v) h zero d w = h 0 t (omega arith)
  all_entries q (t ∷ v) h (suc i) d w = all_entries q v (λ j e l. h (suc j) e (omega arith)) i d (omega arith)

  all_terms : (q : ℕ) (v : List (Term E (List ℕ))) → All (λ e. q ≤ e.0.0) (entries (λ (m : List ℕ). m) v) → All (λ t. q ≤ t.at.pos) v
  all_terms q [] h i d w = absurd (omega arith)
  all_terms q (t ∷ v) h zero d w = h 0 (entry (λ m. m) t) (omega arith)
  all_terms q (t ∷ v) h (suc i) d w = all_terms q v (λ j e l. h (suc j) e (omega arith)) i d (omega arith)

  -- no term is before the last part exactly where the vector has no other part
  eliminated : (q : ℕ) (v : List (Term E (List ℕ))) → IsVector (graph_space S.field ds (length gens) B) (λ (m : List ℕ). m) v → All (λ t. q ≤ t.at.pos) v ↔ IsEliminated S.field q (vector_of S (λ m. m) v)
  unfolding key
  eliminated q v fits = (
    λ h. vec_supp S.field (λ t. q ≤ t.0) (entries (λ m. m) v) (all_entries q v h),
    λ h. all_terms q v (fits_keys (graph_space S.field ds (length gens) B) (λ t. q ≤ t.0) (entries (λ m. m) v) fits h),
  )

  listed_push : (ws : List (Vect S.field)) (ms : List (Member E)) (w : Vect S.field) (m : Member E) → AreListedAs S.field n gens B ws ms → IsListedAs S.field n gens B w m
      → AreListedAs S.field n gens B (ws ++ w ∷ []) (ms ++ m ∷ [])
  listed_push [] [] w m h one = (one, tt)
  listed_push [] (m' ∷ ms) w m h one = absurd h
  listed_push (v ∷ ws) [] w m h one = absurd h
  listed_push (v ∷ ws) (m' ∷ ms) w m h one = (h.0, listed_push ws ms w m h.1 one)

  -- what the loop keeps
  pub record AreMembers (vs : List (List (Term E (List ℕ)))) (ms : List (Member E)) : Type 0 where
    pub polynomials : All (λ (m : Member E). IsPoly S (λ (a : List ℕ). a) m.u) ms
    pub listed : AreListedAs S.field n gens B (vectors_of S (λ m. m) vs) ms

  pub members_none : (vs : List (List (Term E (List ℕ)))) (ms : List (Member E)) → ms ≡ [] → AreMembers (take 0 vs) ms
  members_none vs ms e = record {
    polynomials = subst (All (λ (m : Member E). IsPoly S (λ (a : List ℕ). a) m.u)) (sym e) (All-nil (λ (m : Member E). IsPoly S (λ (a : List ℕ). a) m.u));
    listed = subst (AreListedAs S.field n gens B []) (sym e) tt;
  }

  pub members_more : (vs : List (List (Term E (List ℕ)))) (ms new : List (Member E)) (i : ℕ) (v : List (Term E (List ℕ))) (m : Member E) (first : ℕ) → i < length vs → v ≡ get_or vs i v
      → new ≡ ms ++ m ∷ [] → All (IsVector (graph_space S.field ds (length gens) B) (λ (m : List ℕ). m)) vs → first ≡ length gens * length B
      → IsPolyOf S (λ (a : List ℕ). a) (last_part S.field n gens B (vector_of S (λ m. m) v)) m.u
      → IsTrue m.is_fixed ↔ All (λ t. first ≤ t.at.pos) v → AreMembers (take i vs) ms → AreMembers (take (i + 1) vs) new
  members_more vs ms new i v m first l read push fit begins poly fixed h =
      let fits : IsVector (graph_space S.field ds (length gens) B) (λ (m : List ℕ). m) v = subst (IsVector (graph_space S.field ds (length gens) B) (λ (m : List ℕ). m)) (sym read) (fit i v l) in
      let exact = eliminated (length gens * length B) v fits in
      let fixed' : IsTrue m.is_fixed ↔ All (λ t. length gens * length B ≤ t.at.pos) v = subst (λ (q : ℕ). IsTrue m.is_fixed ↔ All (λ t. q ≤ t.at.pos) v) begins fixed in
      record {
        polynomials = subst (All (λ (m : Member E). IsPoly S (λ (a : List ℕ). a) m.u)) (sym push)
            (All-push (λ (m : Member E). IsPoly S (λ (a : List ℕ). a) m.u) ms m h.polynomials (record { fits = poly.fits; position = poly.position }));
        listed = subst (λ ws. AreListedAs S.field n gens B ws new) (sym (take_map (vector_of S (λ m. m)) vs i v l read))
            (subst (AreListedAs S.field n gens B (vectors_of S (λ m. m) (take i vs) ++ vector_of S (λ m. m) v ∷ [])) (sym push)
            (listed_push (vectors_of S (λ m. m) (take i vs)) ms (vector_of S (λ m. m) v) m h.listed
            (record { last = poly.is; fixed = (λ t. exact.0 (fixed'.0 t), λ e. fixed'.1 (exact.1 e)) })));
      }

  pub members_all : (vs : List (List (Term E (List ℕ)))) (ms : List (Member E)) (i : ℕ) → length vs ≤ i → AreMembers (take i vs) ms → AreMembers vs ms
  members_all vs ms i past h = subst (λ l. AreMembers l ms) (take_all i vs past) h
