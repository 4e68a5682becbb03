-- The terms of the last part of a vector, one by one.
use Rattle.std.proofs.Common.{◌≡◌, ◌∙◌, ◌+◌, ◌-◌, ◌*◌, ◌<◌, ◌≤◌, ℕ, zero, suc, List, [], ◌∷◌, ◌++◌, length, take, drop, get_or, refl, sym, ap, ap₂, subst, arith, suc-mul}
use Rattle.std.specs.Prelude.{All}
use Rattle.std.proofs.lemmas.List.{take_all, take_more, map-append, length-append}
use Rattle.std.proofs.lemmas.List.Elements.{All-push, All-nil}
use Rattle.alg_core.specs.Fields.{FieldOn, Has, scalar}
use Rattle.alg_core.specs.Keys.{key}
use Rattle.alg_core.specs.ModuleLaws as modules
use Rattle.alg_core.specs.MonomialParts.{variable_part, mark_part, as_marks}
use Rattle.alg_core.specs.Monomials.{Mon, monomials, mono}
use Rattle.alg_core.specs.Spaces.{SpaceOver, IsPlace, IsTerm, entry, entries}
use Rattle.alg_core.specs.Vectors.{Entry, vectors, vec, plus, scale, zero_vector}
use Rattle.alg_core.specs.declared.term.Term.{Term}
use Rattle.alg_core.proofs.MonomialParts.{parts}
use Rattle.alg_core.proofs.VectorLaws.{vec_nothing, vec_append, plus_zero, scale_zero_vector}
use Rattle.poly_module.specs.Polynomials.{single_vector}
use Rattle.poly_module.specs.SpaceVectors.{ArePlaced, HasPolynomials, IsPolyOf, IsVector, IsVectorOf, vector_of}
use Rattle.poly_module.proofs.ConstantSteps.{polynomial_place}
use Rattle.poly_module.proofs.EntryLists.{entry_at}
use Rattle.poly_module.proofs.ExponentBounds.{vec_scaled, vec_supp}
use Rattle.poly_module.proofs.SpaceVectorLaws.{poly_given}
use Rattle.lin_algebra.specs.declared.matrix.Matrix.{Matrix}
use Rattle.primary_module.specs.Positions.{part_at}
use Rattle.syzygy_kernel.specs.Graphs.{graph_space, last_part}
use Rattle.syzygy_kernel.proofs.GivenDifferences.{part_read}
use Rattle.syzygy_kernel.proofs.GraphLists.{graph_shifts}
use Rattle.syzygy_kernel.proofs.LastParts.{last_linear, last_early, last_own}
use Rattle.syzygy_kernel.proofs.ListedParts.{listed_variables, listed_marks}

taken_front : (b a : List ℕ) → take (length b) (b ++ a) ≡ b
taken_front [] a = refl
taken_front (x ∷ b) a = ap (λ l. x ∷ l) (taken_front b a)

dropped_front : (b a : List ℕ) → drop (length b) (b ++ a) ≡ a
dropped_front [] a = refl
dropped_front (x ∷ b) a = dropped_front b a

-- variables, and marks after them
pub joined : (n : ℕ) (b a : List ℕ) → length b ≡ n → monomials.◌·◌ (mono b) (as_marks n (mono a)) ≡ mono (b ++ a)
joined n b a e =
    let v : variable_part n (mono (b ++ a)) ≡ mono b = listed_variables n (b ++ a) ∙ ap mono (ap (λ (i : ℕ). take i (b ++ a)) (sym e) ∙ taken_front b a) in
    let m : mark_part n (mono (b ++ a)) ≡ mono a = listed_marks n (b ++ a) ∙ ap mono (ap (λ (i : ℕ). drop i (b ++ a)) (sym e) ∙ dropped_front b a) in
    sym (ap₂ (λ (x y : Mon). monomials.◌·◌ x (as_marks n y)) v m) ∙ parts n (mono (b ++ a))

module _ {E : Type 0} (S : SpaceOver E) (n : ℕ) (ds : List ℕ) (gens : List (Matrix E)) (B : List (List ℕ)) where
  abbrev k : FieldOn E
  k = S.field

  abbrev G : SpaceOver E
  G = graph_space S.field ds (length gens) B

  -- the place in the last part
  pub last_place : (xs : List (Term E (List ℕ))) (i : ℕ) (x : Term E (List ℕ)) → i < length xs → x ≡ get_or xs i x → IsVector (graph_space S.field ds (length gens) B) (λ (m : List ℕ). m) xs
      → length gens * length B ≤ x.at.pos → x.at.pos - length gens * length B < length B
  last_place xs i x l e fits high =
      let low = (entry_at G (λ (m : List ℕ). m) xs i x l e fits).place.low in
      let all = graph_shifts S.field ds (length gens) B G refl in
      let s = suc-mul (length gens) (length B) in
      omega arith

  -- what the loop keeps
  pub record AreLast (xs made : List (Term E (List ℕ))) : Type 0 where
    pub placed : ArePlaced S (λ m. m) made
    pub position : All (λ e. e.0.0 ≡ 0) (entries (λ (m : List ℕ). m) made)
    pub is : vector_of S (λ m. m) made ≡ last_part S.field n gens B (vector_of S (λ m. m) xs)

  pub last_none : (xs made : List (Term E (List ℕ))) → made ≡ [] → AreLast (take 0 xs) made
  unfolding zero_vector
  last_none xs made e = record {
    placed = subst (ArePlaced S (λ m. m)) (sym e) (All-nil (λ (e : Entry E). Has S.field e.1 × IsPlace S e.0));
    position = subst (λ l. All (λ e. e.0.0 ≡ 0) (entries (λ (m : List ℕ). m) l)) (sym e) (All-nil (λ (e : Entry E). e.0.0 ≡ 0));
    is = ap (vector_of S (λ m. m)) e ∙ vec_nothing k ∙ sym (ap (last_part k n gens B) (vec_nothing k) ∙ last_zero);
  }
    where
      last_zero : last_part S.field n gens B (zero_vector S.field) ≡ zero_vector S.field
      last_zero = modules.linear_zero (vectors k) (vectors k) (last_part k n gens B) (last_linear k n gens B)

  module _ (xs made : List (Term E (List ℕ))) (i : ℕ) (x : Term E (List ℕ)) (l : i < length xs) (read : x ≡ get_or xs i x) (before : AreLast (take i xs) made) where
    next : vector_of S (λ m. m) (take (i + 1) xs) ≡ plus S.field (vector_of S (λ m. m) (take i xs)) (vec S.field (entry (λ (m : List ℕ). m) x ∷ []))
    next = ap (vector_of S (λ m. m)) (take_more xs i x l ∙ ap (λ y. take i xs ++ y ∷ []) (sym read))
        ∙ ap (vec k) (map-append (entry (λ m. m)) (take i xs) (x ∷ [])) ∙ vec_append k (entries (λ m. m) (take i xs)) (entry (λ m. m) x ∷ [])

    last_next : last_part S.field n gens B (vector_of S (λ m. m) (take (i + 1) xs))
        ≡ plus S.field (last_part S.field n gens B (vector_of S (λ m. m) (take i xs))) (scale S.field x.coef (last_part S.field n gens B (single_vector S.field (x.at.pos, mono x.at.mono))))
    unfolding plus scale key
    last_next = ap (last_part k n gens B) next ∙ (last_linear k n gens B).add _ _
        ∙ ap (plus k _) (ap (last_part k n gens B) (vec_scaled k (entry (λ m. m) x)) ∙ (last_linear k n gens B).act (scalar k x.coef) _)

    pub last_skipped : x.at.pos < length gens * length B → AreLast (take (i + 1) xs) made
    last_skipped low = record {
      placed = before.placed;
      position = before.position;
      is = before.is ∙ sym (last_next ∙ ap (plus k _) (ap (scale k x.coef) (last_early k n gens B (x.at.pos, mono x.at.mono) low) ∙ scale_zero_vector k x.coef) ∙ plus_zero k _);
    }

    module _ (polynomials : HasPolynomials S) (wide : All (λ b. length b ≡ n) B) (weights : length S.weights ≡ n + length ds)
        (fits : IsVector (graph_space S.field ds (length gens) B) (λ (m : List ℕ). m) xs) (high : length gens * length B ≤ x.at.pos)
        (b : List ℕ) (there : b ≡ get_or B (x.at.pos - length gens * length B) b) (a : List ℕ) (is_a : a ≡ b ++ x.at.mono)
        (new : List (Term E (List ℕ))) (push : new ≡ made ++ (record { coef = x.coef; at = record { pos = 0; mono = a } }) ∷ []) where
      term : IsTerm (graph_space S.field ds (length gens) B) (entry (λ (m : List ℕ). m) x)
      term = entry_at G (λ (m : List ℕ). m) xs i x l read fits

      place : x.at.pos - length gens * length B < length B
      place = last_place xs i x l read fits high

      long : length b ≡ n
      long = subst (λ c. length c ≡ n) (sym there) (wide (x.at.pos - length gens * length B) b place)

      here : part_at B (x.at.pos - length gens * length B) ≡ mono b
      here = part_read B (x.at.pos - length gens * length B) place ∙ ap mono (default B (x.at.pos - length gens * length B) b place ∙ sym there)
        where
          default : (B : List (List ℕ)) (j : ℕ) (b : List ℕ) → j < length B → get_or B j [] ≡ get_or B j b
          default [] j b h = absurd (omega arith)
          default (c ∷ B) zero b h = refl
          default (c ∷ B) (suc j) b h = default B j b (omega arith)

      one : vec S.field (((0, a), x.coef) ∷ []) ≡ scale S.field x.coef (last_part S.field n gens B (single_vector S.field (x.at.pos, mono x.at.mono)))
      unfolding key
      one = vec_scaled k ((0, a), x.coef) ∙ ap (scale k x.coef) (ap (λ (m : Mon). single_vector k (0, m))
          (ap mono is_a ∙ sym (joined n b x.at.mono long) ∙ ap (λ (m : Mon). monomials.◌·◌ m (as_marks n (mono x.at.mono))) (sym here))
          ∙ sym (last_own k n gens B (x.at.pos, mono x.at.mono) high))

      pub last_kept : AreLast (take (i + 1) xs) new
      last_kept =
          let split : entries (λ (m : List ℕ). m) new ≡ entries (λ (m : List ℕ). m) made ++ ((0, a), x.coef) ∷ [] = ap (entries (λ m. m)) push ∙ map-append (entry (λ m. m)) made _ in
          let size : length a ≡ length S.weights = ap length is_a ∙ length-append b x.at.mono ∙ (let w = term.place.wide in let e = weights in let f = long in omega arith) in
          record {
            placed = subst (All (λ (e : Entry E). Has S.field e.1 × IsPlace S e.0)) (sym split)
                (All-push (λ (e : Entry E). Has S.field e.1 × IsPlace S e.0) (entries (λ m. m) made) ((0, a), x.coef) before.placed (term.has, polynomial_place S polynomials a size));
            position = subst (All (λ (e : Entry E). e.0.0 ≡ 0)) (sym split) (All-push (λ (e : Entry E). e.0.0 ≡ 0) (entries (λ m. m) made) ((0, a), x.coef) before.position refl);
            is = ap (vec k) split ∙ vec_append k (entries (λ m. m) made) (((0, a), x.coef) ∷ []) ∙ ap₂ (plus k) before.is one ∙ sym last_next;
          }

  pub last_given : (xs made : List (Term E (List ℕ))) (i : ℕ) (v : List (Term E (List ℕ))) → length xs ≤ i → AreLast (take i xs) made
      → IsVectorOf S (λ (m : List ℕ). m) (vector_of S (λ m. m) made) v → IsPolyOf S (λ (m : List ℕ). m) (last_part S.field n gens B (vector_of S (λ m. m) xs)) v
  unfolding key
  last_given xs made i v past h is =
      subst (λ u. IsPolyOf S (λ (m : List ℕ). m) u v) (h.is ∙ ap (λ l. last_part k n gens B (vector_of S (λ m. m) l)) (take_all i xs past))
      (poly_given S (λ (m : List ℕ). m) (vector_of S (λ m. m) made) v is (vec_supp k (λ t. t.0 ≡ 0) (entries (λ m. m) made) h.position))
