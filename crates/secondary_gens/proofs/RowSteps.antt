-- The rows of the elimination, step by step.
use Rattle.std.proofs.Common.{◌≡◌, ℕ, ◌+◌, ◌<◌, ◌≤◌, List, [], ◌∷◌, ◌++◌, length, map, get_or, take, drop, sym, ap, ap₂, ◌∙◌, subst, arith}
use Rattle.std.specs.Prelude.{All}
use Rattle.std.proofs.lemmas.List.{take_more, map-append, take-append-drop, drop_more, take_all}
use Rattle.std.proofs.lemmas.List.Elements.{All-push}
use Rattle.alg_core.specs.Fields.{Has, scalar, scalars, scalar_mul, scalar_one, scalar_zero}
use Rattle.alg_core.specs.Keys.{Key}
use Rattle.alg_core.specs.Spaces.{SpaceOver, Fits, IsPlace, IsTerm, place, entry, entries}
use Rattle.alg_core.specs.Vectors.{Vect, vec, vectors, coef_at, plus, scale, zero_vector}
use Rattle.alg_core.specs.declared.term.Term.{Term}
use Rattle.alg_core.proofs.VectorLaws.{coef_at_scale, plus_zero}
use Rattle.poly_module.specs.Echelons.{Spans}
use Rattle.poly_module.specs.Parts.{supp_scale}
use Rattle.poly_module.specs.Signs.{minus}
use Rattle.poly_module.specs.SpaceVectors.{vector_of, IsVectorOf, IsPoly}
use Rattle.poly_module.proofs.SpaceVectorLaws.{is_polynomial, minus_unique, poly_given, poly_of, supp_minus}
use Rattle.secondary_gens.specs.declared.elimination.Row.{Row}
use Rattle.secondary_gens.specs.Eliminations.{IsTriangular, IsReducedBy, IsEchelonOf, line_of, lines_of, IsRowOver}
use Rattle.secondary_gens.proofs.Triangular.{reduced_none, reduced_more, echelon_same, echelon_more, fresh, spanned}

module _ {E : Type 0} (S : SpaceOver E) where
  abbrev Terms : Type 0
  Terms = List (Term E (List ℕ))

  abbrev x : Terms → Vect S.field
  x v = vector_of S (λ m. m) v

  -- multiples and differences of polynomials
  pub multiple_poly : (c : E) (w v : Terms) → IsPoly S (λ m. m) w → IsVectorOf S (λ m. m) (scale S.field c (x w)) v → IsPoly S (λ m. m) v
  multiple_poly c w v h g = poly_of S (λ m. m) (scale S.field c (x w)) v (poly_given S (λ m. m) (scale S.field c (x w)) v g (supp_scale S.field (λ t. t.0 ≡ 0) c (x w) (is_polynomial S (λ m. m) w h)))

  pub difference_poly : (u w v : Terms) → IsPoly S (λ m. m) u → IsPoly S (λ m. m) w → IsVectorOf S (λ m. m) (minus S.field (x u) (x w)) v → IsPoly S (λ m. m) v
  difference_poly u w v h e g = poly_of S (λ m. m) (minus S.field (x u) (x w)) v (poly_given S (λ m. m) (minus S.field (x u) (x w)) v g
      (supp_minus S.field (λ t. t.0 ≡ 0) (x u) (x w) (is_polynomial S (λ m. m) u h) (is_polynomial S (λ m. m) w e)))

  pub copied_poly : (u v : Terms) → entries (λ m. m) v ≡ entries (λ m. m) u → IsPoly S (λ m. m) u → IsPoly S (λ m. m) v
  copied_poly u v e h = record {
    fits = subst (λ es. Fits S es) (sym e) h.fits;
    position = subst (λ es. All (λ f. f.0.0 ≡ 0) es) (sym e) h.position;
  }

  -- a polynomial less a multiple of a row
  pub less_zero : (v : Terms) (factor : E) (u : Vect S.field) → factor ≡ S.field.zero → x v ≡ minus S.field (x v) (scale S.field factor u)
  unfolding scale zero_vector
  less_zero v factor u zero = minus_unique S.field (x v) (x v) (scale S.field factor u) (ap (plus S.field (x v)) (ap (λ c. (vectors S.field).◌·◌ c u) (ap (scalar S.field) zero ∙ scalar_zero S.field) ∙ (vectors S.field).zero_act u) ∙ plus_zero S.field (x v))

  pub less_other : (v w multiple : Terms) (u : Vect S.field) → IsVectorOf S (λ m. m) u multiple → IsVectorOf S (λ m. m) (minus S.field (x v) (x multiple)) w → x w ≡ minus S.field (x v) u
  less_other v w multiple u times less = less.is ∙ ap (minus S.field (x v)) times.is

  -- so far the multiples of the first rows are taken away
  pub record Taken (rows : List (Row E)) (v : Terms) (i : ℕ) (rest : Terms) (factors : List E) : Type 0 where
    pub polynomial : IsPoly S (λ m. m) rest
    pub has : All (Has S.field) factors
    pub reduced : IsReducedBy S.field (lines_of S (take i rows)) (x v) (x rest) (map (scalar S.field) factors)

  pub taken_none : (rows : List (Row E)) (v rest : Terms) (factors : List E) → IsPoly S (λ m. m) v → entries (λ m. m) rest ≡ entries (λ m. m) v → factors ≡ [] → Taken rows v 0 rest factors
  taken_none rows v rest factors h e none = record {
    polynomial = copied_poly v rest e h;
    has = subst (All (Has S.field)) (sym none) (λ i d l. absurd (omega arith));
    reduced = subst (λ fs. IsReducedBy S.field [] (x v) (x rest) (map (scalar S.field) fs)) (sym none)
        (subst (λ es. IsReducedBy S.field [] (x v) (vec S.field es) []) (sym e) (reduced_none S.field (x v)));
  }

  module _ (rows : List (Row E)) (i : ℕ) (r : Row E) (inside : i < length rows) (read : r ≡ get_or rows i r) where
    lines_more : lines_of S (take (i + 1) rows) ≡ lines_of S (take i rows) ++ line_of S r ∷ []
    lines_more = ap (lines_of S) (take_more rows i r inside ∙ ap (λ y. take i rows ++ y ∷ []) (sym read)) ∙ map-append (line_of S) (take i rows) (r ∷ [])

    lines_split : lines_of S rows ≡ lines_of S (take i rows) ++ line_of S r ∷ lines_of S (drop (i + 1) rows)
    lines_split = ap (lines_of S) (sym (take-append-drop i rows) ∙ ap (λ l. take i rows ++ l) (drop_more rows i r inside ∙ ap (λ y. y ∷ drop (i + 1) rows) (sym read))) ∙ map-append (line_of S) (take i rows) (r ∷ drop (i + 1) rows)

    pub taken_more : (v rest new : Terms) (factor : E) (factors more : List E) → IsTriangular S.field (lines_of S rows) → Has S.field factor → scalar S.field factor ≡ coef_at S.field (x rest) (line_of S r).0
        → IsPoly S (λ m. m) new → x new ≡ minus S.field (x rest) (scale S.field factor (x r.vector)) → more ≡ factors ++ factor ∷ [] → Taken rows v i rest factors → Taken rows v (i + 1) new more
    unfolding scale
    taken_more v rest new factor factors more triangular has value polynomial less push was = record {
      polynomial = polynomial;
      has = subst (All (Has S.field)) (sym push) (All-push (Has S.field) factors factor was.has has);
      reduced = subst (λ fs. IsReducedBy S.field (lines_of S (take (i + 1) rows)) (x v) (x new) (map (scalar S.field) fs)) (sym push)
          (subst (λ fs. IsReducedBy S.field (lines_of S (take (i + 1) rows)) (x v) (x new) fs) (sym (map-append (scalar S.field) factors (factor ∷ [])))
          (subst (λ ls. IsReducedBy S.field ls (x v) (x new) (map (scalar S.field) factors ++ scalar S.field factor ∷ [])) (sym lines_more)
          (subst (λ c. IsReducedBy S.field (lines_of S (take i rows) ++ line_of S r ∷ []) (x v) (x new) (map (scalar S.field) factors ++ c ∷ [])) (sym value)
          (subst (λ w. IsReducedBy S.field (lines_of S (take i rows) ++ line_of S r ∷ []) (x v) w (map (scalar S.field) factors ++ coef_at S.field (x rest) (line_of S r).0 ∷ [])) (sym left)
          (reduced_more S.field (lines_of S (take i rows)) (line_of S r) (lines_of S (drop (i + 1) rows)) (x v) (x rest) (map (scalar S.field) factors)
          (subst (IsTriangular S.field) lines_split triangular) was.reduced)))));
    }
      where
        left : x new ≡ minus S.field (x rest) ((vectors S.field).◌·◌ (coef_at S.field (x rest) (line_of S r).0) (line_of S r).1)
        left = less ∙ ap (λ c. minus S.field (x rest) ((vectors S.field).◌·◌ c (x r.vector))) value

  pub taken_all : (rows : List (Row E)) (v rest : Terms) (i : ℕ) (factors : List E) → length rows ≤ i → Taken rows v i rest factors
      → IsReducedBy S.field (lines_of S rows) (x v) (x rest) (map (scalar S.field) factors)
  taken_all rows v rest i factors past h = subst (λ rs. IsReducedBy S.field (lines_of S rs) (x v) (x rest) (map (scalar S.field) factors)) (take_all i rows past) h.reduced

  -- the row of a polynomial with a lead
  pub row_made : (w v : Terms) (b : E) (r : Row E) (t : Term E (List ℕ)) → IsPoly S (λ m. m) w → IsTerm S (entry (λ m. m) t) → place (λ m. m) r.pivot ≡ place (λ m. m) t.at
      → r.vector ≡ v → IsVectorOf S (λ m. m) (scale S.field b (x w)) v → IsRowOver S r
  row_made w v b r t h term at same times = record {
    place = subst (IsPlace S) (sym at) term.place;
    polynomial = subst (IsPoly S (λ m. m)) (sym same) (multiple_poly b w v h times);
  }

  pub row_multiple : (w v : Terms) (b : E) → IsVectorOf S (λ m. m) (scale S.field b (x w)) v → x v ≡ (vectors S.field).◌·◌ (scalar S.field b) (x w)
  unfolding scale
  row_multiple w v b times = times.is

  pub row_one : (w v : Terms) (a b : E) (s t : Key) → Has S.field a → Has S.field b → S.field.mul a b ≡ S.field.one → s ≡ t → coef_at S.field (x w) t ≡ scalar S.field a
      → IsVectorOf S (λ m. m) (scale S.field b (x w)) v → coef_at S.field (x v) s ≡ (scalars S.field).one
  row_one w v a b s t ha hb inverse at value times =
      ap₂ (coef_at S.field) times.is at ∙ coef_at_scale S.field b (x w) t ∙ ap ((scalars S.field).◌*◌ (scalar S.field b)) value
      ∙ (scalars S.field).mul_comm _ _ ∙ sym (scalar_mul S.field a b ha hb) ∙ ap (scalar S.field) inverse ∙ scalar_one S.field

  -- a polynomial is absorbed
  pub absorbed : (rows new : List (Row E)) (v w : Terms) (b : E) (r : Row E) (fs : List E) → IsReducedBy S.field (lines_of S rows) (x v) (x w) (map (scalar S.field) fs)
      → x r.vector ≡ (vectors S.field).◌·◌ (scalar S.field b) (x w) → coef_at S.field (x r.vector) (line_of S r).0 ≡ (scalars S.field).one → new ≡ rows ++ r ∷ []
      → (vs : List (Vect S.field)) → IsEchelonOf S.field vs (lines_of S rows) → IsEchelonOf S.field (vs ++ x v ∷ []) (lines_of S new)
  absorbed rows new v w b r fs reduced is one push vs e = subst (IsEchelonOf S.field (vs ++ x v ∷ [])) (sym (ap (lines_of S) push ∙ map-append (line_of S) rows (r ∷ [])))
      (echelon_more S.field (lines_of S rows) (x v) (x w) (map (scalar S.field) fs) reduced vs e (scalar S.field b) (line_of S r).0 (x r.vector) is one)

  pub unchanged : (rows : List (Row E)) (v w : Terms) (fs : List E) → IsReducedBy S.field (lines_of S rows) (x v) (x w) (map (scalar S.field) fs) → x w ≡ zero_vector S.field
      → (vs : List (Vect S.field)) → IsEchelonOf S.field vs (lines_of S rows) → IsEchelonOf S.field (vs ++ x v ∷ []) (lines_of S rows)
  unchanged rows v w fs reduced z vs e = echelon_same S.field (lines_of S rows) (x v) (x w) (map (scalar S.field) fs) reduced vs e z

  pub reduced_at : (seen rows : List (Row E)) (v w : Terms) (fs : List E) → seen ≡ rows → IsReducedBy S.field (lines_of S seen) (x v) (x w) (map (scalar S.field) fs)
      → IsReducedBy S.field (lines_of S rows) (x v) (x w) (map (scalar S.field) fs)
  reduced_at seen rows v w fs same h = subst (λ rs. IsReducedBy S.field (lines_of S rs) (x v) (x w) (map (scalar S.field) fs)) same h

  pub row_fresh : (rows : List (Row E)) (v w : Terms) (b : E) (r : Row E) (fs : List E) → IsReducedBy S.field (lines_of S rows) (x v) (x w) (map (scalar S.field) fs)
      → x r.vector ≡ (vectors S.field).◌·◌ (scalar S.field b) (x w) → coef_at S.field (x r.vector) (line_of S r).0 ≡ (scalars S.field).one
      → (vs : List (Vect S.field)) → IsEchelonOf S.field vs (lines_of S rows) → ¬ Spans S.field vs (x v)
  row_fresh rows v w b r fs reduced is one vs e = fresh S.field (lines_of S rows) (x v) (x w) (map (scalar S.field) fs) reduced vs e (scalar S.field b) (line_of S r).0 (x r.vector) is one

  pub row_spanned : (rows : List (Row E)) (v w : Terms) (fs : List E) → IsReducedBy S.field (lines_of S rows) (x v) (x w) (map (scalar S.field) fs) → x w ≡ zero_vector S.field
      → (vs : List (Vect S.field)) → IsEchelonOf S.field vs (lines_of S rows) → Spans S.field vs (x v)
  row_spanned rows v w fs reduced z vs e = spanned S.field (lines_of S rows) (x v) (x w) (map (scalar S.field) fs) reduced vs e z
