-- The combination of the members of a basis with given digits, member by member.
use Rattle.std.proofs.Common.{◌≡◌, ◌∙◌, ◌+◌, ◌<◌, ◌≤◌, ℕ, List, [], ◌∷◌, ◌++◌, length, map, get_or, take, sym, ap, ap₂, subst, arith}
use Rattle.std.proofs.lemmas.List.{take_more, take_all, map-append, length-map, length-take-le}
use Rattle.alg_core.specs.Fields.{FieldOn, Scalar, scalar}
use Rattle.alg_core.specs.ModuleLaws as modules
use Rattle.alg_core.specs.Spaces.{SpaceOver}
use Rattle.alg_core.specs.Spans.{combine}
use Rattle.alg_core.specs.Vectors.{Vect, vectors, plus, scale, zero_vector}
use Rattle.alg_core.specs.declared.term.Term.{Term}
use Rattle.alg_core.proofs.VectorLaws.{vec_nothing}
use Rattle.poly_module.specs.Parts.{IsPolynomial, supp_plus, supp_scale}
use Rattle.poly_module.specs.SpaceVectors.{vector_of, vectors_of, IsVectorOf, IsPoly, ArePolys}
use Rattle.poly_module.proofs.SpaceVectorLaws.{is_polynomial}
use Rattle.primary_search.specs.Candidates.{combined}

-- a sum with one member more at the end
combine_push : {E : Type 0} (k : FieldOn E) (cs : List (Scalar k)) (ws : List (Vect k)) (c : Scalar k) (w : Vect k) → length cs ≡ length ws
    → combine (vectors k) (cs ++ c ∷ []) (ws ++ w ∷ []) ≡ (vectors k).◌+◌ (combine (vectors k) cs ws) ((vectors k).◌·◌ c w)
combine_push k [] [] c w e = (vectors k).add_zero _ ∙ sym (modules.zero_add (vectors k) _)
combine_push k [] (x ∷ ws) c w e = absurd (omega arith)
combine_push k (d ∷ cs) [] c w e = absurd (omega arith)
combine_push k (d ∷ cs) (x ∷ ws) c w e = ap ((vectors k).◌+◌ ((vectors k).◌·◌ d x)) (combine_push k cs ws c w (omega arith)) ∙ sym ((vectors k).add_assoc _ _ _)

module _ {E : Type 0} (S : SpaceOver E) where
  abbrev Terms : Type 0
  Terms = List (Term E (List ℕ))

  abbrev x : Terms → Vect S.field
  x v = vector_of S (λ m. m) v

  abbrev value : ℕ → Scalar S.field
  value d = scalar S.field (S.field.of_number d)

  -- so far the multiples of the first members
  pub record Summed (bs : List Terms) (ds : List ℕ) (i : ℕ) (sum : Terms) : Type 0 where
    pub polynomial : IsPoly S (λ m. m) sum
    pub is : vector_of S (λ m. m) sum ≡ combined S.field (vectors_of S (λ m. m) (take i bs)) (take i ds)

  pub summed_none : (bs : List Terms) (ds : List ℕ) (sum : Terms) → sum ≡ [] → Summed bs ds 0 sum
  unfolding zero_vector
  summed_none bs ds sum none = record {
    polynomial = subst (IsPoly S (λ m. m)) (sym none) (record { fits = tt; position = λ i d w. absurd (omega arith) });
    is = ap x none ∙ vec_nothing S.field;
  }

  pub summed_more : (bs : List Terms) (ds : List ℕ) (i d : ℕ) (f : E) (b sum multiple new : Terms) → length ds ≡ length bs → i < length bs → b ≡ get_or bs i b → d ≡ get_or ds i 0 → f ≡ S.field.of_number d → ArePolys S (λ m. m) bs
      → IsVectorOf S (λ m. m) (scale S.field f (vector_of S (λ m. m) b)) multiple → IsVectorOf S (λ m. m) (plus S.field (vector_of S (λ m. m) sum) (vector_of S (λ m. m) multiple)) new
      → Summed bs ds i sum → Summed bs ds (i + 1) new
  unfolding plus scale
  summed_more bs ds i d f b sum multiple new same inside got read number polys times added was =
      let member : IsPoly S (λ m. m) b = subst (IsPoly S (λ m. m)) (sym got) (polys i b inside) in
      let small : IsPolynomial S.field (scale S.field f (x b)) = supp_scale S.field (λ t. t.0 ≡ 0) f (x b) (is_polynomial S (λ m. m) b member) in
      let whole : IsPolynomial S.field (plus S.field (x sum) (x multiple)) = supp_plus S.field (λ t. t.0 ≡ 0) (x sum) (x multiple) (is_polynomial S (λ m. m) sum was.polynomial) (subst (IsPolynomial S.field) (sym times.is) small) in
      record {
        polynomial = record { fits = added.fits; position = added.position whole };
        is = added.is ∙ ap₂ (vectors S.field).◌+◌ was.is (times.is ∙ ap (λ (y : E). (vectors S.field).◌·◌ (scalar S.field y) (x b)) number)
            ∙ sym (ap₂ (combine (vectors S.field)) (ap (map value) (take_more ds i 0 (omega arith) ∙ ap (λ y. take i ds ++ y ∷ []) (sym read)) ∙ map-append value (take i ds) (d ∷ []))
            (ap (map x) (take_more bs i b inside ∙ ap (λ y. take i bs ++ y ∷ []) (sym got)) ∙ map-append x (take i bs) (b ∷ []))
            ∙ combine_push S.field (map value (take i ds)) (map x (take i bs)) (value d) (x b)
            (length-map (take i ds) value ∙ length-take-le i ds (omega arith) ∙ sym (length-map (take i bs) x ∙ length-take-le i bs (omega arith))));
      }

  pub summed_all : (bs : List Terms) (ds : List ℕ) (i : ℕ) (sum : Terms) → length ds ≡ length bs → length bs ≤ i → Summed bs ds i sum → vector_of S (λ m. m) sum ≡ combined S.field (vectors_of S (λ m. m) bs) ds
  summed_all bs ds i sum same past h = h.is ∙ ap₂ (λ vs cs. combined S.field (vectors_of S (λ m. m) vs) cs) (take_all i bs past) (take_all i ds (omega arith))
