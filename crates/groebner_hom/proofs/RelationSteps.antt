-- The relations between polynomials and their marks, one by one.
use Rattle.std.proofs.Common.{◌≡◌, ◌∙◌, ◌+◌, ◌<◌, ◌≤◌, ℕ, zero, suc, List, [], ◌∷◌, ◌++◌, length, take, get_or, replicate, sym, ap, ap₂, subst, refl, Result, arith}
use Rattle.std.specs.Global.{Vec}
use Rattle.std.specs.Prelude.{IfOk}
use Rattle.std.proofs.lemmas.List.{map-append, take_all, length-append, length-map, length-take-le}
use Rattle.std.proofs.lemmas.List.Elements.{All-push, All-nil}
use Rattle.alg_core.specs.BlockOrder.{length_ones}
use Rattle.alg_core.specs.Fields.{FieldOn}
use Rattle.alg_core.specs.SpaceGrading.{weight, degree}
use Rattle.alg_core.specs.Spaces.{SpaceOver}
use Rattle.alg_core.specs.Vectors.{Vect}
use Rattle.alg_core.specs.declared.term.Term.{Term}
use Rattle.poly_module.specs.Degrees.{IsHomogeneous}
use Rattle.poly_module.specs.Forms.{key_weight, OfDegree, form_homogeneous}
use Rattle.poly_module.specs.Marks.{relation, relations_from, relations}
use Rattle.poly_module.specs.Modules.{listed}
use Rattle.poly_module.specs.MonomialVariables.{variable}
use Rattle.poly_module.specs.Parts.{Supp, supp_single}
use Rattle.poly_module.specs.ReducedLists.{IsReducedBasisOf}
use Rattle.poly_module.specs.Signs.{minus}
use Rattle.poly_module.specs.SpaceVectors.{IsVectorOf, IsPoly, IsPolyOf, vector_of, vectors_of}
use Rattle.poly_module.specs.Substitutions.{variable_vector}
use Rattle.poly_module.proofs.GreatestValues.{take_map}
use Rattle.poly_module.proofs.SpaceVectorLaws.{is_polynomial, poly_given, supp_minus}
use Rattle.module_groebner.specs.declared.bound.BasisBound.{BasisBound}
use Rattle.module_groebner.specs.HomogeneousLists.{degree_limit}
use Rattle.finite_certificate.specs.Ideals.{InIdeal}
use Rattle.finite_certificate.specs.MarkSpaces.{IsMarkSpace, ArePositiveForms}
use Rattle.finite_certificate.proofs.ModuleTerms.{weight_variables, weight_of_mark}
use Rattle.finite_certificate.proofs.PowerForms.{forms_count}
use Rattle.finite_certificate.proofs.RelationLeads.{member_keys}
use Rattle.groebner_hom.specs.IdealBases.{IsHomogeneousPoly, AreHomogeneousPolys, NoIdealAbove, IsIdealBound}
use Rattle.groebner_hom.specs.Lifts.{AreLifts}

-- one more at the end
relations_more : {E : Type 0} (k : FieldOn E) (n j : ℕ) (fs : List (Vect k)) (f : Vect k) → relations_from k n j (fs ++ f ∷ []) ≡ relations_from k n j fs ++ relation k n f (j + length fs) ∷ []
relations_more k n j [] f = let e : j ≡ j + 0 = omega arith in ap (λ i. relation k n f i ∷ []) e
relations_more k n j (g ∷ fs) f =
    let e : suc j + length fs ≡ j + suc (length fs) = omega arith in
    ap (λ l. relation k n g j ∷ l) (relations_more k n (suc j) fs f ∙ ap (λ i. relations_from k n (suc j) fs ++ relation k n f i ∷ []) e)

module _ {E : Type 0} (S : SpaceOver E) (n : ℕ) where
  abbrev Terms : Type 0
  Terms = List (Term E (List ℕ))

  -- a polynomial less its mark
  pub record IsRelationOf (x : Terms) (j : ℕ) (p : Terms) : Type 0 where
    pub homogeneous : IsHomogeneousPoly S degree_limit p
    pub is : vector_of S (λ m. m) p ≡ relation S.field n (vector_of S (λ m. m) x) j

  pub relation_given : (f mark p : Terms) (j d : ℕ) → d ≤ degree_limit → IsPoly S (λ m. m) f → IsHomogeneous S d (vector_of S (λ m. m) f) → IsHomogeneous S d (variable_vector S.field (n + j))
      → IsPolyOf S (λ m. m) (variable_vector S.field (n + j)) mark
      → IsVectorOf S (λ m. m) (minus S.field (vector_of S (λ m. m) f) (vector_of S (λ m. m) mark)) p → IsRelationOf f j p
  unfolding variable_vector
  relation_given f mark p j d small poly form of_mark is h =
      let given = poly_given S (λ m. m) _ p (subst (λ v. IsVectorOf S (λ m. m) (minus S.field (vector_of S (λ m. m) f) v) p) is.is h)
      (supp_minus S.field (λ t. t.0 ≡ 0) _ _ (is_polynomial S (λ m. m) f poly) (supp_single S.field (λ t. t.0 ≡ 0) (0, variable (n + j)) refl)) in
      record {
        homogeneous = record {
          polynomial = record { fits = given.fits; position = given.position };
          homogeneous = (d, small, subst (IsHomogeneous S d) (sym given.is) (supp_minus S.field (λ t. degree S t ≡ d) _ _ form of_mark));
        };
        is = given.is;
      }

  -- polynomials that are the relations
  pub record AreRelations (θ vs : List Terms) : Type 0 where
    pub homogeneous : AreHomogeneousPolys S degree_limit vs
    pub are : vectors_of S (λ m. m) vs ≡ relations S.field n (vectors_of S (λ m. m) θ)

  pub no_relations : (vs θ : List Terms) → vs ≡ [] → AreRelations (take 0 θ) vs
  no_relations vs θ e = record { homogeneous = subst (AreHomogeneousPolys S degree_limit) (sym e) (All-nil (IsHomogeneousPoly S degree_limit)); are = ap (vectors_of S (λ m. m)) e }

  pub next_relation : (vs more : List Terms) (p x : Terms) (θ : List Terms) (j : ℕ) → more ≡ vs ++ p ∷ [] → j < length θ → x ≡ get_or θ j x
      → IsRelationOf x j p → AreRelations (take j θ) vs → AreRelations (take (j + 1) θ) more
  next_relation vs more p x θ j e below read is h = record {
    homogeneous = subst (AreHomogeneousPolys S degree_limit) (sym e) (All-push (IsHomogeneousPoly S degree_limit) vs p h.homogeneous is.homogeneous);
    are = ap (vectors_of S (λ m. m)) e ∙ map-append (vector_of S (λ m. m)) vs (p ∷ []) ∙ ap₂ (λ l v. l ++ v ∷ []) h.are is.is
        ∙ ap (λ i. relations S.field n ws ++ relation S.field n (vector_of S (λ m. m) x) i ∷ []) (sym count)
        ∙ sym (ap (relations S.field n) (take_map (vector_of S (λ m. m)) θ j x below read) ∙ relations_more S.field n 0 ws (vector_of S (λ m. m) x));
  }
    where
      ws : List (Vect S.field)
      ws = vectors_of S (λ m. m) (take j θ)

      count : 0 + length ws ≡ j
      count = let l = length-map (take j θ) (vector_of S (λ m. m)) in let t = length-take-le j θ (omega arith) in omega arith

  pub all_relations : (vs θ : List Terms) (j : ℕ) → length θ ≤ j → AreRelations (take j θ) vs → AreRelations θ vs
  all_relations vs θ j past h = subst (λ l. AreRelations l vs) (take_all j θ past) h

  -- the space of the variables and marks of forms
  module _ (ds : List ℕ) (θ : List Terms) (space : IsMarkSpace S n ds) (forms : ArePositiveForms S.field n ds (vectors_of S (λ m. m) θ)) where
    marks_count : length ds ≡ length θ
    marks_count = sym (forms_count S.field (replicate n 1) ds (vectors_of S (λ m. m) θ) forms.forms) ∙ length-map θ (vector_of S (λ m. m))

    weights_count : length S.weights ≡ n + length ds
    weights_count = ap length space.weights ∙ length-append (replicate n 1) ds ∙ ap (λ m. m + length ds) (length_ones n)

    pub degree_within : (j : ℕ) → j < length θ → j < length ds
    degree_within j h = let m = marks_count in omega arith

    pub mark_within : (j : ℕ) → j < length θ → n + j < length S.weights
    mark_within j h = let w = weights_count in let m = marks_count in omega arith

    mark_homogeneous : (j : ℕ) → j < length θ → IsHomogeneous S (get_or ds j 0) (variable_vector S.field (n + j))
    unfolding variable_vector
    mark_homogeneous j h = form_homogeneous S space.shift (get_or ds j 0) _
        (supp_single S.field (OfDegree S.field S.weights (get_or ds j 0)) (0, variable (n + j))
        (refl, ap (λ ws. weight ws 0 (variable (n + j)).0) space.weights ∙ weight_of_mark n ds j (omega (arith, marks_count))))

    member_homogeneous : (j : ℕ) (x : Terms) → j < length θ → x ≡ get_or θ j x → IsHomogeneous S (get_or ds j 0) (vector_of S (λ m. m) x)
    member_homogeneous j x h read = form_homogeneous S space.shift (get_or ds j 0) _ (λ t c.
        let same : listed S.field (vectors_of S (λ m. m) θ) j ≡ vector_of S (λ m. m) x = listed_at θ j h ∙ ap (vector_of S (λ m. m)) (sym read) in
        let p = subst (Supp S.field (λ t. (t.0 ≡ 0) × (key_weight (replicate n 1) t ≡ get_or ds j 0) × (length t.1.0 ≤ n))) same (member_keys S.field n ds (vectors_of S (λ m. m) θ) forms j (let l = length-map θ (vector_of S (λ m. m)) in omega arith)) t c in
        (p.0, ap (λ ws. weight ws 0 t.1.0) space.weights ∙ weight_variables n ds 0 t.1.0 p.2 ∙ p.1))
      where
        listed_at : (ps : List Terms) (j : ℕ) → j < length ps → listed S.field (vectors_of S (λ m. m) ps) j ≡ vector_of S (λ m. m) (get_or ps j x)
        listed_at [] j h = absurd (omega arith)
        listed_at (p ∷ ps) zero h = refl
        listed_at (p ∷ ps) (suc j) h = listed_at ps j (omega arith)

    degree_read : (es : List ℕ) (j d : ℕ) → j < length es → d ≡ get_or es j d → get_or es j 0 ≡ d
    degree_read [] j d h e = absurd (omega arith)
    degree_read (x ∷ es) zero d h e = sym e
    degree_read (x ∷ es) (suc j) d h e = degree_read es j d (omega arith) e

    -- by the degree that is read
    pub mark_read : (j d : ℕ) → j < length θ → d ≡ get_or ds j d → IsHomogeneous S d (variable_vector S.field (n + j))
    mark_read j d h e = subst (λ m. IsHomogeneous S m (variable_vector S.field (n + j))) (degree_read ds j d (degree_within j h) e) (mark_homogeneous j h)

    pub member_read : (j d : ℕ) (x : Terms) → j < length θ → d ≡ get_or ds j d → x ≡ get_or θ j x → IsHomogeneous S d (vector_of S (λ m. m) x)
    member_read j d x h e read = subst (λ m. IsHomogeneous S m (vector_of S (λ m. m) x)) (degree_read ds j d (degree_within j h) e) (member_homogeneous j x h read)

-- a basis of the ideal of the lists of terms of the relations is one of the ideal of the relations
module _ {E : Type 0} (S : SpaceOver E) (n : ℕ) (θ made seen : List (List (Term E (List ℕ)))) (same : seen ≡ made) (are : vectors_of S (λ m. m) made ≡ relations S.field n (vectors_of S (λ m. m) θ)) where
  given : vectors_of S (λ m. m) seen ≡ relations S.field n (vectors_of S (λ m. m) θ)
  given = ap (vectors_of S (λ m. m)) same ∙ are

  pub basis_of_relations : {Y : Type 0} (r : Result (Vec (List (Term E (List ℕ)))) Y) → IfOk r (λ vs. IsReducedBasisOf S (InIdeal S.field (vectors_of S (λ m. m) seen)) (vectors_of S (λ m. m) vs.items))
      → IfOk r (λ vs. AreLifts S n (vectors_of S (λ m. m) θ) (vectors_of S (λ m. m) vs.items))
  basis_of_relations r = subst (λ us. IfOk r (λ vs. IsReducedBasisOf S (InIdeal S.field us) (vectors_of S (λ m. m) vs.items))) given

  pub none_of_relations : {X Y : Type 0} (cap : ℕ) (r : Result X Y) → IfOk r (λ _. NoIdealAbove S (vectors_of S (λ m. m) seen) cap) → IfOk r (λ _. NoIdealAbove S (relations S.field n (vectors_of S (λ m. m) θ)) cap)
  none_of_relations cap r = subst (λ us. IfOk r (λ _. NoIdealAbove S us cap)) given

  pub bound_of_relations : (cap : ℕ) (b : BasisBound E) → IsIdealBound S (vectors_of S (λ m. m) seen) cap b → IsIdealBound S (relations S.field n (vectors_of S (λ m. m) θ)) cap b
  bound_of_relations cap b = subst (λ us. IsIdealBound S us cap b) given
