-- The parts of small combinations have room, and their values add up.
use Rattle.std.proofs.Common.{◌≡◌, ◌∙◌, ◌+◌, ◌*◌, ◌<◌, ◌≤◌, ℕ, zero, suc, List, [], ◌∷◌, ◌++◌, length, map, take, get_or, refl, sym, ap, ap₂, subst, arith, inl, inr}
use Rattle.std.specs.Prelude.{All}
use Rattle.std.proofs.lemmas.List.{length-map, get_or-map, take_all, take_more}
use Rattle.std.proofs.lemmas.List.Elements.{All-nil, All-head, All-tail, All-weaker}
use Rattle.alg_core.specs.Fields.{Has}
use Rattle.alg_core.specs.Keys.{key}
use Rattle.alg_core.specs.Lists.{In}
use Rattle.alg_core.specs.SpaceGrading.{AllPositive}
use Rattle.alg_core.specs.Spaces.{SpaceOver, entries}
use Rattle.alg_core.specs.Vectors.{Entry, Vect, vec, plus, scale}
use Rattle.alg_core.specs.declared.term.Term.{Term}
use Rattle.alg_core.proofs.VectorLaws.{vec_cons, vec_nothing}
use Rattle.poly_module.specs.Combinations.{combination_value}
use Rattle.poly_module.specs.GreatestExponents.{total, greatest, peak, highest}
use Rattle.poly_module.specs.Parts.{Supp, supp_plus, supp_scale, supp_zero}
use Rattle.poly_module.specs.Polynomials.{product, vector_ring}
use Rattle.poly_module.specs.Sizes.{HasRoom, HasRoomIn, IsLow}
use Rattle.poly_module.specs.SpaceVectors.{ArePolys, HasVariables, IsPoly, IsPolyOf, IsVectorOf, vector_of, vectors_of}
use Rattle.poly_module.specs.Substitutions.{monomial_value, monomial_value_mono, substitute, substitute_plus, substitute_scale, substitute_single, substitute_zero}
use Rattle.poly_module.specs.Variables.{product_polynomial}
use Rattle.poly_module.proofs.ExponentBounds.{Bounded, bounded_products, fits_keys, mul_mono, polynomial_bounded, supp_bound, supp_monomial_value, vec_scaled, vec_supp}
use Rattle.poly_module.proofs.Room.{low}
use Rattle.poly_module.proofs.SpaceVectorLaws.{is_polynomial, poly_given, poly_of}
use Rattle.cert_check.specs.CombinationParts.{at_position}
use Rattle.cert_check.specs.SmallPolynomials.{IsSmallPoly}
use Rattle.cert_check.proofs.CombinationSums.{part_all, value_next, value_none}

-- the length of a front
front-length : {A : Type 0} (xs : List A) (j : ℕ) → j < length xs → length (take j xs) ≡ j
front-length [] j h = absurd (omega arith)
front-length (x ∷ xs) zero h = refl
front-length (x ∷ xs) (suc j) h = ap suc (front-length xs j (omega arith))

-- the greatest exponent is at most the sum of them
greatest-total : (a : List ℕ) → greatest a ≤ total a
greatest-total [] = omega arith
greatest-total (x ∷ a) = let h = greatest-total a in omega arith

peak-total : (es : List (Entry ℕ)) → All (λ e. total e.0.1 ≤ 4096) es → peak es ≤ 4096
peak-total [] h = omega arith
peak-total (e ∷ es) h =
    let here : total e.0.1 ≤ 4096 = All-head (λ (e : Entry ℕ). total e.0.1 ≤ 4096) e es h in
    let first = greatest-total e.0.1 in
    let rest = peak-total es (All-tail (λ (e : Entry ℕ). total e.0.1 ≤ 4096) e es h) in
    omega (arith, here, first, rest)

module _ (S : SpaceOver ℕ) where
  abbrev Terms : Type 0
  Terms = List (Term ℕ (List ℕ))

  pub small_polys : (ps : List Terms) → All (IsSmallPoly S) ps → ArePolys S (λ m. m) ps
  small_polys ps = All-weaker (IsSmallPoly S) (IsPoly S (λ m. m)) (λ p h. h.poly) ps

  pub part_variables : (j n : ℕ) (ts part : Terms) → entries (λ m. m) part ≡ at_position j (entries (λ m. m) ts) → HasVariables S.field (λ m. m) n ts → HasVariables S.field (λ m. m) n part
  part_variables j n ts part e h = record {
    values = subst (All (λ (e : Entry ℕ). Has S.field e.1)) (sym e) (part_all (λ a c. Has S.field c) j (entries (λ m. m) ts) h.values);
    wide = subst (All (λ (e : Entry ℕ). length e.0.1 ≡ n)) (sym e) (part_all (λ a c. length a ≡ n) j (entries (λ m. m) ts) h.wide);
  }

  part_low : (j : ℕ) (ts part : Terms) → entries (λ m. m) part ≡ at_position j (entries (λ m. m) ts) → IsLow 4096 (λ m. m) ts → IsLow 4096 (λ m. m) part
  part_low j ts part e h = subst (All (λ (e : Entry ℕ). total e.0.1 ≤ 4096)) (sym e) (part_all (λ a c. total a ≤ 4096) j (entries (λ m. m) ts) h)

  module _ (positive : AllPositive S.weights) where
    -- the exponents of a small polynomial
    small-totals : (p : Terms) → IsSmallPoly S p → All (λ e. total e.0.1 ≤ 4096) (entries (λ m. m) p)
    small-totals p h = low S positive (λ (m : List ℕ). m) 4096 4096 p (omega arith) h.poly.fits h.up_to

    bounded-poly : (p : Terms) → IsSmallPoly S p → All (λ e. Bounded 4096 (key e.0)) (entries (λ m. m) p)
    bounded-poly p h = polynomial_bounded 4096 (entries (λ m. m) p) (peak-total (entries (λ m. m) p) (small-totals p h)) h.poly.position

    high : (ps : List Terms) → All (IsSmallPoly S) ps → highest (map (entries (λ m. m)) ps) ≤ 4096
    high [] h = omega arith
    high (p ∷ ps) h =
        let here = peak-total (entries (λ m. m) p) (small-totals p (All-head (IsSmallPoly S) p ps h)) in
        let rest = high ps (All-tail (IsSmallPoly S) p ps h) in
        omega (arith, here, rest)

    -- room for values
    pub value_room : (θ : List Terms) (ts : Terms) → All (IsSmallPoly S) θ → IsLow 4096 (λ m. m) ts → HasRoomIn 4294967295 (λ m. m) ts θ
    value_room θ ts small few i d w =
        let most = high θ small in
        let t : total (get_or (entries (λ m. m) ts) i d).0.1 ≤ 4096 = few i d w in
        let h = highest (map (entries (λ m. m)) θ) in
        let times : total (get_or (entries (λ m. m) ts) i d).0.1 * h ≤ 4096 * h = mul_mono _ 4096 h t in
        omega (arith, times, most)

    pub part_room : (θ : List Terms) (j : ℕ) (ts part : Terms) → All (IsSmallPoly S) θ → entries (λ m. m) part ≡ at_position j (entries (λ m. m) ts) → IsLow 4096 (λ m. m) ts
        → HasRoomIn 4294967295 (λ m. m) part θ
    part_room θ j ts part small e few = value_room θ part small (part_low j ts part e few)

    images-bounded : (θ : List Terms) → All (IsSmallPoly S) θ → (x : Vect S.field) → In x (vectors_of S (λ m. m) θ) → Supp S.field (Bounded 4096) x
    images-bounded [] h x i = absurd i
    images-bounded (p ∷ θ) h x (inl e) = subst (Supp S.field (Bounded 4096)) e (vec_supp S.field (Bounded 4096) (entries (λ m. m) p) (bounded-poly p (All-head (IsSmallPoly S) p θ h)))
    images-bounded (p ∷ θ) h x (inr i) = images-bounded θ (All-tail (IsSmallPoly S) p θ h) x i

    module _ (θ : List Terms) (small : All (IsSmallPoly S) θ) where
      one-bounded : (e : Entry ℕ) → total e.0.1 ≤ 4096 → Supp S.field (Bounded 16777216) (substitute S.field (vectors_of S (λ m. m) θ) (vec S.field (e ∷ [])))
      unfolding key
      one-bounded e low =
          let xs = vectors_of S (λ m. m) θ in
          let is : substitute S.field xs (vec S.field (e ∷ [])) ≡ scale S.field e.1 (monomial_value (vector_ring S.field) xs e.0.1) =
          ap (substitute S.field xs) (vec_scaled S.field e) ∙ substitute_scale S.field xs e.1 _
          ∙ ap (scale S.field e.1) (substitute_single S.field xs (key e.0) ∙ monomial_value_mono (vector_ring S.field) xs e.0.1) in
          let times : total e.0.1 * 4096 ≤ 4096 * 4096 = mul_mono (total e.0.1) 4096 4096 low in
          subst (Supp S.field (Bounded 16777216)) (sym is)
          (supp_scale S.field (Bounded 16777216) e.1 _ (supp_bound S.field (total e.0.1 * 4096) 16777216 (omega (arith, times)) _ (supp_monomial_value S.field 4096 xs (images-bounded θ small) e.0.1)))

      value-bounded : (es : List (Entry ℕ)) → All (λ e. total e.0.1 ≤ 4096) es → Supp S.field (Bounded 16777216) (substitute S.field (vectors_of S (λ m. m) θ) (vec S.field es))
      value-bounded [] low =
          let xs = vectors_of S (λ m. m) θ in
          subst (Supp S.field (Bounded 16777216)) (sym (ap (substitute S.field xs) (vec_nothing S.field) ∙ substitute_zero S.field xs)) (supp_zero S.field (Bounded 16777216))
      value-bounded (e ∷ es) low =
          let xs = vectors_of S (λ m. m) θ in
          subst (Supp S.field (Bounded 16777216)) (sym (ap (substitute S.field xs) (vec_cons S.field e es) ∙ substitute_plus S.field xs _ _))
          (supp_plus S.field (Bounded 16777216) _ _ (one-bounded e (All-head (λ (e : Entry ℕ). total e.0.1 ≤ 4096) e es low)) (value-bounded es (All-tail (λ (e : Entry ℕ). total e.0.1 ≤ 4096) e es low)))

      module _ (j : ℕ) (ts part factor sec : Terms) (is : entries (λ m. m) part ≡ at_position j (entries (λ m. m) ts))
          (made : IsPolyOf S (λ m. m) (substitute S.field (vectors_of S (λ m. m) θ) (vector_of S (λ m. m) part)) factor) (there : IsSmallPoly S sec) where
        pub factor_poly : IsPoly S (λ m. m) factor
        factor_poly = poly_of S (λ (m : List ℕ). m) _ factor made

        -- and for the product with the polynomial at the position
        pub factor_room : IsLow 4096 (λ m. m) ts → HasRoom 4294967295 (λ m. m) factor sec
        factor_room few =
            bounded_products 4294967295 16777216 4096 (omega arith) (entries (λ m. m) factor) (entries (λ m. m) sec)
            (fits_keys S (Bounded 16777216) (entries (λ m. m) factor) made.fits (subst (Supp S.field (Bounded 16777216)) (sym made.is) (value-bounded (entries (λ m. m) part) (part_low j ts part is few))))
            (bounded-poly sec there)

        pub part_value : (value : Terms) → IsVectorOf S (λ m. m) (product S.field (vector_of S (λ m. m) factor) (vector_of S (λ m. m) sec)) value
            → IsPolyOf S (λ m. m) (product S.field (substitute S.field (vectors_of S (λ m. m) θ) (vec S.field (at_position j (entries (λ m. m) ts)))) (vector_of S (λ m. m) sec)) value
        part_value value h =
            subst (λ u. IsPolyOf S (λ m. m) (product S.field u (vector_of S (λ m. m) sec)) value) (made.is ∙ ap (λ es. substitute S.field (vectors_of S (λ m. m) θ) (vec S.field es)) is)
            (poly_given S (λ (m : List ℕ). m) _ value h
            (product_polynomial S.field _ _ (is_polynomial S (λ (m : List ℕ). m) factor factor_poly) (is_polynomial S (λ (m : List ℕ). m) sec there.poly)))

  module _ (θ : List (Vect S.field)) (secs : List Terms) (ts : Terms) where
    abbrev front : ℕ → Vect S.field
    front j = combination_value S.field θ (take j (vectors_of S (λ m. m) secs)) (vector_of S (λ m. m) ts)

    pub value_start : (v : Terms) → v ≡ [] → IsPolyOf S (λ m. m) (combination_value S.field θ (take 0 (vectors_of S (λ m. m) secs)) (vector_of S (λ m. m) ts)) v
    value_start v e = subst (IsPolyOf S (λ m. m) (front 0)) (sym e)
        (record { fits = tt; position = All-nil (λ (e : Entry ℕ). e.0.0 ≡ 0); is = vec_nothing S.field ∙ sym (value_none S.field θ (entries (λ m. m) ts)) })

    pub value_more : (j : ℕ) (sec v part new : Terms) → j < length secs → sec ≡ get_or secs j sec
        → IsPolyOf S (λ m. m) (combination_value S.field θ (take j (vectors_of S (λ m. m) secs)) (vector_of S (λ m. m) ts)) v
        → IsPolyOf S (λ m. m) (product S.field (substitute S.field θ (vec S.field (at_position j (entries (λ m. m) ts)))) (vector_of S (λ m. m) sec)) part
        → IsVectorOf S (λ m. m) (plus S.field (vector_of S (λ m. m) v) (vector_of S (λ m. m) part)) new
        → IsPolyOf S (λ m. m) (combination_value S.field θ (take (j + 1) (vectors_of S (λ m. m) secs)) (vector_of S (λ m. m) ts)) new
    value_more j sec v part new low read before here sum = subst (λ u. IsPolyOf S (λ m. m) u new) (ap₂ (plus S.field) before.is here.is ∙ sym next) given
      where
        within : j < length (vectors_of S (λ m. m) secs)
        within = let e = length-map secs (vector_of S (λ m. m)) in omega (arith, e, low)

        taken : take (j + 1) (vectors_of S (λ m. m) secs) ≡ take j (vectors_of S (λ m. m) secs) ++ vector_of S (λ m. m) sec ∷ []
        taken = take_more (vectors_of S (λ m. m) secs) j (vector_of S (λ m. m) sec) within
            ∙ ap (λ y. take j (vectors_of S (λ m. m) secs) ++ y ∷ []) (get_or-map (vector_of S (λ m. m)) secs j sec (vector_of S (λ m. m) sec) low ∙ ap (vector_of S (λ m. m)) (sym read))

        next : front (j + 1) ≡ plus S.field (front j) (product S.field (substitute S.field θ (vec S.field (at_position j (entries (λ m. m) ts)))) (vector_of S (λ m. m) sec))
        next = ap (λ l. combination_value S.field θ l (vector_of S (λ m. m) ts)) taken
            ∙ value_next S.field θ (take j (vectors_of S (λ m. m) secs)) (vector_of S (λ m. m) sec) (entries (λ m. m) ts)
            ∙ ap (λ (i : ℕ). plus S.field (front j) (product S.field (substitute S.field θ (vec S.field (at_position i (entries (λ m. m) ts)))) (vector_of S (λ m. m) sec))) (front-length (vectors_of S (λ m. m) secs) j within)

        given : IsPolyOf S (λ m. m) (plus S.field (vector_of S (λ m. m) v) (vector_of S (λ m. m) part)) new
        given = poly_given S (λ (m : List ℕ). m) _ new sum
            (supp_plus S.field (λ t. t.0 ≡ 0) _ _ (is_polynomial S (λ (m : List ℕ). m) v (poly_of S (λ (m : List ℕ). m) _ v before)) (is_polynomial S (λ (m : List ℕ). m) part (poly_of S (λ (m : List ℕ). m) _ part here)))

    pub value_whole : (j : ℕ) (v : Terms) → length secs ≤ j
        → IsPolyOf S (λ m. m) (combination_value S.field θ (take j (vectors_of S (λ m. m) secs)) (vector_of S (λ m. m) ts)) v
        → IsPolyOf S (λ m. m) (combination_value S.field θ (vectors_of S (λ m. m) secs) (vector_of S (λ m. m) ts)) v
    value_whole j v past h =
        let e = length-map secs (vector_of S (λ m. m)) in
        subst (λ l. IsPolyOf S (λ m. m) (combination_value S.field θ l (vector_of S (λ m. m) ts)) v) (take_all j (vectors_of S (λ m. m) secs) (omega (arith, e, past))) h
