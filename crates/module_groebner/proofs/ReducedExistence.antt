-- A finite list of elements whose leads divide all leads of a module gives its reduced basis.
use Rattle.std.proofs.Common.{◌≡◌, ◌⊎◌, inl, inr, ℕ, List, [], ◌∷◌, map, sym, ap, ap₂, ◌∙◌, refl, subst}
use Rattle.std.specs.declared.cmp.Ordering.TheVariants.{Less}
use Rattle.alg_core.specs.RingLaws as rings
use Rattle.alg_core.specs.CanonicalLists.{indicator_yes, indicator_no}
use Rattle.alg_core.specs.Fields.{FieldOn, Scalar, scalars, is_field}
use Rattle.alg_core.specs.Keys.{Key, key_same, KeyDivides}
use Rattle.alg_core.specs.KeyOrders.{OrderOn, less_irreflexive}
use Rattle.alg_core.specs.Leads.{has_lead, HasLead, lead_unique}
use Rattle.alg_core.specs.Lists.{In, map_in}
use Rattle.alg_core.specs.Spaces.{SpaceOver}
use Rattle.alg_core.specs.SpaceOrder.{key_order}
use Rattle.alg_core.specs.SpaceGrading.{AllPositive, degree}
use Rattle.alg_core.specs.Vectors.{Vect, vectors, coef_at, plus, zero_vector}
use Rattle.alg_core.proofs.Members.{from_map}
use Rattle.alg_core.proofs.VectorLaws.{plus_assoc, plus_comm, coef_at_plus, coef_at_zero}
use Rattle.poly_module.specs.Signs.{minus}
use Rattle.poly_module.specs.Polynomials.{single_vector}
use Rattle.poly_module.specs.Parts.{Supp, supp_plus, supp_act, supp_single, coef_at_single, supp_outside}
use Rattle.poly_module.specs.Degrees.{IsHomogeneous}
use Rattle.poly_module.specs.Modules.{LeadBy, listed}
use Rattle.poly_module.specs.ReducedLists.{LeadsFall, IsReducedBasisOf}
use Rattle.poly_module.proofs.EchelonLists.{coef_at_act}
use Rattle.poly_module.proofs.LeadLaws.{lead_act, lead_plus}
use Rattle.poly_module.proofs.SpaceVectorLaws.{minus_plus, supp_minus}
use Rattle.poly_module.proofs.Reduced.{divides_trans, place_of_member, listed_has}
use Rattle.module_groebner.specs.Remainders.{IsRemainder, KeepsDegrees}
use Rattle.module_groebner.proofs.Sums.{not_greater_less}
use Rattle.module_groebner.proofs.Remainders.{Divided, Irreducible, lead_falls, single_lead, remainder_exists, remainder_difference, remainder_low}
use Rattle.module_groebner.proofs.Families.{homogeneous_each}
use Rattle.module_groebner.proofs.ReducedBases.{IsGradedModule, set_difference, generated_within, reduced_from}
use Rattle.module_groebner.proofs.CompletionEnds.{lead_there}
use Rattle.module_groebner.proofs.ReducedLists.{Row, NoDivision, leads, same_row, minimal, Fall, sorted, from_sorted, in_sorted, fall_sorted}

module _ {E : Type 0} (S : SpaceOver E) where
  abbrev k : FieldOn E
  k = S.field

  abbrev o : OrderOn Key
  o = key_order S

  -- rows of a module: elements with their leads, homogeneous
  pub record IsRowOf (U : Vect S.field → Type 0) (e : Row S) : Type 0 where
    pub lead : LeadBy S.field (key_order S) e.0 e.1
    pub inside : U e.0
    pub degree : ℕ
    pub homogeneous : IsHomogeneous S degree e.0

  module _ (U : Vect S.field → Type 0) (graded : IsGradedModule S U) (positive : AllPositive S.weights) where
    module _ (m : List (Row S)) (rows : (e : Row S) → In e m → IsRowOf U e) where
      abbrev heads : List (Vect S.field)
      heads = map (λ e. e.0) m

      head_row : (w : Vect S.field) → In w heads → (e : Row S) × In e m × (e.0 ≡ w)
      head_row w i = from_map (λ e. e.0) w m i

      heads_homogeneous : (i : ℕ) → (d : ℕ) × IsHomogeneous S d (listed S.field heads i)
      heads_homogeneous = homogeneous_each S heads (λ w i. let r = head_row w i in let h = rows r.0 r.1 in (h.degree, subst (IsHomogeneous S h.degree) r.2 h.homogeneous))

      heads_inside : (i : ℕ) → U (listed S.field heads i)
      heads_inside = listed_has k U graded.subspace.zero heads (λ w i. let r = head_row w i in subst U r.2 (rows r.0 r.1).inside)

      -- the row with its tail reduced by all rows
      record IsTailReduced (e : Row S) (n : Vect S.field) : Type 0 where
        inside : U n
        lead : LeadBy S.field (key_order S) n e.1
        monic : coef_at S.field n e.1 ≡ (scalars S.field).one
        homogeneous : (d : ℕ) × IsHomogeneous S d n
        rest : (x : Key) → ¬ (coef_at S.field n x ≡ (scalars S.field).zero) → (x ≡ e.1) ⊎ Irreducible S (listed S.field heads) x

      module _ (e : Row S) (i : In e m) where
        h : IsRowOf U e
        h = rows e i

        abbrev t : Key
        t = e.1

        abbrev c : Scalar S.field
        c = coef_at S.field e.0 e.1

        abbrev first : Vect S.field
        first = (vectors S.field).◌·◌ c (single_vector S.field t)

        abbrev tail : Vect S.field
        tail = minus S.field e.0 first

        degree_lead : degree S t ≡ (rows e i).degree
        degree_lead = (rows e i).homogeneous t (lead_there S e.0 t (rows e i).lead)

        first_homogeneous : IsHomogeneous S (rows e i).degree first
        first_homogeneous = supp_act k (λ x. degree S x ≡ (rows e i).degree) c _ (supp_single k (λ x. degree S x ≡ (rows e i).degree) t degree_lead)

        remainder : (r : Vect S.field) × IsRemainder S (listed S.field heads) tail r × KeepsDegrees S tail r
        remainder = remainder_exists S positive heads heads_homogeneous tail (rows e i).degree (supp_minus k (λ x. degree S x ≡ (rows e i).degree) e.0 first (rows e i).homogeneous first_homogeneous)

        first_lead : LeadBy S.field (key_order S) first t
        first_lead = lead_act k o c (lead_there S e.0 t (rows e i).lead) (single_vector k t) t (single_lead S positive heads heads_homogeneous t)

        first_coef : coef_at S.field first t ≡ c
        first_coef = coef_at_act k c (single_vector k t) t ∙ ap ((scalars k).◌*◌ c) (coef_at_single k t t ∙ indicator_yes (scalars k) (key_same t t) refl) ∙ (scalars k).mul_one c

        first_only : (x : Key) → ¬ (t ≡ x) → coef_at S.field first x ≡ (scalars S.field).zero
        first_only x n = coef_at_act k c (single_vector k t) x ∙ ap ((scalars k).◌*◌ c) (coef_at_single k t x ∙ indicator_no (scalars k) (key_same t x) n) ∙ rings.mul_zero (scalars k) c

        lower : Supp S.field (λ x. (key_order S).compare x t ≡ Less) remainder.0
        unfolding zero_vector
        lower x nz = go (has_lead (scalars k) (is_field k) key_same o tail)
          where
            go : HasLead (scalars k) (is_field k) key_same o tail → o.compare x t ≡ Less
            go (inl z) = absurd (nz (ap (λ w. coef_at k w x) (remainder.1.zero z) ∙ coef_at_zero k x))
            go (inr l) = not_greater_less S (listed k heads) x l.0 t (remainder_low S (listed k heads) tail remainder.0 l.0 remainder.1 l.1 x nz)
                (lead_falls S e.0 first tail t l.0 (minus_plus k e.0 first) (rows e i).lead first_lead first_coef l.1)

        abbrev whole : Vect S.field
        whole = plus S.field first remainder.0

        whole_lead : LeadBy S.field (key_order S) whole t
        whole_lead = lead_plus k o first remainder.0 t first_lead lower

        whole_coef : coef_at S.field whole t ≡ c
        whole_coef = coef_at_plus k first remainder.0 t ∙ ap₂ (scalars k).◌+◌ first_coef (supp_outside k (λ x. o.compare x t ≡ Less) remainder.0 lower t (less_irreflexive o t t refl)) ∙ (scalars k).add_zero c

        whole_inside : U whole
        whole_inside =
            let w = remainder_difference S (listed k heads) tail remainder.0 remainder.1 in
            set_difference S U graded whole e.0 w.0 (plus_assoc k first remainder.0 w.0 ∙ ap (plus k first) w.2 ∙ plus_comm k first tail ∙ minus_plus k e.0 first) (rows e i).inside
            (generated_within S U graded (listed k heads) heads_inside w.0 w.1)

        reduced_row : (n : Vect S.field) × IsTailReduced e n
        reduced_row = (
          (vectors k).◌·◌ a whole,
          record {
            inside = graded.subspace.act a whole whole_inside;
            lead = lead_act k o a not_zero whole t whole_lead;
            monic = coef_at_act k a whole t ∙ ap ((scalars k).◌*◌ a) whole_coef ∙ (scalars k).mul_comm a c ∙ (is_field k).mul_inverse c there;
            homogeneous = (
              (rows e i).degree,
              supp_act k (λ x. degree S x ≡ (rows e i).degree) a whole (supp_plus k (λ x. degree S x ≡ (rows e i).degree) first remainder.0 first_homogeneous
                  (remainder.2.homogeneous (rows e i).degree (supp_minus k (λ x. degree S x ≡ (rows e i).degree) e.0 first (rows e i).homogeneous first_homogeneous))),
            );
            rest = λ x nz. other x nz (key_same t x);
          },
        )
          where
            there : ¬ (c ≡ (scalars k).zero)
            there = lead_there S e.0 t (rows e i).lead

            a : Scalar k
            a = (is_field k).inverse c

            not_zero : ¬ (a ≡ (scalars k).zero)
            not_zero z = (is_field k).one_not_zero (sym ((is_field k).mul_inverse c there) ∙ ap ((scalars k).◌*◌ c) z ∙ rings.mul_zero (scalars k) c)

            other : (x : Key) → ¬ (coef_at k ((vectors k).◌·◌ a whole) x ≡ (scalars k).zero) → Dec (t ≡ x) → (x ≡ t) ⊎ Irreducible S (listed k heads) x
            other x nz (yes p) = inl (sym p)
            other x nz (no n) = inr (λ j s l d. remainder.1.irreducible j s x l (λ z. nz (coef_at_act k a whole x ∙ ap ((scalars k).◌*◌ a)
                (coef_at_plus k first remainder.0 x ∙ ap₂ (scalars k).◌+◌ (first_only x n) z ∙ (scalars k).add_zero _) ∙ rings.mul_zero (scalars k) a)) d)

      -- all rows with their tails reduced
      reduced_rows : (l : List (Row S)) → ((e : Row S) → In e l → In e m) → (n : List (Row S)) × (leads S n ≡ leads S l) × ((f : Row S) → In f n → (e : Row S) × In e m × (f.1 ≡ e.1) × IsTailReduced e f.0)
      reduced_rows [] within = ([], refl, λ f i. absurd i)
      reduced_rows (e ∷ l) within = go (reduced_rows l (λ f i. within f (inr i)))
        where
          here : (n : Vect k) × IsTailReduced e n
          here = reduced_row e (within e (inl refl))

          go : ((n : List (Row S)) × (leads S n ≡ leads S l) × ((f : Row S) → In f n → (e : Row S) × In e m × (f.1 ≡ e.1) × IsTailReduced e f.0))
              → (n : List (Row S)) × (leads S n ≡ leads S (e ∷ l)) × ((f : Row S) → In f n → (e : Row S) × In e m × (f.1 ≡ e.1) × IsTailReduced e f.0)
          go r = ((here.0, e.1) ∷ r.0, ap (λ q. e.1 ∷ q) r.1, each)
            where
              each : (f : Row S) → In f ((here.0, e.1) ∷ r.0) → (x : Row S) × In x m × (f.1 ≡ x.1) × IsTailReduced x f.0
              each f (inl p) = (e, within e (inl refl), sym (ap (λ q. q.1) p), subst (λ q. IsTailReduced e q.0) p here.1)
              each f (inr j) = r.2 f j

      falls : (l : List (Row S)) → Fall S l → ((f : Row S) → In f l → LeadBy S.field (key_order S) f.0 f.1) → LeadsFall S.field (key_order S) (map (λ f. f.0) l)
      falls [] h lead = tt
      falls (e ∷ l) h lead = (
        λ w s t i ls lt.
            let f = from_map (λ f. f.0) w l i in
            let p : s ≡ e.1 = lead_unique (scalars k) (is_field k) key_same o e.0 s e.1 ls (lead e (inl refl)) in
            let q : t ≡ f.0.1 = lead_unique (scalars k) (is_field k) key_same o f.0.0 t f.0.1 (subst (λ y. LeadBy k o y t) (sym f.2) lt) (lead f.0 (inr f.1)) in
            ap₂ o.compare q p ∙ h.0 f.0 f.1,
        falls l h.1 (λ f i. lead f (inr i)),
      )

      -- the reduced basis, where no lead divides another
      made : NoDivision S (leads S m) → ((v : Vect S.field) (t : Key) → U v → LeadBy S.field (key_order S) v t → (e : Row S) × In e m × KeyDivides e.1 t) → (vs : List (Vect S.field)) × IsReducedBasisOf S U vs
      made apart covers = (
        vs,
        reduced_from S U graded positive vs
            (λ w i. (data_of w i).3.3.inside) (λ w i. (data_of w i).3.3.homogeneous) covered
            (λ w i. ((data_of w i).1.1, lead_of w i)) monic together (falls (sorted S n.0) (fall_sorted S n.0 (subst (NoDivision S) (sym n.1) apart)) (λ f i. row_lead f (from_sorted S n.0 f i))),
      )
        where
          n : (n : List (Row S)) × (leads S n ≡ leads S m) × ((f : Row S) → In f n → (e : Row S) × In e m × (f.1 ≡ e.1) × IsTailReduced e f.0)
          n = reduced_rows m (λ e i. i)

          vs : List (Vect k)
          vs = map (λ f. f.0) (sorted S n.0)

          row_lead : (f : Row S) → In f n.0 → LeadBy k o f.0 f.1
          row_lead f i = let e = n.2 f i in subst (LeadBy k o f.0) (sym e.2) e.3.lead

          -- of a member: its row, the row that it was made from, and what it is
          data_of : (w : Vect k) → In w vs → (f : Row S) × (e : Row S) × ((f.0 ≡ w) × In f n.0) × (In e m × (f.1 ≡ e.1) × (f.1 ≡ e.1) × IsTailReduced e w)
          data_of w i =
              let f = from_map (λ f. f.0) w (sorted S n.0) i in
              let j = from_sorted S n.0 f.0 f.1 in
              let e = n.2 f.0 j in
              (f.0, e.0, (f.2, j), (e.1, e.2, e.2, subst (IsTailReduced e.0) f.2 e.3))

          lead_of : (w : Vect k) (i : In w vs) → LeadBy k o w (data_of w i).1.1
          lead_of w i = (data_of w i).3.3.lead

          monic : (w : Vect k) (t : Key) → In w vs → LeadBy k o w t → coef_at k w t ≡ (scalars k).one
          monic w t i l = ap (coef_at k w) (lead_unique (scalars k) (is_field k) key_same o w t (data_of w i).1.1 l (lead_of w i)) ∙ (data_of w i).3.3.monic

          covered : (v : Vect k) (t : Key) → U v → LeadBy k o v t → Divided S vs t
          covered v t uv l =
              let e = covers v t uv l in
              let f = from_map (λ g. g.1) e.0.1 n.0 (subst (In e.0.1) (sym n.1) (map_in (λ g. g.1) e.0 m e.1)) in
              let p = place_of_member k vs f.0.0 (map_in (λ g. g.0) f.0 (sorted S n.0) (in_sorted S n.0 f.0 f.1)) in
              (p.0, f.0.1, subst (λ w. LeadBy k o w f.0.1) (sym p.1) (row_lead f.0 f.1), subst (λ s. KeyDivides s t) (sym f.2) e.2)

          together : (v w : Vect k) (s t : Key) → In v vs → In w vs → LeadBy k o w s → ¬ (coef_at k v t ≡ (scalars k).zero) → KeyDivides s t → w ≡ v
          together v w s t i j l nz d = go ((data_of v i).3.3.rest t nz)
            where
              a : (f : Row S) × (e : Row S) × ((f.0 ≡ v) × In f n.0) × (In e m × (f.1 ≡ e.1) × (f.1 ≡ e.1) × IsTailReduced e v)
              a = data_of v i

              b : (f : Row S) × (e : Row S) × ((f.0 ≡ w) × In f n.0) × (In e m × (f.1 ≡ e.1) × (f.1 ≡ e.1) × IsTailReduced e w)
              b = data_of w j

              is : s ≡ b.1.1
              is = lead_unique (scalars k) (is_field k) key_same o w s b.1.1 l (lead_of w j)

              go : (t ≡ (data_of v i).1.1) ⊎ Irreducible S (listed k heads) t → w ≡ v
              go (inl e) = sym b.2.0 ∙ ap (λ g. g.0) (same_row S n.0 (subst (NoDivision S) (sym n.1) apart) a.0 b.0 a.2.1 b.2.1
                  (subst (λ x. KeyDivides b.0.1 x) (e ∙ sym a.3.1) (subst (λ x. KeyDivides x t) (is ∙ sym b.3.1) d))) ∙ a.2.0
              go (inr irr) = absurd (let p = place_of_member k heads b.1.0 (map_in (λ g. g.0) b.1 m b.3.0) in
                  irr p.0 b.1.1 (subst (λ y. LeadBy k o y b.1.1) (sym p.1) (rows b.1 b.3.0).lead) (subst (λ x. KeyDivides x t) is d))

    -- a finite list of rows whose leads divide all leads gives the reduced basis
    pub reduced_exists : (l : List (Row S)) → ((e : Row S) → In e l → IsRowOf U e) → ((v : Vect S.field) (t : Key) → U v → LeadBy S.field (key_order S) v t → (e : Row S) × In e l × KeyDivides e.1 t)
        → (vs : List (Vect S.field)) × IsReducedBasisOf S U vs
    reduced_exists l rows covers =
        let m = minimal S l in
        made m.0 (λ e i. rows e (m.1.from e i)) m.1.apart (λ v t uv lead. let c = covers v t uv lead in let f = m.1.covers c.0 c.1 in (f.0, f.1, divides_trans S (λ (i : ℕ). zero_vector k) f.0.1 c.0.1 t f.2 c.2))
