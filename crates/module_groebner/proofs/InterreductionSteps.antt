-- Lists with falling leads, minimal members, and the reduced basis from a Gröbner basis.
use Rattle.std.proofs.Common.{◌≡◌, ◌⊎◌, inl, inr, ℕ, zero, suc, ◌<◌, ◌≤◌, ◌+◌, get_or, List, [], ◌∷◌, ◌++◌, map, length, sym, ap, ap₂, ◌∙◌, refl, subst, arith}
use Rattle.std.specs.Prelude.{All}
use Rattle.std.specs.List.{insert}
use native.Mathlib.Decide.{ℕ_discrete, dec_le}
use Rattle.std.specs.declared.cmp.Ordering.{Ordering}
use Rattle.std.specs.declared.cmp.Ordering.TheVariants.{Less, Equal, Greater}
use Rattle.std.specs.Ordering.{ordering_reverse}
use Rattle.alg_core.specs.RingLaws as rings
use Rattle.alg_core.specs.CanonicalLists.{indicator_yes, indicator_no}
use Rattle.alg_core.specs.Fields.{FieldOn, Scalar, Has, scalars, scalar, scalar_mul, scalar_one, is_field}
use Rattle.alg_core.specs.Keys.{Key, key, key_same, KeyDivides}
use Rattle.alg_core.specs.KeyOrders.{OrderOn, less_irreflexive, less_transitive}
use Rattle.alg_core.specs.Leads.{has_lead, HasLead}
use Rattle.alg_core.specs.Lists.{In, in_left, in_right}
use Rattle.alg_core.specs.declared.term.Term.{Term}
use Rattle.alg_core.specs.Spaces.{SpaceOver, entries, entry, place}
use Rattle.alg_core.specs.SpaceOrder.{key_order}
use Rattle.alg_core.specs.SpaceGrading.{AllPositive, degree}
use Rattle.alg_core.specs.Vectors.{Vect, vectors, coef_at, plus, scale, zero_vector}
use Rattle.alg_core.proofs.Members.{in_cases}
use Rattle.alg_core.proofs.VectorLaws.{plus_assoc, plus_comm, coef_at_plus, coef_at_zero, vec_single}
use Rattle.poly_module.specs.Signs.{minus}
use Rattle.poly_module.specs.Polynomials.{single_vector}
use Rattle.poly_module.specs.Parts.{Supp, supp_plus, supp_act, supp_single, coef_at_single, supp_outside}
use Rattle.poly_module.specs.Degrees.{IsHomogeneous}
use Rattle.poly_module.specs.Modules.{LeadBy, InModule, listed, IsGroebnerBasis}
use Rattle.poly_module.specs.ReducedLists.{LeadsFall, FitsOrder, IsReducedBasis}
use Rattle.poly_module.specs.SpaceVectors.{IsPositive, IsVector, AreVectors, vector_of, vectors_of, IsUpTo}
use Rattle.poly_module.proofs.EchelonLists.{coef_at_act}
use Rattle.poly_module.proofs.FittingKeys.{vec_fits_order}
use Rattle.poly_module.proofs.KeyGrowth.{divisor_not_greater}
use Rattle.poly_module.proofs.LeadLaws.{lead_act, lead_plus}
use Rattle.poly_module.proofs.SpaceVectorLaws.{minus_plus, supp_minus}
use Rattle.poly_module.proofs.Reduced.{place_of_member}
use Rattle.module_groebner.specs.HomogeneousLists.{degree_limit, cap_limit, AreNonzero, AreHomogeneousUpTo, IsHomogeneousUpTo}
use Rattle.module_groebner.specs.Remainders.{IsRemainder, KeepsDegrees}
use Rattle.module_groebner.specs.Interreductions.{HasLeadIn, IsDividedIn, HasMinimalLeads, IsPlaceFor, IsTailReduced}
use Rattle.module_groebner.proofs.Sums.{not_greater_less}
use Rattle.module_groebner.proofs.Remainders.{Irreducible, lead_falls, single_lead, remainder_difference, remainder_low}
use Rattle.module_groebner.proofs.Families.{all_in, in_all, homogeneous_each, member_inside, inside_by_members, listed_in, listed_past, map_append, length_map}
use Rattle.module_groebner.proofs.CriterionSteps.{up_to}
use Rattle.module_groebner.proofs.DivisionSteps.{listed_at}
use Rattle.module_groebner.proofs.ReducedBases.{module_graded, set_difference, reduced_from, covers_from}
use Rattle.module_groebner.proofs.ReducedLists.{itself}
use Rattle.module_groebner.proofs.ReductionSteps.{lead_not_zero, same_lead, lead_there}

-- what holds of all members holds of some of them
pub all_from : {A : Type 0} (P : A → Type 0) (xs ys : List A) → ((y : A) → In y ys → In y xs) → All P xs → All P ys
all_from P xs ys from h = in_all P ys (λ y i. all_in P xs h y (from y i))

-- members of a list with one more
module _ {A : Type 0} (v : A) where
  pub in_insert : (l : List A) (i : ℕ) (w : A) → In w (insert l i v) → (w ≡ v) ⊎ In w l
  in_insert [] zero w (inl e) = inl (sym e)
  in_insert [] zero w (inr h) = absurd h
  in_insert [] (suc i) w (inl e) = inl (sym e)
  in_insert [] (suc i) w (inr h) = absurd h
  in_insert (x ∷ l) zero w (inl e) = inl (sym e)
  in_insert (x ∷ l) zero w (inr h) = inr h
  in_insert (x ∷ l) (suc i) w (inl e) = inr (inl e)
  in_insert (x ∷ l) (suc i) w (inr h) = go (in_insert l i w h)
    where
      go : (w ≡ v) ⊎ In w l → (w ≡ v) ⊎ In w (x ∷ l)
      go (inl e) = inl e
      go (inr j) = inr (inr j)

  pub insert_kept : (l : List A) (i : ℕ) (w : A) → In w l → In w (insert l i v)
  insert_kept [] i w h = absurd h
  insert_kept (x ∷ l) zero w h = inr h
  insert_kept (x ∷ l) (suc i) w (inl e) = inl e
  insert_kept (x ∷ l) (suc i) w (inr h) = inr (insert_kept l i w h)

  pub insert_new : (l : List A) (i : ℕ) → In v (insert l i v)
  insert_new [] zero = inl refl
  insert_new [] (suc i) = inl refl
  insert_new (x ∷ l) zero = inl refl
  insert_new (x ∷ l) (suc i) = inr (insert_new l i)

pub map_insert : {A B : Type 0} (f : A → B) (l : List A) (i : ℕ) (v : A) → map f (insert l i v) ≡ insert (map f l) i (f v)
map_insert f [] zero v = refl
map_insert f [] (suc i) v = refl
map_insert f (x ∷ l) zero v = refl
map_insert f (x ∷ l) (suc i) v = ap (λ m. f x ∷ m) (map_insert f l i v)

module _ {E : Type 0} (S : SpaceOver E) where
  abbrev k : FieldOn E
  k = S.field

  abbrev o : OrderOn Key
  o = key_order S

  -- a vector that is not 0 has a lead
  pub lead_of : (v : Vect S.field) → ¬ (v ≡ zero_vector S.field) → (t : Key) × LeadBy S.field (key_order S) v t
  unfolding zero_vector
  lead_of v n = go (has_lead (scalars k) (is_field k) key_same o v)
    where
      go : HasLead (scalars k) (is_field k) key_same o v → (t : Key) × LeadBy k o v t
      go (inl z) = absurd (n z)
      go (inr l) = l

  module _ (v : Vect S.field) (new : ¬ (v ≡ zero_vector S.field)) where
    -- a vector put where it belongs
    pub insert_falls : (vs : List (Vect S.field)) (i : ℕ) → ((w : Vect S.field) → In w vs → ¬ (w ≡ zero_vector S.field)) → LeadsFall S.field (key_order S) vs
        → IsPlaceFor S vs v i → LeadsFall S.field (key_order S) (insert vs i v)
    insert_falls [] zero n h p = (λ w s t j ls lt. absurd j, tt)
    insert_falls [] (suc i) n h p = (λ w s t j ls lt. absurd j, tt)
    insert_falls (x ∷ vs) zero n h p = (first, h)
      where
        r : (t : Key) × LeadBy k o x t
        r = lead_of x (n x (inl refl))

        first : (w : Vect k) (s t : Key) → In w (x ∷ vs) → LeadBy k o v s → LeadBy k o w t → o.compare t s ≡ Less
        first w s t (inl e) ls lt = p.after t s (subst (λ u. LeadBy k o u t) (sym e) lt) ls
        first w s t (inr j) ls lt = less_transitive o t r.0 s (h.0 w r.0 t j r.1 lt) (p.after r.0 s r.1 ls)
    insert_falls (x ∷ vs) (suc i) n h p = (λ w s t j ls lt. go w s t ls lt (in_insert v vs i w j), insert_falls vs i (λ w j. n w (inr j)) h.1 later)
      where
        later : IsPlaceFor S vs v i
        later = record {
          within = let a = p.within in omega arith;
          before = λ j s t less ls lt. p.before (suc j) s t (omega arith) ls lt;
          after = p.after;
        }

        go : (w : Vect k) (s t : Key) → LeadBy k o x s → LeadBy k o w t → (w ≡ v) ⊎ In w vs → o.compare t s ≡ Less
        go w s t ls lt (inl e) = p.before 0 s t (omega arith) ls (subst (λ u. LeadBy k o u t) e lt)
        go w s t ls lt (inr j) = h.0 w s t j ls lt

  -- in a list with falling leads those of the first part are greater
  pub falls_front : (vs : List (Vect S.field)) (v : Vect S.field) → LeadsFall S.field (key_order S) (vs ++ (v ∷ [])) → LeadsFall S.field (key_order S) vs
  falls_front [] v h = tt
  falls_front (x ∷ vs) v h = (λ w s t j. h.0 w s t (in_left w vs (v ∷ []) j), falls_front vs v h.1)

  pub falls_last : (vs : List (Vect S.field)) (v : Vect S.field) → LeadsFall S.field (key_order S) (vs ++ (v ∷ [])) → (w : Vect S.field) (s t : Key) → In w vs
      → LeadBy S.field (key_order S) w s → LeadBy S.field (key_order S) v t → (key_order S).compare t s ≡ Less
  falls_last [] v h w s t j ls lt = absurd j
  falls_last (x ∷ vs) v h w s t (inl e) ls lt = h.0 v s t (in_right v vs (v ∷ []) (inl refl)) (subst (λ u. LeadBy k o u s) (sym e) ls) lt
  falls_last (x ∷ vs) v h w s t (inr j) ls lt = falls_last vs v h.1 w s t j ls lt

  -- one lead is of one vector
  pub falls_same : (vs : List (Vect S.field)) → LeadsFall S.field (key_order S) vs → (v w : Vect S.field) (t : Key) → In v vs → In w vs
      → LeadBy S.field (key_order S) v t → LeadBy S.field (key_order S) w t → v ≡ w
  falls_same [] h v w t i j lv lw = absurd i
  falls_same (x ∷ vs) h v w t (inl e) (inl f) lv lw = sym e ∙ f
  falls_same (x ∷ vs) h v w t (inl e) (inr j) lv lw = absurd (less_irreflexive o t t refl (h.0 w t t j (subst (λ u. LeadBy k o u t) (sym e) lv) lw))
  falls_same (x ∷ vs) h v w t (inr i) (inl f) lv lw = absurd (less_irreflexive o t t refl (h.0 v t t i (subst (λ u. LeadBy k o u t) (sym f) lw) lv))
  falls_same (x ∷ vs) h v w t (inr i) (inr j) lv lw = falls_same vs h.1 v w t i j lv lw

  -- the choice of minimal members: given is the list, left what is still to look at, kept what was kept
  pub record Minimal (given left kept : List (Vect S.field)) : Type 0 where
    pub falling : LeadsFall S.field (key_order S) left
    pub from_left : (w : Vect S.field) → In w left → In w given
    pub from : (w : Vect S.field) → In w kept → In w given
    pub below : (v w : Vect S.field) (s t : Key) → In v kept → In w left → LeadBy S.field (key_order S) v s → LeadBy S.field (key_order S) w t → (key_order S).compare s t ≡ Less
    pub apart : HasMinimalLeads S kept
    pub covers : (w : Vect S.field) (s : Key) → In w given → LeadBy S.field (key_order S) w s → In w left ⊎ IsDividedIn S kept s

  pub minimal_start : (given : List (Vect S.field)) → LeadsFall S.field (key_order S) given → Minimal given given []
  minimal_start given h = record {
    falling = h;
    from_left = λ w i. i;
    from = λ w i. absurd i;
    below = λ v w s t i. absurd i;
    apart = λ v w s t i. absurd i;
    covers = λ w s i l. inl i;
  }

  pub minimal_end : (given kept : List (Vect S.field)) → Minimal given [] kept → (w : Vect S.field) (s : Key) → In w given → LeadBy S.field (key_order S) w s → IsDividedIn S kept s
  minimal_end given kept m w s i l = go (m.covers w s i l)
    where
      go : In w [] ⊎ IsDividedIn S kept s → IsDividedIn S kept s
      go (inl j) = absurd j
      go (inr d) = d

  divided_more : (vs ws : List (Vect S.field)) (s : Key) → IsDividedIn S vs s → IsDividedIn S (vs ++ ws) s
  divided_more vs ws s d = (d.0, d.1, in_left d.0 vs ws d.2, d.3, d.4)

  module _ (given left kept : List (Vect S.field)) (v : Vect S.field) (t : Key) (lead : LeadBy S.field (key_order S) v t) (m : Minimal given (left ++ (v ∷ [])) kept) where
    -- one whose lead that of a kept one divides is left out
    pub minimal_skip : IsDividedIn S kept t → Minimal given left kept
    minimal_skip d = record {
      falling = falls_front left v m.falling;
      from_left = λ w i. m.from_left w (in_left w left (v ∷ []) i);
      from = m.from;
      below = λ x w r s i j. m.below x w r s i (in_left w left (v ∷ []) j);
      apart = m.apart;
      covers = λ w s i l. go w s l (m.covers w s i l);
    }
      where
        at : (w : Vect k) (s : Key) → LeadBy k o w s → In w left ⊎ In w (v ∷ []) → In w left ⊎ IsDividedIn S kept s
        at w s l (inl i) = inl i
        at w s l (inr (inl e)) = inr (subst (IsDividedIn S kept) (same_lead S w t s (subst (λ u. LeadBy k o u t) e lead) l) d)
        at w s l (inr (inr i)) = absurd i

        go : (w : Vect k) (s : Key) → LeadBy k o w s → In w (left ++ (v ∷ [])) ⊎ IsDividedIn S kept s → In w left ⊎ IsDividedIn S kept s
        go w s l (inl i) = at w s l (in_cases w left (v ∷ []) i)
        go w s l (inr d) = inr d

    -- another is kept: no smaller lead is a multiple of its lead
    pub minimal_keep : IsPositive S → FitsOrder S t → ¬ IsDividedIn S kept t → Minimal given left (kept ++ (v ∷ []))
    minimal_keep positive fits n = record {
      falling = falls_front left v m.falling;
      from_left = λ w i. m.from_left w (in_left w left (v ∷ []) i);
      from = λ w i. from w (in_cases w kept (v ∷ []) i);
      below = λ x w r s i j lx lw. below x w r s j lx lw (in_cases x kept (v ∷ []) i);
      apart = λ x w r s i j lx lw d. apart x w r s lx lw d (in_cases x kept (v ∷ []) i) (in_cases w kept (v ∷ []) j);
      covers = λ w s i l. go w s l (m.covers w s i l);
    }
      where
        last : In v (left ++ (v ∷ []))
        last = in_right v left (v ∷ []) (inl refl)

        is_t : (w : Vect k) (s : Key) → v ≡ w → LeadBy k o w s → t ≡ s
        is_t w s e l = same_lead S w t s (subst (λ u. LeadBy k o u t) e lead) l

        from : (w : Vect k) → In w kept ⊎ In w (v ∷ []) → In w given
        from w (inl i) = m.from w i
        from w (inr (inl e)) = subst (λ u. In u given) e (m.from_left v last)
        from w (inr (inr i)) = absurd i

        below : (x w : Vect k) (r s : Key) → In w left → LeadBy k o x r → LeadBy k o w s → In x kept ⊎ In x (v ∷ []) → o.compare r s ≡ Less
        below x w r s j lx lw (inl i) = m.below x w r s i (in_left w left (v ∷ []) j) lx lw
        below x w r s j lx lw (inr (inl e)) = falls_last left v m.falling w s r j lw (subst (λ u. LeadBy k o u r) (sym e) lx)
        below x w r s j lx lw (inr (inr i)) = absurd i

        apart : (x w : Vect k) (r s : Key) → LeadBy k o x r → LeadBy k o w s → KeyDivides r s → In x kept ⊎ In x (v ∷ []) → In w kept ⊎ In w (v ∷ []) → x ≡ w
        apart x w r s lx lw d (inl i) (inl j) = m.apart x w r s i j lx lw d
        apart x w r s lx lw d (inl i) (inr (inl e)) = absurd (n (x, r, i, lx, subst (KeyDivides r) (sym (is_t w s e lw)) d))
        apart x w r s lx lw d (inr (inl e)) (inl j) = absurd (divisor_not_greater S positive.order t s fits (subst (λ u. KeyDivides u s) (sym (is_t x r e lx)) d) (m.below w v s t j last lw lead))
        apart x w r s lx lw d (inr (inl e)) (inr (inl f)) = sym e ∙ f
        apart x w r s lx lw d (inl i) (inr (inr j)) = absurd j
        apart x w r s lx lw d (inr (inl e)) (inr (inr j)) = absurd j
        apart x w r s lx lw d (inr (inr i)) j = absurd i

        at : (w : Vect k) (s : Key) → LeadBy k o w s → In w left ⊎ In w (v ∷ []) → In w left ⊎ IsDividedIn S (kept ++ (v ∷ [])) s
        at w s l (inl i) = inl i
        at w s l (inr (inl e)) = inr (v, t, in_right v kept (v ∷ []) (inl refl), lead, subst (KeyDivides t) (is_t w s e l) (itself S t))
        at w s l (inr (inr i)) = absurd i

        go : (w : Vect k) (s : Key) → LeadBy k o w s → In w (left ++ (v ∷ [])) ⊎ IsDividedIn S kept s → In w left ⊎ IsDividedIn S (kept ++ (v ∷ [])) s
        go w s l (inl i) = at w s l (in_cases w left (v ∷ []) i)
        go w s l (inr d) = inr (divided_more kept (v ∷ []) s d)

  -- a member with its tail divided
  module _ (positive : AllPositive S.weights) (vs : List (Vect S.field)) (homogeneous : (w : Vect S.field) → In w vs → (d : ℕ) × IsHomogeneous S d w) (v : Vect S.field) (i : In v vs) (t : Key) (lead : LeadBy S.field (key_order S) v t) where
    abbrev g : ℕ → Vect S.field
    g = listed S.field vs

    abbrev c : Scalar S.field
    c = coef_at S.field v t

    abbrev first : Vect S.field
    first = (vectors S.field).◌·◌ c (single_vector S.field t)

    first_homogeneous : (d : ℕ) → IsHomogeneous S d v → IsHomogeneous S d first
    first_homogeneous d h = supp_act k (λ x. degree S x ≡ d) c _ (supp_single k (λ x. degree S x ≡ d) t (h t (lead_there S v t lead)))

    pub tail_homogeneous : (d : ℕ) → IsHomogeneous S d v → IsHomogeneous S d (minus S.field v first)
    tail_homogeneous d h = supp_minus k (λ x. degree S x ≡ d) v first h (first_homogeneous d h)

    first_lead : LeadBy S.field (key_order S) first t
    first_lead = lead_act k o c (lead_there S v t lead) (single_vector k t) t (single_lead S positive vs (homogeneous_each S vs homogeneous) t)

    first_coef : coef_at S.field first t ≡ c
    first_coef = coef_at_act k c (single_vector k t) t ∙ ap ((scalars k).◌*◌ c) (coef_at_single k t t ∙ indicator_yes (scalars k) (key_same t t) refl) ∙ (scalars k).mul_one c

    first_only : (x : Key) → ¬ (t ≡ x) → coef_at S.field first x ≡ (scalars S.field).zero
    first_only x n = coef_at_act k c (single_vector k t) x ∙ ap ((scalars k).◌*◌ c) (coef_at_single k t x ∙ indicator_no (scalars k) (key_same t x) n) ∙ rings.mul_zero (scalars k) c

    module _ (r : Vect S.field) (rem : IsRemainder S (listed S.field vs) (minus S.field v ((vectors S.field).◌·◌ (coef_at S.field v t) (single_vector S.field t))) r)
        (keeps : KeepsDegrees S (minus S.field v ((vectors S.field).◌·◌ (coef_at S.field v t) (single_vector S.field t))) r) where
      lower : Supp S.field (λ x. (key_order S).compare x t ≡ Less) r
      unfolding zero_vector
      lower x nz = go (has_lead (scalars k) (is_field k) key_same o (minus k v first))
        where
          go : HasLead (scalars k) (is_field k) key_same o (minus k v first) → o.compare x t ≡ Less
          go (inl z) = absurd (nz (ap (λ w. coef_at k w x) (rem.zero z) ∙ coef_at_zero k x))
          go (inr l) = not_greater_less S g x l.0 t (remainder_low S g (minus k v first) r l.0 rem l.1 x nz)
              (lead_falls S v first (minus k v first) t l.0 (minus_plus k v first) lead first_lead first_coef l.1)

      abbrev whole : Vect S.field
      whole = plus S.field first r

      whole_lead : LeadBy S.field (key_order S) whole t
      whole_lead = lead_plus k o first r t first_lead lower

      whole_coef : coef_at S.field whole t ≡ c
      whole_coef = coef_at_plus k first r t ∙ ap₂ (scalars k).◌+◌ first_coef (supp_outside k (λ x. o.compare x t ≡ Less) r lower t (less_irreflexive o t t refl)) ∙ (scalars k).add_zero c

      whole_inside : InModule S.field (listed S.field vs) whole
      whole_inside =
          let w = remainder_difference S g (minus k v first) r rem in
          set_difference S (InModule k g) (module_graded S g (homogeneous_each S vs homogeneous)) whole v w.0 (plus_assoc k first r w.0 ∙ ap (plus k first) w.2 ∙ plus_comm k first (minus k v first) ∙ minus_plus k v first)
          (member_inside k vs v i) w.1

      pub tail_reduced : (a : Scalar S.field) → (scalars S.field).◌*◌ (coef_at S.field v t) a ≡ (scalars S.field).one
          → IsTailReduced S (listed S.field vs) v ((vectors S.field).◌·◌ a (plus S.field ((vectors S.field).◌·◌ (coef_at S.field v t) (single_vector S.field t)) r))
      tail_reduced a one = record {
        inside = (module_graded S g (homogeneous_each S vs homogeneous)).subspace.act a whole whole_inside;
        lead = λ s l. subst (LeadBy k o ((vectors k).◌·◌ a whole)) (same_lead S v t s lead l) (lead_act k o a not_zero whole t whole_lead);
        monic = λ s l. ap (coef_at k ((vectors k).◌·◌ a whole)) (same_lead S v s t l lead) ∙ coef_at_act k a whole t ∙ ap ((scalars k).◌*◌ a) whole_coef ∙ (scalars k).mul_comm a c ∙ one;
        homogeneous = λ d h. supp_act k (λ x. degree S x ≡ d) a whole (supp_plus k (λ x. degree S x ≡ d) first r (first_homogeneous d h) (keeps.homogeneous d (tail_homogeneous d h)));
        rest = λ s x l nz. subst (λ u. (x ≡ u) ⊎ Irreducible S g x) (same_lead S v t s lead l) (other x nz (key_same t x));
      }
        where
          not_zero : ¬ (a ≡ (scalars k).zero)
          not_zero z = (is_field k).one_not_zero (sym one ∙ ap ((scalars k).◌*◌ c) z ∙ rings.mul_zero (scalars k) c)

          other : (x : Key) → ¬ (coef_at k ((vectors k).◌·◌ a whole) x ≡ (scalars k).zero) → Dec (t ≡ x) → (x ≡ t) ⊎ Irreducible S g x
          other x nz (yes p) = inl (sym p)
          other x nz (no n) = inr (λ j s l d. rem.irreducible j s x l (λ z. nz (coef_at_act k a whole x ∙ ap ((scalars k).◌*◌ a)
              (coef_at_plus k first r x ∙ ap₂ (scalars k).◌+◌ (first_only x n) z ∙ (scalars k).add_zero _) ∙ rings.mul_zero (scalars k) a)) d)

  -- all together
  module _ (members falling kept made : List (Vect S.field))
      (positive : AllPositive S.weights)
      (homogeneous : (w : Vect S.field) → In w members → (d : ℕ) × IsHomogeneous S d w)
      (falling_from : (w : Vect S.field) → In w falling → In w members)
      (falling_leads : (i : ℕ) (s : Key) → LeadBy S.field (key_order S) (listed S.field members i) s → HasLeadIn S falling s)
      (kept_from : (w : Vect S.field) → In w kept → In w falling)
      (kept_nonzero : (w : Vect S.field) → In w kept → ¬ (w ≡ zero_vector S.field))
      (kept_apart : HasMinimalLeads S kept)
      (kept_covers : (w : Vect S.field) (s : Key) → In w falling → LeadBy S.field (key_order S) w s → IsDividedIn S kept s)
      (made_falls : LeadsFall S.field (key_order S) made)
      (made_from : (n : Vect S.field) → In n made → (i : ℕ) × (i < length kept) × IsTailReduced S (listed S.field kept) (listed S.field kept i) n)
      (made_leads : (i : ℕ) (s : Key) → LeadBy S.field (key_order S) (listed S.field kept i) s → HasLeadIn S made s) where
    abbrev U : Vect S.field → Type 0
    U = InModule S.field (listed S.field members)

    source : (n : Vect S.field) → In n made → (v : Vect S.field) × (t : Key) × In v kept × LeadBy S.field (key_order S) v t × IsTailReduced S (listed S.field kept) v n
    source n i = let f = made_from n i in let j = listed_in k kept f.0 f.1 in let l = lead_of (listed k kept f.0) (kept_nonzero (listed k kept f.0) j) in (listed k kept f.0, l.0, j, l.1, f.2)

    kept_inside : (w : Vect S.field) → In w kept → InModule S.field (listed S.field members) w
    kept_inside w i = member_inside k members w (falling_from w (kept_from w i))

    pub made_homogeneous : (d : ℕ) → AreHomogeneousUpTo S d members → AreHomogeneousUpTo S d made
    made_homogeneous d h = in_all (IsHomogeneousUpTo S d) made (λ n i. let f = source n i in let a = all_in (IsHomogeneousUpTo S d) members h f.0 (falling_from f.0 (kept_from f.0 f.2)) in (a.0, a.1, f.4.homogeneous a.0 a.2))

    finer : (i : ℕ) (s : Key) → LeadBy S.field (key_order S) (listed S.field members i) s → (j : ℕ) × (t : Key) × LeadBy S.field (key_order S) (listed S.field made j) t × KeyDivides t s
    finer i s l =
        let a = falling_leads i s l in
        let b = kept_covers a.0 s a.1 a.2 in
        let p = place_of_member k kept b.0 b.2 in
        let c = made_leads p.0 b.1 (subst (λ u. LeadBy k o u b.1) (sym p.1) b.3) in
        let q = place_of_member k made c.0 c.1 in
        (q.0, b.1, subst (λ u. LeadBy k o u b.1) (sym q.1) c.2, b.4)

    made_apart : (v w : Vect S.field) (s t : Key) → In v made → In w made → LeadBy S.field (key_order S) w s → ¬ (coef_at S.field v t ≡ (scalars S.field).zero) → KeyDivides s t → w ≡ v
    made_apart v w s t i j l nz d = go (a.4.rest a.1 t a.3 nz)
      where
        a : (x : Vect k) × (r : Key) × In x kept × LeadBy k o x r × IsTailReduced S (listed k kept) x v
        a = source v i

        b : (x : Vect k) × (r : Key) × In x kept × LeadBy k o x r × IsTailReduced S (listed k kept) x w
        b = source w j

        is : s ≡ b.1
        is = same_lead S w s b.1 l (b.4.lead b.1 b.3)

        d' : KeyDivides b.1 t
        d' = subst (λ u. KeyDivides u t) is d

        go : (t ≡ a.1) ⊎ Irreducible S (listed k kept) t → w ≡ v
        go (inl e) = let same : b.0 ≡ a.0 = kept_apart b.0 a.0 b.1 a.1 b.2 a.2 b.3 a.3 (subst (KeyDivides b.1) e d') in
            falls_same made made_falls w v b.1 j i (b.4.lead b.1 b.3) (a.4.lead b.1 (subst (λ u. LeadBy k o u b.1) same b.3))
        go (inr irr) = absurd (let p = place_of_member k kept b.0 b.2 in irr p.0 b.1 (subst (λ u. LeadBy k o u b.1) (sym p.1) b.3) d')

    pub made_reduced : IsGroebnerBasis S.field (listed S.field members) (key_order S) → IsReducedBasis S (listed S.field members) made
    made_reduced basis = reduced_from S U (module_graded S (listed k members) (homogeneous_each S members homogeneous)) positive made
        (λ n i. let f = source n i in inside_by_members k kept (listed k members) kept_inside n f.4.inside)
        (λ n i. let f = source n i in let h = homogeneous f.0 (falling_from f.0 (kept_from f.0 f.2)) in (h.0, f.4.homogeneous h.0 h.1))
        (covers_from S (listed k members) U basis made finer)
        (λ n i. let f = source n i in (f.1, f.4.lead f.1 f.3))
        (λ n t i l. let f = source n i in subst (λ u. coef_at k n u ≡ (scalars k).one) (same_lead S n f.1 t (f.4.lead f.1 f.3) l) (f.4.monic f.1 f.3))
        made_apart made_falls

  -- lists of terms
  module _ {M : Type 0} (exps : M → List ℕ) where
    abbrev Terms : Type 0
    Terms = List (Term E M)

    abbrev of : List Terms → List (Vect S.field)
    of = vectors_of S exps

    -- the leads of the first i members are greater
    abbrev pub Before : List Terms → Vect S.field → ℕ → Type 0
    Before list v i = (j : ℕ) (s t : Key) → j < i → LeadBy S.field (key_order S) (listed S.field (vectors_of S exps list) j) s → LeadBy S.field (key_order S) v t → (key_order S).compare t s ≡ Less

    pub place_end : (list : List Terms) (v : Vect S.field) (n : ℕ) → length list ≤ n → Before list v n → IsPlaceFor S (vectors_of S exps list) v (length list)
    place_end list v n h b = record {
      within = let e = length_map (vector_of S exps) list in omega arith;
      before = λ j s t less. b j s t (omega arith);
      after = λ s t ls. absurd (lead_not_zero S _ s ls (listed_past k (of list) (length list) (let e = length_map (vector_of S exps) list in omega arith)));
    }

    module _ (list : List Terms) (v : Vect S.field) (i : ℕ) (x : Terms) (h : i < length list) (e : x ≡ get_or list i x) (r : Ordering)
        (is : (s t : Key) → LeadBy S.field (key_order S) (vector_of S exps x) s → LeadBy S.field (key_order S) v t → r ≡ (key_order S).compare s t) where
      at : vector_of S exps x ≡ listed S.field (vectors_of S exps list) i
      at = listed_at S exps list i x h e

      here : (s : Key) → LeadBy S.field (key_order S) (listed S.field (vectors_of S exps list) i) s → LeadBy S.field (key_order S) (vector_of S exps x) s
      here s = subst (λ u. LeadBy k o u s) (sym at)

      pub place_equal : ¬ (vector_of S exps x ≡ zero_vector S.field) → r ≡ Equal → (s : Key) → LeadBy S.field (key_order S) v s → HasLeadIn S (vectors_of S exps list) s
      place_equal n q s l = let a = lead_of (vector_of S exps x) n in let same : a.0 ≡ s = o.tied a.0 s (sym (is a.0 s a.1 l) ∙ q) in
          (listed k (of list) i, listed_in k (of list) i (let e = length_map (vector_of S exps) list in omega arith), subst (λ u. LeadBy k o u s) at (subst (LeadBy k o (vector_of S exps x)) same a.1))

      pub place_less : r ≡ Less → Before list v i → IsPlaceFor S (vectors_of S exps list) v i
      place_less q b = record {
        within = let e = length_map (vector_of S exps) list in omega arith;
        before = b;
        after = λ s t ls lt. sym (is s t (here s ls) lt) ∙ q;
      }

      pub place_greater : r ≡ Greater → Before list v i → Before list v (i + 1)
      place_greater q b j s t less ls lt = go (ℕ_discrete j i)
        where
          go : Dec (j ≡ i) → o.compare t s ≡ Less
          go (yes p) = o.total.antisymm t s ∙ ap ordering_reverse (sym (is s t (here s (subst (λ n. LeadBy k o (listed k (of list) n) s) p ls)) lt) ∙ q)
          go (no n) = b j s t (omega arith) ls lt

    module _ (old new : List Terms) (i : ℕ) (v : Terms) (is : new ≡ insert old i v) where
      inserted_is : vectors_of S exps new ≡ insert (vectors_of S exps old) i (vector_of S exps v)
      inserted_is = ap (vectors_of S exps) is ∙ map_insert (vector_of S exps) old i v

      pub inserted_from : (w : Vect S.field) → In w (vectors_of S exps new) → (w ≡ vector_of S exps v) ⊎ In w (vectors_of S exps old)
      inserted_from w j = in_insert (vector_of S exps v) (of old) i w (subst (In w) inserted_is j)

      pub inserted_kept : (w : Vect S.field) → In w (vectors_of S exps old) → In w (vectors_of S exps new)
      inserted_kept w j = subst (In w) (sym inserted_is) (insert_kept (vector_of S exps v) (of old) i w j)

      pub inserted_lead : (s : Key) → LeadBy S.field (key_order S) (vector_of S exps v) s → HasLeadIn S (vectors_of S exps new) s
      inserted_lead s l = (vector_of S exps v, subst (In (vector_of S exps v)) (sym inserted_is) (insert_new (vector_of S exps v) (of old) i), l)

      pub inserted_nonzero : AreNonzero S.field (vectors_of S exps old) → ¬ (vector_of S exps v ≡ zero_vector S.field) → AreNonzero S.field (vectors_of S exps new)
      inserted_nonzero h n = in_all (λ u. ¬ (u ≡ zero_vector k)) (of new) (λ w j. go w (inserted_from w j))
        where
          go : (w : Vect k) → (w ≡ vector_of S exps v) ⊎ In w (of old) → ¬ (w ≡ zero_vector k)
          go w (inl e) = λ z. n (sym e ∙ z)
          go w (inr j) = all_in (λ u. ¬ (u ≡ zero_vector k)) (of old) h w j

      pub inserted_falls : AreNonzero S.field (vectors_of S exps old) → ¬ (vector_of S exps v ≡ zero_vector S.field) → LeadsFall S.field (key_order S) (vectors_of S exps old)
          → IsPlaceFor S (vectors_of S exps old) (vector_of S exps v) i → LeadsFall S.field (key_order S) (vectors_of S exps new)
      inserted_falls h n f p = subst (LeadsFall k o) (sym inserted_is) (insert_falls (vector_of S exps v) n (of old) i (all_in (λ u. ¬ (u ≡ zero_vector k)) (of old) h) f p)

    -- the last of a list
    module _ (list rest : List Terms) (v : Terms) (is : list ≡ rest ++ (v ∷ [])) where
      pub popped_is : vectors_of S exps list ≡ vectors_of S exps rest ++ (vector_of S exps v ∷ [])
      popped_is = ap (vectors_of S exps) is ∙ map_append (vector_of S exps) rest (v ∷ [])

      pub popped_nonzero : AreNonzero S.field (vectors_of S exps list) → (¬ (vector_of S exps v ≡ zero_vector S.field)) × AreNonzero S.field (vectors_of S exps rest)
      popped_nonzero h = let a = all_in (λ u. ¬ (u ≡ zero_vector k)) (of list) h in (
        a (vector_of S exps v) (subst (In (vector_of S exps v)) (sym popped_is) (in_right (vector_of S exps v) (of rest) (vector_of S exps v ∷ []) (inl refl))),
        in_all (λ u. ¬ (u ≡ zero_vector k)) (of rest) (λ w i. a w (subst (In w) (sym popped_is) (in_left w (of rest) (vector_of S exps v ∷ []) i))),
      )

      pub popped_fit : AreVectors S exps list → IsVector S exps v × AreVectors S exps rest
      popped_fit h = let a = all_in (IsVector S exps) list h in (
        a v (subst (In v) (sym is) (in_right v rest (v ∷ []) (inl refl))),
        in_all (IsVector S exps) rest (λ w i. a w (subst (In w) (sym is) (in_left w rest (v ∷ []) i))),
      )

    pub pushed_fit : (old new : List Terms) (v : Terms) → new ≡ old ++ (v ∷ []) → AreVectors S exps old → IsVector S exps v → AreVectors S exps new
    pushed_fit old new v is h f = in_all (IsVector S exps) new (λ w i. go w (in_cases w old (v ∷ []) (subst (In w) is i)))
      where
        go : (w : Terms) → In w old ⊎ In w (v ∷ []) → IsVector S exps w
        go w (inl i) = all_in (IsVector S exps) old h w i
        go w (inr (inl e)) = subst (IsVector S exps) e f
        go w (inr (inr i)) = absurd i

    -- what the search for a divisor says
    pub divided_by : (kept : List Terms) (i : ℕ) (t : Key) → i < length kept → (s : Key) × LeadBy S.field (key_order S) (listed S.field (vectors_of S exps kept) i) s × KeyDivides s t → IsDividedIn S (vectors_of S exps kept) t
    divided_by kept i t h d = (listed k (of kept) i, d.0, listed_in k (of kept) i (let e = length_map (vector_of S exps) kept in omega arith), d.1, d.2)

    pub not_divided : (kept : List Terms) (t : Key) → ((i : ℕ) (s : Key) → LeadBy S.field (key_order S) (listed S.field (vectors_of S exps kept) i) s → ¬ KeyDivides s t) → ¬ IsDividedIn S (vectors_of S exps kept) t
    not_divided kept t n d = let p = place_of_member k (of kept) d.0 d.2 in n p.0 d.1 (subst (λ u. LeadBy k o u d.1) (sym p.1) d.3) d.4

    -- one step of the choice of minimal members
    module _ (given list rest kept : List Terms) (v : Terms) (is : list ≡ rest ++ (v ∷ [])) (t : Key) (lead : LeadBy S.field (key_order S) (vector_of S exps v) t) (m : Minimal (vectors_of S exps given) (vectors_of S exps list) (vectors_of S exps kept)) where
      before_pop : Minimal (vectors_of S exps given) (vectors_of S exps rest ++ (vector_of S exps v ∷ [])) (vectors_of S exps kept)
      before_pop = subst (λ l. Minimal (of given) l (of kept)) (popped_is list rest v is) m

      pub skips : IsDividedIn S (vectors_of S exps kept) t → Minimal (vectors_of S exps given) (vectors_of S exps rest) (vectors_of S exps kept)
      skips d = minimal_skip (of given) (of rest) (of kept) (vector_of S exps v) t lead before_pop d

      pub keeps_it : IsPositive S → IsVector S exps v → (new : List Terms) → new ≡ kept ++ (v ∷ []) → ¬ IsDividedIn S (vectors_of S exps kept) t
          → Minimal (vectors_of S exps given) (vectors_of S exps rest) (vectors_of S exps new)
      keeps_it positive fits new same n = subst (Minimal (of given) (of rest)) (sym (popped_is new kept v same)) (minimal_keep (of given) (of rest) (of kept) (vector_of S exps v) t lead before_pop positive
          (vec_fits_order S (entries exps v) fits t (lead_there S (vector_of S exps v) t lead))
          n)

  -- leads of the members before a place, and of all
  pub leads_more : (g : ℕ → Vect S.field) (old new : List (Vect S.field)) (i : ℕ) → ((w : Vect S.field) → In w old → In w new) → ((s : Key) → LeadBy S.field (key_order S) (g i) s → HasLeadIn S new s)
      → ((j : ℕ) (s : Key) → j < i → LeadBy S.field (key_order S) (g j) s → HasLeadIn S old s) → (j : ℕ) (s : Key) → j < i + 1 → LeadBy S.field (key_order S) (g j) s → HasLeadIn S new s
  leads_more g old new i kept lead h j s less l = go (ℕ_discrete j i)
    where
      go : Dec (j ≡ i) → HasLeadIn S new s
      go (yes p) = lead s (subst (λ n. LeadBy k o (g n) s) p l)
      go (no n) = let a = h j s (omega arith) l in (a.0, kept a.0 a.1, a.2)

  pub leads_all : (vs made : List (Vect S.field)) (n : ℕ) → length vs ≤ n → ((j : ℕ) (s : Key) → j < n → LeadBy S.field (key_order S) (listed S.field vs j) s → HasLeadIn S made s)
      → (j : ℕ) (s : Key) → LeadBy S.field (key_order S) (listed S.field vs j) s → HasLeadIn S made s
  leads_all vs made n low h j s l = go (dec_le (suc j) (length vs))
    where
      go : Dec (suc j ≤ length vs) → HasLeadIn S made s
      go (yes p) = h j s (omega arith) l
      go (no q) = absurd (lead_not_zero S _ s l (listed_past k vs j (omega arith)))

  pub from_more : (P : Vect S.field → Type 0) (old new : List (Vect S.field)) (v : Vect S.field) → ((w : Vect S.field) → In w new → (w ≡ v) ⊎ In w old) → P v → ((w : Vect S.field) → In w old → P w) → (w : Vect S.field) → In w new → P w
  from_more P old new v from pv h w i = go (from w i)
    where
      go : (w ≡ v) ⊎ In w old → P w
      go (inl e) = subst P (sym e) pv
      go (inr j) = h w j

  -- a member of a list of terms with its tail divided
  module _ {M : Type 0} (exps : M → List ℕ) (positive : AllPositive S.weights) (list : List (List (Term E M))) (h : AreHomogeneousUpTo S cap_limit (vectors_of S exps list)) (i : ℕ) (x : List (Term E M)) (hi : i < length list) (e : x ≡ get_or list i x)
      (term : Term E M) (lead : LeadBy S.field (key_order S) (vector_of S exps x) (key (place exps term.at))) (value : coef_at S.field (vector_of S exps x) (key (place exps term.at)) ≡ scalar S.field term.coef)
      (first tail : Vect S.field) (f : first ≡ vector_of S exps (term ∷ [])) (tl : tail ≡ minus S.field (vector_of S exps x) first) where
    abbrev vs : List (Vect S.field)
    vs = vectors_of S exps list

    abbrev t : Key
    t = key (place exps term.at)

    abbrev v : Vect S.field
    v = vector_of S exps x

    at_i : v ≡ listed S.field vs i
    at_i = listed_at S exps list i x hi e

    each : (w : Vect S.field) → In w vs → (d : ℕ) × IsHomogeneous S d w
    each w j = let a = all_in (IsHomogeneousUpTo S cap_limit) vs h w j in (a.0, a.2)

    there : In v vs
    there = subst (λ u. In u vs) (sym at_i) (listed_in k vs i (let n = length_map (vector_of S exps) list in omega arith))

    first_is : first ≡ (vectors S.field).◌·◌ (coef_at S.field v t) (single_vector S.field t)
    unfolding single_vector
    first_is = f ∙ vec_single k (entry exps term) ∙ ap (λ a. (vectors k).◌·◌ a (single_vector k t)) (sym value)

    tail_is : tail ≡ minus S.field v ((vectors S.field).◌·◌ (coef_at S.field v t) (single_vector S.field t))
    tail_is = tl ∙ ap (minus k v) first_is

    pub tail_up_to : IsUpTo S degree_limit tail
    tail_up_to = let a = all_in (IsHomogeneousUpTo S cap_limit) vs h v there in
        up_to S exps degree_limit tail (a.0, (let b = a.1 in omega arith), subst (IsHomogeneous S a.0) (sym tail_is) (tail_homogeneous positive vs each v there t lead a.0 a.2))

    pub tail_done : (r whole n : Vect S.field) (inverse : E) → IsRemainder S (listed S.field (vectors_of S exps list)) tail r → KeepsDegrees S tail r → whole ≡ plus S.field first r
        → Has S.field term.coef → Has S.field inverse → S.field.mul term.coef inverse ≡ S.field.one → n ≡ scale S.field inverse whole
        → IsTailReduced S (listed S.field (vectors_of S exps list)) (listed S.field (vectors_of S exps list) i) n
    unfolding scale
    tail_done r whole n inverse rem keeps w hc hi one is = subst (λ u. IsTailReduced S (listed k vs) u n) at_i (subst (IsTailReduced S (listed k vs) v) (sym made)
        (tail_reduced positive vs each v there t lead r (subst (λ u. IsRemainder S (listed k vs) u r) tail_is rem) (subst (λ u. KeepsDegrees S u r) tail_is keeps) (scalar k inverse)
        (ap (λ a. (scalars k).◌*◌ a (scalar k inverse)) value ∙ sym (scalar_mul k term.coef inverse hc hi) ∙ ap (scalar k) one ∙ scalar_one k)))
      where
        made : n ≡ (vectors k).◌·◌ (scalar k inverse) (plus k ((vectors k).◌·◌ (coef_at k v t) (single_vector k t)) r)
        made = is ∙ ap ((vectors k).◌·◌ (scalar k inverse)) (w ∙ ap (λ u. plus k u r) first_is)
