-- The monomials that no lead of the lifts divides are the standard monomials.
use Rattle.std.proofs.Common.{◌≡◌, ◌∙◌, ◌↔◌, ◌+◌, ◌<◌, ◌≤◌, ℕ, zero, suc, Bool, true, false, not, ◌&&◌, List, [], ◌∷◌, length, take, replicate, refl, sym, ap, ap₂, subst, inl, inr, arith}
use Rattle.std.specs.Prelude.{All}
use Rattle.std.proofs.lemmas.List.{length-take-le}
use native.Mathlib.Decide.{dec_le}
use Rattle.alg_core.specs.Fields.{FieldOn, scalars, is_field}
use Rattle.alg_core.specs.ExponentLists.{divides}
use Rattle.alg_core.specs.Keys.{Key, key, key_same, KeyDivides}
use Rattle.alg_core.specs.KeyOrders.{OrderOn}
use Rattle.alg_core.specs.Leads.{lead_unique}
use Rattle.alg_core.specs.Lists.{In, map_in}
use Rattle.alg_core.specs.Monomials.{Mon, monomials, mono, mono_ext, mon_ext, exponent, exponent_mono, exponent_one, mono_exponents, exponents, length_exponents}
use Rattle.alg_core.specs.PlaceOrders.{PlaceOrder}
use Rattle.alg_core.specs.PolynomialSpaces.{marked_space}
use Rattle.alg_core.specs.Spaces.{SpaceOver, entry, entries}
use Rattle.alg_core.specs.SpaceOrder.{key_order, key_compare, key_total, key_tied}
use Rattle.alg_core.specs.Vectors.{Vect}
use Rattle.alg_core.specs.declared.term.Term.{Term}
use Rattle.alg_core.proofs.FittingLists.{lead_first}
use Rattle.alg_core.proofs.Members.{from_map}
use Rattle.alg_core.proofs.MonomialLists.{mono_divides, divides_mono, exponent_past, exponent_zeros, length_mono}
use Rattle.alg_core.proofs.VectorLaws.{vec_nothing}
use Rattle.poly_module.specs.Modules.{LeadBy}
use Rattle.poly_module.specs.SpaceVectors.{IsPoly, vector_of, vectors_of}
use Rattle.module_groebner.proofs.CompletionEnds.{lead_not_zero}
use Rattle.module_groebner.proofs.Families.{all_in, in_all}
use Rattle.finite_certificate.specs.MarkSpaces.{degree_limit}
use Rattle.finite_certificate.specs.StandardMonomials.{IsStandard, IsLeadMultiple, AreStandardMonomials, IsOverRank}
use Rattle.finite_certificate.proofs.LowImages.{marked_length}
use Rattle.finite_certificate.proofs.StandardTests.{one_standard}
use Rattle.primary_module.proofs.LiftLaws.{standard_exact}
use Rattle.groebner_hom.specs.IdealBases.{IsHomogeneousPoly}
use Rattle.primary_module.specs.PrimaryModules.{AreForModule}
use Rattle.primary_module.specs.UndividedMonomials.{lead_exponents, is_undivided, AreUndivided, HasUndivided}

-- the leads of lists of terms
module _ {E : Type 0} (n : ℕ) where
  pub record HasLeadTerm (ls : List (List (Term E (List ℕ)))) (l : List ℕ) : Type 0 where
    pub term : Term E (List ℕ)
    pub rest : List (Term E (List ℕ))
    pub inside : In (term ∷ rest) ls
    pub is : take n term.at.mono ≡ l

  from_leads : (ls : List (List (Term E (List ℕ)))) (l : List ℕ) → In l (lead_exponents n ls) → HasLeadTerm ls l
  from_leads [] l i = absurd i
  from_leads ([] ∷ ls) l i = let r = from_leads ls l i in record { term = r.term; rest = r.rest; inside = inr r.inside; is = r.is }
  from_leads ((t ∷ p) ∷ ls) l (inl e) = record { term = t; rest = p; inside = inl refl; is = e }
  from_leads ((t ∷ p) ∷ ls) l (inr i) = let r = from_leads ls l i in record { term = r.term; rest = r.rest; inside = inr r.inside; is = r.is }

  to_leads : (ls : List (List (Term E (List ℕ)))) (t : Term E (List ℕ)) (p : List (Term E (List ℕ))) → In (t ∷ p) ls → In (take n t.at.mono) (lead_exponents n ls)
  to_leads [] t p i = absurd i
  to_leads ([] ∷ ls) t p (inl e) = absurd cc
  to_leads ([] ∷ ls) t p (inr i) = to_leads ls t p i
  to_leads ((u ∷ q) ∷ ls) t p (inl e) = let same : u ≡ t = cc in inl (ap (λ (x : Term E (List ℕ)). take n x.at.mono) same)
  to_leads ((u ∷ q) ∷ ls) t p (inr i) = inr (to_leads ls t p i)

-- a test of each member
undivided_each : (ls : List (List ℕ)) (a l : List ℕ) → In l ls → is_undivided ls a ≡ true → divides l a ≡ true → ⊥
undivided_each [] a l i u d = absurd i
undivided_each (x ∷ ls) a l (inl e) u d = go (divides x a) (is_undivided ls a) u (ap (λ y. divides y a) e ∙ d)
  where
    go : (p q : Bool) → (not p && q) ≡ true → p ≡ true → ⊥
    go true q u d = absurd cc
    go false q u d = absurd cc
undivided_each (x ∷ ls) a l (inr i) u d = undivided_each ls a l i (rest (divides x a) (is_undivided ls a) u) d
  where
    rest : (p q : Bool) → (not p && q) ≡ true → q ≡ true
    rest true q u = absurd cc
    rest false q u = u

undivided_all : (ls : List (List ℕ)) (a : List ℕ) → ((l : List ℕ) → In l ls → divides l a ≡ true → ⊥) → is_undivided ls a ≡ true
undivided_all [] a h = refl
undivided_all (x ∷ ls) a h = go (divides x a) (h x (inl refl)) (undivided_all ls a (λ l i. h l (inr i)))
  where
    go : (p : Bool) → (p ≡ true → ⊥) → is_undivided ls a ≡ true → (not p && is_undivided ls a) ≡ true
    go true n r = absurd (n refl)
    go false n r = r

-- where nothing stands after the first n exponents
exponent_take : (n : ℕ) (a : List ℕ) (i : ℕ) → i < n → exponent (take n a) i ≡ exponent a i
exponent_take zero a i h = absurd (omega arith)
exponent_take (suc n) [] i h = refl
exponent_take (suc n) (x ∷ a) zero h = refl
exponent_take (suc n) (x ∷ a) (suc i) h = exponent_take n a i (omega arith)

take_past : (n : ℕ) (a : List ℕ) (i : ℕ) → n ≤ i → exponent (take n a) i ≡ 0
take_past zero [] i h = refl
take_past zero (x ∷ a) i h = refl
take_past (suc n) [] i h = refl
take_past (suc n) (x ∷ a) zero h = absurd (omega arith)
take_past (suc n) (x ∷ a) (suc i) h = take_past n a i (omega arith)

mono_take : (n : ℕ) (a : List ℕ) → length (mono a).0 ≤ n → mono (take n a) ≡ mono a
mono_take n a short = mono_ext (take n a) a (λ i. at i (dec_le n i))
  where
    at : (i : ℕ) → Dec (n ≤ i) → exponent (take n a) i ≡ exponent a i
    at i (yes p) = take_past n a i p ∙ sym (sym (exponent_mono a i) ∙ exponent_past (mono a).0 i (omega arith))
    at i (no p) = exponent_take n a i (omega arith)

wide_zeros : (n : ℕ) → length {A = ℕ} (replicate n 0) ≡ n
wide_zeros zero = refl
wide_zeros (suc n) = ap suc (wide_zeros n)

mono_zeros_one : (n : ℕ) → mono (replicate n 0) ≡ monomials.one
mono_zeros_one n = mon_ext (mono (replicate n 0)) monomials.one (λ i. exponent_mono (replicate n 0) i ∙ exponent_zeros n i ∙ sym (exponent_one i))

-- the order of the keys by that of the places
abbrev ordered_by : ℕ → PlaceOrder → OrderOn Key
ordered_by n q = record { compare = key_compare n q; total = key_total n q; tied = key_tied n q }

module _ {E : Type 0} (S : SpaceOver E) (n : ℕ) (ds : List ℕ) (θ ls : List (List (Term E (List ℕ)))) (given : AreForModule S n ds θ ls) where
  abbrev k : FieldOn E
  k = S.field

  abbrev θs : List (Vect S.field)
  θs = vectors_of S (λ m. m) θ

  abbrev vs : List (Vect S.field)
  vs = vectors_of S (λ m. m) ls

  abbrev blocks : OrderOn Key
  blocks = key_order (marked_space S.field n ds)

  same_order : key_order S ≡ blocks
  same_order = ap₂ ordered_by (ap length given.space.weights) given.space.order

  pub vars_within : n ≤ length S.weights
  vars_within = let w = marked_length S n ds given.space in omega arith

  polynomial : (p : List (Term E (List ℕ))) → In p ls → IsPoly S (λ m. m) p
  polynomial p i = (all_in (IsHomogeneousPoly S degree_limit) ls given.lifts.polynomials p i).polynomial

  -- the lead of a lift, without its marks
  record IsLiftLead (t : Term E (List ℕ)) (p : List (Term E (List ℕ))) : Type 0 where
    pub lead : LeadBy S.field (key_order S) (vector_of S (λ m. m) (t ∷ p)) (0, mono (take n t.at.mono))
    pub wide : length (take n t.at.mono) ≡ n

  lift_lead : (t : Term E (List ℕ)) (p : List (Term E (List ℕ))) → In (t ∷ p) ls → IsLiftLead t p
  unfolding key
  lift_lead t p i = record { lead = subst (LeadBy S.field (key_order S) (vector_of S (λ m. m) (t ∷ p))) same lead; wide = length-take-le n t.at.mono (let w = (polynomial (t ∷ p) i).fits.0.place.wide in let v = vars_within in omega arith) }
    where
      lead : LeadBy S.field (key_order S) (vector_of S (λ m. m) (t ∷ p)) (key (entry (λ m. m) t).0)
      lead = lead_first S (entry (λ m. m) t) (entries (λ m. m) p) (polynomial (t ∷ p) i).fits

      short : Dec (length (mono t.at.mono).0 ≤ n) → length (mono t.at.mono).0 ≤ n
      short (yes h) = h
      short (no h) = absurd (given.lifts.unmarked (vector_of S (λ m. m) (t ∷ p)) (key (entry (λ (m : List ℕ). m) t).0) (map_in (vector_of S (λ m. m)) (t ∷ p) ls i) lead (omega arith))

      same : key (entry (λ (m : List ℕ). m) t).0 ≡ (0, mono (take n t.at.mono))
      same = ap₂ (λ (q : ℕ) (m : Mon). (q, m)) (all_in (λ e. e.0.0 ≡ 0) (entries (λ (m : List ℕ). m) (t ∷ p)) (polynomial (t ∷ p) i).position (entry (λ m. m) t) (inl refl)) (sym (mono_take n t.at.mono (short (dec_le (length (mono t.at.mono).0) n))))

  -- the test of the leads
  pub undivided_exact : (a : List ℕ) → length a ≡ n → (is_undivided (lead_exponents n ls) a ≡ true) ↔ (¬ IsLeadMultiple S.field blocks vs (0, mono a))
  undivided_exact a l = (
    λ u d.
        let w = from_map (vector_of S (λ m. m)) d.0 ls d.1 in
        no_lead w.0 w.1 u d.2 (subst (λ v. LeadBy S.field (key_order S) v d.2) (sym w.2) (subst (λ (q : OrderOn Key). LeadBy S.field q d.0 d.2) (sym same_order) d.3)) d.4,
    λ none. undivided_all (lead_exponents n ls) a (λ x i h. divided x (from_leads n ls x i) h none),
  )
    where
      no_lead : (p : List (Term E (List ℕ))) → In p ls → is_undivided (lead_exponents n ls) a ≡ true → (s : Key) → LeadBy S.field (key_order S) (vector_of S (λ m. m) p) s → KeyDivides s (0, mono a) → ⊥
      no_lead [] i u s lead d = lead_not_zero S (vector_of S (λ m. m) []) s lead (vec_nothing S.field)
      no_lead (t ∷ p) i u s lead d =
          let h = lift_lead t p i in
          let e : s ≡ (0, mono (take n t.at.mono)) = lead_unique (scalars S.field) (is_field S.field) key_same (key_order S) (vector_of S (λ m. m) (t ∷ p)) s (0, mono (take n t.at.mono)) lead h.lead in
          let q : KeyDivides (0, mono (take n t.at.mono)) (0, mono a) = subst (λ (r : Key). KeyDivides r (0, mono a)) e d in
          undivided_each (lead_exponents n ls) a (take n t.at.mono) (to_leads n ls t p i) u (divides_mono (take n t.at.mono) a (h.wide ∙ sym l) (q.0, monomials.comm (mono (take n t.at.mono)) q.0 ∙ ap (λ (r : Key). r.1) q.1))

      divided : (x : List ℕ) → HasLeadTerm n ls x → divides x a ≡ true → ¬ (¬ IsLeadMultiple S.field blocks vs (0, mono a))
      divided x r h none =
          let f = lift_lead r.term r.rest r.inside in
          let q = mono_divides (take n r.term.at.mono) a (f.wide ∙ sym l) (ap (λ y. divides y a) r.is ∙ h) in
          none (
            vector_of S (λ m. m) (r.term ∷ r.rest),
            map_in (vector_of S (λ m. m)) (r.term ∷ r.rest) ls r.inside,
            (0, mono (take n r.term.at.mono)),
            subst (λ (o : OrderOn Key). LeadBy S.field o (vector_of S (λ m. m) (r.term ∷ r.rest)) (0, mono (take n r.term.at.mono))) same_order f.lead,
            (q.0, ap (λ (m : Mon). (0, m)) (monomials.comm q.0 (mono (take n r.term.at.mono)) ∙ q.1)),
          )

  standard : (a : List ℕ) → length a ≡ n → is_undivided (lead_exponents n ls) a ≡ true → IsStandard S.field n θs (mono a)
  standard a l u = (standard_exact S n ds θ ls given (mono a) (let s = length_mono a in omega arith)).1 ((undivided_exact a l).0 u)

  undivided : (a : List ℕ) → length a ≡ n → IsStandard S.field n θs (mono a) → is_undivided (lead_exponents n ls) a ≡ true
  undivided a l s = (undivided_exact a l).1 ((standard_exact S n ds θ ls given (mono a) (let s = length_mono a in omega arith)).0 s)

  standard_each : (ms : List (List ℕ)) → All (λ a. length a ≡ n) ms → All (λ a. is_undivided (lead_exponents n ls) a ≡ true) ms → All (λ a. IsStandard S.field n θs (mono a)) ms
  standard_each ms wide u = in_all (λ a. IsStandard S.field n θs (mono a)) ms (λ a i. standard a (all_in (λ x. length x ≡ n) ms wide a i) (all_in (λ x. is_undivided (lead_exponents n ls) x ≡ true) ms u a i))

  -- what the search asks of the leads, and what it tells
  module _ (leads made : List (List ℕ)) (seen : leads ≡ made) (known : made ≡ lead_exponents n ls) where
    is : leads ≡ lead_exponents n ls
    is = seen ∙ known

    pub leads_wide : All (λ l. length l ≡ n) leads
    leads_wide = subst (All (λ (l : List ℕ). length l ≡ n)) (sym is) (in_all (λ l. length l ≡ n) (lead_exponents n ls) (λ l i.
        let r = from_leads n ls l i in
        subst (λ x. length x ≡ n) r.is (lift_lead r.term r.rest r.inside).wide))

    pub one_undivided : is_undivided leads (replicate n 0) ≡ true
    one_undivided = subst (λ (l : List (List ℕ)). is_undivided l (replicate n 0) ≡ true) (sym is)
        (undivided (replicate n 0) (wide_zeros n) (subst (IsStandard S.field n θs) (sym (mono_zeros_one n)) (one_standard S.field n θs ds given.forms)))

    pub are_standard : (ms : List (List ℕ)) → AreUndivided leads n ms → AreStandardMonomials S.field n θs ms
    are_standard ms u = let h = subst (λ (l : List (List ℕ)). AreUndivided l n ms) is u in record {
      wide = h.wide;
      rising = h.rising;
      standard = standard_each ms h.wide h.undivided;
      all = λ m l s. h.all (exponents n m.0) (length_exponents n m.0) (undivided (exponents n m.0) (length_exponents n m.0) (subst (IsStandard S.field n θs) (sym (mono_exponents n m l)) s));
    }

    pub are_over : (c m : ℕ) → c ≡ m + 1 → HasUndivided leads n c → IsOverRank S.field n θs m
    are_over c m e u = let h = subst (λ (l : List (List ℕ)). HasUndivided l n c) is u in record {
      some = h.some;
      wide = h.wide;
      rising = h.rising;
      standard = standard_each h.some h.wide h.undivided;
      count = h.count ∙ e;
    }
