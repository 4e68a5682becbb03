-- One step of a completion: a remainder of the current vector is appended, if it is not 0, with the pairs that it makes.
use Rattle.std.proofs.Common.{◌≡◌, ◌⊎◌, inl, inr, ℕ, suc, ◌<◌, ◌≤◌, List, [], ◌∷◌, ◌++◌, length, get_or, sym, ap, ◌∙◌, subst, arith, length-append}
use Rattle.std.specs.Prelude.{All, Contains}
use Rattle.std.specs.List.Sorted.{IsPermutation}
use Rattle.std.proofs.lemmas.List.Sorted.{IsPermutation-sym}
use native.Mathlib.Decide.{dec_le}
use Rattle.alg_core.specs.Lists.{In, in_left, in_right, map_in}
use Rattle.alg_core.specs.Spaces.{SpaceOver, Fits}
use Rattle.alg_core.specs.Vectors.{Entry, Vect, vec, zero_vector}
use Rattle.alg_core.proofs.Members.{in_cases, from_map, in_contains, contains_in}
use Rattle.alg_core.proofs.VectorLaws.{vec_nothing}
use Rattle.poly_module.specs.Modules.{InModule, listed}
use Rattle.poly_module.proofs.ModuleElements.{module_zero, module_plus, module_member}
use Rattle.alg_core.proofs.FittingLists.{vec_not_zero}
use Rattle.module_groebner.specs.HomogeneousLists.{degree_limit, cap_limit, IsHomogeneousUpTo}
use Rattle.module_groebner.specs.Remainders.{IsRemainder}
use Rattle.module_groebner.specs.SVectors.{IsSVector, IsTreated}
use Rattle.module_groebner.specs.Progress.{Progress, lead_place}
use Rattle.module_groebner.specs.Completions.{vects, member_place, IsPair, IsCurrentGenerator, IsCurrentPair, members, generated, StandsOver, Extends, TreatsGenerator, TreatsPair}
use Rattle.module_groebner.proofs.Sums.{Grows}
use Rattle.module_groebner.proofs.Remainders.{remainder_difference, module_difference}
use Rattle.module_groebner.proofs.SVectors.{s_inside, treated_grows, treated_by}
use Rattle.module_groebner.proofs.Families.{all_in, in_all, in_permutation, map_append, length_map, get_front, listed_front, listed_at, member_inside, inside_by_members, grows_append}

-- the remainder as a list of new members: none if it is 0
abbrev pub appended : {E : Type 0} → List (Entry E) → List (List (Entry E))
appended [] = []
appended (e ∷ es) = (e ∷ es) ∷ []

module _ {E : Type 0} (S : SpaceOver E) where
  -- from c to d a remainder r of v was appended
  pub record IsStep (c d : Progress E) (v : Vect S.field) (r : List (Entry E)) : Type 0 where
    pub weights : d.weights ≡ c.weights
    pub shifts : d.shifts ≡ c.shifts
    pub cap : d.cap ≡ c.cap
    pub fits : Fits S r
    pub remainder : IsRemainder S (members S c) v (vec S.field r)
    pub low : IsHomogeneousUpTo S c.cap (vec S.field r)
    pub members : d.members ≡ c.members ++ appended r
    pub new_pairs : List (ℕ × ℕ)
    pub are_pairs : All (IsPair d) new_pairs
    pub ends : All (λ p. p.1 ≡ length c.members) new_pairs
    pub every : (p : ℕ × ℕ) → IsPair d p → p.1 ≡ length c.members → Contains new_pairs p
    pub few : length new_pairs ≤ length c.members

  module _ (c d : Progress E) (v : Vect S.field) (r : List (Entry E)) (stands : StandsOver S c) (step : IsStep c d v r) where
    abbrev vs : List (Vect S.field)
    vs = vects S.field c.members

    members_are : members S d ≡ listed S.field (vs ++ vects S.field (appended r))
    members_are = ap (λ ess. listed S.field (vects S.field ess)) step.members ∙ ap (listed S.field) (map_append (vec S.field) c.members (appended r))

    grows : Grows S (members S c) (members S d)
    grows = subst (Grows S (members S c)) (sym members_are) (grows_append S vs (vects S.field (appended r)))

    pub front : (i : ℕ) → i < length c.members → members S d i ≡ members S c i
    front i h = ap (λ g. g i) members_are ∙ listed_front S.field vs (vects S.field (appended r)) i (let e = length_map (vec S.field) c.members in omega arith)

    -- what is new is 0 or a member
    new_member : (vec S.field r ≡ zero_vector S.field) ⊎ ((n : ℕ) × (members S d n ≡ vec S.field r))
    new_member = subst (λ g. (vec S.field r ≡ zero_vector S.field) ⊎ ((n : ℕ) × (g n ≡ vec S.field r))) (sym members_are) (go r)
      where
        go : (r : List (Entry E)) → (vec S.field r ≡ zero_vector S.field) ⊎ ((n : ℕ) × (listed S.field (vs ++ vects S.field (appended r)) n ≡ vec S.field r))
        go [] = inl (vec_nothing S.field)
        go (e ∷ es) = inr (length vs, listed_at S.field vs (vec S.field (e ∷ es)) [])

    member_cases : (x : List (Entry E)) → In x d.members → In x c.members ⊎ (x ≡ r)
    member_cases x i = go (in_cases x c.members (appended r) (subst (In x) step.members i)) r
      where
        go : In x c.members ⊎ In x (appended r) → (q : List (Entry E)) → In x c.members ⊎ (x ≡ r)
        go (inl j) q = inl j
        go (inr j) q = inr (last r j)
          where
            last : (q : List (Entry E)) → In x (appended q) → x ≡ q
            last [] j = absurd j
            last (e ∷ es) (inl p) = sym p
            last (e ∷ es) (inr j) = absurd j

    old_member : (x : List (Entry E)) → In x c.members → In x d.members
    old_member x i = subst (In x) (sym step.members) (in_left x c.members (appended r) i)

    many : length d.members ≤ suc (length c.members)
    many = let e = ap length step.members in let f = length-append c.members (appended r) in let h = one r in omega arith
      where
        one : (q : List (Entry E)) → length (appended q) ≤ 1
        one [] = omega arith
        one (e ∷ es) = omega arith

    place_same : (i : ℕ) → i < length c.members → member_place d i ≡ member_place c i
    place_same i h = ap lead_place (ap (λ ess. get_or ess i []) step.members ∙ get_front [] c.members (appended r) i h)

    no_fewer : length c.members ≤ length d.members
    no_fewer = let e = ap length step.members in let f = length-append c.members (appended r) in omega arith

    pub pair_stays : (p : ℕ × ℕ) → IsPair c p → IsPair d p
    pair_stays p h = record {
      rising = h.rising;
      within = let a = h.within in let b = no_fewer in omega arith;
      position = ap (λ q. q.0) (place_same p.0 (let a = h.within in let b = h.rising in omega arith)) ∙ h.position ∙ sym (ap (λ q. q.0) (place_same p.1 h.within));
    }

    pair_was : (p : ℕ × ℕ) → IsPair d p → p.1 < length c.members → IsPair c p
    pair_was p h low = record {
      rising = h.rising;
      within = low;
      position = sym (ap (λ q. q.0) (place_same p.0 (let b = h.rising in omega arith))) ∙ h.position ∙ ap (λ q. q.0) (place_same p.1 low);
    }

    treated_stays : (p : ℕ × ℕ) → IsPair c p → IsTreated S (members S c) p.0 p.1 → IsTreated S (members S d) p.0 p.1
    treated_stays p h = treated_grows S (members S c) (members S d) grows p.0 p.1 (front p.0 (let a = h.within in let b = h.rising in omega arith)) (front p.1 h.within)

    -- what was divided lies in the module of the new members where its part in that of the old ones does
    divided_in : InModule S.field (members S d) v
    divided_in = let w = remainder_difference S (members S c) v (vec S.field r) step.remainder in
        subst (InModule S.field (members S d)) w.2 (module_plus S.field (members S d) (vec S.field r) w.0 new (old w.0 w.1))
      where
        new : InModule S.field (members S d) (vec S.field r)
        new = go new_member
          where
            go : (vec S.field r ≡ zero_vector S.field) ⊎ ((n : ℕ) × (members S d n ≡ vec S.field r)) → InModule S.field (members S d) (vec S.field r)
            go (inl z) = subst (InModule S.field (members S d)) (sym z) (module_zero S.field (members S d))
            go (inr n) = subst (InModule S.field (members S d)) n.1 (module_place n.0)
              where
                module_place : (n : ℕ) → InModule S.field (members S d) (members S d n)
                module_place n = module_member S.field (members S d) n

        old : (w : Vect S.field) → InModule S.field (members S c) w → InModule S.field (members S d) w
        old = inside_by_members S.field vs (members S d) (λ w i. let x = from_map (vec S.field) w c.members i in
            subst (InModule S.field (members S d)) x.2 (member_inside S.field (vects S.field d.members) (vec S.field x.0) (map_in (vec S.field) x.0 d.members (old_member x.0 x.1))))

    module _ (gens : (x : List (Entry E)) → In x d.generators → In x c.generators)
        (pairs_from : (q : ℕ × ℕ) → In q d.pairs → In q c.pairs ⊎ In q step.new_pairs)
        (pairs_to : (q : ℕ × ℕ) → In q c.pairs → In q d.pairs ⊎ IsTreated S (members S d) q.0 q.1)
        (pairs_new : (q : ℕ × ℕ) → In q step.new_pairs → In q d.pairs) where
      stands_after : StandsOver S d
      stands_after = record {
        weights = step.weights ∙ stands.weights;
        shifts = step.shifts ∙ stands.shifts;
        cap = subst (λ n. n ≤ cap_limit) (sym step.cap) stands.cap;
        members_fit = in_all (Fits S) d.members (λ x i. fit x (member_cases x i));
        generators_fit = in_all (Fits S) d.generators (λ x i. all_in (Fits S) c.generators stands.generators_fit x (gens x i));
        members_homogeneous = in_all (IsHomogeneousUpTo S d.cap) (vects S.field d.members) (λ w i. let x = from_map (vec S.field) w d.members i in
            subst (IsHomogeneousUpTo S d.cap) x.2 (subst (λ n. IsHomogeneousUpTo S n (vec S.field x.0)) (sym step.cap) (homogeneous x.0 (member_cases x.0 x.1))));
        generators_homogeneous = in_all (IsHomogeneousUpTo S degree_limit) (vects S.field d.generators) (λ w i. let x = from_map (vec S.field) w d.generators i in
            subst (IsHomogeneousUpTo S degree_limit) x.2 (all_in (IsHomogeneousUpTo S degree_limit) (vects S.field c.generators) stands.generators_homogeneous (vec S.field x.0) (map_in (vec S.field) x.0 c.generators (gens x.0 x.1))));
        nonzero = in_all (λ w. ¬ (w ≡ zero_vector S.field)) (vects S.field d.members) (λ w i z. let x = from_map (vec S.field) w d.members i in not_zero x.0 x.1 (x.2 ∙ z));
        pairs = in_all (IsPair d) d.pairs (λ q i. is_pair q (pairs_from q i));
        treated = λ p h. treated p h (dec_le (suc p.1) (length c.members));
      }
        where
          fit : (x : List (Entry E)) → In x c.members ⊎ (x ≡ r) → Fits S x
          fit x (inl i) = all_in (Fits S) c.members stands.members_fit x i
          fit x (inr e) = subst (Fits S) (sym e) step.fits

          homogeneous : (x : List (Entry E)) → In x c.members ⊎ (x ≡ r) → IsHomogeneousUpTo S c.cap (vec S.field x)
          homogeneous x (inl i) = all_in (IsHomogeneousUpTo S c.cap) vs stands.members_homogeneous (vec S.field x) (map_in (vec S.field) x c.members i)
          homogeneous x (inr e) = subst (λ y. IsHomogeneousUpTo S c.cap (vec S.field y)) (sym e) step.low

          not_zero : (x : List (Entry E)) → In x d.members → ¬ (vec S.field x ≡ zero_vector S.field)
          not_zero x i z = go (in_cases x c.members (appended r) (subst (In x) step.members i))
            where
              new : (q : List (Entry E)) → Fits S q → In x (appended q) → ⊥
              new [] f j = absurd j
              new (e ∷ es) f (inl p) = vec_not_zero S e es f (ap (vec S.field) p ∙ z)
              new (e ∷ es) f (inr j) = absurd j

              go : In x c.members ⊎ In x (appended r) → ⊥
              go (inl j) = all_in (λ w. ¬ (w ≡ zero_vector S.field)) vs stands.nonzero (vec S.field x) (map_in (vec S.field) x c.members j) z
              go (inr j) = new r step.fits j

          is_pair : (q : ℕ × ℕ) → In q c.pairs ⊎ In q step.new_pairs → IsPair d q
          is_pair q (inl i) = pair_stays q (all_in (IsPair c) c.pairs stands.pairs q i)
          is_pair q (inr i) = all_in (IsPair d) step.new_pairs step.are_pairs q i

          treated : (p : ℕ × ℕ) → IsPair d p → Dec (p.1 < length c.members) → Contains d.pairs p ⊎ IsTreated S (members S d) p.0 p.1
          treated p h (yes low) = old (stands.treated p (pair_was p h low))
            where
              next : In p d.pairs ⊎ IsTreated S (members S d) p.0 p.1 → Contains d.pairs p ⊎ IsTreated S (members S d) p.0 p.1
              next (inl i) = inl (in_contains p d.pairs i)
              next (inr t) = inr t

              old : Contains c.pairs p ⊎ IsTreated S (members S c) p.0 p.1 → Contains d.pairs p ⊎ IsTreated S (members S d) p.0 p.1
              old (inl i) = next (pairs_to p (contains_in p c.pairs i))
              old (inr t) = inr (treated_stays p (pair_was p h low) t)
          treated p h (no high) = inl (in_contains p d.pairs (pairs_new p (contains_in p step.new_pairs (step.every p h (let a = h.within in let b = many in omega arith)))))

      extends_after : InModule S.field (generated S c) v → ((x : List (Entry E)) → In x c.generators → In x d.generators ⊎ InModule S.field (members S d) (vec S.field x)) → Extends S c d
      extends_after inside gens_to = record {
        weights = step.weights;
        shifts = step.shifts;
        cap = step.cap;
        new = appended r;
        members = step.members;
        one = one r;
        same = λ w. (inside_by_members S.field (vs ++ vects S.field c.generators) (generated S d) to w, inside_by_members S.field (vects S.field d.members ++ vects S.field d.generators) (generated S c) from w);
      }
        where
          one : (q : List (Entry E)) → length (appended q) ≤ 1
          one [] = omega arith
          one (e ∷ es) = omega arith

          -- elements of the modules of the members
          up_d : (w : Vect S.field) → InModule S.field (members S d) w → InModule S.field (generated S d) w
          up_d = inside_by_members S.field (vects S.field d.members) (generated S d) (λ w i. member_inside S.field (vects S.field d.members ++ vects S.field d.generators) w (in_left w _ _ i))

          up_c : (w : Vect S.field) → InModule S.field (members S c) w → InModule S.field (generated S c) w
          up_c = inside_by_members S.field vs (generated S c) (λ w i. member_inside S.field (vs ++ vects S.field c.generators) w (in_left w _ _ i))

          member_d : (x : List (Entry E)) → In x d.members → InModule S.field (generated S d) (vec S.field x)
          member_d x i = member_inside S.field (vects S.field d.members ++ vects S.field d.generators) (vec S.field x) (in_left _ (vects S.field d.members) _ (map_in (vec S.field) x d.members i))

          generator_d : (x : List (Entry E)) → In x d.generators → InModule S.field (generated S d) (vec S.field x)
          generator_d x i = member_inside S.field (vects S.field d.members ++ vects S.field d.generators) (vec S.field x) (in_right _ (vects S.field d.members) _ (map_in (vec S.field) x d.generators i))

          member_c : (x : List (Entry E)) → In x c.members → InModule S.field (generated S c) (vec S.field x)
          member_c x i = member_inside S.field (vs ++ vects S.field c.generators) (vec S.field x) (in_left _ vs _ (map_in (vec S.field) x c.members i))

          generator_c : (x : List (Entry E)) → In x c.generators → InModule S.field (generated S c) (vec S.field x)
          generator_c x i = member_inside S.field (vs ++ vects S.field c.generators) (vec S.field x) (in_right _ vs _ (map_in (vec S.field) x c.generators i))

          new_c : InModule S.field (generated S c) (vec S.field r)
          new_c = let w = remainder_difference S (members S c) v (vec S.field r) step.remainder in module_difference S (generated S c) (vec S.field r) v w.0 w.2 inside (up_c w.0 w.1)

          to : (w : Vect S.field) → In w (vs ++ vects S.field c.generators) → InModule S.field (generated S d) w
          to w i = go (in_cases w vs (vects S.field c.generators) i)
            where
              next : (x : List (Entry E)) → In x d.generators ⊎ InModule S.field (members S d) (vec S.field x) → InModule S.field (generated S d) (vec S.field x)
              next x (inl j) = generator_d x j
              next x (inr a) = up_d (vec S.field x) a

              go : In w vs ⊎ In w (vects S.field c.generators) → InModule S.field (generated S d) w
              go (inl j) = let x = from_map (vec S.field) w c.members j in subst (InModule S.field (generated S d)) x.2 (member_d x.0 (old_member x.0 x.1))
              go (inr j) = let x = from_map (vec S.field) w c.generators j in subst (InModule S.field (generated S d)) x.2 (next x.0 (gens_to x.0 x.1))

          from : (w : Vect S.field) → In w (vects S.field d.members ++ vects S.field d.generators) → InModule S.field (generated S c) w
          from w i = go (in_cases w (vects S.field d.members) (vects S.field d.generators) i)
            where
              member : (x : List (Entry E)) → In x c.members ⊎ (x ≡ r) → InModule S.field (generated S c) (vec S.field x)
              member x (inl j) = member_c x j
              member x (inr e) = subst (λ y. InModule S.field (generated S c) (vec S.field y)) (sym e) new_c

              go : In w (vects S.field d.members) ⊎ In w (vects S.field d.generators) → InModule S.field (generated S c) w
              go (inl j) = let x = from_map (vec S.field) w d.members j in subst (InModule S.field (generated S c)) x.2 (member x.0 (member_cases x.0 x.1))
              go (inr j) = let x = from_map (vec S.field) w d.generators j in subst (InModule S.field (generated S c)) x.2 (generator_c x.0 (gens x.0 x.1))

  -- a generator is treated
  module _ (c d : Progress E) (es r : List (Entry E)) (stands : StandsOver S c) (step : IsStep c d (vec S.field es) r) (current : IsCurrentGenerator c es)
      (taken : IsPermutation c.generators (es ∷ d.generators)) (pairs : IsPermutation (c.pairs ++ step.new_pairs) d.pairs) where
    gens : (x : List (Entry E)) → In x d.generators → In x c.generators
    gens x i = in_permutation (es ∷ d.generators) c.generators x (IsPermutation-sym _ _ taken) (inr i)

    pub generator_stands : StandsOver S d
    generator_stands = stands_after c d (vec S.field es) r stands step gens
        (λ q i. in_cases q c.pairs step.new_pairs (in_permutation d.pairs (c.pairs ++ step.new_pairs) q (IsPermutation-sym _ _ pairs) i))
        (λ q i. inl (in_permutation (c.pairs ++ step.new_pairs) d.pairs q pairs (in_left q c.pairs step.new_pairs i)))
        (λ q i. in_permutation (c.pairs ++ step.new_pairs) d.pairs q pairs (in_right q c.pairs step.new_pairs i))

    pub generator_extends : Extends S c d
    generator_extends = extends_after c d (vec S.field es) r stands step gens
        (λ q i. in_cases q c.pairs step.new_pairs (in_permutation d.pairs (c.pairs ++ step.new_pairs) q (IsPermutation-sym _ _ pairs) i))
        (λ q i. inl (in_permutation (c.pairs ++ step.new_pairs) d.pairs q pairs (in_left q c.pairs step.new_pairs i)))
        (λ q i. in_permutation (c.pairs ++ step.new_pairs) d.pairs q pairs (in_right q c.pairs step.new_pairs i))
        (member_inside S.field (vects S.field c.members ++ vects S.field c.generators) (vec S.field es) (in_right _ (vects S.field c.members) _ (map_in (vec S.field) es c.generators (contains_in es c.generators current.there))))
        (λ x i. go x (in_permutation c.generators (es ∷ d.generators) x taken i))
      where
        go : (x : List (Entry E)) → (es ≡ x) ⊎ In x d.generators → In x d.generators ⊎ InModule S.field (members S d) (vec S.field x)
        go x (inl e) = inr (subst (λ y. InModule S.field (members S d) (vec S.field y)) e (divided_in c d (vec S.field es) r stands step))
        go x (inr i) = inl i

    pub generator_treated : TreatsGenerator S c d
    generator_treated = record { generator = es; current = current; inside = divided_in c d (vec S.field es) r stands step; taken = taken; new_pairs = step.new_pairs; pairs = pairs; ends = step.ends }

  -- a pair is treated
  module _ (c d : Progress E) (p : ℕ × ℕ) (v : Vect S.field) (r : List (Entry E)) (stands : StandsOver S c) (step : IsStep c d v r) (current : IsCurrentPair c p)
      (s_vector : IsSVector S (members S c p.0) (members S c p.1) v) (taken : IsPermutation (c.pairs ++ step.new_pairs) (p ∷ d.pairs)) (generators : IsPermutation c.generators d.generators) where
    is_pair : IsPair c p
    is_pair = all_in (IsPair c) c.pairs stands.pairs p (contains_in p c.pairs current.there)

    treated_now : IsTreated S (members S d) p.0 p.1
    treated_now = treated_by S (members S c) (members S d) (grows c d v r stands step) p.0 p.1 v (vec S.field r)
        (front c d v r stands step p.0 (let a = is_pair.within in let b = is_pair.rising in omega arith)) (front c d v r stands step p.1 is_pair.within) s_vector step.remainder (new_member c d v r stands step)

    pairs_from : (q : ℕ × ℕ) → In q d.pairs → In q c.pairs ⊎ In q step.new_pairs
    pairs_from q i = in_cases q c.pairs step.new_pairs (in_permutation (p ∷ d.pairs) (c.pairs ++ step.new_pairs) q (IsPermutation-sym _ _ taken) (inr i))

    pairs_to : (q : ℕ × ℕ) → In q c.pairs → In q d.pairs ⊎ IsTreated S (members S d) q.0 q.1
    pairs_to q i = go (in_permutation (c.pairs ++ step.new_pairs) (p ∷ d.pairs) q taken (in_left q c.pairs step.new_pairs i))
      where
        go : (p ≡ q) ⊎ In q d.pairs → In q d.pairs ⊎ IsTreated S (members S d) q.0 q.1
        go (inl e) = inr (subst (λ z. IsTreated S (members S d) z.0 z.1) e treated_now)
        go (inr j) = inl j

    pairs_new : (q : ℕ × ℕ) → In q step.new_pairs → In q d.pairs
    pairs_new q i = go (in_permutation (c.pairs ++ step.new_pairs) (p ∷ d.pairs) q taken (in_right q c.pairs step.new_pairs i))
      where
        last : q.1 ≡ length c.members
        last = all_in (λ z. z.1 ≡ length c.members) step.new_pairs step.ends q i

        go : (p ≡ q) ⊎ In q d.pairs → In q d.pairs
        go (inl e) = absurd (let f = ap (λ z. z.1) e in let w = is_pair.within in let l = last in omega arith)
        go (inr j) = j

    gens' : (x : List (Entry E)) → In x d.generators → In x c.generators
    gens' x i = in_permutation d.generators c.generators x (IsPermutation-sym _ _ generators) i

    pub pair_stands : StandsOver S d
    pair_stands = stands_after c d v r stands step gens' pairs_from pairs_to pairs_new

    pub pair_extends : Extends S c d
    pair_extends = extends_after c d v r stands step gens' pairs_from pairs_to pairs_new
        (s_inside S (members S c p.0) (members S c p.1) v s_vector (generated S c) (inside p.0) (inside p.1)) (λ x i. inl (in_permutation c.generators d.generators x generators i))
      where
        inside : (i : ℕ) → InModule S.field (generated S c) (members S c i)
        inside i = inside_by_members S.field (vects S.field c.members) (generated S c) (λ w j. member_inside S.field (vects S.field c.members ++ vects S.field c.generators) w (in_left w _ _ j)) (members S c i) (module_member S.field (members S c) i)

    pub pair_treated : TreatsPair S c d
    pair_treated = record { pair = p; current = current; treated = treated_now; new_pairs = step.new_pairs; taken = taken; ends = step.ends; generators = generators }
