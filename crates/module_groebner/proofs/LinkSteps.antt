-- A pair of a completion that a third member links is treated, and may be taken off what is still to treat.
use Rattle.std.proofs.Common.{◌≡◌, ◌⊎◌, inl, inr, ℕ, zero, suc, ◌+◌, ◌*◌, ◌<◌, ◌≤◌, List, [], ◌∷◌, ◌++◌, length, get_or, sym, ap, ap₂, ◌∙◌, refl, subst, arith, append-nil}
use Rattle.std.specs.Prelude.{All, Contains}
use Rattle.std.specs.List.Sorted.{IsPermutation}
use Rattle.std.proofs.lemmas.List.Sorted.{IsPermutation-refl, IsPermutation-sym, length_permutation}
use native.Mathlib.Decide.{ℕ_discrete, dec_le}
use Rattle.alg_core.specs.CommonMultiples.{common_multiple}
use Rattle.alg_core.specs.Keys.{Key, key}
use Rattle.alg_core.specs.Lists.{In}
use Rattle.alg_core.specs.Spaces.{SpaceOver, Fits}
use Rattle.alg_core.specs.SpaceGrading.{AllPositive}
use Rattle.alg_core.proofs.KeyMultiples.{key_lcm_left}
use Rattle.alg_core.proofs.Members.{in_contains, contains_in}
use Rattle.poly_module.specs.Modules.{InModule, listed}
use Rattle.module_groebner.specs.declared.completion.Item.{Item}
use Rattle.module_groebner.specs.declared.completion.Item.TheVariants.{Generator, Pair}
use Rattle.module_groebner.specs.HomogeneousLists.{degree_limit, cap_limit, AreHomogeneousUpTo, AreNonzero}
use Rattle.module_groebner.specs.SVectors.{IsTreated}
use Rattle.module_groebner.specs.Progress.{Progress, undivided, left}
use Rattle.module_groebner.specs.Completions.{vects, member_place, IsPair, members, generated, StandsOver, Extends, TreatsPair}
use Rattle.module_groebner.specs.Items.{HasNoPair, IsCurrent, IsTaken, IsLink, IsTreatedItem}
use Rattle.module_groebner.proofs.Families.{all_in, in_all, in_get, in_permutation}
use Rattle.module_groebner.proofs.PairSteps.{key_position}
use Rattle.module_groebner.proofs.Chains.{IsLinked, chained}
use Rattle.module_groebner.proofs.CompletionEnds.{member_lead}
use Rattle.module_groebner.proofs.AdvanceSteps.{pair_same, IsTreatment}

module _ {E : Type 0} (S : SpaceOver E) (c : Progress E) (stands : StandsOver S c) where
  linked : (i j : ℕ) → i < length c.members → j < length c.members → ¬ (i ≡ j) → (member_place c i).0 ≡ (member_place c j).0 → HasNoPair c.pairs i j → IsLinked S (members S c) i j
  linked i j hi hj n e h = go (dec_le (suc i) j)
    where
      first : i < j → Contains c.pairs (i, j) ⊎ IsTreated S (members S c) i j → IsLinked S (members S c) i j
      first l (inl t) = absurd (h.rising l t)
      first l (inr t) = inl t

      second : j < i → Contains c.pairs (j, i) ⊎ IsTreated S (members S c) j i → IsLinked S (members S c) i j
      second l (inl t) = absurd (h.falling l t)
      second l (inr t) = inr t

      go : Dec (i < j) → IsLinked S (members S c) i j
      go (yes l) = first l (stands.treated (i, j) (record { rising = l; within = hj; position = e }))
      go (no l) = let less : j < i = omega arith in second less (stands.treated (j, i) (record { rising = less; within = hi; position = sym e }))

  swapped : (i j : ℕ) → IsLinked S (members S c) i j → IsLinked S (members S c) j i
  swapped i j (inl t) = inr t
  swapped i j (inr t) = inl t

  module _ (positive : AllPositive S.weights) where
    pub link_treats : (p : ℕ × ℕ) (l : ℕ) → IsPair c p → IsLink c p l (common_multiple (key (member_place c p.0)) (key (member_place c p.1))) → IsTreated S (members S c) p.0 p.1
    link_treats p l h k =
        chained S (members S c) p.0 p.1 l s t u (member_lead S positive c stands p.0 first).0 (member_lead S positive c stands p.1 h.within).0 (member_lead S positive c stands l k.within).0 k.divides
        (swapped l p.0 (linked l p.0 k.within first k.not_first (sym at_first) k.first))
        (linked l p.1 k.within h.within k.not_second (sym at_first ∙ h.position) k.second)
      where
        first : p.0 < length c.members
        first = let a = h.rising in let b = h.within in omega arith

        s : Key
        s = key (member_place c p.0)

        t : Key
        t = key (member_place c p.1)

        u : Key
        u = key (member_place c l)

        at_first : (member_place c p.0).0 ≡ (member_place c l).0
        at_first = sym (key_position (member_place c p.0)) ∙ ap (λ r. r.0) (key_lcm_left s t).1 ∙ sym (ap (λ r. r.0) k.divides.1) ∙ key_position (member_place c l)

  -- a treated pair is taken off
  module _ (d : Progress E) (i : ℕ) (taken : IsTaken c d (Pair i)) (current : IsCurrent c (Pair i)) (treated : IsTreated S (members S c) (get_or c.pairs i (0, 0)).0 (get_or c.pairs i (0, 0)).1) where
    abbrev p : ℕ × ℕ
    p = get_or c.pairs i (0, 0)

    was : (q : ℕ × ℕ) → In q d.pairs → In q c.pairs
    was q h = in_permutation (p ∷ d.pairs) c.pairs q (IsPermutation-sym _ _ taken.rest.0) (inr h)

    same_members : members S d ≡ members S c
    same_members = ap (λ l. listed S.field (vects S.field l)) taken.members

    still : (q : ℕ × ℕ) → Contains c.pairs q ⊎ IsTreated S (members S c) q.0 q.1 → Contains d.pairs q ⊎ IsTreated S (members S d) q.0 q.1
    still q (inr h) = inr (subst (λ g. IsTreated S g q.0 q.1) (sym same_members) h)
    still q (inl h) = go (in_permutation c.pairs (p ∷ d.pairs) q taken.rest.0 (contains_in q c.pairs h))
      where
        go : (p ≡ q) ⊎ In q d.pairs → Contains d.pairs q ⊎ IsTreated S (members S d) q.0 q.1
        go (inl e) = inr (subst (λ z. IsTreated S (members S d) z.0 z.1) e (subst (λ g. IsTreated S g p.0 p.1) (sym same_members) treated))
        go (inr j) = inl (in_contains q d.pairs j)

    stands_on : StandsOver S d
    stands_on = record {
      weights = taken.weights ∙ stands.weights;
      shifts = taken.shifts ∙ stands.shifts;
      cap = subst (λ n. n ≤ cap_limit) (sym taken.cap) stands.cap;
      members_fit = subst (All (Fits S)) (sym taken.members) stands.members_fit;
      generators_fit = subst (All (Fits S)) (sym taken.rest.1) stands.generators_fit;
      members_homogeneous = subst (λ n. AreHomogeneousUpTo S n (vects S.field d.members)) (sym taken.cap) (subst (λ l. AreHomogeneousUpTo S c.cap (vects S.field l)) (sym taken.members) stands.members_homogeneous);
      generators_homogeneous = subst (λ l. AreHomogeneousUpTo S degree_limit (vects S.field l)) (sym taken.rest.1) stands.generators_homogeneous;
      nonzero = subst (λ l. AreNonzero S.field (vects S.field l)) (sym taken.members) stands.nonzero;
      pairs = in_all (IsPair d) d.pairs (λ q h. pair_same c d taken.members q (all_in (IsPair c) c.pairs stands.pairs q (was q h)));
      treated = λ q h. still q (stands.treated q (pair_same d c (sym taken.members) q h));
    }

    extends_on : Extends S c d
    extends_on = record {
      weights = taken.weights;
      shifts = taken.shifts;
      cap = taken.cap;
      new = [];
      members = taken.members ∙ sym (append-nil c.members);
      one = omega arith;
      same = λ v. (subst (λ h. InModule S.field h v) (sym family), subst (λ h. InModule S.field h v) family);
    }
      where
        family : generated S d ≡ generated S c
        family = ap (λ ms. listed S.field (vects S.field ms ++ vects S.field d.generators)) taken.members ∙ ap (λ gs. listed S.field (vects S.field c.members ++ vects S.field gs)) taken.rest.1

    treats_on : TreatsPair S c d
    treats_on = record {
      pair = p;
      current = record { there = in_contains p c.pairs (in_get (0, 0) c.pairs i current.within); least = current.least };
      treated = subst (λ g. IsTreated S g p.0 p.1) (sym same_members) treated;
      new_pairs = [];
      taken = subst (λ l. IsPermutation l (p ∷ d.pairs)) (sym (append-nil c.pairs)) taken.rest.0;
      ends = λ i d w. absurd (omega arith);
      generators = subst (IsPermutation c.generators) (sym taken.rest.1) (IsPermutation-refl c.generators);
    }

    undivided_same : undivided d ≡ undivided c
    unfolding undivided
    undivided_same = ap (λ e. undivided (record { weights = d.weights; shifts = d.shifts; cap = d.cap; members = e; generators = c.generators; pairs = c.pairs })) taken.members
        ∙ ap (λ e. undivided (record { weights = e; shifts = d.shifts; cap = d.cap; members = c.members; generators = c.generators; pairs = c.pairs })) taken.weights
        ∙ ap (λ e. undivided (record { weights = c.weights; shifts = e; cap = d.cap; members = c.members; generators = c.generators; pairs = c.pairs })) taken.shifts
        ∙ ap (λ e. undivided (record { weights = c.weights; shifts = c.shifts; cap = e; members = c.members; generators = c.generators; pairs = c.pairs })) taken.cap

    less : (g g' p p' r r' : ℕ) → g' ≡ g → p ≡ suc p' → r' ≡ r → g' + p' + r' < g + p + r
    less g g' p p' r r' a b e = omega arith

    falls_on : left d < left c
    unfolding left
    falls_on = less (length c.generators) (length d.generators) (length c.pairs) (length d.pairs) (undivided c * (length c.members + undivided c)) (undivided d * (length d.members + undivided d))
        (ap length taken.rest.1) (sym (length_permutation c.pairs (p ∷ d.pairs) taken.rest.0)) (ap₂ (λ u n. u * (n + u)) undivided_same (ap length taken.members))

    pub taken_treatment : IsTreatment S c d
    taken_treatment = record { stands = stands_on; extends = extends_on; treats = inr treats_on; falls = falls_on }

  pub passed : (d : Progress E) (i : Item) → IsTaken c d i → IsCurrent c i → IsTreatedItem S c i → IsTreatment S c d
  passed d (Generator i) taken current treated = absurd treated
  passed d (Pair i) taken current treated = taken_treatment d i taken current treated

-- a list that does not have a pair at any place
pub none_there : {A : Type 0} (xs : List A) (x : A) → ((j : ℕ) (d : A) → j < length xs → ¬ (get_or xs j d ≡ x)) → ¬ Contains xs x
none_there xs x n h = go xs n (contains_in x xs h)
  where
    go : {A : Type 0} {x : A} (xs : List A) → ((j : ℕ) (d : A) → j < length xs → ¬ (get_or xs j d ≡ x)) → In x xs → ⊥
    go [] n i = absurd i
    go (y ∷ xs) n (inl e) = n 0 y (omega arith) e
    go (y ∷ xs) n (inr i) = go xs (λ j d h. n (suc j) d (omega arith)) i

pub none_more : {A : Type 0} (xs : List A) (x : A) (i : ℕ) (e : A) → i < length xs → ((j : ℕ) (d : A) → j < i → ¬ (get_or xs j d ≡ x)) → ¬ (get_or xs i e ≡ x) → (j : ℕ) (d : A) → j < i + 1 → ¬ (get_or xs j d ≡ x)
none_more xs x i e h n ne j d w = go (ℕ_discrete j i)
  where
    same : {A : Type 0} (xs : List A) (i : ℕ) (a b : A) → i < length xs → get_or xs i a ≡ get_or xs i b
    same [] i a b h = absurd (omega arith)
    same (z ∷ xs) zero a b h = refl
    same (z ∷ xs) (suc i) a b h = same xs i a b (omega arith)

    go : Dec (j ≡ i) → ¬ (get_or xs j d ≡ x)
    go (yes p) f = ne (same xs i e d h ∙ sym (ap (λ m. get_or xs m d) p) ∙ f)
    go (no m) f = n j d (omega arith) f
