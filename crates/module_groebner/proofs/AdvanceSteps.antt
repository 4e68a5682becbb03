-- One step of a completion, from its parts: the remainder is appended, and the item taken off what is still to treat.
use Rattle.std.proofs.Common.{◌≡◌, ◌⊎◌, inl, inr, ◌<◌, ◌≤◌, ℕ, List, [], ◌∷◌, ◌++◌, length, get_or, sym, ap, ◌∙◌, refl, subst, arith, length-append, append-nil}
use Rattle.std.specs.List.Sorted.{IsPermutation}
use Rattle.std.proofs.lemmas.List.Sorted.{IsPermutation-refl}
use Rattle.alg_core.specs.Lists.{map_in}
use Rattle.alg_core.specs.Spaces.{SpaceOver, Fits}
use Rattle.alg_core.specs.SpaceGrading.{AllPositive}
use Rattle.alg_core.specs.Vectors.{Entry, Vect, vec, zero_vector}
use Rattle.alg_core.proofs.Members.{in_contains}
use Rattle.poly_module.specs.Degrees.{IsDegree}
use Rattle.poly_module.specs.Modules.{InModule, listed}
use Rattle.poly_module.specs.SpaceVectors.{IsUpTo}
use Rattle.module_groebner.specs.declared.completion.Item.{Item}
use Rattle.module_groebner.specs.declared.completion.Item.TheVariants.{Generator, Pair}
use Rattle.module_groebner.specs.HomogeneousLists.{degree_limit, cap_limit, IsHomogeneousUpTo}
use Rattle.module_groebner.specs.Remainders.{IsRemainder, KeepsDegrees}
use Rattle.module_groebner.specs.Progress.{Progress, lead_place, left, IsUnchanged}
use Rattle.module_groebner.specs.Completions.{vects, IsPair, IsCurrentGenerator, IsCurrentPair, IsCurrentVector, members, generated, StandsOver, Extends, TreatsGenerator, TreatsPair}
use Rattle.module_groebner.specs.Items.{IsWithin, IsCurrent, IsVectorOfItem, IsAppended, IsTaken, new_members}
use Rattle.module_groebner.proofs.Families.{all_in, in_all, in_get, get_front, length_map, listed_in}
use Rattle.module_groebner.proofs.PairSteps.{s_up_to}
use Rattle.module_groebner.proofs.Completions.{appended, IsStep, generator_stands, generator_extends, generator_treated, pair_stands, pair_extends, pair_treated}
use Rattle.module_groebner.proofs.CompletionResults.{low_remainder, zero_remainder}
use Rattle.module_groebner.proofs.Progresses.{generator_falls, pair_falls}

module _ {E : Type 0} where
  appended_is : (r : List (Entry E)) → new_members r ≡ appended r
  appended_is [] = refl
  appended_is (e ∷ r) = refl

  pub pair_same : (c d : Progress E) → d.members ≡ c.members → (p : ℕ × ℕ) → IsPair c p → IsPair d p
  pair_same c d e p h = record {
    rising = h.rising;
    within = subst (λ l. p.1 < length l) (sym e) h.within;
    position = subst (λ l. (lead_place (get_or l p.0 [])).0 ≡ (lead_place (get_or l p.1 [])).0) (sym e) h.position;
  }

  -- an item of the completion is one with the new member too
  pub within_appended : (c d : Progress E) (r : List (Entry E)) (i : Item) → IsAppended c d r → IsWithin c i → IsWithin d i
  within_appended c d r (Generator i) a w = subst (λ l. i < length l) (sym a.generators) w
  within_appended c d r (Pair i) a w = subst (λ l. i < length l) (sym a.pairs) (let e = length-append c.pairs a.new_pairs in omega arith)

module _ {E : Type 0} (S : SpaceOver E) (c : Progress E) where
  pub current_vector_of : (i : Item) (v : Vect S.field) → IsCurrent c i → IsVectorOfItem S c i v → IsCurrentVector S c v
  current_vector_of (Generator i) v h e =
      inl (get_or c.generators i [], record { there = in_contains _ c.generators (in_get [] c.generators i h.within); least = h.least }, e)
  current_vector_of (Pair i) v h e =
      inr (get_or c.pairs i (0, 0), record { there = in_contains _ c.pairs (in_get (0, 0) c.pairs i h.within); least = h.least }, e)

  -- what a step gives
  pub record IsTreatment (d : Progress E) : Type 0 where
    pub stands : StandsOver S d
    pub extends : Extends S c d
    pub treats : TreatsGenerator S c d ⊎ TreatsPair S c d
    pub falls : left d < left c

  -- a completion extends to what is unchanged
  pub extends_unchanged : (d : Progress E) → IsUnchanged c d → Extends S c d
  extends_unchanged d u = record {
    weights = u.weights;
    shifts = u.shifts;
    cap = u.cap;
    new = [];
    members = u.members ∙ sym (append-nil c.members);
    one = omega arith;
    same = λ v. (subst (λ h. InModule S.field h v) (sym family), subst (λ h. InModule S.field h v) family);
  }
    where
      family : generated S d ≡ generated S c
      family = ap (λ ms. listed S.field (vects S.field ms ++ vects S.field d.generators)) u.members ∙ ap (λ gs. listed S.field (vects S.field c.members ++ vects S.field gs)) u.generators

  module _ (stands : StandsOver S c) where
    member_low : (j : ℕ) → j < length c.members → IsUpTo S cap_limit (members S c j)
    member_low j h t n =
        let low = all_in (IsHomogeneousUpTo S c.cap) (vects S.field c.members) stands.members_homogeneous (members S c j)
        (listed_in S.field (vects S.field c.members) j (let e = length_map (vec S.field) c.members in omega arith)) in
        let a = low.2 t n in let b = low.1 in let d = stands.cap in omega arith

    -- the current vector has no degree over the limit
    pub current_low : (i : Item) (v : Vect S.field) → IsCurrent c i → IsVectorOfItem S c i v → IsUpTo S degree_limit v
    current_low (Generator i) v h e =
        subst (IsUpTo S degree_limit) e (λ t n. let x = low.2 t n in let y = low.1 in omega arith)
      where
        low : IsHomogeneousUpTo S degree_limit (vec S.field (get_or c.generators i []))
        low = all_in (IsHomogeneousUpTo S degree_limit) (vects S.field c.generators) stands.generators_homogeneous (vec S.field (get_or c.generators i []))
            (map_in (vec S.field) (get_or c.generators i []) c.generators (in_get [] c.generators i h.within))
    current_low (Pair i) v h e =
        s_up_to S (members S c p.0) (members S c p.1) v e (member_low p.0 (let a = pair.rising in let b = pair.within in omega arith)) (member_low p.1 pair.within)
      where
        p : ℕ × ℕ
        p = get_or c.pairs i (0, 0)

        pair : IsPair c p
        pair = all_in (IsPair c) c.pairs stands.pairs p (in_get (0, 0) c.pairs i h.within)

    -- a remainder of it that is 0 or has a degree of at most the cap
    pub remainder_low : AllPositive S.weights → (i : Item) (v r : Vect S.field) → IsCurrent c i → IsVectorOfItem S c i v → KeepsDegrees S v r
        → (r ≡ zero_vector S.field) ⊎ ((n : ℕ) × IsDegree S r n × (n ≤ c.cap)) → IsHomogeneousUpTo S c.cap r
    remainder_low positive i v r h e keeps (inl z) = subst (IsHomogeneousUpTo S c.cap) (sym z) (zero_remainder S positive c stands)
    remainder_low positive i v r h e keeps (inr x) = low_remainder S positive c stands v r (current_vector_of i v h e) keeps x.0 x.1 x.2

    module _ (m d : Progress E) (v : Vect S.field) (r : List (Entry E)) (a : IsAppended c m r) (same : d.members ≡ m.members) where
      step_of : d.weights ≡ m.weights → d.shifts ≡ m.shifts → d.cap ≡ m.cap → Fits S r → IsRemainder S (members S c) v (vec S.field r) → IsHomogeneousUpTo S c.cap (vec S.field r) → IsStep S c d v r
      step_of w s cap fits rem low = record {
        weights = w ∙ a.weights;
        shifts = s ∙ a.shifts;
        cap = cap ∙ a.cap;
        fits = fits;
        remainder = rem;
        low = low;
        members = same ∙ a.members ∙ ap (λ l. c.members ++ l) (appended_is r);
        new_pairs = a.new_pairs;
        are_pairs = in_all (IsPair d) a.new_pairs (λ p i. pair_same m d same p (all_in (IsPair m) a.new_pairs a.are_pairs p i));
        ends = a.ends;
        every = λ p h e. a.every p (pair_same d m (sym same) p h) e;
        few = a.few;
      }

    pub treated : AllPositive S.weights → (m d : Progress E) (i : Item) (v : Vect S.field) (r : List (Entry E)) → IsCurrent c i → IsVectorOfItem S c i v → IsAppended c m r → IsTaken m d i
        → Fits S r → IsRemainder S (members S c) v (vec S.field r) → IsHomogeneousUpTo S c.cap (vec S.field r) → IsTreatment d
    unfolding step_of
    treated positive m d (Generator i) v r h e a t fits rem low =
        record {
          stands = generator_stands S c d es r stands step current taken pairs;
          extends = generator_extends S c d es r stands step current taken pairs;
          treats = inl (generator_treated S c d es r stands step current taken pairs);
          falls = generator_falls S positive c d (vec S.field es) r stands step es taken pairs;
        }
      where
        es : List (Entry E)
        es = get_or c.generators i []

        step : IsStep S c d (vec S.field es) r
        step = step_of m d (vec S.field es) r a t.members t.weights t.shifts t.cap fits (subst (λ u. IsRemainder S (members S c) u (vec S.field r)) (sym e) rem) low

        current : IsCurrentGenerator c es
        current = record { there = in_contains es c.generators (in_get [] c.generators i h.within); least = h.least }

        taken : IsPermutation c.generators (es ∷ d.generators)
        taken = subst (λ gs. IsPermutation gs (get_or gs i [] ∷ d.generators)) a.generators t.rest.0

        pairs : IsPermutation (c.pairs ++ a.new_pairs) d.pairs
        pairs = subst (IsPermutation (c.pairs ++ a.new_pairs)) (sym (t.rest.1 ∙ a.pairs)) (IsPermutation-refl (c.pairs ++ a.new_pairs))
    treated positive m d (Pair i) v r h e a t fits rem low =
        record {
          stands = pair_stands S c d p v r stands step current e taken generators;
          extends = pair_extends S c d p v r stands step current e taken generators;
          treats = inr (pair_treated S c d p v r stands step current e taken generators);
          falls = pair_falls S positive c d v r stands step p taken generators;
        }
      where
        p : ℕ × ℕ
        p = get_or c.pairs i (0, 0)

        step : IsStep S c d v r
        step = step_of m d v r a t.members t.weights t.shifts t.cap fits rem low

        current : IsCurrentPair c p
        current = record { there = in_contains p c.pairs (in_get (0, 0) c.pairs i h.within); least = h.least }

        taken : IsPermutation (c.pairs ++ a.new_pairs) (p ∷ d.pairs)
        taken = subst (λ q. IsPermutation (c.pairs ++ a.new_pairs) (q ∷ d.pairs)) (get_front (0, 0) c.pairs a.new_pairs i h.within)
            (subst (λ ps. IsPermutation ps (get_or ps i (0, 0) ∷ d.pairs)) a.pairs t.rest.0)

        generators : IsPermutation c.generators d.generators
        generators = subst (IsPermutation c.generators) (sym (t.rest.1 ∙ a.generators)) (IsPermutation-refl c.generators)
