-- The irreducible generators: members of positive degree, which generate, none of them superfluous.
use Rattle.std.proofs.Common.{◌≡◌, ◌⊎◌, inl, inr, ℕ, zero, suc, ◌+◌, ◌-◌, ◌<◌, ◌≤◌, List, [], ◌∷◌, ◌++◌, length, map, get_or, take, drop, sym, ap, ◌∙◌, refl, subst, arith, append_assoc}
use Rattle.std.proofs.lemmas.Bool.{cases_lt}
use Rattle.std.proofs.lemmas.List.{length-append, map-append, length-map, get_or_append_left, get_or-append-add}
use Rattle.alg_core.specs.Fields.{FieldOn}
use Rattle.alg_core.specs.Keys.{Key}
use Rattle.alg_core.specs.KeyOrders.{OrderOn}
use Rattle.alg_core.specs.Lists.{In, map_in}
use Rattle.alg_core.specs.SpaceGrading.{AllPositive, height}
use Rattle.alg_core.specs.Vectors.{Vect}
use Rattle.alg_core.proofs.Members.{from_map, in_cases}
use Rattle.poly_module.specs.Combinations.{Over}
use Rattle.poly_module.specs.Forms.{IsForm, AreForms}
use Rattle.poly_module.specs.Modules.{listed}
use Rattle.poly_module.specs.Walks.{Keeps}
use Rattle.poly_module.proofs.CombinationLaws.{over_zero}
use Rattle.secondary_gens.proofs.CombinationSteps.{in_at}
use Rattle.secondary_gens.proofs.Lists.{forms_length, forms_at, listed_in, place_of_in, split_at}
use Rattle.irreducible_gens.specs.Algebras.{IsPolynomialIn, InAlgebra}
use Rattle.irreducible_gens.specs.Irreducibles.{numbers, member, members, AreIrreducibles, IsOfPositiveDegree, IsIrreducible}
use Rattle.irreducible_gens.proofs.Generators.{unit, over_polynomial, polynomial_over, over_wider, over_generator, listed_back}
use Rattle.irreducible_gens.proofs.Kept.{kept_fresh, kept_from, kept_covers, numbers_bounds, numbers_has, map_split}
use Rattle.irreducible_gens.proofs.Minimal.{constant_over, new_needed, AreNew}

-- places that a walk along rising numbers keeps rise
Rises : List ℕ → Type 0
Rises ps = (i j : ℕ) → i ≤ j → j < length ps → get_or ps i 0 ≤ get_or ps j 0

rises_push : (ps : List ℕ) (x : ℕ) → Rises ps → ((p : ℕ) → In p ps → p < x) → Rises (ps ++ x ∷ [])
unfolding Rises
rises_push ps x h below i j l q = go (cases_lt j (length ps)) (cases_lt i (length ps))
  where
    last : (n : ℕ) → length ps ≤ n → n < length (ps ++ x ∷ []) → get_or (ps ++ x ∷ []) n 0 ≡ x
    last n a b = (let m = length-append ps (x ∷ []) in let e : n ≡ length ps + 0 = omega arith in ap (λ z. get_or (ps ++ x ∷ []) z 0) e) ∙ get_or-append-add ps (x ∷ []) 0 0

    go : (j < length ps) ⊎ (length ps ≤ j) → (i < length ps) ⊎ (length ps ≤ i) → get_or (ps ++ x ∷ []) i 0 ≤ get_or (ps ++ x ∷ []) j 0
    go (inl a) b = let u = get_or_append_left ps (x ∷ []) 0 i (omega arith) in let v = get_or_append_left ps (x ∷ []) 0 j a in let w = h i j l a in omega arith
    go (inr a) (inl b) = let u = get_or_append_left ps (x ∷ []) 0 i b in let v = last j a q in let w = below (get_or ps i 0) (in_at ps i 0 b) in omega arith
    go (inr a) (inr b) = let u = last i b (omega arith) in let v = last j a q in omega arith

rises_walk : (Skips : List ℕ → ℕ → Type 0) (kept all : List ℕ) (i n : ℕ) → Keeps Skips kept (numbers i n) all → Rises kept → ((p : ℕ) → In p kept → p < i) → Rises all
rises_walk Skips kept all i zero h r below = subst Rises (sym h) r
rises_walk Skips kept all i (suc n) (inl h) r below = rises_walk Skips kept all (suc i) n h.1 r (λ p a. let b = below p a in omega arith)
rises_walk Skips kept all i (suc n) (inr h) r below = rises_walk Skips (kept ++ i ∷ []) all (suc i) n h.1 (rises_push kept i r below) (λ p a. more p (in_cases p kept (i ∷ []) a))
  where
    more : (p : ℕ) → In p kept ⊎ In p (i ∷ []) → p < suc i
    more p (inl a) = let b = below p a in omega arith
    more p (inr (inl e)) = omega arith
    more p (inr (inr a)) = absurd a

height_map : (f : ℕ → ℕ) (ps : List ℕ) (j : ℕ) → j < length ps → height (map f ps) j ≡ f (get_or ps j 0)
unfolding height
height_map f [] j l = absurd (omega arith)
height_map f (p ∷ ps) zero l = refl
height_map f (p ∷ ps) (suc j) l = height_map f ps j (omega arith)

module _ {E : Type 0} (k : FieldOn E) (θ S : List (Vect k)) where
  abbrev pub Skips : List ℕ → ℕ → Type 0
  Skips kept p = InAlgebra k θ (members k S kept) (member k S p)

  -- more places keep what is a polynomial in the members there, and each member is one where it stands
  pub skips_more : (a b : List ℕ) (p : ℕ) → Skips a p → Skips (a ++ b) p
  skips_more a b p h = subst (λ l. IsPolynomialIn k l (member k S p)) (append_assoc θ (members k S a) (members k S b) ∙ ap (λ l. θ ++ l) (sym (map-append (member k S) a b)))
      (over_polynomial k _ _ (over_wider k (θ ++ members k S a) (members k S b) (unit k) (member k S p) (polynomial_over k _ _ h)))

  pub skips_own : (a : List ℕ) (p : ℕ) (b : List ℕ) → Skips (a ++ p ∷ b) p
  skips_own a p b = subst (λ l. IsPolynomialIn k l (member k S p)) (append_assoc θ (members k S a) (members k S (p ∷ b)) ∙ ap (λ l. θ ++ l) (sym (map-append (member k S) a (p ∷ b))))
      (over_polynomial k _ _ (subst (Over k (front ++ members k S (p ∷ b)) (unit k)) (listed_back k front (members k S (p ∷ b)) 0)
      (over_generator k (front ++ members k S (p ∷ b)) (length front + 0) (let l = length-append front (members k S (p ∷ b)) in omega arith))))
    where
      front : List (Vect k)
      front = θ ++ members k S a

  module _ (ps : List ℕ) (a : AreIrreducibles k θ S ps) where
    -- places of members
    pub place_within : (p : ℕ) → In p ps → (0 < p) × (p ≤ length S)
    place_within p i = go (kept_from Skips [] (numbers 1 (length S)) ps a p i)
      where
        go : In p [] ⊎ In p (numbers 1 (length S)) → (0 < p) × (p ≤ length S)
        go (inl b) = absurd b
        go (inr b) = let r = numbers_bounds 1 (length S) p b in let c = r.0 in let d = r.1 in (omega arith, omega arith)

    -- each is new
    members_new : AreNew k θ (members k S ps)
    members_new P s U e =
        let r = map_split (member k S) ps P s U e in
        λ b. kept_fresh Skips (numbers 1 (length S)) ps a r.0 r.1 r.2 r.3 (subst (λ l. InAlgebra k θ l (member k S r.1)) (sym r.4) (subst (InAlgebra k θ P) (sym r.5) b))

    -- the members generate
    generating : (s : Vect k) → In s S → InAlgebra k θ (members k S ps) s
    generating s i =
        let p = place_of_in k S s i in
        let e : (1 + p.0) - 1 ≡ p.0 = omega arith in
        subst (InAlgebra k θ (members k S ps)) (ap (listed k S) e ∙ p.2) (kept_covers Skips skips_more skips_own [] (numbers 1 (length S)) ps a (1 + p.0) (numbers_has 1 (length S) p.0 p.1))

    module _ (o : OrderOn Key) (ws ds es : List ℕ) (unmarked : AllPositive ws) (h : AreForms k ws ds θ) (positive : AllPositive ds) (g : AreForms k ws es S) (rise : (i j : ℕ) → i ≤ j → j < length es → height es i ≤ height es j) where
      abbrev at : ℕ → ℕ
      at p = height es (p - 1)

      own_form : (p : ℕ) → In p ps → IsForm k ws (at p) (member k S p)
      own_form p i = let w = place_within p i in let b = w.0 in let c = w.1 in forms_at k ws es S g (p - 1) (omega arith)

      not_in : (q : Vect k) → In q (members k S ps) → (G : List (Vect k)) × ¬ Over k G (unit k) q
      not_in q i =
          let p = place_of_in k (members k S ps) q i in
          (θ ++ take p.0 (members k S ps), λ b. members_new (take p.0 (members k S ps)) q (drop (suc p.0) (members k S ps)) (subst (λ x. members k S ps ≡ take p.0 (members k S ps) ++ x ∷ drop (suc p.0) (members k S ps)) p.2 (split_at k (members k S ps) p.0 p.1)) (over_polynomial k _ q b))

      not_constant : (d : ℕ) (q : Vect k) → In q (members k S ps) → IsForm k ws d q → (0 < d) ⊎ (d ≤ 0) → 0 < d
      not_constant d q i form (inl b) = b
      not_constant d q i form (inr b) = let n = not_in q i in absurd (n.1 (constant_over k ws unmarked n.0 q (let z : d ≡ 0 = omega arith in subst (λ e. IsForm k ws e q) z form)))

      positive_member : (p : ℕ) → In p ps → 0 < at p
      positive_member p i = not_constant (at p) (member k S p) (map_in (member k S) p ps i) (own_form p i) (cases_lt 0 (at p))

      own_member : (q : Vect k) → In q (members k S ps) → In q S × IsOfPositiveDegree k ws q
      own_member q i =
          let f = from_map (member k S) q ps i in (
            subst (λ v. In v S) f.2 (let w = place_within f.0 f.1 in let b = w.0 in let c = w.1 in listed_in k S (f.0 - 1) (omega arith)),
            record {
              degree = at f.0;
              positive = positive_member f.0 f.1;
              form = subst (IsForm k ws (at f.0)) f.2 (own_form f.0 f.1);
              not_zero = λ z. let n = not_in q i in n.1 (subst (Over k n.0 (unit k)) (sym z) (over_zero k n.0 (unit k)));
            },
          )

      forms_of : (l : List ℕ) → ((p : ℕ) → In p l → In p ps) → AreForms k ws (map at l) (members k S l)
      forms_of [] f = tt
      forms_of (p ∷ l) f = (own_form p (f p (inl refl)), forms_of l (λ r i. f r (inr i)))

      positives_of : (l : List ℕ) → ((p : ℕ) → In p l → In p ps) → AllPositive (map at l)
      positives_of [] f = tt
      positives_of (p ∷ l) f = (positive_member p (f p (inl refl)), positives_of l (λ r i. f r (inr i)))

      rising : (i j : ℕ) → i ≤ j → j < length (map at ps) → height (map at ps) i ≤ height (map at ps) j
      unfolding Rises
      rising i j l q =
          let n = length-map ps at in
          let u = height_map at ps i (omega arith) in
          let v = height_map at ps j (omega arith) in
          let m = place_within (get_or ps i 0) (in_at ps i 0 (omega arith)) in
          let w = place_within (get_or ps j 0) (in_at ps j 0 (omega arith)) in
          let r = rises_walk Skips [] ps 1 (length S) a (λ i j b c. absurd (omega arith)) (λ p b. absurd b) i j l (omega arith) in
          let b = w.0 in
          let c = w.1 in
          let e = forms_length k ws es S g in
          let x = rise (get_or ps i 0 - 1) (get_or ps j 0 - 1) (omega arith) (omega arith) in
          omega arith

      pub irreducible : IsIrreducible k θ ws S (members k S ps)
      irreducible = record {
        members = own_member;
        generate = generating;
        needed = new_needed k o ws ds (map at ps) θ (members k S ps) h positive (forms_of ps (λ p i. i)) (positives_of ps (λ p i. i)) rising members_new;
      }
