-- Where the leads of a Gröbner basis of an ideal of homogeneous polynomials have a power of each variable, each variable has a
-- power in the ideal: in a degree that is great enough each monomial is a multiple of one of these powers.
use Rattle.std.proofs.Common.{◌≡◌, inl, inr, ◌∙◌, ℕ, zero, suc, ◌+◌, ◌-◌, ◌*◌, ◌<◌, ◌≤◌, List, [], ◌∷◌, length, replicate, sym, ap, ap₂, subst, refl, arith}
use Rattle.std.specs.declared.cmp.Ordering.TheVariants.{Less}
use Rattle.std.specs.Ordering.{nat_cmp, ordering_then}
use Rattle.std.specs.Cmp.Lexicographic.{slice_cmp}
use native.Mathlib.Decide.{ℕ_discrete, dec_le}
use Rattle.alg_core.specs.CanonicalLists.{indicator_yes, indicator_no}
use Rattle.alg_core.specs.CommonMultiples.{exponents_divide}
use Rattle.alg_core.specs.Fields.{FieldOn, scalars, is_field}
use Rattle.alg_core.specs.Keys.{Key, key, key_same, KeyDivides}
use Rattle.alg_core.specs.KeyOrders.{OrderOn, less_irreflexive}
use Rattle.alg_core.specs.Leads.{has_lead, HasLead}
use Rattle.alg_core.specs.Lists.{In}
use Rattle.alg_core.specs.Monomials.{Mon, monomials, mono, mon_ext, exponent, exponent_mono, exponent_mul, trimmed, trimmed_ext, exponent_trimmed, beyond}
use Rattle.alg_core.specs.PlaceOrders.{PlaceOrder}
use Rattle.alg_core.specs.SpaceGrading.{AllPositive, degree, height, weight, weight_ext}
use Rattle.alg_core.specs.SpaceOrder.{key_order, key_compare, place_of, beyond_of}
use Rattle.alg_core.specs.Spaces.{SpaceOver}
use Rattle.alg_core.specs.Vectors.{Vect, coef_at, zero_vector}
use Rattle.alg_core.proofs.MonomialLists.{exponent_past, length_mon}
use Rattle.poly_module.specs.Degrees.{IsHomogeneous}
use Rattle.poly_module.specs.GreatestExponents.{total}
use Rattle.poly_module.specs.Modules.{LeadBy, InModule, listed}
use Rattle.poly_module.specs.MonomialVariables.{after_zeros}
use Rattle.poly_module.specs.Parts.{IsPolynomial, supp_single, supp_zero, coef_at_single}
use Rattle.poly_module.specs.Polynomials.{single_vector}
use Rattle.poly_module.specs.ReducedLists.{IsReducedBasisOf}
use Rattle.poly_module.proofs.ModuleElements.{module_zero, module_positions}
use Rattle.poly_module.proofs.SpaceVectorLaws.{minus_unique, supp_minus}
use Rattle.module_groebner.specs.Remainders.{IsRemainder, KeepsDegrees}
use Rattle.module_groebner.proofs.Families.{homogeneous_each}
use Rattle.module_groebner.proofs.Remainders.{remainder_exists, remainder_difference, divided_inside, remainder_low}
use Rattle.finite_certificate.specs.Ideals.{InIdeal, variable_power, Ended}
use Rattle.finite_certificate.proofs.VariablePowers.{power_single}
use Rattle.groebner_hom.proofs.PolynomialLists.{same_ideal}
use Rattle.groebner_hom.specs.LeadPowers.{IsPowerOf, HasPowerLead}

-- the key of a power of a variable
abbrev pub power_key : ℕ → ℕ → Key
power_key i e = (0, mono (after_zeros i (e ∷ [])))

other_zero : (i e j : ℕ) → ¬ (j ≡ i) → exponent (after_zeros i (e ∷ [])) j ≡ 0
unfolding after_zeros
other_zero zero e zero n = absurd (n refl)
other_zero zero e (suc j) n = refl
other_zero (suc i) e zero n = refl
other_zero (suc i) e (suc j) n = other_zero i e j (λ p. n (ap suc p))

own_exponent : (i e : ℕ) → exponent (after_zeros i (e ∷ [])) i ≡ e
unfolding after_zeros
own_exponent zero e = refl
own_exponent (suc i) e = own_exponent i e

-- a divisor of a power of a variable is one
divisor_power : (i e : ℕ) (s : Key) → KeyDivides s (power_key i e) → (s.0 ≡ 0) × ((j : ℕ) → ¬ (j ≡ i) → exponent s.1.0 j ≡ 0)
divisor_power i e s d = (
  ap (λ (t : Key). t.0) d.1,
  λ j n.
      let a : exponent (monomials.◌·◌ d.0 s.1).0 j ≡ exponent (mono (after_zeros i (e ∷ []))).0 j = ap (λ (t : Key). exponent t.1.0 j) d.1 in
      let b = exponent_mul d.0 s.1 j in
      let c = exponent_mono (after_zeros i (e ∷ [])) j in
      let z = other_zero i e j n in
      omega arith,
)

-- keys in the variables of a space are not greater than one with others
beyond_exponent : (n : ℕ) (a : List ℕ) (i : ℕ) → exponent (beyond n a) i ≡ exponent a (n + i)
unfolding beyond
beyond_exponent zero a i = let z : i ≡ 0 + i = omega arith in ap (exponent a) z
beyond_exponent (suc n) [] i = beyond_exponent n [] i
beyond_exponent (suc n) (x ∷ a) i = let r = beyond_exponent n a i in let e : suc n + i ≡ suc (n + i) = omega arith in r ∙ sym (ap (exponent (x ∷ a)) e)

nothing_past : (n : ℕ) (m : Mon) → length m.0 ≤ n → trimmed (beyond n m.0) ≡ []
unfolding trimmed
nothing_past n m h = trimmed_ext (beyond n m.0) [] (λ i. beyond_exponent n m.0 i ∙ exponent_past m.0 (n + i) (omega arith))

within_variables : (n : ℕ) (m : Mon) → trimmed (beyond n m.0) ≡ [] → length m.0 ≤ n
within_variables n m e = length_mon n m (λ i h.
    let at : n + (i - n) ≡ i = omega arith in
    ap (exponent m.0) (sym at) ∙ sym (beyond_exponent n m.0 (i - n)) ∙ sym (exponent_trimmed (beyond n m.0) (i - n)) ∙ ap (λ l. exponent l (i - n)) e)

at_most_within : (n : ℕ) (o : PlaceOrder) (t s : Key) → length t.1.0 ≤ n → ¬ (key_compare n o t s ≡ Less) → length s.1.0 ≤ n
unfolding key_compare place_of beyond_of
at_most_within n o t s h low = go (trimmed (beyond n s.1.0)) refl
  where
    go : (l : List ℕ) → trimmed (beyond n s.1.0) ≡ l → length s.1.0 ≤ n
    go [] e = within_variables n s.1 e
    go (x ∷ l) e = absurd (low (ap₂ (λ a b. ordering_then (slice_cmp nat_cmp a b) (o.compare (place_of n o t) (place_of n o s))) (nothing_past n t.1 h) e))

-- one exponent is great where their sum is
some_large : (a : List ℕ) (e : ℕ) → length a * e < total a → (j : ℕ) × (j < length a) × (e ≤ exponent a j)
some_large [] e h = absurd (omega arith)
some_large (x ∷ a) e h = go (dec_le e x) (some_large a e)
  where
    rest : x < e → length a * e < total a
    rest l = let d : suc (length a) * e ≡ length a * e + e = grind arith in omega arith

    go : Dec (e ≤ x) → (length a * e < total a → (j : ℕ) × (j < length a) × (e ≤ exponent a j)) → (j : ℕ) × (j < suc (length a)) × (e ≤ exponent (x ∷ a) j)
    go (yes p) later = (0, omega arith, p)
    go (no n) later = let r = later (rest (omega arith)) in (suc r.0, let b = r.1 in omega arith, r.2)

-- weights 1
weight_total : (n i : ℕ) (a : List ℕ) → length a ≤ n → weight (replicate n 1) i a ≡ total a
unfolding weight
weight_total n i [] h = refl
weight_total zero i (x ∷ a) h = absurd (omega arith)
weight_total (suc n) i (x ∷ a) h = let r = weight_total n (suc i) a (omega arith) in omega arith

total_power : (i e : ℕ) → total (after_zeros i (e ∷ [])) ≡ e
unfolding after_zeros
total_power zero e = omega arith
total_power (suc i) e = let r = total_power i e in omega arith

length_power : (i e : ℕ) → length (after_zeros i (e ∷ [])) ≡ suc i
unfolding after_zeros
length_power zero e = refl
length_power (suc i) e = ap suc (length_power i e)

place_of_member : {E : Type 0} (k : FieldOn E) (v : Vect k) (vs : List (Vect k)) → In v vs → (i : ℕ) × (listed k vs i ≡ v)
place_of_member k v [] i = absurd i
place_of_member k v (w ∷ vs) (inl e) = (0, e)
place_of_member k v (w ∷ vs) (inr i) = let r = place_of_member k v vs i in (suc r.0, r.1)

-- the lead of a single key
pub single_lead : {E : Type 0} (S : SpaceOver E) (t : Key) → LeadBy S.field (key_order S) (single_vector S.field t) t
unfolding coef_at
single_lead S t = record {
  there = λ z. (is_field S.field).one_not_zero (sym (indicator_yes (scalars S.field) (key_same t t) refl) ∙ sym (coef_at_single S.field t t) ∙ z);
  above = λ s h. coef_at_single S.field t s ∙ indicator_no (scalars S.field) (key_same t s) (λ e. less_irreflexive (key_order S) t s e h);
}

module _ {E : Type 0} (S : SpaceOver E) (positive : AllPositive S.weights) (θ vs : List (Vect S.field)) (reduced : IsReducedBasisOf S (InIdeal S.field θ) vs) where
  abbrev k : FieldOn E
  k = S.field

  abbrev o : OrderOn Key
  o = key_order S

  -- a variable of which no lead is a power has no power in the ideal
  pub no_power : (i e : ℕ) → ¬ HasPowerLead S vs i → ¬ InIdeal S.field θ (variable_power S.field i e)
  unfolding key
  no_power i e none inside =
      let c = reduced.reduced.covers (variable_power k i e) (power_key i e) inside (subst (λ v. LeadBy k o v (power_key i e)) (sym (power_single k i e)) (single_lead S (power_key i e))) in
      let d = divisor_power i e c.1 c.4 in
      let same : c.1 ≡ (0, mono c.1.1.0) = ap₂ (λ (q : ℕ) (m : Mon). (q, m)) d.0 (mon_ext c.1.1 (mono c.1.1.0) (λ j. sym (exponent_mono c.1.1.0 j))) in
      none (record { member = c.0; inside = c.2; exponents = c.1.1.0; lead = subst (LeadBy k o c.0) same c.3; power = d.1 })

  module _ (ones : S.weights ≡ replicate (length S.weights) 1) (shift : height S.shifts 0 ≡ 0)
      (polynomials : (w : Vect S.field) → In w vs → IsPolynomial S.field w) (homogeneous : (w : Vect S.field) → In w vs → (d : ℕ) × IsHomogeneous S d w)
      (powers : (i : ℕ) → i < length S.weights → HasPowerLead S vs i) where
    abbrev n : ℕ
    n = length S.weights

    -- a bound on the exponents of these powers
    abbrev UpTo : ℕ → ℕ → Type 0
    UpTo e i = (p : HasPowerLead S vs i) × (exponent p.exponents i ≤ e)

    up_to_more : (j e : ℕ) → ((i : ℕ) → i < j → UpTo e i) → (p : HasPowerLead S vs j) → (i : ℕ) → i < suc j → UpTo (e + exponent p.exponents j) i
    up_to_more j e before p i h = go (ℕ_discrete i j)
      where
        go : Dec (i ≡ j) → UpTo (e + exponent p.exponents j) i
        go (yes q) = subst (UpTo (e + exponent p.exponents j)) (sym q) (p, omega arith)
        go (no q) = let r = before i (omega arith) in (r.0, let a = r.1 in omega arith)

    bound : (j : ℕ) → j ≤ length S.weights → (e : ℕ) × ((i : ℕ) → i < j → UpTo e i)
    bound zero h = (0, λ i l. absurd (omega arith))
    bound (suc j) h = let r = bound j (omega arith) in let p = powers j h in (r.0 + exponent p.exponents j, up_to_more j r.0 r.1 p)

    key_degree : (t : Key) → t.0 ≡ 0 → length t.1.0 ≤ length S.weights → degree S t ≡ total t.1.0
    unfolding degree
    key_degree t z h = let a : height S.shifts t.0 ≡ 0 = ap (height S.shifts) z ∙ shift in let w : weight S.weights 0 t.1.0 ≡ total t.1.0 = ap (λ ws. weight ws 0 t.1.0) ones ∙ weight_total n 0 t.1.0 h in omega arith

    -- the degree from which on each monomial is a multiple of one of the leads
    top : (e : ℕ) × ((i : ℕ) → i < length S.weights → UpTo e i)
    top = bound (length S.weights) (omega arith)

    abbrev great : ℕ
    great = suc (length S.weights * top.0)

    -- a monomial of that degree is a multiple of a lead
    divided : (t : Key) → t.0 ≡ 0 → length t.1.0 ≤ length S.weights → degree S t ≡ great → (w : Vect S.field) × (s : Key) × In w vs × LeadBy S.field (key_order S) w s × KeyDivides s t
    unfolding key
    divided t z h e =
        let b = top in
        let d = key_degree t z h in
        let fewer : length t.1.0 * b.0 ≤ n * b.0 = times_le (length t.1.0) n b.0 h in
        let large = some_large t.1.0 b.0 (omega arith) in
        let p = b.1 large.0 (let a = large.1 in omega arith) in
        let q : IsPowerOf large.0 p.0.exponents = p.0.power in
        let low : (j : ℕ) → exponent (mono p.0.exponents).0 j ≤ exponent t.1.0 j = λ j. at large.0 p.0.exponents t.1.0 b.0 q p.1 large.2 j (ℕ_discrete j large.0) in
        let m = exponents_divide (mono p.0.exponents) t.1 low in
        (p.0.member, (0, mono p.0.exponents), p.0.inside, p.0.lead, (m.0, ap₂ (λ (i : ℕ) (a : Mon). (i, a)) (sym z) (monomials.comm m.0 (mono p.0.exponents) ∙ m.1)))
      where
        times_le : (a b c : ℕ) → a ≤ b → a * c ≤ b * c
        times_le a b c l = grind arith

        at : (i : ℕ) (a b : List ℕ) (e : ℕ) → IsPowerOf i a → exponent a i ≤ e → e ≤ exponent b i → (j : ℕ) → Dec (j ≡ i) → exponent (mono a).0 j ≤ exponent b j
        at i a b e q low large j (yes p) = let x = exponent_mono a j in let y = ap (exponent a) p in let v = ap (exponent b) p in omega arith
        at i a b e q low large j (no p) = let x = exponent_mono a j in let y = q j p in omega arith

    each : (i : ℕ) → (d : ℕ) × IsHomogeneous S d (listed S.field vs i)
    each = homogeneous_each S vs homogeneous

    listed_polynomial : (vs : List (Vect S.field)) → ((w : Vect S.field) → In w vs → IsPolynomial S.field w) → (i : ℕ) → IsPolynomial S.field (listed S.field vs i)
    listed_polynomial [] h i = supp_zero k (λ t. t.0 ≡ 0)
    listed_polynomial (v ∷ vs) h zero = h v (inl refl)
    listed_polynomial (v ∷ vs) h (suc i) = listed_polynomial vs (λ w j. h w (inr j)) i

    module _ (i : ℕ) (within : i < length S.weights) where
      abbrev x : Vect S.field
      x = single_vector S.field (power_key i great)

      power_within : length (mono (after_zeros i (great ∷ []))).0 ≤ length S.weights
      power_within = length_mon n (mono (after_zeros i (great ∷ []))) (λ j h. exponent_mono (after_zeros i (great ∷ [])) j ∙ exponent_past (after_zeros i (great ∷ [])) j (let l = length_power i great in omega arith))

      power_total : degree S (power_key i great) ≡ great
      unfolding degree
      power_total =
          let w : weight S.weights 0 (mono (after_zeros i (great ∷ []))).0 ≡ great = weight_ext S.weights 0 _ (after_zeros i (great ∷ [])) (exponent_mono (after_zeros i (great ∷ [])))
          ∙ ap (λ ws. weight ws 0 (after_zeros i (great ∷ []))) ones ∙ weight_total n 0 (after_zeros i (great ∷ [])) (let l = length_power i great in omega arith) ∙ total_power i great in
          omega (arith, shift)

      x_homogeneous : IsHomogeneous S great x
      x_homogeneous = supp_single k (λ t. degree S t ≡ great) (power_key i great) power_total

      inside_basis : (r : Vect S.field) → IsRemainder S (listed S.field vs) x r → KeepsDegrees S x r → InModule S.field (listed S.field vs) x
      unfolding zero_vector coef_at
      inside_basis r remainder keeps = divided_inside S (listed k vs) x r remainder (go (has_lead (scalars k) (is_field k) key_same o r))
        where
          polynomial : IsPolynomial k r
          polynomial =
              let w = remainder_difference S (listed k vs) x r remainder in
              subst (IsPolynomial k) (sym (minus_unique k r x w.0 w.2)) (supp_minus k (λ t. t.0 ≡ 0) x w.0 (supp_single k (λ t. t.0 ≡ 0) (power_key i great) refl)
              (module_positions k (listed k vs) (λ q. q ≡ 0) (λ q. ℕ_discrete q 0) (listed_polynomial vs polynomials) w.0 w.1))

          none : (t : Key) → LeadBy k o r t → ⊥
          none t l =
              let low = remainder_low S (listed k vs) x r (power_key i great) remainder (single_lead S (power_key i great)) t l.there in
              let short = at_most_within n S.order (power_key i great) t power_within low in
              let d = divided t (polynomial t l.there) short (keeps.homogeneous great x_homogeneous t l.there) in
              let m = place_of_member k d.0 vs d.2 in
              remainder.irreducible m.0 d.1 t (subst (λ v. LeadBy k o v d.1) (sym m.1) d.3) l.there d.4

          go : HasLead (scalars k) (is_field k) key_same o r → InModule k (listed k vs) r
          go (inl z) = subst (InModule k (listed k vs)) (sym z) (module_zero k (listed k vs))
          go (inr l) = absurd (none l.0 l.1)

      some_power : (e : ℕ) × InIdeal S.field θ (variable_power S.field i e)
      some_power =
          let r = remainder_exists S positive vs each x great x_homogeneous in
          (great, subst (InIdeal k θ) (sym (power_single k i great)) ((same_ideal S θ vs reduced x).0 (inside_basis r.0 r.1 r.2)))

    -- each variable has a power in the ideal
    pub all_powers : Ended S.field (length S.weights) θ
    all_powers i h = some_power i h
