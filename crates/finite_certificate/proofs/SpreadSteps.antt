-- The rounds of spreading: what each keeps, and that fewer are left.
use Rattle.std.proofs.Common.{◌≡◌, ◌∙◌, ◌-◌, ◌<◌, ◌≤◌, ℕ, zero, suc, max, List, [], ◌∷◌, ◌++◌, length, get_or, replicate, sym, ap, subst, arith}
use Rattle.std.specs.Prelude.{All}
use Rattle.std.proofs.lemmas.List.{length-map, get_or-map}
use native.Mathlib.Decide.{ℕ_discrete, dec_le}
use Rattle.alg_core.specs.Keys.{Key, key}
use Rattle.alg_core.specs.Vectors.{Entry, Vect, vec, zero_vector}
use Rattle.alg_core.specs.declared.term.Term.{Term}
use Rattle.alg_core.specs.Spaces.{SpaceOver, entries, Fits}
use Rattle.alg_core.specs.SpaceGrading.{height, degree}
use Rattle.poly_module.specs.Parts.{Supp, supp_weaken, IsPolynomial}
use Rattle.poly_module.specs.Degrees.{IsHomogeneous}
use Rattle.poly_module.specs.Forms.{key_weight, homogeneous_form, IsForm}
use Rattle.poly_module.specs.Combinations.{mark_value}
use Rattle.poly_module.specs.SpaceVectors.{IsPoly, IsVectorOf, IsUpTo, vector_of}
use Rattle.poly_module.proofs.EntryCoefficients.{term_at_index}
use Rattle.poly_module.proofs.ExponentBounds.{vec_supp, fits_keys}
use Rattle.poly_module.proofs.FittingKeys.{vec_in_variables}
use Rattle.poly_module.proofs.SpaceVectorLaws.{is_polynomial}
use Rattle.finite_certificate.specs.MarkSpaces.{IsMarkSpace, ArePositiveForms, degree_limit}
use Rattle.finite_certificate.specs.Finiteness.{IsBelow, IsLowTerm, HasForm, powers_of, FiniteBy}
use Rattle.finite_certificate.specs.Spreading.{exponents_of, spread_once}
use Rattle.finite_certificate.specs.declared.power.Power.{Power}
use Rattle.finite_certificate.proofs.LowImages.{marked_length}
use Rattle.finite_certificate.proofs.PowerForms.{forms_count, power_form_degree}
use Rattle.finite_certificate.proofs.ReachedSteps.{exponents}
use Rattle.finite_certificate.proofs.Rounds.{rounds, rounds_none, power_at, AreMarkedForms, Within, once_value, once_keys}
use Rattle.finite_certificate.proofs.RoundSteps.{same_exponents}

-- the most rounds that a key of some entries wants
pub most_rounds : {E : Type 0} → ℕ → List ℕ → List (Entry E) → ℕ
most_rounds n es [] = 0
most_rounds n es (e ∷ l) = max (rounds n es (key e.0)) (most_rounds n es l)

module _ {E : Type 0} (n : ℕ) (es : List ℕ) where
  most_all : (l : List (Entry E)) → All (λ e. rounds n es (key e.0) ≤ most_rounds n es l) l
  unfolding most_rounds
  most_all [] i d h = absurd (omega arith)
  most_all (e ∷ l) zero d h = omega arith
  most_all (e ∷ l) (suc i) d h = let r = most_all l i d (omega arith) in omega arith

  most_least : (b : ℕ) (l : List (Entry E)) → All (λ e. rounds n es (key e.0) ≤ b) l → most_rounds n es l ≤ b
  unfolding most_rounds
  most_least b [] h = omega arith
  most_least b (e ∷ l) h = let r = most_least b l (λ i d w. h (suc i) d (omega arith)) in let here = h 0 e (omega arith) in omega arith

  -- entries that are not all below want a round
  pub some_round : (l : List (Entry E)) → ¬ All (λ e. IsBelow es (key e.0)) l → 0 < most_rounds n es l
  some_round l not = at (dec_le (most_rounds n es l) 0)
    where
      at : Dec (most_rounds n es l ≤ 0) → 0 < most_rounds n es l
      at (no h) = omega arith
      at (yes h) = absurd (not (λ i d w. rounds_none n es (key (get_or l i d).0) (let r = most_all l i d w in omega arith)))

-- what the rounds keep of the polynomial f
pub record IsSpreadOf {E : Type 0} (S : SpaceOver E) (n : ℕ) (θ : List (Vect S.field)) (f form : List (Term E (List ℕ))) : Type 0 where
  pub poly : IsPoly S (λ m. m) form
  pub same : mark_value S.field n θ (vector_of S (λ m. m) form) ≡ mark_value S.field n θ (vector_of S (λ m. m) f)
  pub degrees : (d : ℕ) → IsUpTo S d (vector_of S (λ m. m) f) → IsUpTo S d (vector_of S (λ m. m) form)
  pub homogeneous : (d : ℕ) → IsHomogeneous S d (vector_of S (λ m. m) f) → IsHomogeneous S d (vector_of S (λ m. m) form)

module _ {E : Type 0} (S : SpaceOver E) (n : ℕ) (ds : List ℕ) (space : IsMarkSpace S n ds)
    (θ : List (Vect S.field)) (primaries : ArePositiveForms S.field n ds θ) (ps : List (Power E)) (forms : All (HasForm S) ps) (finite : FiniteBy S.field n θ (powers_of S ps)) where
  abbrev Terms : Type 0
  Terms = List (Term E (List ℕ))

  abbrev vector : Terms → Vect S.field
  vector p = vector_of S (λ m. m) p

  abbrev es : List ℕ
  es = exponents_of S.field (powers_of S ps)

  abbrev value : Vect S.field → Vect S.field
  value = mark_value S.field n θ

  count : length θ ≡ length ds
  count = forms_count S.field (replicate n 1) ds θ primaries.forms

  powers_count : length ps ≡ n
  powers_count = sym (length-map ps (λ (p : Power E). (p.exponent, vector p.form))) ∙ finite.count

  -- the degree of a key of a polynomial
  key_degree : (t : Key) → t.0 ≡ 0 → degree S t ≡ key_weight (replicate n 1 ++ ds) t
  unfolding degree
  key_degree t z =
      let w : key_weight S.weights t ≡ key_weight (replicate n 1 ++ ds) t = ap (λ ws. key_weight ws t) space.weights in
      let h : height S.shifts t.0 ≡ 0 = ap (height S.shifts) z ∙ space.shift in
      omega arith

  marked : AreMarkedForms S.field n ds (powers_of S ps)
  marked i below =
      let none : Power E = record { exponent = 0; form = [] } in
      let within : i < length ps = omega (arith, powers_count) in
      let p = power_at S.field n ds (powers_of S ps) i in
      let power = finite.powers i below in
      let read : p ≡ ((get_or ps i none).exponent, vector (get_or ps i none).form) = get_or-map (λ (q : Power E). (q.exponent, vector q.form)) ps i none (0, zero_vector S.field) within in
      let form = forms i none within in
      let d = form.0 in
      let here : IsHomogeneous S d p.1 = subst (IsHomogeneous S d) (sym (ap (λ (q : ℕ × Vect S.field). q.1) read)) form.1 in
      let whole : IsForm S.field (replicate n 1 ++ ds) d p.1 = subst (λ ws. IsForm S.field ws d p.1) space.weights (homogeneous_form S space.shift d p.1 power.mixed.polynomial here) in
      let same : d ≡ p.0 = power_form_degree S.field n ds θ primaries.forms i p.0 d p.1 below whole power.mixed.variables power.value in
      λ t c. (((whole t c).0, (whole t c).1 ∙ same, let v = power.mixed.variables t c in omega (arith, count)), power.marks t c)

  keys_within : (D : ℕ → Type 0) (b : ℕ) (form : Terms) → IsPoly S (λ m. m) form → Supp S.field (λ t. D (degree S t)) (vector form) → Supp S.field (λ t. rounds n es t ≤ b) (vector form)
      → Supp S.field (Within S.field n ds (powers_of S ps) D b) (vector form)
  keys_within D b form poly degrees few t c =
      let z = is_polynomial S (λ m. m) form poly t c in
      let v = vec_in_variables S (entries (λ m. m) form) poly.fits t c in
      let wide = marked_length S n ds space in
      (z, subst D (key_degree t z) (degrees t c), omega arith, few t c)

  after_round : (D : ℕ → Type 0) → ((d : ℕ) → Dec (D d)) → (b : ℕ) (form next : Terms) → IsPoly S (λ m. m) form → Supp S.field (λ t. D (degree S t)) (vector form) → Supp S.field (λ t. rounds n es t ≤ suc b) (vector form)
      → IsVectorOf S (λ m. m) (spread_once S.field (powers_of S ps) (vector form)) next → Supp S.field (Within S.field n ds (powers_of S ps) D b) (vector next)
  after_round D test b form next poly degrees few is =
      subst (Supp S.field (Within S.field n ds (powers_of S ps) D b)) (sym is.is)
      (once_keys S.field n ds (powers_of S ps) finite.count primaries.positive marked D test b (vector form) (keys_within D (suc b) form poly degrees few))

  few_rounds : (form : Terms) → Supp S.field (λ t. rounds n es t ≤ most_rounds n es (entries (λ m. m) form)) (vector form)
  few_rounds form = vec_supp S.field (λ t. rounds n es t ≤ most_rounds n es (entries (λ m. m) form)) (entries (λ m. m) form) (most_all n es (entries (λ m. m) form))

  degrees_after : (D : ℕ → Type 0) → ((d : ℕ) → Dec (D d)) → (form next : Terms) → IsPoly S (λ m. m) form → IsVectorOf S (λ m. m) (spread_once S.field (powers_of S ps) (vector form)) next
      → Supp S.field (λ t. D (degree S t)) (vector form) → Supp S.field (λ t. (t.0 ≡ 0) × D (degree S t)) (vector next)
  degrees_after D test form next poly is degrees t c =
      let b = most_rounds n es (entries (λ m. m) form) in
      let few = supp_weaken S.field (λ t. rounds n es t ≤ b) (λ t. rounds n es t ≤ suc b) (λ t h. omega arith) (vector form) (few_rounds form) in
      let k = after_round D test b form next poly degrees few is t c in
      (k.0, subst D (sym (key_degree t k.0)) k.1)

  pub no_rounds : (f form : Terms) → entries (λ m. m) form ≡ entries (λ m. m) f → IsPoly S (λ m. m) f → IsSpreadOf S n θ f form
  no_rounds f form e poly =
      let same : vector form ≡ vector f = ap (vec S.field) e in
      record {
        poly = record { fits = subst (Fits S) (sym e) poly.fits; position = subst (All (λ x. x.0.0 ≡ 0)) (sym e) poly.position };
        same = ap value same;
        degrees = λ d. subst (IsUpTo S d) (sym same);
        homogeneous = λ d. subst (IsHomogeneous S d) (sym same);
      }

  pub one_round_more : (f form next : Terms) → IsSpreadOf S n θ f form → IsVectorOf S (λ m. m) (spread_once S.field (powers_of S ps) (vector form)) next → IsSpreadOf S n θ f next
  one_round_more f form next h is = record {
    poly = record { fits = is.fits; position = is.position (subst (IsPolynomial S.field) is.is position) };
    same = ap value is.is ∙ once_value S.field n ds (powers_of S ps) θ finite.count (λ i below. (finite.powers i below).value) (vector form) ∙ h.same;
    degrees = λ d up t c. (degrees_after (λ e. e ≤ d) (λ e. dec_le e d) form next h.poly is (h.degrees d up) t c).1;
    homogeneous = λ d all t c. (degrees_after (λ e. e ≡ d) (λ e. ℕ_discrete e d) form next h.poly is (h.homogeneous d all) t c).1;
  }
    where
      position : IsPolynomial S.field (vector next)
      position t c = (degrees_after (λ e. Unit {0}) (λ e. yes tt) form next h.poly is (λ t c. tt) t c).0

  pub fewer_rounds : (form next : Terms) → IsPoly S (λ m. m) form → IsVectorOf S (λ m. m) (spread_once S.field (powers_of S ps) (vector form)) next
      → ¬ All (λ e. IsBelow (exponents ps) (key e.0)) (entries (λ m. m) form) → most_rounds n es (entries (λ m. m) next) < most_rounds n es (entries (λ m. m) form)
  fewer_rounds form next poly is not =
      let l = entries (λ m. m) form in
      let some : 0 < most_rounds n es l = some_round n es l (λ h. not (subst (λ xs. All (λ e. IsBelow xs (key e.0)) l) (same_exponents S ps) h)) in
      let b = most_rounds n es l - 1 in
      let up : suc b ≡ most_rounds n es l = omega arith in
      let few = supp_weaken S.field (λ t. rounds n es t ≤ most_rounds n es l) (λ t. rounds n es t ≤ suc b) (λ t h. omega arith) (vector form) (few_rounds form) in
      let after : Supp S.field (λ t. rounds n es t ≤ b) (vector next) = λ t c. (after_round (λ d. Unit {0}) (λ d. yes tt) b form next poly (λ t c. tt) few is t c).3 in
      let least = most_least n es b (entries (λ m. m) next) (fits_keys S (λ t. rounds n es t ≤ b) (entries (λ m. m) next) is.fits after) in
      omega arith

  pub all_spread : (form : Terms) → All (λ e. IsBelow (exponents ps) (key e.0)) (entries (λ m. m) form) → Supp S.field (IsBelow (exponents ps)) (vector form)
  all_spread form = vec_supp S.field (IsBelow (exponents ps)) (entries (λ m. m) form)

  -- the conditions of the calls
  pub wide_terms : (form : Terms) → IsPoly S (λ m. m) form → All (λ e. length ps ≤ length e.0.1) (entries (λ m. m) form)
  wide_terms form poly i d below =
      let wide = (term_at_index S (entries (λ m. m) form) i d below poly.fits).place.wide in
      let long = marked_length S n ds space in
      omega (arith, powers_count)

  pub low_terms : (f form : Terms) → IsSpreadOf S n θ f form → IsUpTo S degree_limit (vector f) → All (IsLowTerm S) (entries (λ m. m) form)
  low_terms f form h up i d below = record {
    is_term = term_at_index S (entries (λ m. m) form) i d below h.poly.fits;
    low = fits_keys S (λ t. degree S t ≤ degree_limit) (entries (λ m. m) form) h.poly.fits (h.degrees degree_limit up) i d below;
  }

  pub few_powers : length ps ≤ length S.weights
  few_powers = let long = marked_length S n ds space in omega (arith, powers_count)
