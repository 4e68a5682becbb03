-- Powers of the variables over positive forms span the polynomials.
use Rattle.std.proofs.Common.{◌≡◌, ◌∙◌, ◌+◌, ◌<◌, ◌≤◌, ℕ, zero, suc, List, [], ◌∷◌, ◌++◌, length, map, replicate, refl, sym, ap, subst, arith}
use Rattle.std.proofs.lemmas.List.{length-map, get_or-map}
use Rattle.alg_core.specs.BlockOrder.{length_ones}
use Rattle.alg_core.specs.Fields.{FieldOn}
use Rattle.alg_core.specs.Monomials.{mono}
use Rattle.alg_core.specs.PolynomialSpaces.{plain_space}
use Rattle.alg_core.specs.SpaceOrder.{key_order}
use Rattle.alg_core.specs.Vectors.{Vect, zero_vector}
use Rattle.poly_module.specs.MonomialVariables.{after_zeros}
use Rattle.poly_module.specs.Parts.{Supp, supp_single, InVariables}
use Rattle.poly_module.specs.Degrees.{IsGraded, graded_part_all, graded_part_supp, grade_bound}
use Rattle.poly_module.specs.Forms.{key_weight, form_part, form_part_form, AreForms, part_substitute}
use Rattle.poly_module.specs.Variables.{variables, length_variables}
use Rattle.poly_module.specs.Combinations.{mark_value}
use Rattle.poly_module.proofs.MarkValues.{mark_value_polynomial, forms_append, variables_forms}
use Rattle.std.proofs.lemmas.List.{length-append}
use Rattle.finite_certificate.specs.MarkSpaces.{HasMark, ArePositiveForms}
use Rattle.finite_certificate.specs.Ideals.{variable_power}
use Rattle.finite_certificate.specs.Finiteness.{IsBelow, FiniteBy, Spanned}
use Rattle.finite_certificate.specs.Spreading.{exponents_of, spread_once}
use Rattle.finite_certificate.proofs.VariablePowers.{power_single}
use Rattle.finite_certificate.proofs.PowerForms.{forms_count, ones_degree}
use Rattle.finite_certificate.proofs.Rounds.{rounds, rounds_none, power_at, AreMarkedForms, Within, once_value, once_keys}

module _ {E : Type 0} (k : FieldOn E) (n : ℕ) (ds : List ℕ) (θ : List (Vect k)) (primaries : ArePositiveForms k n ds θ) where
  abbrev W : List ℕ
  W = replicate n 1 ++ ds

  count : length θ ≡ length ds
  count = forms_count k (replicate n 1) ds θ primaries.forms

  -- of each form the part of the degree of its power
  abbrev parts_of : List (ℕ × Vect k) → List (ℕ × Vect k)
  parts_of ps = map (λ p. (p.0, form_part k W p.0 p.1)) ps

  parts_exponents : (ps : List (ℕ × Vect k)) → exponents_of k (parts_of ps) ≡ exponents_of k ps
  parts_exponents [] = refl
  parts_exponents (p ∷ ps) = ap (λ l. p.0 ∷ l) (parts_exponents ps)

  images_forms : AreForms k (replicate n 1) W (variables k n ++ θ)
  images_forms = subst (λ (m : ℕ). AreForms k (replicate n 1) W (variables k m ++ θ)) (length_ones n)
      (forms_append k (replicate n 1) (replicate n 1) ds (variables k (length {A = ℕ} (replicate n 1))) θ (variables_forms k (replicate n 1)) primaries.forms)

  power_graded : (i e : ℕ) → i < n → IsGraded k (key_weight (replicate n 1)) e (variable_power k i e)
  power_graded i e h = subst (IsGraded k (key_weight (replicate n 1)) e) (sym (power_single k i e)) (supp_single k (λ t. key_weight (replicate n 1) t ≡ e) (0, mono (after_zeros i (e ∷ []))) (ones_degree k n ds θ primaries.forms i e h))

  module _ (ps : List (ℕ × Vect k)) (finite : FiniteBy k n θ ps) where
    abbrev qs : List (ℕ × Vect k)
    qs = parts_of ps

    abbrev es : List ℕ
    es = exponents_of k qs

    part_at : (i : ℕ) → i < n → power_at k n ds qs i ≡ ((power_at k n ds ps i).0, form_part k W (power_at k n ds ps i).0 (power_at k n ds ps i).1)
    part_at i h = get_or-map (λ (p : ℕ × Vect k). (p.0, form_part k W p.0 p.1)) ps i (0, zero_vector k) (0, zero_vector k) (omega (arith, finite.count))

    parts_count : length qs ≡ n
    parts_count = length-map ps (λ (p : ℕ × Vect k). (p.0, form_part k W p.0 p.1)) ∙ finite.count

    parts_marked : AreMarkedForms k n ds qs
    parts_marked i h =
        let p = power_at k n ds ps i in
        let power = finite.powers i h in
        let form = form_part_form k W p.0 p.1 power.mixed.polynomial in
        let vars = graded_part_supp k (key_weight W) p.0 (λ t. length t.1.0 ≤ n + length θ) p.1 power.mixed.variables in
        let marks = graded_part_supp k (key_weight W) p.0 (HasMark n) p.1 power.marks in
        subst (λ (q : ℕ × Vect k). Supp k (λ t. ((t.0 ≡ 0) × (key_weight W t ≡ q.0) × (length t.1.0 ≤ n + length ds)) × HasMark n t) q.1) (sym (part_at i h))
        (λ t c. (((form t c).0, (form t c).1, let v = vars t c in omega (arith, count)), marks t c))

    parts_values : (i : ℕ) → i < n → mark_value k n θ (power_at k n ds qs i).1 ≡ variable_power k i (power_at k n ds qs i).0
    parts_values i h =
        let p = power_at k n ds ps i in
        let power = finite.powers i h in
        let long : length (variables k n ++ θ) ≡ n + length θ = length-append (variables k n) θ ∙ ap (λ m. m + length θ) (length_variables k n) in
        subst (λ (q : ℕ × Vect k). mark_value k n θ q.1 ≡ variable_power k i q.0) (sym (part_at i h))
        (sym (part_substitute k (replicate n 1) W (variables k n ++ θ) images_forms p.0 p.1 (subst (λ (m : ℕ). InVariables k m p.1) (sym long) power.mixed.variables))
        ∙ ap (form_part k (replicate n 1) p.0) power.value ∙ graded_part_all k (key_weight (replicate n 1)) p.0 (variable_power k i p.0) (power_graded i p.0 h))

    -- some rounds
    spread_times : ℕ → Vect k → Vect k
    spread_times zero u = u
    spread_times (suc b) u = spread_times b (spread_once k qs u)

    times_value : (b : ℕ) (u : Vect k) → mark_value k n θ (spread_times b u) ≡ mark_value k n θ u
    unfolding spread_times
    times_value zero u = refl
    times_value (suc b) u = times_value b (spread_once k qs u) ∙ once_value k n ds qs θ parts_count parts_values u

    times_keys : (b : ℕ) (u : Vect k) → Supp k (Within k n ds qs (λ d. Unit {0}) b) u → Supp k (Within k n ds qs (λ d. Unit {0}) 0) (spread_times b u)
    unfolding spread_times
    times_keys zero u h = h
    times_keys (suc b) u h = times_keys b (spread_once k qs u) (once_keys k n ds qs parts_count primaries.positive parts_marked (λ d. Unit {0}) (λ d. yes tt) b u h)

    pub finite_spans : Spanned k n θ (exponents_of k ps)
    finite_spans f poly vars =
        let bound = grade_bound k (rounds n es) (key_order (plain_space k n)) f in
        let b = bound.0 in
        let few = bound.1 in
        let all = times_keys b f (λ t c. (poly t c, tt, (let v = vars t c in omega arith), let r = few t c in omega arith)) in (
          spread_times b f,
          record { polynomial = λ t c. (all t c).0; variables = λ t c. let v = (all t c).2 in omega (arith, count) },
          λ t c. subst (λ xs. IsBelow xs t) (parts_exponents ps) (rounds_none n es t (all t c).3),
          times_value b f ∙ mark_value_polynomial k n θ f poly vars,
        )
