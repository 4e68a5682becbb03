-- A form that is a polynomial in generators, the last of which have at least its degree, is a polynomial in the first ones and a sum
-- of multiples of the last ones.
use Rattle.std.proofs.Common.{◌≡◌, ◌⊎◌, inl, inr, ℕ, suc, ◌+◌, ◌-◌, ◌<◌, ◌≤◌, List, [], ◌∷◌, ◌++◌, length, map, sym, ap, ap₂, ◌∙◌, refl, subst, arith, eq-eqb}
use Rattle.std.proofs.lemmas.Bool.{cases_lt}
use Rattle.std.proofs.lemmas.List.{length-append}
use Rattle.alg_core.specs.DpOrder.{dp_order}
use Rattle.alg_core.specs.Fields.{FieldOn, Scalar}
use Rattle.alg_core.specs.Keys.{Key}
use Rattle.alg_core.specs.KeyLists.{keys_of_degree}
use Rattle.alg_core.specs.KeyOrders.{OrderOn}
use Rattle.alg_core.specs.Lists.{In}
use Rattle.alg_core.specs.Monomials.{Mon, monomials, exponent, exponent_one}
use Rattle.alg_core.specs.MonomialParts.{mark_part}
use Rattle.alg_core.specs.SpaceGrading.{AllPositive, weight, height, weight_mul, degree}
use Rattle.alg_core.specs.Spaces.{SpaceOver}
use Rattle.alg_core.specs.Vectors.{Vect, vectors, plus, zero_vector}
use Rattle.alg_core.proofs.KeyLists.{keys_of_degree_exact}
use Rattle.alg_core.proofs.Members.{from_map}
use Rattle.alg_core.proofs.MonomialLists.{length_mon}
use Rattle.alg_core.proofs.MonomialParts.{exponent_mark_part, length_mark_part}
use Rattle.alg_core.proofs.SpanLaws.{span_ind, span_zero, span_add, span_act, span_member}
use Rattle.alg_core.proofs.VectorLaws.{plus_swap, plus_zero, zero_plus}
use Rattle.poly_module.specs.Combinations.{Over, term_value, combination_degree}
use Rattle.poly_module.specs.Echelons.{Spans}
use Rattle.poly_module.specs.Forms.{IsForm, AreForms, form_one}
use Rattle.poly_module.specs.Modules.{listed}
use Rattle.poly_module.specs.MonomialVariables.{variable}
use Rattle.poly_module.specs.Parts.{supp_single}
use Rattle.poly_module.specs.Polynomials.{vector_ring, single_vector}
use Rattle.poly_module.specs.Substitutions.{monomial_value, monomial_value_variable}
use Rattle.poly_module.proofs.CombinationLaws.{combination_value_single, over_zero, over_plus, over_act}
use Rattle.poly_module.proofs.OverSpans.{over_span}
use Rattle.secondary_gens.proofs.Irredundant.{Parted}
use Rattle.secondary_gens.proofs.Lists.{listed_in, forms_length, weight_zero_is_one, some_variable, divides_variable}
use Rattle.secondary_gens.proofs.ProductSteps.{weight_variable}
use Rattle.secondary_gens.proofs.ColumnSteps.{height_at}
use Rattle.irreducible_gens.proofs.Generators.{unit, unit_term, image_listed, listed_back, value_front}

-- the degrees of positions of two lists
pub height_back : (es eu : List ℕ) (j : ℕ) → height (es ++ eu) (length es + j) ≡ height eu j
unfolding height
height_back [] eu j = let q : 0 + j ≡ j = omega arith in ap (height eu) q
height_back (e ∷ es) eu j = let q : suc (length es) + j ≡ suc (length es + j) = omega arith in ap (height (e ∷ (es ++ eu))) q ∙ height_back es eu j

pub positive_front : (es eu : List ℕ) → AllPositive (es ++ eu) → AllPositive es
positive_front [] eu h = tt
positive_front (e ∷ es) eu h = (h.0, positive_front es eu h.1)

pub positive_back : (es eu : List ℕ) → AllPositive (es ++ eu) → AllPositive eu
positive_back [] eu h = h
positive_back (e ∷ es) eu h = positive_back es eu h.1

module _ {E : Type 0} (k : FieldOn E) (G U : List (Vect k)) where
  abbrev pub Halves : Vect k → Type 0
  Halves = Parted k G (unit k) U

  halves_over : (v : Vect k) → Over k G (unit k) v → Halves v
  unfolding zero_vector
  halves_over v a = record { over = v; rest = zero_vector k; is_over = a; spans = span_zero (vectors k) U; sum = plus_zero k v }

  halves_span : (v : Vect k) → Spans k U v → Halves v
  halves_span v a = record { over = zero_vector k; rest = v; is_over = over_zero k G (unit k); spans = a; sum = zero_plus k v }

  halves_plus : (u v : Vect k) → Halves u → Halves v → Halves (plus k u v)
  unfolding plus
  halves_plus u v a b = record {
    over = plus k a.over b.over;
    rest = plus k a.rest b.rest;
    is_over = over_plus k G (unit k) a.over b.over a.is_over b.is_over;
    spans = span_add (vectors k) U a.rest b.rest a.spans b.spans;
    sum = plus_swap k a.over b.over a.rest b.rest ∙ ap₂ (plus k) a.sum b.sum;
  }

  halves_act : (c : Scalar k) (u : Vect k) → Halves u → Halves ((vectors k).◌·◌ c u)
  unfolding plus
  halves_act c u a = record {
    over = (vectors k).◌·◌ c a.over;
    rest = (vectors k).◌·◌ c a.rest;
    is_over = over_act k G (unit k) c a.over a.is_over;
    spans = span_act (vectors k) U c a.rest a.spans;
    sum = sym ((vectors k).act_add c a.over a.rest) ∙ ap ((vectors k).◌·◌ c) a.sum;
  }

  module _ (o : OrderOn Key) (ws es eu : List ℕ) (h : AreForms k ws (es ++ eu) (G ++ U)) (same : length es ≡ length G) (positive : AllPositive (es ++ eu)) (d : ℕ) (high : (j : ℕ) → j < length U → d ≤ height eu j) where
    abbrev ds : List ℕ
    ds = es ++ eu

    abbrev space : SpaceOver E
    space = record { field = k; order = dp_order ds; weights = ds; shifts = 0 ∷ [] }

    abbrev L : List Key
    L = keys_of_degree space d

    lengths : length ds ≡ length (G ++ U)
    lengths = forms_length k ws ds (G ++ U) h

    lengths_back : length eu ≡ length U
    lengths_back = let a = lengths in let b = length-append es eu in let c = length-append G U in let e = same in omega arith

    has : (t : Key) → length t.1.0 ≤ length (G ++ U) → t.0 < length (unit k) → combination_degree ds (0 ∷ []) t ≡ d → In t L
    unfolding degree
    has t l q w = (keys_of_degree_exact space positive d t).1 (record { fits = eq-eqb (length ds) (length ds) refl; variables = let n = lengths in omega arith; position = q }, w)

    inside : (t : Key) → In t L → (length t.1.0 ≤ length (G ++ U)) × (t.0 < length (unit k)) × (combination_degree ds (0 ∷ []) t ≡ d)
    unfolding degree
    inside t i = let r = (keys_of_degree_exact space positive d t).0 i in let v = r.0.variables in let n = lengths in (omega arith, r.0.position, r.1)

    -- the value of a monomial in the first generators
    front_term : (t : Key) → t.0 ≡ 0 → length t.1.0 ≤ length G → Halves (term_value k (G ++ U) (unit k) t)
    front_term t z l = halves_over _ (
      single_vector k t,
      supp_single k (λ s. (length s.1.0 ≤ length G) × (s.0 < 1)) t (l, omega arith),
      combination_value_single k G (unit k) t ∙ unit_term k G t z ∙ sym (value_front k G U t.1.0 l) ∙ sym (unit_term k (G ++ U) t z),
    )

    -- of one with a variable of the last ones, which is that variable
    back_term : (t : Key) (j : ℕ) → t.0 ≡ 0 → weight ds 0 t.1.0 ≡ d → j < length U → 0 < exponent t.1.0 (length G + j) → Halves (term_value k (G ++ U) (unit k) t)
    back_term t j z w l e = halves_span _ (subst (Spans k U) (sym value) (span_member (vectors k) U _ (listed_in k U j l)))
      where
        place : ℕ
        place = length G + j

        short : place < length ds
        short = let n = lengths in let m = length-append G U in omega arith

        split : (r : Mon) × (monomials.◌·◌ (variable place) r ≡ t.1)
        split = divides_variable t.1 place e

        own : d ≤ weight ds 0 (variable place).0
        own = let a = weight_variable ds place short in let b = height_at ds place short in let q : place ≡ length es + j = omega (arith, same) in let c = ap (height ds) q in let f = height_back es eu j in let g = high j l in omega arith

        rest : weight ds 0 split.0.0 ≡ 0
        rest = let a = weight_mul ds (variable place) split.0 in let b = ap (λ (m : Mon). weight ds 0 m.0) split.1 in let c = own in omega arith

        is : t.1 ≡ variable place
        is = sym split.1 ∙ ap (monomials.◌·◌ (variable place)) (weight_zero_is_one ds split.0 positive rest) ∙ monomials.mul_one (variable place)

        value : term_value k (G ++ U) (unit k) t ≡ listed k U j
        value = unit_term k (G ++ U) t z ∙ ap (λ (m : Mon). monomial_value (vector_ring k) (G ++ U) m.0) is ∙ monomial_value_variable (vector_ring k) (G ++ U) place
            ∙ image_listed k (G ++ U) place (let m = length-append G U in omega arith) ∙ listed_back k G U j

    halves_term : (t : Key) → In t L → (weight eu 0 (mark_part (length G) t.1).0 < 1) ⊎ (1 ≤ weight eu 0 (mark_part (length G) t.1).0) → Halves (term_value k (G ++ U) (unit k) t)
    unfolding height
    halves_term t i (inl none) = front_term t (let q = (inside t i).1 in omega arith) (length_mon (length G) t.1 empty)
      where
        is : mark_part (length G) t.1 ≡ monomials.one
        is = weight_zero_is_one eu (mark_part (length G) t.1) (positive_back es eu positive) (omega arith)

        empty : (j : ℕ) → length G ≤ j → exponent t.1.0 j ≡ 0
        empty j l =
            let q : j ≡ length G + (j - length G) = omega arith in
            ap (exponent t.1.0) q ∙ sym (exponent_mark_part (length G) t.1 (j - length G)) ∙ ap (λ (m : Mon). exponent m.0 (j - length G)) is ∙ exponent_one (j - length G)
    halves_term t i (inr some) =
        let v = some_variable eu 0 (mark_part (length G) t.1).0 (omega arith) in
        let z : t.0 ≡ 0 = (let q = (inside t i).1 in omega arith) in
        let at : height (0 ∷ []) t.0 ≡ 0 = ap (height (0 ∷ [])) z in
        let w = (inside t i).2 in
        let bound = length_mark_part (length G) (length U) t.1 (let a = (inside t i).0 in let b = length-append G U in omega arith) in
        back_term t v.0 z (omega arith) (let a = v.1 in omega arith) (let a = v.2 in let b = exponent_mark_part (length G) t.1 v.0 in omega arith)

    pub halves : (s : Vect k) → IsForm k ws d s → Over k (G ++ U) (unit k) s → Halves s
    unfolding plus zero_vector
    halves s form a = span_ind (vectors k) Halves (halves_over _ (over_zero k G (unit k))) (λ u v x y. halves_plus u v x y) halves_act (map (term_value k (G ++ U) (unit k)) L)
        (λ v i. let f = from_map (term_value k (G ++ U) (unit k)) v L i in subst Halves f.2 (halves_term f.0 f.1 (cases_lt (weight eu 0 (mark_part (length G) f.0.1).0) 1))) s
        (over_span k o (G ++ U) (unit k) ws ds (0 ∷ []) h unit_form d L has (λ t i. let r = inside t i in (r.0, r.1)) s form a)
      where
        unit_form : AreForms k ws (0 ∷ []) (unit k)
        unit_form = (form_one k ws, tt)
