-- Members of lists of forms and of relations, and monomials with one mark more.
use Rattle.std.proofs.Common.{◌≡◌, ◌∙◌, ◌+◌, ◌*◌, ◌<◌, ◌≤◌, ℕ, zero, suc, List, [], ◌∷◌, ◌++◌, length, get_or, replicate, refl, sym, ap, arith}
use Rattle.std.specs.Prelude.{All}
use native.Mathlib.Decide.{dec_le}
use Rattle.alg_core.specs.Rings.{Linear}
use Rattle.alg_core.specs.ModuleLaws as modules
use Rattle.alg_core.specs.Fields.{FieldOn, scalars}
use Rattle.alg_core.specs.Keys.{Key, times_key}
use Rattle.alg_core.specs.Monomials.{Mon, mon_ext, monomials, mono, exponent, exponent_mono, exponent_mul, exponent_one, Divides, divides_dec}
use Rattle.alg_core.specs.MonomialParts.{variable_part}
use Rattle.alg_core.specs.SpaceGrading.{weight, weight_ext}
use Rattle.alg_core.specs.Vectors.{Vect, vectors, coef_at, plus, zero_vector, shift}
use Rattle.alg_core.proofs.MonomialParts.{exponent_variable_part, variable_part_past}
use Rattle.alg_core.proofs.MonomialLists.{exponent_past, length_mon}
use Rattle.poly_module.specs.MonomialVariables.{variable, after_zeros}
use Rattle.poly_module.specs.Polynomials.{vector_ring}
use Rattle.poly_module.specs.Signs.{minus}
use Rattle.poly_module.specs.Substitutions.{image}
use Rattle.poly_module.specs.Forms.{IsForm, AreForms}
use Rattle.poly_module.specs.Modules.{listed}
use Rattle.poly_module.specs.Marks.{relation, relations_from}
use Rattle.poly_module.proofs.LeadLaws.{coef_shift, coef_shift_outside}
use Rattle.finite_certificate.proofs.MarkDegrees.{power_length}

module _ {E : Type 0} (k : FieldOn E) where
  pub forms_at : (ws ds : List ℕ) (fs : List (Vect k)) → AreForms k ws ds fs → (i : ℕ) → i < length fs → IsForm k ws (get_or ds i 0) (listed k fs i)
  forms_at ws [] [] h i l = absurd (omega arith)
  forms_at ws [] (f ∷ fs) h i l = absurd h
  forms_at ws (d ∷ ds) [] h i l = absurd h
  forms_at ws (d ∷ ds) (f ∷ fs) h zero l = h.0
  forms_at ws (d ∷ ds) (f ∷ fs) h (suc i) l = forms_at ws ds fs h.1 i (omega arith)

  pub listed_past : (fs : List (Vect k)) (i : ℕ) → length fs ≤ i → listed k fs i ≡ zero_vector k
  listed_past [] i h = refl
  listed_past (f ∷ fs) zero h = absurd (omega arith)
  listed_past (f ∷ fs) (suc i) h = listed_past fs i (omega arith)

  pub listed_all : (P : Vect k → Type 0) (fs : List (Vect k)) → All P fs → (i : ℕ) → i < length fs → P (listed k fs i)
  listed_all P [] h i l = absurd (omega arith)
  listed_all P (f ∷ fs) h zero l = h 0 f (omega arith)
  listed_all P (f ∷ fs) h (suc i) l = listed_all P fs (λ j d w. h (suc j) d (omega arith)) i (omega arith)

  pub image_member : (fs : List (Vect k)) (i : ℕ) → i < length fs → image (vector_ring k) fs i ≡ listed k fs i
  image_member [] i h = absurd (omega arith)
  image_member (f ∷ fs) zero h = refl
  image_member (f ∷ fs) (suc i) h = image_member fs i (omega arith)

  pub relation_at : (n j : ℕ) (fs : List (Vect k)) (i : ℕ) → i < length fs → listed k (relations_from k n j fs) i ≡ relation k n (listed k fs i) (j + i)
  relation_at n j [] i h = absurd (omega arith)
  relation_at n j (f ∷ fs) zero h = let e : j ≡ j + zero = omega arith in ap (relation k n f) e
  relation_at n j (f ∷ fs) (suc i) h = let e : suc j + i ≡ j + suc i = omega arith in relation_at n (suc j) fs i (omega arith) ∙ ap (relation k n (listed k fs i)) e

  pub relation_past : (n j : ℕ) (fs : List (Vect k)) (i : ℕ) → length fs ≤ i → listed k (relations_from k n j fs) i ≡ zero_vector k
  relation_past n j [] i h = refl
  relation_past n j (f ∷ fs) zero h = absurd (omega arith)
  relation_past n j (f ∷ fs) (suc i) h = relation_past n (suc j) fs i (omega arith)

  -- a linear function of a difference
  pub linear_less : (f : Vect k → Vect k) → Linear (vectors k) (vectors k) f → (u v : Vect k) → f (minus k u v) ≡ minus k (f u) (f v)
  unfolding minus plus
  linear_less f lf u v = lf.add u _ ∙ ap ((vectors k).◌+◌ (f u)) (modules.linear_minus (vectors k) (vectors k) f lf v)

  pub less_zero : (u : Vect k) → minus k u (zero_vector k) ≡ u
  unfolding minus plus zero_vector
  less_zero u = ap ((vectors k).◌+◌ u) (modules.minus_is (vectors k) (vectors k).zero ∙ modules.act_zero (vectors k) _) ∙ (vectors k).add_zero u

  pub less_itself : (u : Vect k) → minus k u u ≡ zero_vector k
  unfolding minus plus zero_vector
  less_itself = modules.add_minus (vectors k)

-- weights in the variables, and of a mark
pub weight_variables : (n : ℕ) (ds : List ℕ) (j : ℕ) (a : List ℕ) → length a ≤ n → weight (replicate n 1 ++ ds) j a ≡ weight (replicate n 1) j a
unfolding weight
weight_variables n ds j [] h = refl
weight_variables zero ds j (x ∷ a) h = absurd (omega arith)
weight_variables (suc n) ds j (x ∷ a) h = ap (λ e. 1 * x + e) (weight_variables n ds (suc j) a (omega arith))

mark_weight_from : (ds : List ℕ) (i j : ℕ) → i < length ds → weight ds j (after_zeros i (1 ∷ [])) ≡ get_or ds i 0
unfolding weight after_zeros
mark_weight_from [] i j h = absurd (omega arith)
mark_weight_from (d ∷ ds) zero j h = omega arith
mark_weight_from (d ∷ ds) (suc i) j h = let r = mark_weight_from ds i (suc j) (omega arith) in omega arith

mark_weight_at : (n : ℕ) (ds : List ℕ) (i j : ℕ) → i < length ds → weight (replicate n 1 ++ ds) j (after_zeros (n + i) (1 ∷ [])) ≡ get_or ds i 0
unfolding weight after_zeros
mark_weight_at zero ds i j h = let e : 0 + i ≡ i = omega arith in ap (λ (l : ℕ). weight ds j (after_zeros l (1 ∷ []))) e ∙ mark_weight_from ds i j h
mark_weight_at (suc n) ds i j h =
    let e : suc n + i ≡ suc (n + i) = omega arith in
    let r = mark_weight_at n ds i (suc j) h in
    ap (λ (l : ℕ). weight (replicate (suc n) 1 ++ ds) j (after_zeros l (1 ∷ []))) e ∙ omega arith

pub weight_of_mark : (n : ℕ) (ds : List ℕ) (i : ℕ) → i < length ds → weight (replicate n 1 ++ ds) 0 (variable (n + i)).0 ≡ get_or ds i 0
unfolding variable
weight_of_mark n ds i h = weight_ext (replicate n 1 ++ ds) 0 _ (after_zeros (n + i) (1 ∷ [])) (exponent_mono (after_zeros (n + i) (1 ∷ []))) ∙ mark_weight_at n ds i 0 h

after_here : (i e : ℕ) → exponent (after_zeros i (e ∷ [])) i ≡ e
unfolding after_zeros
after_here zero e = refl
after_here (suc i) e = after_here i e

-- times a mark
pub marked_product : (n i : ℕ) (m : Mon) → n < length (monomials.◌·◌ m (variable (n + i))).0
unfolding variable
marked_product n i m = at (dec_le (length whole.0) n)
  where
    whole : Mon
    whole = monomials.◌·◌ m (mono (after_zeros (n + i) (1 ∷ [])))

    at : Dec (length whole.0 ≤ n) → n < length whole.0
    at (no h) = omega arith
    at (yes h) =
        let z = exponent_past whole.0 (n + i) (omega arith) in
        let p = exponent_mul m (mono (after_zeros (n + i) (1 ∷ []))) (n + i) in
        let q = exponent_mono (after_zeros (n + i) (1 ∷ [])) (n + i) in
        let r = after_here (n + i) 1 in
        absurd (omega arith)

-- a factor has the variables of the product
pub factor_length : (n : ℕ) (a b : Mon) → length (monomials.◌·◌ a b).0 ≤ n → length a.0 ≤ n
factor_length n a b h = length_mon n a (λ i past. let z = exponent_past (monomials.◌·◌ a b).0 i (omega arith) in let p = exponent_mul a b i in omega arith)

pub variable_length : (m i : ℕ) → i < m → length (variable i).0 ≤ m
unfolding variable
variable_length m i h = power_length m i 1 h

after_before : (i e j : ℕ) → j < i → exponent (after_zeros i (e ∷ [])) j ≡ 0
unfolding after_zeros
after_before zero e j h = absurd (omega arith)
after_before (suc i) e zero h = refl
after_before (suc i) e (suc j) h = after_before i e j (omega arith)

-- a mark has no part in the variables
pub mark_variables : (n i : ℕ) → variable_part n (variable (n + i)) ≡ monomials.one
unfolding variable
mark_variables n i = mon_ext _ _ (λ j. at j (dec_le n j))
  where
    at : (j : ℕ) → Dec (n ≤ j) → exponent (variable_part n (mono (after_zeros (n + i) (1 ∷ [])))).0 j ≡ exponent monomials.one.0 j
    at j (yes past) = variable_part_past n (mono (after_zeros (n + i) (1 ∷ []))) j past ∙ sym (exponent_one j)
    at j (no low) = exponent_variable_part n (mono (after_zeros (n + i) (1 ∷ []))) j (omega arith) ∙ exponent_mono (after_zeros (n + i) (1 ∷ [])) j ∙ after_before (n + i) 1 j (omega arith) ∙ sym (exponent_one j)

-- the keys of a multiple by a monomial are multiples of keys
pub shift_keys : {E : Type 0} (k : FieldOn E) (m : Mon) (v : Vect k) (t : Key) → ¬ (coef_at k (shift k m v) t ≡ (scalars k).zero) → (s : Key) × (times_key m s ≡ t) × ¬ (coef_at k v s ≡ (scalars k).zero)
shift_keys k m v t c = at (divides_dec m t.1)
  where
    at : Dec (Divides m t.1) → (s : Key) × (times_key m s ≡ t) × ¬ (coef_at k v s ≡ (scalars k).zero)
    at (no n) = absurd (c (coef_shift_outside k m v t n))
    at (yes d) =
        let whole : times_key m (t.0, d.0) ≡ t = ap (λ (a : Mon). (t.0, a)) d.1 in
        ((t.0, d.0), whole, λ z. c (ap (coef_at k (shift k m v)) (sym whole) ∙ coef_shift k m v (t.0, d.0) ∙ z))
