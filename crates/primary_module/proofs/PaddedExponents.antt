-- The exponents of a monomial, with the exponent 0 for each variable after them.
use Rattle.std.proofs.Common.{◌≡◌, ◌∙◌, ◌+◌, ◌<◌, ◌≤◌, ℕ, zero, suc, List, [], ◌∷◌, length, get_or, replicate, slice_set, refl, sym, ap, subst, arith}
use native.Mathlib.Decide.{ℕ_discrete, dec_le}
use Rattle.alg_core.specs.Monomials.{exponent, mono, mono_ext}
use Rattle.alg_core.specs.Spaces.{SpaceOver}
use Rattle.alg_core.specs.Vectors.{scale}
use Rattle.alg_core.specs.declared.term.Term.{Term}
use Rattle.alg_core.proofs.MonomialLists.{exponent_zeros, exponent_past}
use Rattle.poly_module.specs.Polynomials.{single_vector}
use Rattle.poly_module.specs.SpaceVectors.{IsPolyOf}
use Rattle.poly_module.proofs.PowerSteps.{scale_one}
use Rattle.finite_certificate.proofs.MarkTests.{exponent_at}

set_here : (a : List ℕ) (i x : ℕ) → i < length a → exponent (slice_set a i x) i ≡ x
set_here [] i x h = absurd (omega arith)
set_here (y ∷ a) zero x h = refl
set_here (y ∷ a) (suc i) x h = set_here a i x (omega arith)

set_other : (a : List ℕ) (i x j : ℕ) → ¬ (j ≡ i) → exponent (slice_set a i x) j ≡ exponent a j
set_other [] i x j n = refl
set_other (y ∷ a) zero x zero n = absurd (n refl)
set_other (y ∷ a) zero x (suc j) n = refl
set_other (y ∷ a) (suc i) x zero n = refl
set_other (y ∷ a) (suc i) x (suc j) n = set_other a i x j (λ e. n (ap suc e))

length_set : (a : List ℕ) (i x : ℕ) → length (slice_set a i x) ≡ length a
length_set [] i x = refl
length_set (y ∷ a) zero x = refl
length_set (y ∷ a) (suc i) x = ap suc (length_set a i x)

-- the first i exponents of a, of w in all
pub record Padded (w : ℕ) (a : List ℕ) (i : ℕ) (exps : List ℕ) : Type 0 where
  pub count : length exps ≡ w
  pub done : (j : ℕ) → j < i → exponent exps j ≡ exponent a j
  pub rest : (j : ℕ) → i ≤ j → exponent exps j ≡ 0

pub padded_start : (w : ℕ) (a exps : List ℕ) → exps ≡ replicate w 0 → Padded w a 0 exps
padded_start w a exps e = record {
  count = ap length e ∙ zeros w;
  done = λ j h. absurd (omega arith);
  rest = λ j h. ap (λ l. exponent l j) e ∙ exponent_zeros w j;
}
  where
    zeros : (w : ℕ) → length {A = ℕ} (replicate w 0) ≡ w
    zeros zero = refl
    zeros (suc w) = ap suc (zeros w)

pub padded_step : (w : ℕ) (a : List ℕ) (i x : ℕ) (exps : List ℕ) → i < length a → length a ≤ w → x ≡ get_or a i 0 → Padded w a i exps → Padded w a (i + 1) (slice_set exps i x)
padded_step w a i x exps below wide is h = record {
  count = length_set exps i x ∙ h.count;
  done = λ j low. done j low (ℕ_discrete j i);
  rest = λ j high. let apart : ¬ (j ≡ i) = λ e. absurd (omega arith) in set_other exps i x j apart ∙ h.rest j (omega arith);
}
  where
    done : (j : ℕ) → j < i + 1 → Dec (j ≡ i) → exponent (slice_set exps i x) j ≡ exponent a j
    done j low (yes e) = let c = h.count in ap (exponent (slice_set exps i x)) e ∙ set_here exps i x (omega arith) ∙ is ∙ exponent_at a i ∙ ap (exponent a) (sym e)
    done j low (no n) = set_other exps i x j n ∙ h.done j (omega arith)

pub padded_mono : (w : ℕ) (a : List ℕ) (i : ℕ) (exps : List ℕ) → length a ≤ i → Padded w a i exps → mono exps ≡ mono a
padded_mono w a i exps past h = mono_ext exps a (λ j. same j (dec_le (suc j) i))
  where
    same : (j : ℕ) → Dec (suc j ≤ i) → exponent exps j ≡ exponent a j
    same j (yes p) = h.done j (omega arith)
    same j (no p) = h.rest j (omega arith) ∙ sym (exponent_past a j (omega arith))

-- 1 times the monomial that has them
pub padded_poly : {E : Type 0} (S : SpaceOver E) (w : ℕ) (a : List ℕ) (i : ℕ) (exps seen : List ℕ) (one : E) (p : List (Term E (List ℕ))) → one ≡ S.field.one → seen ≡ exps → length a ≤ i → Padded w a i exps
    → IsPolyOf S (λ m. m) (scale S.field one (single_vector S.field (0, mono seen))) p → IsPolyOf S (λ m. m) (single_vector S.field (0, mono a)) p
padded_poly S w a i exps seen one p unit same past h is = record {
  fits = is.fits;
  position = is.position;
  is = is.is ∙ scale_one S (λ (m : List ℕ). m) one unit (single_vector S.field (0, mono seen)) ∙ ap (λ m. single_vector S.field (0, m)) (ap mono same ∙ padded_mono w a i exps past h);
}
