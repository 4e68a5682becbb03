-- Texts of monomials: what the tree of a text tells.
use Rattle.std.proofs.Common.{◌≡◌, ◌≢◌, ◌∙◌, ℕ, Bool, true, false, List, [], ◌∷◌, Result, Ok, Err, length, get_or, refl, sym, ap, ap₂, subst, arith}
use Rattle.std.specs.Prelude.{◌↔◌, ◌==◌, IfOk}
use Rattle.std.proofs.lemmas.Bool.{eq-eqb}
use Rattle.std.proofs.lemmas.Bool.Decides.{nat_tests}
use Rattle.poly_text.specs.declared.fault.TextFault.{TextFault}
use Rattle.poly_text.specs.declared.fault.TextFault.TheVariants as faults
use Rattle.poly_text.specs.declared.syntax.TermText.{TermText}
use Rattle.poly_text.specs.Faults.{IsSyntaxFault}
use Rattle.poly_text.specs.Syntax.{Term, Factor, IsText, monomial_term, HasMonomialText}
use Rattle.poly_text.specs.Trees.{term_of, terms_of, factors_of}
use Rattle.poly_text.proofs.Scans.{text_unique}

first_coefficient : List Term → ℕ
first_coefficient [] = 0
first_coefficient (t ∷ ts) = t.coefficient

-- one term without a sign
pub one_monomial : (xs : List TermText) (x : TermText) → length xs ≡ 1 → x ≡ get_or xs 0 x → x.is_negative ≡ false → ((x.coefficient == 1) ≡ true) ↔ ((fs : List Factor) × (terms_of xs ≡ monomial_term fs ∷ []))
unfolding first_coefficient
one_monomial [] x one is sign = absurd (omega arith)
one_monomial (y ∷ z ∷ xs) x one is sign = absurd (omega arith)
one_monomial (y ∷ []) x one is sign = (
  λ (e : (x.coefficient == 1) ≡ true).
      let coefficient : x.coefficient ≡ 1 = grind (arith, nat_tests) in
      (factors_of x.factors.items, ap (λ t. term_of t ∷ []) (sym is) ∙ ap₂ (λ b n. record { is_negative = b; coefficient = n; factors = factors_of x.factors.items } ∷ []) sign coefficient),
  λ h. eq-eqb x.coefficient 1 (ap (λ t. t.coefficient) is ∙ ap first_coefficient h.1),
)

-- the text has the tree
pub monomial_texts : (ts : List Term) (bytes : List ℕ) (b : Bool) → IsText ts bytes → (b ≡ true) ↔ ((fs : List Factor) × (ts ≡ monomial_term fs ∷ [])) → (b ≡ true) ↔ HasMonomialText bytes
monomial_texts ts bytes b is told = (
  λ yes. let found = told.0 yes in (found.0, subst (λ us. IsText us bytes) found.1 is),
  λ has. told.1 (has.0, text_unique bytes ts (monomial_term has.0 ∷ []) is has.1),
)

-- there is none where the scan fails
no_tree : (bytes : List ℕ) (e : TextFault) (ts : List Term) → IsSyntaxFault bytes e → e ≢ faults.Memory → ¬ IsText ts bytes
no_tree bytes (faults.Syntax n) ts h other = h.none ts
no_tree bytes (faults.Value term kind) ts h other = absurd h
no_tree bytes faults.Memory ts h other = absurd (other refl)

pub no_monomial : {E : Type 0} (bytes : List ℕ) (e : TextFault) (r : Result Bool E) → IsSyntaxFault bytes e → IfOk r (λ b. (b ≡ false) × (e ≢ faults.Memory)) → IfOk r (λ b. (b ≡ true) ↔ HasMonomialText bytes)
no_monomial bytes e (Ok b) h told = (
  λ (yes : b ≡ true). let no : b ≡ false = told.0 in absurd cc,
  λ has. absurd (no_tree bytes e (monomial_term has.0 ∷ []) h told.1 has.1),
)
no_monomial bytes e (Err x) h told = tt
