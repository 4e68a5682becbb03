-- A monomial as a polynomial: one term with the value 1.
use Rattle.std.proofs.Common.{◌≡◌, ◌≢◌, ◌∙◌, ℕ, ◌<◌, ◌*◌, ◌-◌, false, List, [], ◌∷◌, length, map, refl, sym, ap, subst, append-nil, arith}
use Rattle.std.specs.Prelude.{All, IsTrue, if◌then◌else◌}
use Rattle.std.proofs.lemmas.Bool.{le-ltb}
use Rattle.std.proofs.lemmas.List.Elements.{All-nil, All-cons, All-head}
use Rattle.alg_core.specs.Fields.{Has}
use Rattle.alg_core.specs.Names.{is_name}
use Rattle.alg_core.specs.Spaces.{SpaceOver, IsPlace, Fits, entry, entries}
use Rattle.alg_core.specs.Vectors.{Entry}
use Rattle.alg_core.specs.declared.term.Term.{Term as CodeTerm}
use Rattle.prime_field.specs.ListedPrimes.{listed_prime}
use Rattle.prime_field.specs.PrimeFields.{IsPrimeField}
use Rattle.poly_text.specs.declared.names.Names.{Names}
use Rattle.poly_text.specs.Syntax.{Term, Factor, IsText, monomial_term, product_text, spelling, HasMonomialText}
use Rattle.poly_text.specs.Texts.{place_count, polynomial_text, term_of, variable_at, factors_from, is_negative, monomial_in}
use Rattle.poly_text.specs.Values.{IsReadable, AreDistinct}
use Rattle.poly_text.proofs.PrintedLaws.{printed_values}
use Rattle.poly_text.proofs.Scans.{text_unique}

-- one term, at position 0, whose printed monomial is the text
pub record IsOneTerm (S : SpaceOver ℕ) (names : Names) (text : List ℕ) (f : List (CodeTerm ℕ (List ℕ))) : Type 0 where
  pub term : CodeTerm ℕ (List ℕ)
  pub is : f ≡ term ∷ []
  pub place : IsPlace S (0, term.at.mono)
  pub readable : IsReadable S names ((0, term.at.mono), 1)
  pub printed : monomial_in names term.at.mono ≡ text

first_factors : List Term → List Factor
first_factors [] = []
first_factors (t ∷ ts) = t.factors

monomial_spelling : (fs : List Factor) → spelling (monomial_term fs ∷ []) ≡ product_text 1 fs
monomial_spelling fs = append-nil (product_text 1 fs)

module _ (S : SpaceOver ℕ) (names : Names) (text : List ℕ) where
  one_of : (f : List (CodeTerm ℕ (List ℕ))) (fs : List Factor) → IsText (monomial_term fs ∷ []) text → map (term_of names S.field.characteristic) (entries (λ m. m) f) ≡ monomial_term fs ∷ []
      → Fits S (entries (λ m. m) f) → All (λ e. e.0.0 ≡ 0) (entries (λ m. m) f) → All (IsReadable S names) (entries (λ m. m) f) → IsOneTerm S names text f
  unfolding first_factors
  one_of [] fs is same fits zeros readable = absurd cc
  one_of (t ∷ u ∷ f) fs is same fits zeros readable = absurd cc
  one_of (t ∷ []) fs is same fits zeros readable =
      let at_zero : t.at.pos ≡ 0 = All-head (λ e. e.0.0 ≡ 0) (entry (λ m. m) t) [] zeros in
      let reads = All-head (IsReadable S names) (entry (λ m. m) t) [] readable in
      record {
        term = t;
        is = refl;
        place = subst (λ p. IsPlace S (p, t.at.mono)) at_zero fits.0.place;
        readable = record { degree = reads.degree; exponents = reads.exponents; indices = reads.indices };
        printed = ap (product_text 1) (ap first_factors same) ∙ sym (monomial_spelling fs) ∙ is.spelled;
      }

  module _ (p : ℕ) (prime : IsPrimeField p S.field) (places : length S.weights ≡ place_count names) (distinct : AreDistinct names) (names_are : All (λ w. IsTrue (is_name w)) names.vars) where
    -- the polynomial of a monomial's text
    pub one_term : (f : List (CodeTerm ℕ (List ℕ))) → HasMonomialText text → Fits S (entries (λ m. m) f) → All (λ e. e.0.0 ≡ 0) (entries (λ m. m) f) → All (IsReadable S names) (entries (λ m. m) f)
        → polynomial_text S names (entries (λ m. m) f) ≡ text → IsOneTerm S names text f
    one_term f has fits zeros readable printed =
        let values = printed_values S names p (entries (λ m. m) f) prime places distinct names_are fits zeros readable in
        one_of f has.0 has.1 (text_unique text _ (monomial_term has.0 ∷ []) (record { terms = values.2; spelled = printed }) has.1) fits zeros readable

module _ (S : SpaceOver ℕ) (p : ℕ) (prime : IsPrimeField p S.field) where
  -- the polynomial with the value 1 at a monomial
  pub unit_fits : (a : List ℕ) → IsPlace S (0, a) → Fits S (((0, a), 1) ∷ [])
  unit_fits a place =
      let one : S.field.one ≡ 1 = ap (λ k. k.one) prime.1 in
      (record { has = subst (Has S.field) one S.field.has_one; not_zero = subst (λ x. x ≢ S.field.zero) one S.field.one_not_zero; place = place }, tt, tt)

  pub unit_printed : (names : Names) (text a : List ℕ) → monomial_in names a ≡ text → polynomial_text S names (((0, a), 1) ∷ []) ≡ text
  unit_printed names text a printed =
      let k = S.field.characteristic in
      let big : 1 < S.field.characteristic = subst (λ (n : ℕ). 1 < n) (sym (ap (λ k. k.characteristic) prime.1)) (listed_prime p prime.0).above_one in
      let sign : is_negative S.field.characteristic 1 ≡ false = le-ltb k (2 * 1) (omega arith) in
      ap (λ b. spelling (record { is_negative = b; coefficient = if b then k - 1 else 1; factors = factors_from (variable_at names) 0 a } ∷ [])) sign
      ∙ monomial_spelling (factors_from (variable_at names) 0 a) ∙ printed

pub unit_all : (P : Entry ℕ → Type 0) (a : List ℕ) → P ((0, a), 1) → All P (((0, a), 1) ∷ [])
unit_all P a h = All-cons P ((0, a), 1) [] h (All-nil P)

first_exponents : List (Entry ℕ) → List ℕ
first_exponents [] = []
first_exponents (e ∷ es) = e.0.1

pub one_mono : (f : List (CodeTerm ℕ (List ℕ))) (t : CodeTerm ℕ (List ℕ)) (a : List ℕ) → f ≡ t ∷ [] → entries (λ m. m) f ≡ ((0, a), 1) ∷ [] → t.at.mono ≡ a
unfolding first_exponents
one_mono f t a is same = ap first_exponents (sym (ap (entries (λ m. m)) is) ∙ same)
