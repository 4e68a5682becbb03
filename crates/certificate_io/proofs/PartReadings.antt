-- What the calls on the lines of powers, averages and members of the kernel tell.
use Rattle.std.proofs.Common.{◌≡◌, ◌≢◌, ◌∙◌, ℕ, ◌≤◌, ◌<◌, ◌^◌, true, false, List, [], ◌∷◌, Option, Some, None, map, refl, sym, ap, subst, append-nil, arith}
use Rattle.std.specs.Prelude.{All, decimal, nat_le}
use Rattle.std.specs.Option.{option_map, option_or}
use Rattle.std.proofs.lemmas.Bool.{lt-leb, le-leb}
use Rattle.std.proofs.lemmas.Fmt.{decimal_injective}
use Rattle.std.proofs.lemmas.List.Elements.{All-nil, All-cons}
use Rattle.alg_core.specs.Spaces.{SpaceOver, IsPlace}
use Rattle.alg_core.specs.Vectors.{Entry}
use Rattle.alg_core.specs.declared.value_kind.ValueKind.{ValueKind}
use Rattle.alg_core.specs.declared.value_kind.ValueKind.TheVariants as kinds
use Rattle.prime_field.specs.PrimeFields.{IsPrimeField}
use Rattle.poly_text.specs.Syntax.{Factor, Term, IsFactor, IsTerm, IsText, IsMonomialText, monomial_term, product_text, spelling}
use Rattle.poly_text.specs.Texts.{factors_from, variable_at, monomial_in, term_of}
use Rattle.poly_text.specs.Values.{IsReadable}
use Rattle.poly_text.specs.declared.names.Names.{Names}
use Rattle.poly_text.proofs.MonomialSteps.{unit_fits, unit_all, unit_printed}
use Rattle.poly_text.proofs.PrintedLaws.{printed_values}
use Rattle.poly_text.proofs.Scans.{text_unique}
use Rattle.poly_text.proofs.TextBytes.{text_unspaced}
use Rattle.certificate_io.specs.declared.fault.CertFault.{CertFault}
use Rattle.certificate_io.specs.declared.fault.CertFault.TheVariants as faults
use Rattle.certificate_io.specs.Lines.{IsSplit, IsNumber, joined}
use Rattle.certificate_io.specs.Parts.{PowerTree, ImageTree, MemberTree, IsPowerTree, IsImageTree, IsMemberTree}
use Rattle.certificate_io.specs.Readings.{AnswersFault, on_line, poly_kind, power_text, image_text, member_text, text_after, words_after, CanRead}
use Rattle.certificate_io.specs.Syntax.{IsPolynomial}
use Rattle.certificate_io.specs.Values.{checked, is_name_at}
use Rattle.certificate_io.proofs.LineWords.{name_plain, decimal_plain}
use Rattle.certificate_io.proofs.ReadingRuns.{line_passes}
use Rattle.certificate_io.proofs.Splits.{rest_of, first_word}

module _ (e : CertFault) (i : ℕ) (a b : Option ValueKind) where
  -- the first of two conditions fails
  pub first_of_two : AnswersFault e (on_line i a) → AnswersFault e (on_line i (option_or a b))
  first_of_two h = go e a h
    where
      go : (e : CertFault) (a : Option ValueKind) → AnswersFault e (on_line i a) → AnswersFault e (on_line i (option_or a b))
      go e (Some k) h = h
      go (faults.Syntax line) None h = absurd h
      go (faults.Value line kind) None h = absurd cc
      go faults.Memory None h = tt

  -- the second alone
  pub second_of_two : on_line i a ≡ None → AnswersFault e (on_line i b) → AnswersFault e (on_line i (option_or a b))
  second_of_two passed h = subst (λ k. AnswersFault e (on_line i (option_or k b))) (sym (line_passes i a passed)) h

pub both_pass : (i : ℕ) (a b : Option ValueKind) → on_line i a ≡ None → on_line i b ≡ None → on_line i (option_or a b) ≡ None
both_pass i a b p q = ap (λ k. on_line i (option_or k b)) (line_passes i a p) ∙ q

unspaced : (ts : List Term) → IsPolynomial ts → All (λ b. b ≢ 32) (spelling ts)
unspaced ts is = text_unspaced (spelling ts) ts (record { terms = is; spelled = refl })

pub after_words : (o : Option (List Term)) → rest_of (words_after o) ≡ text_after o
after_words None = refl
after_words (Some us) = refl

pub lone_text : (ts : List Term) (bytes : List ℕ) → IsPolynomial ts → joined (spelling ts ∷ []) ≡ bytes → IsText ts bytes
lone_text ts bytes is same = record { terms = is; spelled = sym (append-nil (spelling ts)) ∙ same }

abbrev pub member_of : List Term → Option (List Term) → MemberTree
member_of u v = record { polynomial = u; combination = v }

abbrev pub image_of : List Factor → List Term → ImageTree
image_of u v = record { monomial = u; combination = v }

-- the parts of the line of a member
pub member_split : (text w : List ℕ) (o : Option (List ℕ)) (x : MemberTree) → IsSplit 32 text w o → IsMemberTree x → member_text x ≡ text → IsText x.polynomial w × (o ≡ text_after x.combination)
member_split text w o x split is same =
    let found = first_word text w (spelling x.polynomial) (words_after x.combination) o split (unspaced x.polynomial is.polynomial) same in
    (record { terms = is.polynomial; spelled = sym found.0 }, found.1 ∙ after_words x.combination)

monomial_text : (fs : List Factor) → All IsFactor fs → IsMonomialText fs (product_text 1 fs)
monomial_text fs is = record {
  terms = All-cons IsTerm (monomial_term fs) [] (record { coefficient = (omega arith, omega arith); factors = is }) (All-nil IsTerm);
  spelled = append-nil (product_text 1 fs);
}

-- those of the line of an average
pub image_split : (text w : List ℕ) (o : Option (List ℕ)) (x : ImageTree) → IsSplit 32 text w o → IsImageTree x → image_text x ≡ text → IsMonomialText x.monomial w × (o ≡ Some (joined (spelling x.combination ∷ [])))
image_split text w o x split is same =
    let mono = monomial_text x.monomial is.monomial in
    let found = first_word text w (product_text 1 x.monomial) (spelling x.combination ∷ []) o split (text_unspaced (product_text 1 x.monomial) (monomial_term x.monomial ∷ []) mono) same in
    (record { terms = mono.terms; spelled = mono.spelled ∙ sym found.0 }, found.1)

head_factors : List Term → List Factor
head_factors [] = []
head_factors (t ∷ ts) = t.factors

-- the monomial that is read has the text's factors, whose values pass
pub monomial_read : (S : SpaceOver ℕ) (p : ℕ) (prime : IsPrimeField p S.field) (names : Names) (can : CanRead S names) (text : List ℕ) (fs : List Factor) (m : List ℕ) (line : ℕ)
    → IsMonomialText fs text → IsPlace S (0, m) → IsReadable S names ((0, m), 1) → monomial_in names m ≡ text
    → (on_line line (poly_kind S names (monomial_term fs ∷ [])) ≡ None) × ((IsPlace S (0, m) × IsReadable S names ((0, m), 1)) × (factors_from (variable_at names) 0 m ≡ fs))
unfolding head_factors
monomial_read S p prime names can text fs m line is place readable printed =
    let zero_at : Entry ℕ → Type 0 = λ e. e.0.0 ≡ 0 in
    let values = printed_values S names p (((0, m), 1) ∷ []) prime can.places can.distinct can.variables (unit_fits S p prime m place) (unit_all zero_at m refl) (unit_all (IsReadable S names) m readable) in
    let same = text_unique text (map (term_of names S.field.characteristic) (((0, m), 1) ∷ [])) (monomial_term fs ∷ []) (record { terms = values.2; spelled = unit_printed S p prime names text m printed }) is in (
      ap (on_line line) (ap (poly_kind S names) (sym same) ∙ ap (option_map (λ x. x.1)) values.1),
      ((place, readable), ap head_factors same),
    )

-- those of the line of a power: the name, and what follows
pub power_split : (text w : List ℕ) (o : Option (List ℕ)) (x : PowerTree) → IsSplit 32 text w o → IsPowerTree x → power_text x ≡ text
    → (w ≡ x.name) × (o ≡ Some (joined (decimal x.exponent ∷ spelling x.form ∷ [])))
power_split text w o x split is same = first_word text w x.name (decimal x.exponent ∷ spelling x.form ∷ []) o split (name_plain x.name is.name).unspaced same

-- the exponent and the polynomial
pub raised_split : (text w : List ℕ) (o : Option (List ℕ)) (x : PowerTree) → IsSplit 32 text w o → IsPowerTree x → joined (decimal x.exponent ∷ spelling x.form ∷ []) ≡ text
    → (w ≡ decimal x.exponent) × (o ≡ Some (joined (spelling x.form ∷ [])))
raised_split text w o x split is same =
    let small : x.exponent < 2 ^ 64 = let h = is.exponent.1 in omega (arith, h) in
    first_word text w (decimal x.exponent) (spelling x.form ∷ []) o split (decimal_plain x.exponent small).unspaced same

module _ (line : ℕ) (ns : List (List ℕ)) (i : ℕ) (x : PowerTree) (form : Option ValueKind) where
  abbrev kind : Option ValueKind
  kind = option_or (checked kinds.Power (is_name_at ns i x.name)) (option_or (checked kinds.Exponent (nat_le x.exponent 4096)) form)

  -- the name is another one
  pub power_unnamed : is_name_at ns i x.name ≡ false → on_line line kind ≡ Some (line, kinds.Power)
  power_unnamed h = ap (λ b. on_line line (option_or (checked kinds.Power b) (option_or (checked kinds.Exponent (nat_le x.exponent 4096)) form))) h

  module _ (named : is_name_at ns i x.name ≡ true) where
    pub power_named : on_line line kind ≡ on_line line (option_or (checked kinds.Exponent (nat_le x.exponent 4096)) form)
    power_named = ap (λ b. on_line line (option_or (checked kinds.Power b) (option_or (checked kinds.Exponent (nat_le x.exponent 4096)) form))) named

    -- the exponent is too great
    pub power_high : 4096 < x.exponent → on_line line kind ≡ Some (line, kinds.Exponent)
    power_high h = power_named ∙ ap (λ b. on_line line (option_or (checked kinds.Exponent b) form)) (lt-leb x.exponent 4096 h)

    -- else the fault is that of the polynomial
    pub power_low : x.exponent ≤ 4096 → on_line line kind ≡ on_line line form
    power_low h = power_named ∙ ap (λ b. on_line line (option_or (checked kinds.Exponent b) form)) (le-leb x.exponent 4096 h)

-- digits write one number
pub one_number : (limit m n : ℕ) (digits : List ℕ) → limit ≤ 999999999999999999 → IsNumber limit m digits → IsNumber limit n digits → m ≡ n
one_number limit m n digits small a b =
    let low = a.0.1 in
    let below = b.0.1 in
    decimal_injective m n (omega (arith, low, small)) (omega (arith, below, small)) (a.1 ∙ sym b.1)
