-- The degrees of polynomials in the variables, and those that their texts tell.
use Rattle.std.proofs.Common.{◌≡◌, ◌≢◌, ◌∙◌, ℕ, zero, suc, ◌<◌, ◌≤◌, true, List, [], ◌∷◌, None, length, map, get_or, replicate, refl, sym, ap, ap₂, subst, arith}
use Rattle.std.specs.Prelude.{All, AllPairs, IsTrue}
use Rattle.std.proofs.lemmas.List.{get_or-map, length-map, length-replicate}
use Rattle.std.proofs.lemmas.List.Elements.{All-nil, All-cons, All-head, All-tail}
use Rattle.alg_core.specs.DpOrder.{weighted_degree}
use Rattle.alg_core.specs.Names.{is_name}
use Rattle.alg_core.specs.Spaces.{SpaceOver, Fits, entries, entry}
use Rattle.alg_core.specs.Vectors.{Entry}
use Rattle.alg_core.specs.declared.term.Term.{Term}
use Rattle.poly_module.specs.GreatestExponents.{total, greatest}
use Rattle.poly_text.specs.Syntax.{Term as TermTree}
use Rattle.poly_text.specs.Values.{IsReadable, entry_of}
use Rattle.poly_text.proofs.PrintedLaws.{printed_values}
use Rattle.prime_field.specs.ListedPrimes.{is_listed}
use Rattle.certificate_io.specs.Conditions.{IsPolynomialIn, degree_of}
use Rattle.certificate_io.specs.PartFaults.{degrees_of, heading_seen, plain_of}
use Rattle.certificate_io.specs.Parts.{TextParts, AreParts}
use Rattle.certificate_io.specs.ReadParts.{ArePolynomials, HasSmallTerms, IsHeading, IsReady}
use Rattle.certificate_io.specs.Readings.{poly_tree}
use Rattle.certificate_io.specs.Spaces.{field_at, plain_names}
use Rattle.certificate_io.specs.Values.{tree_degree}
use Rattle.certificate_io.specs.declared.values.Heading.{Heading}
use Rattle.certificate_io.proofs.TextSpaces.{can_plain, prime_at}

pub small_at : (f : List (Term ℕ (List ℕ))) (i : ℕ) (d : Term ℕ (List ℕ)) → i < length f → HasSmallTerms f → total (get_or f i d).at.mono ≤ 4096
small_at f i d low small =
    let many : length (entries (λ m. m) f) ≡ length f = length-map f (entry (λ m. m)) in
    subst (λ (e : Entry ℕ). total e.0.1 ≤ 4096) (get_or-map (entry (λ m. m)) f i d (entry (λ m. m) d) low) (small i (entry (λ m. m) d) (omega (arith, many, low)))

ones_total : (n : ℕ) (a : List ℕ) → length a ≡ n → weighted_degree (replicate n 1) a ≡ total a
ones_total zero [] l = refl
ones_total zero (x ∷ a) l = absurd (omega arith)
ones_total (suc n) [] l = refl
ones_total (suc n) (x ∷ a) l = omega (arith, ones_total n a (omega arith))

module _ (t : TextParts) where
  abbrev S : SpaceOver ℕ
  S = plain_of t

  small_entries : (es : List (Entry ℕ)) → Fits S es → All (IsReadable S (plain_names t.names)) es → All (λ e. total e.0.1 ≤ 4096) es
  small_entries [] fits readable = All-nil (λ e. total e.0.1 ≤ 4096)
  small_entries (e ∷ es) fits readable =
      let wide : length e.0.1 ≡ length t.names = fits.0.place.wide ∙ length-replicate {A = ℕ} (length t.names) 1 in
      let low = (All-head (IsReadable S (plain_names t.names)) e es readable).degree in
      let same = ones_total (length t.names) e.0.1 wide in
      All-cons (λ e. total e.0.1 ≤ 4096) e es (omega (arith, low, same)) (small_entries es fits.2 (All-tail (IsReadable S (plain_names t.names)) e es readable))

  small_each : (fs : List (List (Term ℕ (List ℕ)))) → All (IsPolynomialIn S (plain_names t.names)) fs → All HasSmallTerms fs
  small_each [] is = All-nil HasSmallTerms
  small_each (f ∷ fs) is =
      let one = All-head (IsPolynomialIn S (plain_names t.names)) f fs is in
      All-cons HasSmallTerms f fs (small_entries (entries (λ m. m) f) one.0.fits one.1) (small_each fs (All-tail (IsPolynomialIn S (plain_names t.names)) f fs is))

  -- polynomials that are read have low degrees
  pub small_read : (xs : List (List TermTree)) (fs : List (List (Term ℕ (List ℕ)))) → ArePolynomials S (plain_names t.names) xs fs → All HasSmallTerms fs
  small_read xs fs read = small_each fs read.0

  totals : (ts : List TermTree) → map (λ (e : Entry ℕ). total e.0.1) (map (entry_of None S (plain_names t.names)) ts) ≡ map (λ x. total (entry_of None S (plain_names t.names) x).0.1) ts
  totals [] = refl
  totals (x ∷ ts) = ap (λ l. total (entry_of None S (plain_names t.names) x).0.1 ∷ l) (totals ts)

  module _ (listed : is_listed t.characteristic ≡ true) (names : All (λ w. IsTrue (is_name w)) t.names) (distinct : AllPairs (λ v w. v ≢ w) t.names) where
    degree_read : (f : List (Term ℕ (List ℕ))) (ts : List TermTree) → IsPolynomialIn S (plain_names t.names) f → poly_tree S (plain_names t.names) f ≡ ts → degree_of f ≡ tree_degree (heading_seen t) ts
    degree_read f ts is same =
        let can = can_plain (field_at t.characteristic) t.names names distinct in
        let back = (printed_values S (plain_names t.names) t.characteristic (entries (λ m. m) f) (prime_at t.characteristic listed) can.places can.distinct can.variables is.0.fits is.0.position is.1).0 in
        ap (λ es. greatest (map (λ (e : Entry ℕ). total e.0.1) es)) (sym back ∙ ap (map (entry_of None S (plain_names t.names))) same) ∙ ap greatest (totals ts)

    -- their degrees are those that the text tells
    pub degrees_read : (xs : List (List TermTree)) (fs : List (List (Term ℕ (List ℕ)))) → ArePolynomials S (plain_names t.names) xs fs → map degree_of fs ≡ degrees_of t xs
    degrees_read [] [] read = refl
    degrees_read [] (f ∷ fs) read = absurd (let bad = read.1 in cc)
    degrees_read (ts ∷ xs) [] read = absurd (let bad = read.1 in cc)
    degrees_read (ts ∷ xs) (f ∷ fs) read =
        let same = read.1 in
        let one : poly_tree S (plain_names t.names) f ≡ ts = cc in
        let others : map (poly_tree S (plain_names t.names)) fs ≡ map (λ (x : List TermTree). x) xs = cc in
        ap₂ (λ d ds. d ∷ ds) (degree_read f ts (All-head (IsPolynomialIn S (plain_names t.names)) f fs read.0) one) (degrees_read xs fs (All-tail (IsPolynomialIn S (plain_names t.names)) f fs read.0, others))

-- the degrees of the members of a list that is read, in words of what is read before it
pub told_degrees : (t : TextParts) (h : Heading) → AreParts t → IsHeading t h → IsReady h → (xs : List (List TermTree)) (fs : List (List (Term ℕ (List ℕ)))) → ArePolynomials (plain_of t) (plain_names t.names) xs fs → map degree_of fs ≡ degrees_of t xs
told_degrees t h are is ready xs fs read = degrees_read t is.field.0 are.names.1 (subst (AllPairs (λ v w. v ≢ w)) is.names ready.distinct) xs fs read
