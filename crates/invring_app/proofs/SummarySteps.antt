-- The summary of a certificate, step by step.
use Rattle.std.proofs.Common.{◌≡◌, ◌∙◌, ℕ, ◌+◌, ◌<◌, ◌≤◌, List, [], ◌∷◌, ◌++◌, length, map, take, get_or, refl, sym, ap, subst, arith}
use Rattle.std.specs.Prelude.{All, codes, decimal, max}
use Rattle.std.proofs.lemmas.List.{get_or_default, map-append, map_more, take_more}
use Rattle.std.proofs.lemmas.List.Elements.{All-nil, All-cons}
use Rattle.alg_core.specs.BlockOrder.{length_ones}
use Rattle.alg_core.specs.Spaces.{SpaceOver, Fits, entries}
use Rattle.alg_core.specs.declared.term.Term.{Term}
use Rattle.poly_module.specs.GreatestExponents.{greatest, total}
use Rattle.poly_module.specs.SpaceVectors.{ArePolys}
use Rattle.secondary_gens.specs.Forms.{degree_of, degrees_of}
use Rattle.certificate_io.specs.Certificates.{CertificateOf}
use Rattle.certificate_io.specs.Texts.{spaced}
use Rattle.certificate_io.proofs.LineLaws.{line_of_two, spaced_all, spaced_step}
use Rattle.cert_check.specs.Parts.{degrees, irreducible_degrees, secondary_degrees}
use Rattle.cert_check.specs.WellFormed.{plain}
use Rattle.finvar_text.specs.Problems.{Problem}
use Rattle.invring_app.specs.Commands.Rings.{IsCertificateOf}
use Rattle.invring_app.specs.Summaries.{numbers_line, summary_text, HasFewVariables}

abbrev Terms : Type 0
Terms = List (Term ℕ (List ℕ))

-- one term, one polynomial, one number more

greatest_push : (l : List ℕ) (x : ℕ) → greatest (l ++ x ∷ []) ≡ max x (greatest l)
greatest_push [] x = refl
greatest_push (y ∷ l) x = ap (max y) (greatest_push l x) ∙ swap x y (greatest l)
  where
    swap : (x y z : ℕ) → max y (max x z) ≡ max x (max y z)
    swap x y z = omega arith

pub degree_more : (f : Terms) (i : ℕ) (t : Term ℕ (List ℕ)) → i < length f → t ≡ get_or f i t → max (total t.at.mono) (degree_of (take i f)) ≡ degree_of (take (i + 1) f)
degree_more f i t within read =
    let more : take (i + 1) f ≡ take i f ++ t ∷ [] = take_more f i t within ∙ ap (λ (u : Term ℕ (List ℕ)). take i f ++ u ∷ []) (sym read) in
    sym (ap degree_of more
    ∙ ap (λ es. greatest (map (λ e. total e.0.1) es)) (map-append _ (take i f) (t ∷ []))
    ∙ ap greatest (map-append (λ e. total e.0.1) (entries (λ m. m) (take i f)) (entries (λ m. m) (t ∷ [])))
    ∙ greatest_push (map (λ e. total e.0.1) (entries (λ m. m) (take i f))) (total t.at.mono))

pub degrees_more : (fs : List Terms) (i : ℕ) (f : Terms) → i < length fs → f ≡ get_or fs i f → degrees_of (take i fs) ++ degree_of f ∷ [] ≡ degrees_of (take (i + 1) fs)
degrees_more fs i f within read = ap (λ (g : Terms). degrees_of (take i fs) ++ degree_of g ∷ []) read ∙ sym (map_more degree_of fs i f within)

pub number_more : (ns : List ℕ) (i : ℕ) (w : List ℕ) → i < length ns → ((w ++ spaced (map decimal (take i ns))) ++ 32 ∷ []) ++ decimal (get_or ns i 0) ≡ w ++ spaced (map decimal (take (i + 1) ns))
number_more ns i w within = spaced_step decimal ns i (get_or ns i 0) w within (get_or_default ns i 0 (get_or ns i 0) within)

pub line_put : (w word ns : List ℕ) (i : ℕ) → length ns ≤ i → ((w ++ word) ++ spaced (map decimal (take i ns))) ++ 10 ∷ [] ≡ w ++ numbers_line word ns
unfolding numbers_line
line_put w word ns i all = ap (λ (l : List ℕ). l ++ 10 ∷ []) (spaced_all decimal ns i (w ++ word) all) ∙ line_of_two w word (spaced (map decimal ns)) (10 ∷ [])

-- what is put, and what it is to be
pub record AreNumbers (k : ℕ) (c : CertificateOf ℕ) (pairs order rank : ℕ) (ds es fs : List ℕ) : Type 0 where
  pub pairs_are : pairs ≡ k
  pub order_is : order ≡ c.order
  pub rank_is : rank ≡ c.rank
  pub primaries : ds ≡ degrees c
  pub secondaries : es ≡ secondary_degrees c
  pub irreducibles : fs ≡ irreducible_degrees c

pub summary_put : (k : ℕ) (c : CertificateOf ℕ) (pairs order rank : ℕ) (ds es fs : List ℕ) → AreNumbers k c pairs order rank ds es fs
    → [] ++ numbers_line (codes "demo") (pairs ∷ []) ++ numbers_line (codes "order") (order ∷ []) ++ numbers_line (codes "primary") ds ++ numbers_line (codes "rank") (rank ∷ []) ++ numbers_line (codes "secondary") es
    ++ numbers_line (codes "irreducible") fs ≡ summary_text k c
unfolding summary_text
summary_put k c pairs order rank ds es fs is i =
    let p = is.pairs_are in
    let o = is.order_is in
    let r = is.rank_is in
    let x = is.primaries in
    let y = is.secondaries in
    let z = is.irreducibles in
    numbers_line (codes "demo") (p i ∷ []) ++ numbers_line (codes "order") (o i ∷ []) ++ numbers_line (codes "primary") (x i) ++ numbers_line (codes "rank") (r i ∷ []) ++ numbers_line (codes "secondary") (y i)
    ++ numbers_line (codes "irreducible") (z i)

-- few variables

pub few_at : (seen f : Terms) (i : ℕ) (t : Term ℕ (List ℕ)) → seen ≡ f → HasFewVariables f → i < length seen → t ≡ get_or seen i t → length t.at.mono ≤ 8
few_at seen f i t same few within read =
    subst (λ (u : Term ℕ (List ℕ)). length u.at.mono ≤ 8) (sym read) (subst HasFewVariables (sym same) few i t within)

pub few_in : (fs : List Terms) (i : ℕ) (f : Terms) → All HasFewVariables fs → i < length fs → f ≡ get_or fs i f → HasFewVariables f
few_in fs i f few within read = subst HasFewVariables (sym read) (few i f within)

module _ (S : SpaceOver ℕ) (eight : length S.weights ≤ 8) where
  few_of : (f : Terms) → Fits S (entries (λ m. m) f) → HasFewVariables f
  few_of [] fits = All-nil (λ t. length t.at.mono ≤ 8)
  few_of (t ∷ f) fits = All-cons (λ t. length t.at.mono ≤ 8) t f (subst (λ n. n ≤ 8) (sym fits.0.place.wide) eight) (few_of f fits.2)

  few_each : (fs : List Terms) → ArePolys S (λ m. m) fs → All HasFewVariables fs
  few_each fs are i d within = few_of (get_or fs i d) (are i d within).fits

pub record AreNarrow (c : CertificateOf ℕ) : Type 0 where
  pub primaries : All HasFewVariables c.primaries
  pub secondaries : All HasFewVariables c.secondaries
  pub irreducibles : All HasFewVariables c.irreducibles

pub narrow : (q : Problem) (tries : ℕ) (c : CertificateOf ℕ) → IsCertificateOf q tries c → length q.variables ≤ 8 → AreNarrow c
narrow q tries c is few =
    let S = plain is.field c in
    let eight : length S.weights ≤ 8 = subst (λ n. n ≤ 8) (sym (length_ones (length c.names) ∙ ap length is.names)) few in
    record {
      primaries = few_each S eight c.primaries is.well_formed.primaries;
      secondaries = few_each S eight c.secondaries is.well_formed.secondaries;
      irreducibles = few_each S eight c.irreducibles is.well_formed.irreducibles;
    }
