-- Where a certificate meets the condition on its evidence, every invariant is a combination over its secondary invariants.
use Rattle.std.proofs.Common.{◌≡◌, ℕ, Bool, true, false, List, [], ◌∷◌, map, get_or, refl, inl, inr}
use Rattle.std.specs.Prelude.{All, IfSome, Option, Some, None, is_some, if◌then◌else◌}
use Rattle.std.proofs.lemmas.List.Elements.{All-nil, All-cons, All-head, All-tail, All-map}
use Rattle.alg_core.specs.Fields.{FieldOn}
use Rattle.alg_core.specs.Lists.{In}
use Rattle.alg_core.specs.Vectors.{Vect}
use Rattle.poly_module.specs.declared.vector.Comb.{Comb}
use Rattle.poly_module.specs.Combinations.{Over, mark_value}
use Rattle.poly_module.specs.SpaceVectors.{IsVector}
use Rattle.poly_module.proofs.CombinationLaws.{over_within}
use Rattle.lin_algebra.specs.declared.matrix.Matrix.{Matrix}
use Rattle.matrix_group.specs.Actions.{Invariant}
use Rattle.module_groebner.proofs.Families.{all_in}
use Rattle.finite_certificate.specs.MarkSpaces.{ArePositiveForms}
use Rattle.finite_certificate.proofs.ModuleTerms.{listed_all}
use Rattle.secondary_gens.specs.Lists.{Each}
use Rattle.secondary_gens.specs.Secondaries.{IsComplete}
use Rattle.certificate_io.specs.Certificates.{CertificateOf, EvidenceOf, Averages, Members}
use Rattle.certificate_io.specs.declared.evidence.Image.{Image}
use Rattle.certificate_io.specs.declared.evidence.Line.{Line}
use Rattle.syzygy_kernel.specs.Kernels.{fixed_values}
use Rattle.syzygy_kernel.proofs.FixedMembers.{values_complete}
use Rattle.cert_check.specs.Conditions.{value_of, IsValue, MeetsAverages, MeetsKernel, MeetsEvidence}
use Rattle.cert_check.specs.Parts.{size, polynomial, primaries, secondaries, degrees, monomials, members}
use Rattle.cert_check.specs.WellFormed.{IsImage, IsMember, AreEvidence, IsWellFormed, combined}
use Rattle.cert_check.proofs.AveragesGenerate.{IsAverageOf, averages_generate}
use Rattle.cert_check.proofs.HoldsParts.{all_at, combination_keys}

-- a list that begins with a member that has a property, or without it
all_if : {A : Type 0} (P : A → Type 0) (t : Bool) (x : A) (xs : List A) → (t ≡ true → P x) → All P xs → All P (if t then x ∷ xs else xs)
all_if P true x xs h all = All-cons P x xs (h refl) all
all_if P false x xs h all = all

module _ (k : FieldOn ℕ) (gens : List (Matrix ℕ)) (c : CertificateOf ℕ) (given : IsWellFormed k c gens)
    (forms : ArePositiveForms k (size c) (degrees c) (primaries k c)) (fixed : All (Invariant k gens) (primaries k c)) where
  -- the value of a line
  abbrev value : Image ℕ → Vect k
  value x = value_of k gens c x.comb

  each_line : (xs : List (Image ℕ)) → ((x : Image ℕ) → In x xs → IsAverageOf k gens x.mono (value x)) → Each (IsAverageOf k gens) (monomials xs) (map value xs)
  each_line [] h = tt
  each_line (x ∷ xs) h = (h x (inl refl), each_line xs (λ y i. h y (inr i)))

  value_over : (x : Image ℕ) → IsImage k c x → Over k (primaries k c) (secondaries k c) (value x)
  value_over x h = (polynomial k x.comb.vector, combination_keys k gens c given x.comb.vector h.combination, refl)

  all_over : (xs : List (Image ℕ)) → All (IsImage k c) xs → All (λ x. Over k (primaries k c) (secondaries k c) (value x)) xs
  all_over xs fits i d l = value_over (get_or xs i d) (fits i d l)

  by_averages : (xs : List (Image ℕ)) → All (IsImage k c) xs → ((i : ℕ) → MeetsAverages k gens c xs i) → IsComplete k (size c) gens (primaries k c) (secondaries k c)
  by_averages xs fits meets f poly vars invariant =
      let lines : All (λ x. IsAverageOf k gens x.mono (value x)) xs = all_at (λ x. IsAverageOf k gens x.mono (value x)) xs (λ i x at. (meets i).line x at) in
      let over_averages = averages_generate k gens (size c) (degrees c) (primaries k c) forms fixed given.some given.square (monomials xs) ((meets 0).whole refl).1 (map value xs)
      (each_line xs (all_in (λ x. IsAverageOf k gens x.mono (value x)) xs lines)) f poly vars invariant in
      let values_over = All-map (Over k (primaries k c) (secondaries k c)) value xs (all_over xs fits) in
      over_within k (primaries k c) (map value xs) (secondaries k c) (listed_all k (Over k (primaries k c) (secondaries k c)) (map value xs) values_over) f over_averages

  line_over : (f : Vect k) (x : Option (Comb ℕ)) → IfSome x (λ y. IsVector (combined k c) (λ m. m) y.vector) → IsValue k gens c f x → is_some x ≡ true
      → Over k (primaries k c) (secondaries k c) f
  line_over f None fits value e = absurd cc
  line_over f (Some y) fits value e = (polynomial k y.vector, combination_keys k gens c given y.vector fits, value)

  -- the values of the fixed members are combinations, those of their lines
  abbrev HasValue : Line ℕ → Type 0
  HasValue l = IsValue k gens c (mark_value k (size c) (primaries k c) (polynomial k l.u)) l.comb

  fixed_over : (ls : List (Line ℕ)) → All (IsMember k c) ls → All HasValue ls
      → All (Over k (primaries k c) (secondaries k c)) (fixed_values k (size c) (primaries k c) (members ls))
  fixed_over [] fits values = All-nil (Over k (primaries k c) (secondaries k c))
  fixed_over (l ∷ ls) fits values =
      let f = mark_value k (size c) (primaries k c) (polynomial k l.u) in
      let rest = fixed_over ls (All-tail (IsMember k c) l ls fits) (All-tail HasValue l ls values) in
      all_if (Over k (primaries k c) (secondaries k c)) (is_some l.comb) f (fixed_values k (size c) (primaries k c) (members ls))
      (λ e. line_over f l.comb (All-head (IsMember k c) l ls fits).combination (All-head HasValue l ls values) e) rest

  by_kernel : (ls : List (Line ℕ)) → All (IsMember k c) ls → ((i : ℕ) → MeetsKernel k gens c ls i) → IsComplete k (size c) gens (primaries k c) (secondaries k c)
  by_kernel ls fits meets f poly vars invariant =
      let whole = (meets 0).whole refl in
      let over_fixed = values_complete k (primaries k c) gens whole.0 (size c) (degrees c) forms fixed given.square whole.1 (members ls) whole.2 f poly vars invariant in
      let values : All HasValue ls = all_at HasValue ls (λ i l at. (meets i).line l at) in
      let vs = fixed_values k (size c) (primaries k c) (members ls) in
      over_within k (primaries k c) vs (secondaries k c) (listed_all k (Over k (primaries k c) (secondaries k c)) vs (fixed_over ls fits values)) f over_fixed

  pub complete_by : (e : EvidenceOf ℕ) → AreEvidence k c e → ((i : ℕ) → MeetsEvidence k gens c e i) → IsComplete k (size c) gens (primaries k c) (secondaries k c)
  complete_by (Averages xs) fits meets = by_averages xs fits meets
  complete_by (Members ls) fits meets = by_kernel ls fits meets
