-- The candidates of a degree are homogeneous invariants of it, and none is 0.
use Rattle.std.proofs.Common.{◌≡◌, ◌⊎◌, ◌∙◌, ℕ, zero, suc, ◌^◌, ◌<◌, ◌≤◌, Bool, true, false, cond, List, [], ◌∷◌, ◌++◌, length, get_or, map, filter, replicate, inl, inr, sym, ap, subst, refl, arith}
use Rattle.std.specs.Prelude.{All, nat_le}
use Rattle.std.specs.List.{range_with_len}
use Rattle.std.proofs.lemmas.List.{length-map}
use Rattle.std.proofs.lemmas.List.Elements.{All-head, All-tail}
use Rattle.alg_core.specs.Fields.{FieldOn, Scalar, scalar, scalars, scalar_value}
use Rattle.alg_core.specs.Keys.{Key}
use Rattle.alg_core.specs.KeyOrders.{OrderOn}
use Rattle.alg_core.specs.Lists.{In, in_right}
use Rattle.alg_core.specs.SpaceGrading.{height}
use Rattle.alg_core.specs.SpaceOrder.{key_order}
use Rattle.alg_core.specs.Spaces.{SpaceOver}
use Rattle.alg_core.specs.Spans.{Independent}
use Rattle.alg_core.specs.Vectors.{Vect, vectors, plus, zero_vector}
use Rattle.alg_core.specs.declared.term.Term.{Term}
use Rattle.alg_core.proofs.Members.{in_cases, from_map}
use Rattle.alg_core.proofs.SpanLaws.{span_ind, span_member}
use Rattle.lin_algebra.specs.declared.matrix.Matrix.{Matrix}
use Rattle.poly_module.specs.Echelons.{Spans}
use Rattle.poly_module.specs.Forms.{form_homogeneous, IsForm}
use Rattle.poly_module.specs.SpaceVectors.{IsPoly, vector_of}
use Rattle.poly_module.proofs.Echelon.{echelon_independent}
use Rattle.module_groebner.proofs.CompletionEnds.{lead_not_zero}
use Rattle.invariant_space.specs.InvariantSpaces.{IsInvariantForm, IsEchelonBasis}
use Rattle.invariant_space.proofs.EchelonBasis.{invariant_subspace}
use Rattle.groebner_hom.specs.IdealBases.{IsHomogeneousPoly}
use Rattle.primary_search.specs.Candidates.{digits, others, ends_in_one, is_new, new_numbers, combined, all_candidates}
use Rattle.primary_search.proofs.DigitLaws.{others_zero, both_true, at_least_two, digits_length, digits_low}
use Rattle.primary_search.proofs.ComingSteps.{two_values}

-- one of the digits is not 0
some_digit : (ds : List ℕ) → 0 < others ds → (i : ℕ) × (i < length ds) × (0 < get_or ds i 0)
some_digit [] h = absurd (omega arith)
some_digit (zero ∷ ds) h = let r = some_digit ds (let e = others_zero ds in omega arith) in (suc r.0, let a = r.1 in omega arith, r.2)
some_digit (suc d ∷ ds) h = (0, omega arith, omega arith)

all_at : (P : ℕ → Type 0) (ds : List ℕ) (i : ℕ) → All P ds → i < length ds → P (get_or ds i 0)
all_at P [] i h l = absurd (omega arith)
all_at P (d ∷ ds) zero h l = All-head P d ds h
all_at P (d ∷ ds) (suc i) h l = all_at P ds i (All-tail P d ds h) (omega arith)

map_at : {B : Type 0} (f : ℕ → B) (ds : List ℕ) (i : ℕ) (b : B) → i < length ds → get_or (map f ds) i b ≡ f (get_or ds i 0)
map_at f [] i b h = absurd (omega arith)
map_at f (d ∷ ds) zero b h = refl
map_at f (d ∷ ds) (suc i) b h = map_at f ds i b (omega arith)

-- the members of a list that pass a test
passed : (p : ℕ → Bool) (xs : List ℕ) (x : ℕ) → In x (filter p xs) → p x ≡ true
passed p [] x i = absurd i
passed p (y ∷ xs) x i = go (p y) refl i (passed p xs x)
  where
    go : (b : Bool) → p y ≡ b → In x (cond b (y ∷ filter p xs) (filter p xs)) → (In x (filter p xs) → p x ≡ true) → p x ≡ true
    go true e (inl s) rest = subst (λ z. p z ≡ true) s e
    go true e (inr j) rest = rest j
    go false e j rest = rest j

module _ {E : Type 0} (k : FieldOn E) where
  -- the field's member with a number other than 0 is not 0
  value_not_zero : (d : ℕ) → d < k.size → 0 < d → ¬ (scalar k (k.of_number d) ≡ (scalars k).zero)
  unfolding scalars
  value_not_zero d low some e =
      let a : k.of_number d ≡ k.zero = sym (scalar_value k (k.of_number d) (k.has_of_number d low)) ∙ ap (λ (s : Scalar k). s.0) e in
      let b : d ≡ 0 = sym (k.number_of_number d low) ∙ ap k.number a ∙ k.number_zero in
      omega arith

module _ {E : Type 0} (S : SpaceOver E) (gens : List (Matrix E)) (d : ℕ) (bs : List (Vect S.field)) (basis : IsEchelonBasis S gens d bs) where
  abbrev k : FieldOn E
  k = S.field

  abbrev o : OrderOn Key
  o = key_order S

  abbrev Form : Vect S.field → Type 0
  Form f = IsInvariantForm S.field (length S.weights) gens d f

  -- a homogeneous invariant of the degree, and not 0
  abbrev pub IsCandidate : Vect S.field → Type 0
  IsCandidate c = IsInvariantForm S.field (length S.weights) gens d c × (¬ (c ≡ zero_vector S.field))

  span_form : (v : Vect S.field) → Spans S.field bs v → Form v
  unfolding plus zero_vector
  span_form v h =
      let s = invariant_subspace k (length S.weights) gens d in
      span_ind (vectors k) Form s.zero s.plus s.act bs (λ w i. basis.reduced.inside w i) v h

  independent : Independent (vectors S.field) bs
  independent = echelon_independent k o bs bs (record {
    reduced = record {
      inside = λ v i. span_member (vectors k) bs v i;
      lead = basis.reduced.lead;
      monic = basis.reduced.monic;
      covers = λ v t s l. basis.reduced.covers v t (span_form v s) l;
      apart = basis.reduced.apart;
      falling = basis.reduced.falling;
    };
    spans = λ v s. s;
  })

  combined_candidate : (ds : List ℕ) → length ds ≡ length bs → All (λ x. x < S.field.size) ds → 0 < others ds → IsCandidate (combined S.field bs ds)
  unfolding zero_vector
  combined_candidate ds same low some =
      let value = λ (x : ℕ). scalar k (k.of_number x) in
      let count : length (map value ds) ≡ length bs = length-map ds value ∙ same in (
        span_form _ (map value ds, count, refl),
        λ z.
            let r = some_digit ds some in
            let e = independent (map value ds) count z r.0 in
            value_not_zero k (get_or ds r.0 0) (all_at (λ x. x < k.size) ds r.0 low r.1) r.2 (sym (map_at value ds r.0 (scalars k).zero r.1) ∙ e),
      )

  -- each candidate is so
  pub each_candidate : (c : Vect S.field) → In c (all_candidates S.field bs) → IsCandidate c
  unfolding new_numbers
  each_candidate c i = go (in_cases c bs (map (λ N. combined k bs (digits (length bs) k.size N)) (new_numbers k.size (length bs))) i)
    where
      other : In c (map (λ N. combined k bs (digits (length bs) k.size N)) (new_numbers k.size (length bs))) → IsCandidate c
      other j =
          let N = from_map (λ N. combined k bs (digits (length bs) k.size N)) c (new_numbers k.size (length bs)) j in
          let ds = digits (length bs) k.size N.0 in
          let new : is_new ds ≡ true = passed (λ n. is_new (digits (length bs) k.size n)) (range_with_len 0 (k.size ^ length bs)) N.0 N.1 in
          let two = at_least_two (others ds) (both_true (ends_in_one ds) (nat_le 2 (others ds)) new).1 in
          subst IsCandidate N.2 (combined_candidate ds (digits_length k.size (two_values k) (length bs) N.0) (digits_low k.size (two_values k) (length bs) N.0) (omega arith))

      go : In c bs ⊎ In c (map (λ N. combined k bs (digits (length bs) k.size N)) (new_numbers k.size (length bs))) → IsCandidate c
      go (inl j) = (basis.reduced.inside c j, let l = basis.reduced.lead c j in lead_not_zero S c l.0 l.1)
      go (inr j) = other j

  -- as a polynomial over a space in which each variable has the weight 1
  pub candidate_polynomial : S.weights ≡ replicate (length S.weights) 1 → height S.shifts 0 ≡ 0 → (most : ℕ) → d ≤ most → (p : List (Term E (List ℕ))) → IsPoly S (λ m. m) p
      → IsCandidate (vector_of S (λ m. m) p) → IsHomogeneousPoly S most p
  candidate_polynomial ones shift most low p poly h = record {
    polynomial = poly;
    homogeneous = (d, low, form_homogeneous S shift d (vector_of S (λ m. m) p) (subst (λ ws. IsForm k ws d (vector_of S (λ m. m) p)) (sym ones) h.0.form));
  }

pub head_in : {A : Type 0} (seen rest all : List A) (c : A) → seen ++ c ∷ rest ≡ all → In c all
head_in seen rest all c e = subst (In c) e (in_right c seen (c ∷ rest) (inl refl))
