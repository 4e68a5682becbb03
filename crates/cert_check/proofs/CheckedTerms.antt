-- The limit on the monomials of the degrees of the secondary invariants, as a check looks at it.
use Rattle.std.proofs.Common.{◌≡◌, ◌∙◌, ◌⊎◌, ℕ, ◌+◌, ◌<◌, ◌≤◌, List, length, get_or, inl, inr, sym, ap, subst, arith}
use Rattle.std.specs.Prelude.{Some, slice_get}
use Rattle.std.proofs.lemmas.Bool.{cases_lt}
use Rattle.std.proofs.lemmas.Option.{slice_get-get_or}
use Rattle.alg_core.specs.Binomials.{monomials_of_degree}
use Rattle.alg_core.specs.Spaces.{SpaceOver}
use Rattle.alg_core.specs.declared.limits.Limits.{Limits}
use Rattle.alg_core.specs.declared.term.Term.{Term}
use Rattle.lin_algebra.specs.declared.matrix.Matrix.{Matrix}
use Rattle.secondary_gens.specs.Forms.{degree_of}
use Rattle.certificate_io.specs.Certificates.{CertificateOf}
use Rattle.cert_check.specs.Conditions.{Redundance}
use Rattle.cert_check.specs.Endings.{IsGiven, IsTold}
use Rattle.cert_check.specs.Parts.{size}
use Rattle.cert_check.specs.Work.{Reached, IsPast, IsFirstPast, degree_count}
use Rattle.cert_check.specs.declared.ending.Ending.TheVariants.{TermBound}
use Rattle.cert_check.proofs.GivenParts.{given_well}
use Rattle.cert_check.proofs.MadePlaces.{place_within, same_some}
use Rattle.cert_check.proofs.WorkSteps.{terms_passed}

abbrev Terms : Type 0
Terms = List (Term ℕ (List ℕ))

module _ (c : CertificateOf ℕ) (m : ℕ) where
  -- none of the first so many
  abbrev pub NonePast : ℕ → Type 0
  NonePast i = (j : ℕ) → j < i → ¬ IsPast c m j

  pub none_yet : NonePast 0
  none_yet j h p = omega (arith, h)

  module _ (i : ℕ) (p : Terms) (within : i < length c.secondaries) (read : p ≡ get_or c.secondaries i p) (d count : ℕ) (degree : d ≡ degree_of p)
      (counted : count ≡ monomials_of_degree (size c) d) where
    there : slice_get c.secondaries i ≡ Some p
    there = slice_get-get_or c.secondaries i p within ∙ ap Some (sym read)

    count-is : count ≡ degree_count c p
    count-is = counted ∙ ap (monomials_of_degree (size c)) degree

    pub one_more_kept : ¬ (m < count) → NonePast i → NonePast (i + 1)
    one_more_kept kept before j h p = go (cases_lt j i)
      where
        go : (j < i) ⊎ (i ≤ j) → ⊥
        go (inl b) = before j b p
        go (inr b) =
            let place : j ≡ i = omega (arith, h, b) in
            let same : p.polynomial ≡ _ = same_some _ _ (sym p.member ∙ ap (slice_get c.secondaries) place ∙ there) in
            kept (subst (λ n. m < n) (ap (degree_count c) same ∙ sym count-is) p.past)

    pub first_past_here : m < count → NonePast i → IsFirstPast c m d
    first_past_here past before = record {
      place = i;
      past = record { polynomial = p; member = there; past = subst (λ n. m < n) count-is past };
      degree = degree;
      first = λ j h. least j h (cases_lt j i);
    }
      where
        least : (j : ℕ) → IsPast c m j → (j < i) ⊎ (i ≤ j) → i ≤ j
        least j h (inl b) = absurd (before j b h)
        least j h (inr b) = b

  pub none_past : (i : ℕ) → length c.secondaries ≤ i → NonePast i → (j : ℕ) → ¬ IsPast c m j
  none_past i h before j p = before j (let w = place_within c.secondaries j p.polynomial p.member in omega (arith, h, w)) p

module _ (S : SpaceOver ℕ) (gens : List (Matrix ℕ)) (c : CertificateOf ℕ) (l : Limits) (given : IsGiven S gens c) (reached : Reached S.field gens c l (Redundance, 0)) where
  pub terms_hold : ((j : ℕ) → ¬ IsPast c l.max_terms j) → Reached S.field gens c l (Redundance, 1)
  terms_hold kept = terms_passed S.field gens c l reached kept (λ f at. let e = at.1 in absurd (omega (arith, e)))

  pub terms_told : (d count : ℕ) → IsFirstPast c l.max_terms d → count ≡ monomials_of_degree (size c) d → IsTold c l (TermBound d count)
  terms_told d count first counted = record {
    stop = record { field = S.field; matrices = gens; well_formed = given_well S gens c given; stops = record { met = reached.met; kept = reached.kept; exceeded = (d, first) } };
    first = first;
    count = counted;
  }
