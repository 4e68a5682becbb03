-- The loops that look for a lead that is a power of a variable.
use Rattle.std.proofs.Common.{◌≡◌, inl, inr, ◌∙◌, ℕ, zero, suc, ◌+◌, ◌<◌, ◌≤◌, true, false, List, [], ◌∷◌, length, get_or, sym, ap, subst, refl, arith}
use Rattle.std.specs.Prelude.{IsTrue, ◌↔◌}
use native.Mathlib.Decide.{ℕ_discrete, dec_le}
use Rattle.alg_core.specs.Fields.{scalars, is_field}
use Rattle.alg_core.specs.Keys.{Key, TermPlace, key, key_same}
use Rattle.alg_core.specs.Leads.{lead_unique}
use Rattle.alg_core.specs.Lists.{In, map_in}
use Rattle.alg_core.specs.Monomials.{exponent, exponent_mono}
use Rattle.alg_core.specs.SpaceOrder.{key_order}
use Rattle.alg_core.specs.Spaces.{SpaceOver}
use Rattle.alg_core.specs.Vectors.{coef_at, zero_vector}
use Rattle.alg_core.specs.declared.term.Term.{Term}
use Rattle.alg_core.proofs.Members.{from_map}
use Rattle.poly_module.specs.Modules.{LeadBy}
use Rattle.poly_module.specs.SpaceVectors.{IsPoly, vector_of, vectors_of}
use Rattle.poly_module.proofs.SpaceVectorLaws.{is_polynomial}
use Rattle.module_groebner.proofs.CompletionEnds.{lead_not_zero}
use Rattle.module_groebner.proofs.Families.{in_get}
use Rattle.groebner_hom.proofs.SecondParts.{not_true}
use Rattle.groebner_hom.specs.LeadPowers.{IsPowerOf, HasPowerLead}

-- the exponents of a list
pub exponent_read : (a : List ℕ) (j : ℕ) → exponent a j ≡ get_or a j 0
exponent_read [] j = refl
exponent_read (x ∷ a) zero = refl
exponent_read (x ∷ a) (suc j) = exponent_read a j

pub exponent_after : (a : List ℕ) (j : ℕ) → length a ≤ j → exponent a j ≡ 0
exponent_after [] j h = refl
exponent_after (x ∷ a) zero h = absurd (omega arith)
exponent_after (x ∷ a) (suc j) h = exponent_after a j (omega arith)

-- the first exponents are 0 but for that of variable i
abbrev pub PowerBefore : ℕ → List ℕ → ℕ → Type 0
PowerBefore i a j = (q : ℕ) → q < j → ¬ (q ≡ i) → exponent a q ≡ 0

pub power_more : (i j : ℕ) (a : List ℕ) → PowerBefore i a j → (¬ (j ≡ i) → exponent a j ≡ 0) → PowerBefore i a (j + 1)
power_more i j a h here q l n = go (ℕ_discrete q j)
  where
    go : Dec (q ≡ j) → exponent a q ≡ 0
    go (yes e) = ap (exponent a) e ∙ here (λ f. n (e ∙ f))
    go (no m) = h q (omega arith) n

pub power_all : (i j : ℕ) (a : List ℕ) → length a ≤ j → PowerBefore i a j → IsPowerOf i a
power_all i j a past h q n = go (dec_le (suc q) j)
  where
    go : Dec (q < j) → exponent a q ≡ 0
    go (yes l) = h q l n
    go (no m) = exponent_after a q (omega arith)

module _ {E : Type 0} (S : SpaceOver E) (i : ℕ) where
  abbrev Terms : Type 0
  Terms = List (Term E (List ℕ))

  -- the lead of the polynomial is no power of the variable
  abbrev pub NoPower : List (Term E (List ℕ)) → Type 0
  NoPower p = (a : List ℕ) → LeadBy S.field (key_order S) (vector_of S (λ m. m) p) (key (0, a)) → ¬ IsPowerOf i a

  same_powers : (a b : List ℕ) (x y : ℕ) → key (x, a) ≡ key (y, b) → IsPowerOf i a → IsPowerOf i b
  unfolding key
  same_powers a b x y e h j n = sym (exponent_mono b j) ∙ sym (ap (λ (t : Key). exponent t.1.0 j) e) ∙ exponent_mono a j ∙ h j n

  pub other_lead : (p : List (Term E (List ℕ))) (at : TermPlace) → LeadBy S.field (key_order S) (vector_of S (λ m. m) p) (key at) → ¬ IsPowerOf i at.1 → NoPower p
  other_lead p at l n a m h = n (same_powers a at.1 0 at.0 (lead_unique (scalars S.field) (is_field S.field) key_same (key_order S) (vector_of S (λ m. m) p) (key (0, a)) (key at) m l) h)

  pub no_lead : (p : List (Term E (List ℕ))) → vector_of S (λ m. m) p ≡ zero_vector S.field → NoPower p
  no_lead p z a l h = lead_not_zero S (vector_of S (λ m. m) p) (key (0, a)) l z

  pub power_found : (basis : List (List (Term E (List ℕ)))) (j : ℕ) (p : List (Term E (List ℕ))) (at : TermPlace) → j < length basis → p ≡ get_or basis j p → IsPoly S (λ m. m) p
      → LeadBy S.field (key_order S) (vector_of S (λ m. m) p) (key at) → IsPowerOf i at.1 → HasPowerLead S (vectors_of S (λ m. m) basis) i
  unfolding key coef_at
  power_found basis j p at below read poly l h =
      let z : at.0 ≡ 0 = is_polynomial S (λ m. m) p poly (key at) l.there in
      record {
        member = vector_of S (λ m. m) p;
        inside = map_in (vector_of S (λ m. m)) p basis (subst (λ x. In x basis) (sym read) (in_get p basis j below));
        exponents = at.1;
        lead = subst (λ q. LeadBy S.field (key_order S) (vector_of S (λ m. m) p) (key (q, at.1))) z l;
        power = h;
      }

  -- none of the first leads is a power of the variable
  abbrev pub NoneBefore : List (List (Term E (List ℕ))) → ℕ → Type 0
  NoneBefore basis j = (q : ℕ) (p : List (Term E (List ℕ))) → q < j → q < length basis → p ≡ get_or basis q p → NoPower p

  same_at : (d e : Terms) (xs : List Terms) (q : ℕ) → q < length xs → get_or xs q d ≡ get_or xs q e
  same_at d e [] q h = absurd (omega arith)
  same_at d e (x ∷ xs) zero h = refl
  same_at d e (x ∷ xs) (suc q) h = same_at d e xs q (omega arith)

  pub none_more : (basis : List (List (Term E (List ℕ)))) (j : ℕ) (p : List (Term E (List ℕ))) → j < length basis → p ≡ get_or basis j p → NoPower p → NoneBefore basis j → NoneBefore basis (j + 1)
  none_more basis j p below read here before q r l inside at = go (dec_le (suc q) j)
    where
      go : Dec (q < j) → NoPower r
      go (yes m) = before q r m inside at
      go (no m) = let e : q ≡ j = omega arith in subst NoPower (read ∙ same_at p r basis j below ∙ ap (λ x. get_or basis x r) (sym e) ∙ sym at) here

  place_in : (x : Terms) (l : List Terms) → In x l → (j : ℕ) × (j < length l) × (x ≡ get_or l j x)
  place_in x [] i = absurd i
  place_in x (y ∷ l) (inl e) = (0, omega arith, sym e)
  place_in x (y ∷ l) (inr i) = let p = place_in x l i in (suc p.0, let q = p.1 in omega arith, p.2)

  pub none_all : (basis : List (List (Term E (List ℕ)))) (j : ℕ) → length basis ≤ j → NoneBefore basis j → ¬ HasPowerLead S (vectors_of S (λ m. m) basis) i
  none_all basis j past before h =
      let x = from_map (vector_of S (λ m. m)) h.member basis h.inside in
      let p = place_in x.0 basis x.1 in
      before p.0 x.0 (let a = p.1 in omega arith) p.1 p.2 h.exponents (subst (λ v. LeadBy S.field (key_order S) v (key (0, h.exponents))) (sym x.2) h.lead) h.power

-- what the tests answer
pub true_is : (A : Type 0) → A → IsTrue true ↔ A
true_is A a = (λ _. a, λ _. refl)

pub false_is : (A : Type 0) → ¬ A → IsTrue false ↔ A
false_is A n = (λ e. absurd (not_true false refl e), λ a. absurd (n a))
