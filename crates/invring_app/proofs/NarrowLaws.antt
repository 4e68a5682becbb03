-- Terms in the first variables alone: without the exponents past them, which are 0, the vector stays.
use Rattle.std.proofs.Common.{◌≡◌, ◌∙◌, ◌+◌, ◌<◌, ◌≤◌, ℕ, zero, suc, List, [], ◌∷◌, ◌++◌, length, take, get_or, inl, inr, refl, sym, ap, ap₂, subst, arith}
use Rattle.std.specs.Prelude.{◌⊎◌, All}
use Rattle.std.proofs.lemmas.List.{map-append, take_more}
use Rattle.std.proofs.lemmas.List.Elements.{All-append, All-cons, All-nil}
use Rattle.alg_core.specs.Fields.{Has}
use Rattle.alg_core.specs.Keys.{key}
use Rattle.alg_core.specs.Lists.{In, map_in}
use Rattle.alg_core.specs.Monomials.{exponent, mono, mono_ext, exponent_mono}
use Rattle.alg_core.specs.Spaces.{SpaceOver, IsPlace, entry, entries}
use Rattle.alg_core.specs.Vectors.{Entry, plus}
use Rattle.alg_core.specs.declared.term.Term.{Term}
use Rattle.alg_core.proofs.MonomialLists.{exponent_past}
use Rattle.poly_module.proofs.ConstantSteps.{polynomial_place}
use Rattle.poly_module.specs.SpaceVectors.{HasPolynomials, IsVectorOf, IsPolyOf, vector_of}
use Rattle.poly_module.proofs.ExponentBounds.{vec_supp}
use Rattle.poly_module.proofs.SpaceVectorLaws.{poly_given}
use Rattle.module_groebner.proofs.Families.{all_in, in_get}
use Rattle.primary_module.specs.WiderTerms.{IsWiderTerm}
use Rattle.invring_app.specs.NarrowTerms.{AreNarrow}
use Rattle.primary_module.proofs.WiderLaws.{AreWider, one_entry, more}

exponent_take : (n : ℕ) (a : List ℕ) (i : ℕ) → i < n → exponent (take n a) i ≡ exponent a i
exponent_take zero a i h = absurd (omega arith)
exponent_take (suc n) [] i h = refl
exponent_take (suc n) (x ∷ a) zero h = refl
exponent_take (suc n) (x ∷ a) (suc i) h = exponent_take n a i (omega arith)

short_take : (n : ℕ) (a : List ℕ) (i : ℕ) → n ≤ i → exponent (take n a) i ≡ 0
short_take zero a i h = refl
short_take (suc n) [] i h = refl
short_take (suc n) (x ∷ a) zero h = absurd (omega arith)
short_take (suc n) (x ∷ a) (suc i) h = short_take n a i (omega arith)

pub take_count : (n : ℕ) (a : List ℕ) → n ≤ length a → length (take n a) ≡ n
take_count zero a h = refl
take_count (suc n) [] h = absurd (omega arith)
take_count (suc n) (x ∷ a) h = ap suc (take_count n a (omega arith))

pub front_length : (i n : ℕ) (a es : List ℕ) → i ≡ n → es ≡ take i a → es ≡ take n a
front_length i n a es e h = h ∙ ap (λ m. take m a) e

-- the front of the exponents, where the others are 0
pub mono_front : (n : ℕ) (a : List ℕ) → length (mono a).0 ≤ n → mono (take n a) ≡ mono a
mono_front n a h = mono_ext (take n a) a (λ i. at i (split n i))
  where
    split : (n i : ℕ) → (i < n) ⊎ (n ≤ i)
    split zero i = inr (omega arith)
    split (suc n) zero = inl (omega arith)
    split (suc n) (suc i) = more (split n i)
      where
        more : (i < n) ⊎ (n ≤ i) → (suc i < suc n) ⊎ (suc n ≤ suc i)
        more (inl l) = inl (omega arith)
        more (inr l) = inr (omega arith)

    at : (i : ℕ) → (i < n) ⊎ (n ≤ i) → exponent (take n a) i ≡ exponent a i
    at i (inl l) = exponent_take n a i l
    at i (inr l) = short_take n a i l ∙ sym (sym (exponent_mono a i) ∙ exponent_past (mono a).0 i (omega arith))

module _ {E : Type 0} (S : SpaceOver E) (polynomials : HasPolynomials S) where
  abbrev es : List (Term E (List ℕ)) → List (Entry E)
  es ts = entries (λ m. m) ts

  abbrev P : Entry E → Type 0
  P e = Has S.field e.1 × IsPlace S e.0

  abbrev n : ℕ
  n = length S.weights

  -- what is known of one of the terms
  module _ (ts : List (Term E (List ℕ))) (given : AreNarrow S.field (length S.weights) ts) (i : ℕ) (t : Term E (List ℕ)) (below : i < length ts) (read : t ≡ get_or ts i t) where
    inside : In (entry (λ m. m) t) (es ts)
    inside = map_in (entry (λ m. m)) t ts (subst (λ x. In x ts) (sym read) (in_get t ts i below))

    has_value : Has S.field t.coef
    has_value = all_in (λ e. Has S.field e.1) (es ts) given.values (entry (λ m. m) t) inside

    pub is_long : length S.weights ≤ length t.at.mono
    is_long = all_in (λ e. length S.weights ≤ length e.0.1) (es ts) given.long (entry (λ m. m) t) inside

    pub is_unmarked : length (mono t.at.mono).0 ≤ length S.weights
    is_unmarked = all_in (λ e. length (mono e.0.1).0 ≤ length S.weights) (es ts) given.unmarked (entry (λ m. m) t) inside

    has_position : t.at.pos ≡ 0
    has_position = all_in (λ e. e.0.0 ≡ 0) (es ts) given.position (entry (λ m. m) t) inside

    -- the front of the terms, and one more
    pub narrower_more : (us now : List (Term E (List ℕ))) (u : Term E (List ℕ)) → IsWiderTerm (length S.weights) t u → now ≡ us ++ u ∷ [] → AreWider S (take i ts) us → AreWider S (take (i + 1) ts) now
    narrower_more us now u h pushed a =
        subst (AreWider S (take (i + 1) ts)) (sym pushed)
        (subst (λ l. AreWider S l (us ++ u ∷ [])) (sym (take_more ts i t below ∙ ap (λ x. take i ts ++ x ∷ []) (sym read))) (record {
          placed = subst (All P) (sym (map-append (entry (λ m. m)) us (u ∷ [])))
              (All-append P (es us) (es (u ∷ [])) a.placed (All-cons P (entry (λ m. m) u) [] (subst (Has S.field) (sym h.coefficient) has_value, place) (All-nil P)));
          same = more S us u ∙ ap₂ (plus S.field) a.same (one_entry S (length S.weights) t u h) ∙ sym (more S (take i ts) t);
        }))
      where
        place : IsPlace S (entry (λ m. m) u).0
        place = subst (λ j. IsPlace S (j, u.at.mono)) (sym (h.position ∙ has_position)) (polynomial_place S polynomials u.at.mono h.wide)

  -- the polynomial that they make
  pub narrower_poly : (ts us : List (Term E (List ℕ))) (p : List (Term E (List ℕ))) → AreNarrow S.field (length S.weights) ts → AreWider S ts us
      → IsVectorOf S (λ m. m) (vector_of S (λ m. m) us) p → IsPolyOf S (λ m. m) (vector_of S (λ m. m) ts) p
  unfolding key
  narrower_poly ts us p given a made =
      poly_given S (λ m. m) (vector_of S (λ m. m) ts) p (subst (λ v. IsVectorOf S (λ m. m) v p) a.same made)
      (vec_supp S.field (λ t. t.0 ≡ 0) (es ts) given.position)
