-- Steps of looking for a place in a list of falling terms by halves.
use Rattle.std.proofs.Common.{◌≡◌, ◌<◌, ◌≤◌, ◌+◌, ◌-◌, ◌/◌, ℕ, zero, suc, List, [], ◌∷◌, length, get_or, inl, inr, refl, sym, ap, subst, ◌∙◌, arith}
use Rattle.std.specs.Prelude.{◌⊎◌}
use Rattle.std.specs.declared.cmp.Ordering.TheVariants.{Less, Equal, Greater}
use Rattle.std.proofs.lemmas.Bool.{cases_lt}
use Rattle.std.proofs.lemmas.Cmp.{tied_itself}
use Rattle.alg_core.specs.Fields.{scalars}
use Rattle.alg_core.specs.Keys.{TermPlace, key}
use Rattle.alg_core.specs.Vectors.{Entry, coef_at}
use Rattle.alg_core.specs.declared.term.Term.{Term}
use Rattle.alg_core.specs.Spaces.{SpaceOver, IsPlace, IsAbove, Fits, entry, entries}
use Rattle.alg_core.proofs.FittingLists.{less_turned, greater_transitive}
use Rattle.poly_module.specs.SpaceVectors.{vector_of, IsVector}
use Rattle.poly_module.proofs.EntryCoefficients.{NotAt, no_entry}
use Rattle.poly_module.proofs.LookupSteps.{entry_index, length_entries}

module _ {E : Type 0} (S : SpaceOver E) (p : TermPlace) where
  -- each entry before a place is greater than p, and each from a place on is smaller
  abbrev pub Before : List (Entry E) → ℕ → Type 0
  Before es low = (i : ℕ) (d : Entry E) → i < low → i < length es → S.order.compare (get_or es i d).0 p ≡ Greater

  abbrev pub After : List (Entry E) → ℕ → Type 0
  After es high = (i : ℕ) (d : Entry E) → high ≤ i → i < length es → S.order.compare p (get_or es i d).0 ≡ Greater

  pub none_before : (es : List (Entry E)) → Before es 0
  none_before es i d below inside = absurd (omega arith)

  pub none_after : (es : List (Entry E)) (high : ℕ) → length es ≤ high → After es high
  none_after es high all i d from inside = absurd (omega arith)

  above-at : (q : TermPlace) (es : List (Entry E)) (i : ℕ) (d : Entry E) → i < length es → IsAbove S q es → S.order.compare q (get_or es i d).0 ≡ Greater
  above-at q [] i d inside a = absurd (omega arith)
  above-at q (e ∷ es) zero d inside a = a.0
  above-at q (e ∷ es) (suc i) d inside a = above-at q es i d (omega arith) a.1

  -- of two entries the earlier one is greater
  falling : (es : List (Entry E)) (i j : ℕ) (d : Entry E) → i < j → j < length es → Fits S es → S.order.compare (get_or es i d).0 (get_or es j d).0 ≡ Greater
  falling [] i j d below inside f = absurd (omega arith)
  falling (e ∷ es) zero zero d below inside f = absurd (omega arith)
  falling (e ∷ es) zero (suc j) d below inside f = above-at e.0 es j d (omega arith) f.1
  falling (e ∷ es) (suc i) zero d below inside f = absurd (omega arith)
  falling (e ∷ es) (suc i) (suc j) d below inside f = falling es i j d (omega arith) (omega arith) f.2

  same-read : (es : List (Entry E)) (i : ℕ) (c d : Entry E) → i < length es → get_or es i c ≡ get_or es i d
  same-read [] i c d inside = absurd (omega arith)
  same-read (e ∷ es) zero c d inside = refl
  same-read (e ∷ es) (suc i) c d inside = same-read es i c d (omega arith)

  -- where the entry at a place is greater, all up to it are; where it is smaller, all from it on
  pub more_before : (es : List (Entry E)) (m : ℕ) (e : Entry E) → m < length es → get_or es m e ≡ e → Fits S es → S.order.compare e.0 p ≡ Greater → Before es (m + 1)
  more_before es m e inside is f over i d below within = go (cases_lt i m)
    where
      at : get_or es m d ≡ e
      at = same-read es m d e inside ∙ is

      go : (i < m) ⊎ (m ≤ i) → S.order.compare (get_or es i d).0 p ≡ Greater
      go (inl l) = greater_transitive S.order (get_or es i d).0 e.0 p (subst (λ (x : Entry E). S.order.compare (get_or es i d).0 x.0 ≡ Greater) at (falling es i m d l inside f)) over
      go (inr l) = let same : m ≡ i = omega arith in subst (λ (x : Entry E). S.order.compare x.0 p ≡ Greater) (sym at ∙ ap (λ (j : ℕ). get_or es j d) same) over

  pub more_after : (es : List (Entry E)) (m : ℕ) (e : Entry E) → m < length es → get_or es m e ≡ e → Fits S es → S.order.compare e.0 p ≡ Less → After es m
  more_after es m e inside is f under i d from within = go (cases_lt m i)
    where
      at : get_or es m d ≡ e
      at = same-read es m d e inside ∙ is

      over : S.order.compare p e.0 ≡ Greater
      over = less_turned S.order e.0 p under

      go : (m < i) ⊎ (i ≤ m) → S.order.compare p (get_or es i d).0 ≡ Greater
      go (inl l) = greater_transitive S.order p e.0 (get_or es i d).0 over (subst (λ (x : Entry E). S.order.compare x.0 (get_or es i d).0 ≡ Greater) at (falling es m i d l within f))
      go (inr l) = let same : m ≡ i = omega arith in subst (λ (x : Entry E). S.order.compare p x.0 ≡ Greater) (sym at ∙ ap (λ (j : ℕ). get_or es j d) same) over

  apart : (q r : TermPlace) → S.order.compare q r ≡ Greater → ¬ (q ≡ r)
  apart q r g same =
      let equal : S.order.compare q r ≡ Equal = subst (λ (x : TermPlace). S.order.compare q x ≡ Equal) same (tied_itself S.order.total q) in
      let clash : Greater ≡ Equal = sym g ∙ equal in
      absurd cc

  all-other : (es : List (Entry E)) → ((i : ℕ) (d : Entry E) → i < length es → ¬ ((get_or es i d).0 ≡ p)) → NotAt S p es
  all-other [] other = tt
  all-other (e ∷ es) other = (other 0 e (omega arith), all-other es (λ i d inside. other (suc i) d (omega arith)))

  -- where no place is left between, p is the place of no entry
  pub nowhere : (es : List (Entry E)) (low high : ℕ) → high ≤ low → Before es low → After es high → NotAt S p es
  nowhere es low high all before after = all-other es (λ i d inside. go i d inside (cases_lt i low))
    where
      go : (i : ℕ) (d : Entry E) → i < length es → (i < low) ⊎ (low ≤ i) → ¬ ((get_or es i d).0 ≡ p)
      go i d inside (inl l) = apart (get_or es i d).0 p (before i d l inside)
      go i d inside (inr l) = λ same. apart p (get_or es i d).0 (after i d (omega arith) inside) (sym same)

-- the same of a list of terms
module _ {E M : Type 0} (S : SpaceOver E) (exps : M → List ℕ) (p : TermPlace) (xs a : List (Term E M)) (same : xs ≡ a) (vector : IsVector S exps a) where
  fits : Fits S (entries exps xs)
  fits = subst (IsVector S exps) (sym same) vector

  within : (i : ℕ) → i < length xs → i < length (entries exps xs)
  within i below = let n = length_entries S exps xs in omega arith

  pub begins : After S p (entries exps xs) (length xs)
  begins = none_after S p (entries exps xs) (length xs) (let n = length_entries S exps xs in omega arith)

  module _ (m : ℕ) (x : Term E M) (below : m < length xs) (read : x ≡ get_or xs m x) where
    here : get_or (entries exps xs) m (entry exps x) ≡ entry exps x
    here = entry_index S exps xs m x (entry exps x) below read

    pub rises : S.order.compare (entry exps x).0 p ≡ Greater → Before S p (entries exps xs) (m + 1)
    rises = more_before S p (entries exps xs) m (entry exps x) (within m below) here fits

    pub sinks : S.order.compare (entry exps x).0 p ≡ Less → After S p (entries exps xs) m
    sinks = more_after S p (entries exps xs) m (entry exps x) (within m below) here fits

  pub no_value : (low high : ℕ) → high ≤ low → IsPlace S p → Before S p (entries exps xs) low → After S p (entries exps xs) high → coef_at S.field (vector_of S exps a) (key p) ≡ (scalars S.field).zero
  no_value low high all place before after =
      no_entry S (entries exps a) p place vector (subst (λ (l : List (Term E M)). NotAt S p (entries exps l)) same (nowhere S p (entries exps xs) low high all before after))

-- the middle of a part that is not empty
pub middle_below : (low high : ℕ) → low < high → low + (high - low) / 2 < high
middle_below low high h = omega arith
