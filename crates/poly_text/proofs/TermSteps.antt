-- The loop over the terms of a tree.
use Rattle.std.proofs.Common.{◌≡◌, ◌∙◌, ℕ, suc, ◌+◌, ◌<◌, ◌≤◌, List, [], ◌∷◌, ◌++◌, Option, Some, None, length, map, get_or, take, drop, refl, sym, ap, ap₂, subst, arith}
use Rattle.std.specs.Prelude.{All}
use Rattle.std.proofs.lemmas.List.{get_or-map, length-map, map_more, drop_more, drop_all, take_all, map-append, length-take-le}
use Rattle.std.proofs.lemmas.List.Elements.{All-nil, All-cons, All-append}
use Rattle.alg_core.specs.Fields.{Has}
use Rattle.alg_core.specs.Keys.{TermPlace}
use Rattle.alg_core.specs.Spaces.{SpaceOver, IsPlace, IsTerm as IsTermOf, Fits, entry, entries}
use Rattle.alg_core.specs.Vectors.{Entry}
use Rattle.alg_core.specs.declared.term.Term.{Term as CodeTerm}
use Rattle.alg_core.specs.declared.value_kind.ValueKind.{ValueKind}
use Rattle.poly_text.specs.declared.fault.TextFault.{TextFault}
use Rattle.poly_text.specs.declared.fault.TextFault.TheVariants as faults
use Rattle.poly_text.specs.declared.names.Names.{Names}
use Rattle.poly_text.specs.declared.syntax.TermText.{TermText}
use Rattle.poly_text.specs.Syntax.{Term}
use Rattle.poly_text.specs.Trees.{term_of, terms_of}
use Rattle.poly_text.specs.Values.{entry_of, first_failed, fault_or, first_fault, conditions, last_place, IsFault}
use Rattle.poly_text.proofs.EntrySteps.{last_push}

-- a term without a fault
pub no_fault : (n : ℕ) (f : Option ValueKind) → fault_or n f None ≡ None → f ≡ None
no_fault n None h = refl
no_fault n (Some k) h = absurd cc

-- the fault of a term is that of the tree
pub fault_here : (e : TextFault) (n : ℕ) (f : Option ValueKind) (rest : Option (ℕ × ValueKind)) → IsFault e (fault_or n f None) → IsFault e (fault_or n f rest)
fault_here e n (Some k) rest h = h
fault_here (faults.Syntax i) n None rest h = absurd h
fault_here (faults.Value i kind) n None rest h = absurd cc
fault_here faults.Memory n None rest h = tt

-- what holds of each term
pub given_term : (P : Term → Type 0) (xs : List TermText) (i : ℕ) (x : TermText) → i < length xs → x ≡ get_or xs i x → All P (terms_of xs) → P (term_of x)
given_term P xs i x below is all =
    subst P (get_or-map term_of xs i x (term_of x) below ∙ ap term_of (sym is)) (all i (term_of x) (subst (λ n. i < n) (sym (length-map xs term_of)) below))

module _ (m : Option ℕ) (S : SpaceOver ℕ) (names : Names) where
  -- the faults from the next term on
  pub fault_step : (before : Option TermPlace) (n : ℕ) (xs : List TermText) (i : ℕ) (x : TermText) → i < length xs → x ≡ get_or xs i x
      → first_fault m S names before n (terms_of (drop i xs)) ≡ fault_or n (first_failed (conditions m S names before (term_of x))) (first_fault m S names (Some (entry_of m S names (term_of x)).0) (suc n) (terms_of (drop (i + 1) xs)))
  fault_step before n xs i x below is =
      ap (λ l. first_fault m S names before n (terms_of l)) (drop_more xs i x below ∙ ap (λ y. y ∷ drop (i + 1) xs) (sym is))

  -- what the loop knows after i terms
  pub record Reads (xs : List TermText) (i : ℕ) (es : List (Entry ℕ)) : Type 0 where
    pub terms : All (IsTermOf S) es
    pub read : es ≡ map (entry_of m S names) (terms_of (take i xs))
    pub rest : first_fault m S names None 1 (terms_of xs) ≡ first_fault m S names (last_place es) (i + 1) (terms_of (drop i xs))

  pub reads_more : (xs : List TermText) (i : ℕ) (x : TermText) (es : List (Entry ℕ)) (e : Entry ℕ) (n : ℕ) → i < length xs → x ≡ get_or xs i x → Reads xs i es
      → fault_or (n + 1) (first_failed (conditions m S names (last_place es) (term_of x))) None ≡ None → e ≡ entry_of m S names (term_of x) → IsTermOf S e → Reads xs (i + 1) (es ++ (e ∷ []))
  reads_more xs i x es e n below is before passed value term =
      let none = no_fault _ _ passed in
      let next : suc (i + 1) ≡ i + 1 + 1 = omega arith in
      let more : map (entry_of m S names) (terms_of (take (i + 1) xs)) ≡ map (entry_of m S names) (terms_of (take i xs)) ++ (entry_of m S names (term_of x) ∷ []) =
      ap (λ l. map (entry_of m S names) l) (map_more term_of xs i x below ∙ ap (λ y. terms_of (take i xs) ++ (term_of y ∷ [])) (sym is))
      ∙ map-append (entry_of m S names) (terms_of (take i xs)) (term_of x ∷ []) in
      record {
        terms = All-append (IsTermOf S) es (e ∷ []) before.terms (All-cons (IsTermOf S) e [] term (All-nil (IsTermOf S)));
        read = ap₂ (λ l y. l ++ (y ∷ [])) before.read value ∙ sym more;
        rest = before.rest ∙ fault_step (last_place es) (i + 1) xs i x below is
            ∙ ap (λ f. fault_or (i + 1) f (first_fault m S names (Some (entry_of m S names (term_of x)).0) (suc (i + 1)) (terms_of (drop (i + 1) xs)))) none
            ∙ ap₂ (λ b n. first_fault m S names b n (terms_of (drop (i + 1) xs))) (sym (last_push S None es e ∙ ap (λ y. Some y.0) value)) next;
      }

  pub reads_fault : (xs : List TermText) (i : ℕ) (x : TermText) (es : List (Entry ℕ)) (e : TextFault) (n : ℕ) → i < length xs → x ≡ get_or xs i x → Reads xs i es → n ≡ i
      → IsFault e (fault_or (n + 1) (first_failed (conditions m S names (last_place es) (term_of x))) None) → IsFault e (first_fault m S names None 1 (terms_of xs))
  reads_fault xs i x es e n below is before same failed =
      let here = fault_here e (i + 1) (first_failed (conditions m S names (last_place es) (term_of x))) (first_fault m S names (Some (entry_of m S names (term_of x)).0) (suc (i + 1)) (terms_of (drop (i + 1) xs)))
      (subst (λ k. IsFault e (fault_or (k + 1) (first_failed (conditions m S names (last_place es) (term_of x))) None)) same failed) in
      subst (IsFault e) (sym (before.rest ∙ fault_step (last_place es) (i + 1) xs i x below is)) here

  -- as many entries as terms
  pub reads_count : (xs : List TermText) (i : ℕ) (ts : List (CodeTerm ℕ (List ℕ))) → i ≤ length xs → Reads xs i (entries (λ m. m) ts) → length ts ≡ i
  reads_count xs i ts within before =
      sym (length-map ts (entry (λ (m : List ℕ). m))) ∙ ap length before.read ∙ length-map (terms_of (take i xs)) (entry_of m S names) ∙ length-map (take i xs) term_of ∙ length-take-le i xs within

  -- after all terms
  pub reads_all : (xs : List TermText) (i : ℕ) (es : List (Entry ℕ)) → length xs ≤ i → Reads xs i es → (first_fault m S names None 1 (terms_of xs) ≡ None) × (es ≡ map (entry_of m S names) (terms_of xs))
  reads_all xs i es all before =
      (before.rest ∙ ap (λ l. first_fault m S names (last_place es) (i + 1) (terms_of l)) (drop_all i xs all), before.read ∙ ap (λ l. map (entry_of m S names) (terms_of l)) (take_all i xs all))

pub positions_zero : (S : SpaceOver ℕ) (names : Names) (ts : List Term) → All (λ (e : Entry ℕ). e.0.0 ≡ 0) (map (entry_of None S names) ts)
positions_zero S names [] = All-nil _
positions_zero S names (t ∷ ts) = All-cons (λ (e : Entry ℕ). e.0.0 ≡ 0) _ _ refl (positions_zero S names ts)

-- the terms of a list that fits
pub fits_given : (S : SpaceOver ℕ) (es : List (Entry ℕ)) → Fits S es → All (λ e. Has S.field e.1 × IsPlace S e.0) es
fits_given S [] h = All-nil _
fits_given S (e ∷ es) h = All-cons (λ (e : Entry ℕ). Has S.field e.1 × IsPlace S e.0) e es (h.0.has, h.0.place) (fits_given S es h.2)
