-- What is read of a combination is what was printed, and what was printed is read.
use Rattle.std.proofs.Common.{◌≡◌, ◌≢◌, ◌∙◌, ℕ, suc, ◌⊎◌, inl, inr, true, List, [], ◌∷◌, Option, Some, None, length, map, get_or, refl, sym, ap, ap₂, subst, arith}
use Rattle.std.specs.Prelude.{All, nat_lt, if◌then◌else◌}
use Rattle.std.specs.Ordering.{is_gt}
use Rattle.std.proofs.lemmas.Bool.{eq-eqb, ne_eqb, lt-ltb, ltb-true, le-leb, cases_eq}
use Rattle.std.proofs.lemmas.List.Elements.{All-nil, All-cons, All-head, All-tail}
use Rattle.alg_core.specs.Keys.{TermPlace}
use Rattle.alg_core.specs.Spaces.{SpaceOver, IsTerm as IsTermOf, Fits}
use Rattle.alg_core.specs.Vectors.{Entry, vec}
use Rattle.alg_core.specs.declared.value_kind.ValueKind.TheVariants as kinds
use Rattle.alg_core.proofs.FittingLists.{greater_transitive}
use Rattle.prime_field.specs.PrimeFields.{IsPrimeField}
use Rattle.poly_text.specs.declared.fault.TextFault.{TextFault}
use Rattle.poly_text.specs.declared.fault.TextFault.TheVariants as faults
use Rattle.poly_text.specs.declared.names.Names.{Names}
use Rattle.poly_text.specs.Faults.{IsSyntaxFault}
use Rattle.poly_text.specs.Syntax.{Term, IsText, IsTerm, spelling}
use Rattle.poly_text.specs.Texts.{by_position, combination_term, combination_text}
use Rattle.poly_text.specs.Values.{entry_of, falls, term_conditions, place_conditions, conditions, first_failed, fault_or, first_fault, IsFault, IsReadableTerm}
use Rattle.poly_text.proofs.CombinationReads.{marks, kind, combination_read, mark_printed}
use Rattle.poly_text.proofs.CombinationTerms.{fits_low}
use Rattle.poly_text.proofs.EntrySteps.{both_none, failed-append, greater_from_test}
use Rattle.poly_text.proofs.PositionParts.{IsAfter, Rises, rising_back, by_all, by_unique, by_rises, by_terms, all_back}
use Rattle.poly_text.proofs.PrintedLaws.{pass}
use Rattle.poly_text.proofs.Scans.{text_unique}

module _ (S : SpaceOver ℕ) where
  after_from_test : (e f : Entry ℕ) → falls (kind S) S (Some e.0) f.0 ≡ true → IsAfter S e f
  after_from_test e f test = go (cases_eq e.0.0 f.0.0)
    where
      go : (e.0.0 ≡ f.0.0) ⊎ (e.0.0 ≢ f.0.0) → IsAfter S e f
      go (inl same) =
          inr (same, greater_from_test S _ (sym (ap (λ b. if b then is_gt (S.order.compare e.0 f.0) else nat_lt e.0.0 f.0.0) (eq-eqb e.0.0 f.0.0 same)) ∙ test))
      go (inr other) =
          inl (ltb-true e.0.0 f.0.0 (sym (ap (λ b. if b then is_gt (S.order.compare e.0 f.0) else nat_lt e.0.0 f.0.0) (ne_eqb e.0.0 f.0.0 other)) ∙ test))

  test_from_after : (e f : Entry ℕ) → IsAfter S e f → falls (kind S) S (Some e.0) f.0 ≡ true
  test_from_after e f (inl less) =
      let other : e.0.0 ≢ f.0.0 = λ same. absurd (omega arith) in
      ap (λ b. if b then is_gt (S.order.compare e.0 f.0) else nat_lt e.0.0 f.0.0) (ne_eqb e.0.0 f.0.0 other) ∙ lt-ltb e.0.0 f.0.0 less
  test_from_after e f (inr same) =
      ap (λ b. if b then is_gt (S.order.compare e.0 f.0) else nat_lt e.0.0 f.0.0) (eq-eqb e.0.0 f.0.0 same.0) ∙ ap is_gt same.1

  after_more : (e f g : Entry ℕ) → IsAfter S e f → IsAfter S f g → IsAfter S e g
  after_more e f g (inl a) (inl b) = inl (omega arith)
  after_more e f g (inl a) (inr b) = let is = b.0 in inl (omega arith)
  after_more e f g (inr a) (inl b) = let is = a.0 in inl (omega arith)
  after_more e f g (inr a) (inr b) = inr (a.0 ∙ b.0, greater_transitive S.order e.0 f.0 g.0 a.1 b.1)

  -- terms whose values pass, after a term
  record IsReadFrom (ts : List Term) : Type 0 where
    printed : map (combination_term S.field.characteristic) (map (entry_of (kind S) S (marks S)) ts) ≡ ts
    readable : All (IsReadableTerm S) (map (entry_of (kind S) S (marks S)) ts)
    rises : Rises S (map (entry_of (kind S) S (marks S)) ts)

  read_from : (before : Entry ℕ) (i : ℕ) (ts : List Term) → All IsTerm ts → first_fault (kind S) S (marks S) (Some before.0) i ts ≡ None
      → IsReadFrom ts × All (IsAfter S before) (map (entry_of (kind S) S (marks S)) ts)
  read_from before i [] short passed = (record { printed = refl; readable = All-nil (IsReadableTerm S); rises = tt }, All-nil (IsAfter S before))
  read_from before i (t ∷ ts) short passed =
      let e = entry_of (kind S) S (marks S) t in
      let es = map (entry_of (kind S) S (marks S)) ts in
      let none = both_none i (first_failed (conditions (kind S) S (marks S) (Some before.0) t)) (first_fault (kind S) S (marks S) (Some e.0) (suc i) ts) passed in
      let one = combination_read S (Some before.0) t (All-head IsTerm t ts short) none.0 in
      let rest = read_from e (suc i) ts (All-tail IsTerm t ts short) none.1 in
      let after = after_from_test before e one.2 in (
        record { printed = ap₂ ◌∷◌ one.0 rest.0.printed; readable = All-cons (IsReadableTerm S) e es one.1 rest.0.readable; rises = (rest.1, rest.0.rises) },
        All-cons (IsAfter S before) e es after (λ k d w. after_more before e (get_or es k d) after (rest.1 k d w)),
      )

  read_first : (ts : List Term) → All IsTerm ts → first_fault (kind S) S (marks S) None 1 ts ≡ None → IsReadFrom ts
  read_first [] short passed = record { printed = refl; readable = All-nil (IsReadableTerm S); rises = tt }
  read_first (t ∷ ts) short passed =
      let e = entry_of (kind S) S (marks S) t in
      let none = both_none 1 (first_failed (conditions (kind S) S (marks S) None t)) (first_fault (kind S) S (marks S) (Some e.0) 2 ts) passed in
      let one = combination_read S None t (All-head IsTerm t ts short) none.0 in
      let rest = read_from e 2 ts (All-tail IsTerm t ts short) none.1 in
      record {
        printed = ap₂ ◌∷◌ one.0 rest.0.printed;
        readable = All-cons (IsReadableTerm S) e (map (entry_of (kind S) S (marks S)) ts) one.1 rest.0.readable;
        rises = (rest.1, rest.0.rises);
      }

  -- the combination of a tree whose values pass
  pub combination_by : (ts : List Term) → All IsTerm ts → first_fault (kind S) S (marks S) None 1 ts ≡ None → All (IsTermOf S) (map (entry_of (kind S) S (marks S)) ts)
      → (es : List (Entry ℕ)) → Fits S es → vec S.field es ≡ vec S.field (map (entry_of (kind S) S (marks S)) ts) → by_position (length S.shifts) es ≡ map (entry_of (kind S) S (marks S)) ts
  combination_by ts short passed terms es fits same =
      rising_back S (length S.shifts) es _ fits terms (read_first ts short passed).rises (λ k d w. (terms k d w).place.low) same

  -- the same, where the kind and the names are told by equations
  pub combination_made : (m : Option ℕ) (names : Names) → m ≡ kind S → names ≡ marks S → (ts : List Term) → All IsTerm ts → first_fault m S names None 1 ts ≡ None
      → (made : List (Entry ℕ)) → made ≡ map (entry_of m S names) ts → All (IsTermOf S) made → (es : List (Entry ℕ)) → Fits S es → vec S.field es ≡ vec S.field made
      → by_position (length S.shifts) es ≡ map (entry_of (kind S) S (marks S)) ts
  combination_made m names as_kind as_marks ts short passed made value terms es fits same =
      let is : made ≡ map (entry_of (kind S) S (marks S)) ts = value ∙ ap₂ (λ a b. map (entry_of a S b) ts) as_kind as_marks in
      combination_by ts short (sym (ap₂ (λ a b. first_fault a S b None 1 ts) as_kind as_marks) ∙ passed) (subst (All (IsTermOf S)) is terms) es fits (same ∙ ap (vec S.field) is)

  module _ (text : List ℕ) (ts : List Term) (is : IsText ts text) (passed : first_fault (kind S) S (marks S) None 1 ts ≡ None)
      (es : List (Entry ℕ)) (fits : Fits S es) (by : by_position (length S.shifts) es ≡ map (entry_of (kind S) S (marks S)) ts) where
    pub read_printed : combination_text S es ≡ text
    read_printed = ap (λ l. spelling (map (combination_term S.field.characteristic) l)) by ∙ ap spelling (read_first ts is.terms passed).printed ∙ is.spelled

    pub read_readable : All (IsReadableTerm S) es
    read_readable = all_back S (IsReadableTerm S) (length S.shifts) es (fits_low S es fits) (subst (All (IsReadableTerm S)) (sym by) (read_first ts is.terms passed).readable)

  -- what is printed
  abbrev Follows : Option TermPlace → List (Entry ℕ) → Type 0
  Follows before [] = Unit {0}
  Follows before (e ∷ es) = falls (kind S) S before e.0 ≡ true

  after_follows : (e : Entry ℕ) (es : List (Entry ℕ)) → All (IsAfter S e) es → Follows (Some e.0) es
  after_follows e [] after = tt
  after_follows e (f ∷ es) after = test_from_after e f (All-head (IsAfter S e) f es after)

  printed_from : (p : ℕ) (before : Option TermPlace) (i : ℕ) (es : List (Entry ℕ)) → IsPrimeField p S.field → All (IsTermOf S) es → All (IsReadableTerm S) es → Rises S es → Follows before es
      → (map (entry_of (kind S) S (marks S)) (map (combination_term S.field.characteristic) es) ≡ es)
      × (first_fault (kind S) S (marks S) before i (map (combination_term S.field.characteristic) es) ≡ None) × All IsTerm (map (combination_term S.field.characteristic) es)
  printed_from p before i [] prime terms readable rises follows = (refl, refl, All-nil IsTerm)
  printed_from p before i (e ∷ es) prime terms readable rises follows =
      let q = S.field.characteristic in
      let t = combination_term q e in
      let here = All-head (IsReadableTerm S) e es readable in
      let one = mark_printed S p e prime (All-head (IsTermOf S) e es terms) here in
      let rest = printed_from p (Some e.0) (suc i) es prime (All-tail (IsTermOf S) e es terms) (All-tail (IsReadableTerm S) e es readable) rises.1 (after_follows e es rises.0) in
      let placed : first_failed (place_conditions (kind S) S before e.0) ≡ None = pass _ kinds.Degree ((falls (kind S) S before e.0, kinds.Order) ∷ []) (le-leb _ _ here.degree) (pass (falls (kind S) S before e.0) kinds.Order [] follows refl) in
      let passed : first_failed (conditions (kind S) S (marks S) before t) ≡ None =
      failed-append (term_conditions (kind S) q (marks S) t) (place_conditions (kind S) S before (entry_of (kind S) S (marks S) t).0) one.passing
      ∙ ap (λ (x : Entry ℕ). first_failed (place_conditions (kind S) S before x.0)) one.same ∙ placed in (
        ap₂ ◌∷◌ one.same rest.0,
        ap (λ f. fault_or i f (first_fault (kind S) S (marks S) (Some (entry_of (kind S) S (marks S) t).0) (suc i) (map (combination_term q) es))) passed
            ∙ ap (λ (x : Entry ℕ). first_fault (kind S) S (marks S) (Some x.0) (suc i) (map (combination_term q) es)) one.same ∙ rest.1,
        All-cons IsTerm t (map (combination_term q) es) one.short rest.2,
      )

  module _ (p : ℕ) (prime : IsPrimeField p S.field) (text : List ℕ) (es : List (Entry ℕ)) (fits : Fits S es) (readable : All (IsReadableTerm S) es) (printed : combination_text S es ≡ text) where
    abbrev sorted : List (Entry ℕ)
    sorted = by_position (length S.shifts) es

    abbrev values : (map (entry_of (kind S) S (marks S)) (map (combination_term S.field.characteristic) (by_position (length S.shifts) es)) ≡ by_position (length S.shifts) es)
        × (first_fault (kind S) S (marks S) None 1 (map (combination_term S.field.characteristic) (by_position (length S.shifts) es)) ≡ None) × All IsTerm (map (combination_term S.field.characteristic) (by_position (length S.shifts) es))
    values = printed_from p None 1 sorted prime (by_terms S (length S.shifts) es fits) (λ k d w. (by_all S (IsReadableTerm S) (length S.shifts) es readable k d w).0) (by_rises S (length S.shifts) es fits) (first sorted)
      where
        first : (fs : List (Entry ℕ)) → Follows None fs
        first [] = tt
        first (f ∷ fs) = refl

    tree_text : IsText (map (combination_term S.field.characteristic) (by_position (length S.shifts) es)) text
    tree_text = record { terms = values.2; spelled = printed }

    -- it is no syntax fault
    pub every_scanned : (e : TextFault) → IsSyntaxFault text e → e ≡ faults.Memory
    every_scanned (faults.Syntax n) h = absurd (h.none _ tree_text)
    every_scanned (faults.Value term which) h = absurd h
    every_scanned faults.Memory h = refl

    module _ (ts : List Term) (is : IsText ts text) where
      same : ts ≡ map (combination_term S.field.characteristic) (by_position (length S.shifts) es)
      same = text_unique text ts _ is tree_text

      -- no value fault
      pub every_valued : (e : TextFault) → IsFault e (first_fault (kind S) S (marks S) None 1 ts) → e ≡ faults.Memory
      every_valued e h = go e (subst (IsFault e) (ap (first_fault (kind S) S (marks S) None 1) same ∙ values.1) h)
        where
          go : (e : TextFault) → IsFault e None → e ≡ faults.Memory
          go (faults.Syntax n) h = absurd h
          go (faults.Value term which) h = absurd cc
          go faults.Memory h = refl

      -- and the entries are read
      pub every_read : (fs : List (Entry ℕ)) → Fits S fs → by_position (length S.shifts) fs ≡ map (entry_of (kind S) S (marks S)) ts → fs ≡ es
      every_read fs fits' by =
          by_unique S (length S.shifts) fs es fits' fits (fits_low S fs fits') (fits_low S es fits) (by ∙ ap (map (entry_of (kind S) S (marks S))) same ∙ values.0)
