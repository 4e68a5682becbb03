-- What is read is what was printed, and what was printed is read.
use Rattle.std.proofs.Common.{◌≡◌, ℕ, List, length, map, All, None, IsTrue, Result, Ok, Err, sym, ap, ◌∙◌, refl, subst, arith}
use Rattle.std.specs.Prelude.{replicate}
use Rattle.std.specs.Result.{IsErrAnd}
use Rattle.alg_core.specs.Names.{is_name}
use Rattle.alg_core.specs.Spaces.{SpaceOver, IsPlace, Fits}
use Rattle.alg_core.specs.Vectors.{Entry}
use Rattle.prime_field.specs.PrimeFields.{IsPrimeField}
use Rattle.poly_text.specs.declared.fault.TextFault.{TextFault}
use Rattle.poly_text.specs.declared.fault.TextFault.TheVariants as faults
use Rattle.poly_text.specs.declared.names.Names.{Names}
use Rattle.poly_text.specs.Faults.{IsSyntaxFault, IsRead}
use Rattle.poly_text.specs.Syntax.{Term, IsText, IsTerm, spelling}
use Rattle.poly_text.specs.Texts.{place_count, polynomial_text, term_of}
use Rattle.poly_text.specs.Values.{HasPositions, entry_of, first_fault, IsReadable, AreDistinct, IsFault}
use Rattle.poly_text.proofs.PrintedLaws.{printed_values, values_printed}
use Rattle.poly_text.proofs.Scans.{text_unique}

-- position 0 is that of polynomials
pub polynomial_positions : (S : SpaceOver ℕ) → IsPlace S (0, replicate (length S.weights) 0) → HasPositions None S
polynomial_positions S constants j low =
    let first : 0 ≡ j = omega arith in
    subst (λ i. IsPlace S (i, replicate (length S.weights) 0)) first constants

module _ (S : SpaceOver ℕ) (names : Names) (places : length S.weights ≡ place_count names) (text : List ℕ) where
  module _ (ts : List Term) (is : IsText ts text) (passed : first_fault None S names None 1 ts ≡ None) (es : List (Entry ℕ)) (entries : es ≡ map (entry_of None S names) ts) where
    -- what is read can be read
    pub read_readable : All (IsReadable S names) es
    read_readable = subst (All (IsReadable S names)) (sym entries) (values_printed S names ts places is.terms passed).1

    -- and the text is its printed text
    pub read_printed : polynomial_text S names es ≡ text
    read_printed = ap (λ (l : List (Entry ℕ)). spelling (map (term_of names S.field.characteristic) l)) entries ∙ ap spelling (values_printed S names ts places is.terms passed).0 ∙ is.spelled

  module _ (p : ℕ) (prime : IsPrimeField p S.field) (distinct : AreDistinct names) (names_are : All (λ w. IsTrue (is_name w)) names.vars)
      (es : List (Entry ℕ)) (fits : Fits S es) (zeros : All (λ e. e.0.0 ≡ 0) es) (readable : All (IsReadable S names) es) (printed : polynomial_text S names es ≡ text) where
    tree : List Term
    tree = map (term_of names S.field.characteristic) es

    abbrev values : (map (entry_of None S names) (map (term_of names S.field.characteristic) es) ≡ es) × (first_fault None S names None 1 (map (term_of names S.field.characteristic) es) ≡ None) × All IsTerm (map (term_of names S.field.characteristic) es)
    values = printed_values S names p es prime places distinct names_are fits zeros readable

    -- the printed text has the tree of the entries
    tree_text : IsText (map (term_of names S.field.characteristic) es) text
    tree_text = record { terms = values.2; spelled = printed }

    -- it is no syntax fault
    pub every_scanned : (e : TextFault) → IsSyntaxFault text e → e ≡ faults.Memory
    every_scanned (faults.Syntax n) h = absurd (h.none _ tree_text)
    every_scanned (faults.Value term kind) h = absurd h
    every_scanned faults.Memory h = refl

    module _ (ts : List Term) (is : IsText ts text) where
      same : ts ≡ map (term_of names S.field.characteristic) es
      same = text_unique text ts _ is tree_text

      -- no value fault
      pub every_valued : (e : TextFault) → IsFault e (first_fault None S names None 1 ts) → e ≡ faults.Memory
      every_valued e h = go e (subst (IsFault e) (ap (first_fault None S names None 1) same ∙ values.1) h)
        where
          go : (e : TextFault) → IsFault e None → e ≡ faults.Memory
          go (faults.Syntax n) h = absurd h
          go (faults.Value term kind) h = absurd cc
          go faults.Memory h = refl

      -- and the entries are read
      pub every_read : (fs : List (Entry ℕ)) → fs ≡ map (entry_of None S names) ts → fs ≡ es
      every_read fs h = h ∙ ap (map (entry_of None S names)) same ∙ values.0

-- an error that is want of memory
pub read_memory : {A B : Type 0} (view : A → B) (r : Result A TextFault) (e : TextFault) (es : B) → IsErrAnd r (λ x. x ≡ e) → e ≡ faults.Memory → IsRead view r es
read_memory view (Ok f) e es h m = absurd h
read_memory view (Err x) e es h m = h ∙ m

-- entries within the bounds that have the same printed text are the same
pub printed_same : (S : SpaceOver ℕ) (names : Names) (p : ℕ) → length S.weights ≡ place_count names → IsPrimeField p S.field → AreDistinct names → All (λ w. IsTrue (is_name w)) names.vars
    → (es fs : List (Entry ℕ)) → Fits S es → All (λ e. e.0.0 ≡ 0) es → All (IsReadable S names) es → Fits S fs → All (λ e. e.0.0 ≡ 0) fs → All (IsReadable S names) fs
    → polynomial_text S names es ≡ polynomial_text S names fs → es ≡ fs
printed_same S names p places prime distinct names_are es fs fits zeros readable fits' zeros' readable' same =
    let ts = map (term_of names S.field.characteristic) es in
    let values = printed_values S names p es prime places distinct names_are fits zeros readable in
    every_read S names places (polynomial_text S names fs) p prime distinct names_are fs fits' zeros' readable' refl ts (record { terms = values.2; spelled = same }) es (sym values.0)
