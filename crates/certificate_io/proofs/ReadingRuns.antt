-- The loop over the lines of a section.
use Rattle.std.proofs.Common.{◌≡◌, ◌∙◌, ℕ, suc, ◌+◌, ◌<◌, ◌≤◌, List, [], ◌∷◌, ◌++◌, Option, Some, None, Result, Ok, Err, length, map, get_or, take, drop, refl, sym, ap, ap₂, subst, arith}
use Rattle.std.specs.Prelude.{All}
use Rattle.std.specs.Result.{IsErrAnd}
use Rattle.std.proofs.lemmas.List.{get_or-map, length-map, drop_more, take_more, drop_all, take_all, map-append}
use Rattle.std.proofs.lemmas.List.Elements.{All-nil, All-cons, All-append}
use Rattle.alg_core.specs.declared.value_kind.ValueKind.{ValueKind}
use Rattle.poly_text.specs.Values.{fault_or}
use Rattle.certificate_io.specs.declared.fault.CertFault.{CertFault}
use Rattle.certificate_io.specs.declared.fault.CertFault.TheVariants as faults
use Rattle.certificate_io.specs.declared.line_text.LineText.{LineText}
use Rattle.certificate_io.specs.Readings.{AnswersFault, Answers, on_line, run_fault, AreReadBy, tails}

-- the fault of a line is that of the lines from it on
pub fault_first : (e : CertFault) (i : ℕ) (kind : Option ValueKind) (rest : Option (ℕ × ValueKind)) → AnswersFault e (on_line i kind) → AnswersFault e (fault_or i kind rest)
fault_first e i (Some k) rest h = h
fault_first (faults.Syntax line) i None rest h = absurd h
fault_first (faults.Value line kind) i None rest h = absurd cc
fault_first faults.Memory i None rest h = tt

pub line_passes : (i : ℕ) (kind : Option ValueKind) → on_line i kind ≡ None → kind ≡ None
line_passes i None h = refl
line_passes i (Some k) h = absurd cc

pub passes_on : (i : ℕ) (kind : Option ValueKind) (rest : Option (ℕ × ValueKind)) → kind ≡ None → fault_or i kind rest ≡ rest
passes_on i kind rest h = ap (λ k. fault_or i k rest) h

-- an answer that is passed on
pub error_answers : {A : Type 0} (r : Result A CertFault) (e : CertFault) (fault : Option (ℕ × ValueKind)) (P : A → Type 0) → IsErrAnd r (λ x. x ≡ e) → AnswersFault e fault → Answers r fault P
error_answers (Ok x) e fault P h f = absurd h
error_answers (Err x) e fault P h f = subst (λ y. AnswersFault y fault) (sym h) f

-- refused memory answers every fault
pub memory_answers : {A : Type 0} (r : Result A CertFault) (fault : Option (ℕ × ValueKind)) (P : A → Type 0) → IsErrAnd r (λ x. x ≡ faults.Memory) → Answers r fault P
memory_answers r fault P h = error_answers r faults.Memory fault P h tt

-- the part of the line at a place
pub record PartAt {T : Type 0} (text : T → List ℕ) (Q : T → Type 0) (xs : List T) (i : ℕ) (bytes : List ℕ) : Type 0 where
  pub part : T
  pub left : drop i xs ≡ part ∷ drop (i + 1) xs
  pub taken : take (i + 1) xs ≡ take i xs ++ (part ∷ [])
  pub spelled : text part ≡ bytes
  pub of : Q part

module _ {T : Type 0} (text : T → List ℕ) (Q : T → Type 0) where
  pub part_at : (lines : List LineText) (xs : List T) (i : ℕ) (bytes : List ℕ) → i < length lines → bytes ≡ get_or (tails lines) i [] → tails lines ≡ map text xs → All Q xs → PartAt text Q xs i bytes
  part_at lines xs i bytes below is same each =
      let many : length xs ≡ length lines = sym (length-map xs text) ∙ ap length (sym same) ∙ length-map lines (λ (t : LineText). t.tail.now) in
      go xs (omega (arith, many, below)) (is ∙ ap (λ w. get_or w i []) same) each
    where
      go : (xs : List T) → i < length xs → bytes ≡ get_or (map text xs) i [] → All Q xs → PartAt text Q xs i bytes
      go [] low tail each = absurd (omega (arith, low))
      go (y ∷ ys) low tail each = record {
        part = get_or (y ∷ ys) i y;
        left = drop_more (y ∷ ys) i y low;
        taken = take_more (y ∷ ys) i y low;
        spelled = sym (tail ∙ get_or-map text (y ∷ ys) i y [] low);
        of = each i y low;
      }

-- what the loop knows after i lines
pub record ReadsLines {A B T : Type 0} (P : A → Type 0) (view : A → B) (said : T → B) (f : ℕ → T → Option ValueKind) (first : ℕ) (xs : List T) (i : ℕ) (v : List A) : Type 0 where
  pub read : AreReadBy P view said (take i xs) v
  pub rest : run_fault f first 0 xs ≡ run_fault f (first + i) i (drop i xs)

module _ {A B T : Type 0} (P : A → Type 0) (view : A → B) (said : T → B) (f : ℕ → T → Option ValueKind) (first : ℕ) where
  pub lines_begin : (xs : List T) → ReadsLines P view said f first xs 0 []
  lines_begin xs = record { read = (All-nil P, refl); rest = ap (λ n. run_fault f n 0 xs) (omega arith) }

  module _ (text : T → List ℕ) (Q : T → Type 0) (xs : List T) (i : ℕ) (bytes : List ℕ) (v : List A) (at : PartAt text Q xs i bytes) (before : ReadsLines P view said f first xs i v) where
    pub lines_more : (a : A) → on_line (first + i) (f i at.part) ≡ None → P a → view a ≡ said at.part → ReadsLines P view said f first xs (i + 1) (v ++ (a ∷ []))
    lines_more a passed is same =
        let next : suc (first + i) ≡ first + (i + 1) = omega arith in
        let up : suc i ≡ i + 1 = omega arith in
        record {
          read = (
            All-append P v (a ∷ []) before.read.0 (All-cons P a [] is (All-nil P)),
            map-append view v (a ∷ []) ∙ ap₂ (λ l y. l ++ (y ∷ [])) before.read.1 same ∙ sym (ap (map said) at.taken ∙ map-append said (take i xs) (at.part ∷ [])),
          );
          rest = before.rest ∙ ap (run_fault f (first + i) i) at.left ∙ passes_on (first + i) (f i at.part) (run_fault f (suc (first + i)) (suc i) (drop (i + 1) xs)) (line_passes (first + i) (f i at.part) passed)
              ∙ ap₂ (λ n k. run_fault f n k (drop (i + 1) xs)) next up;
        }

    pub lines_fault : (e : CertFault) → AnswersFault e (on_line (first + i) (f i at.part)) → AnswersFault e (run_fault f first 0 xs)
    lines_fault e h =
        subst (AnswersFault e) (sym (before.rest ∙ ap (run_fault f (first + i) i) at.left)) (fault_first e (first + i) (f i at.part) (run_fault f (suc (first + i)) (suc i) (drop (i + 1) xs)) h)

  pub lines_end : (xs : List T) (i : ℕ) (v : List A) → length xs ≤ i → ReadsLines P view said f first xs i v → (run_fault f first 0 xs ≡ None) × AreReadBy P view said xs v
  lines_end xs i v all before =
      (before.rest ∙ ap (run_fault f (first + i) i) (drop_all i xs all), (before.read.0, before.read.1 ∙ ap (map said) (take_all i xs all)))

pub lines_length : {T : Type 0} (text : T → List ℕ) (lines : List LineText) (xs : List T) → tails lines ≡ map text xs → length xs ≡ length lines
lines_length text lines xs same = sym (length-map xs text) ∙ ap length (sym same) ∙ length-map lines (λ (t : LineText). t.tail.now)
