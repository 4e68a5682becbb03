-- What was read is one thing, and what a status says of a run.
use Rattle.std.proofs.Common.{◌≡◌, ℕ, ◌+◌, ◌≤◌, List, [], ◌++◌, length, Some, None, inl, inr, refl, sym, ap, subst, ◌∙◌, append-nil, length-append, arith}
use Rattle.std.specs.Prelude.{Option, Result, Ok, Err, OnOk, IsErr, IsErrAnd, ◌<◌, take}
use Rattle.inv_outside.specs.Outside.{Took, Rose}
use Rattle.cert_check.specs.declared.verdict.Verdict.{Verdict}
use Rattle.cert_check.specs.declared.verdict.Verdict.TheVariants.{Accepted, Rejected}
use Rattle.invring_app.specs.declared.commands.Command.{Command}
use Rattle.invring_app.specs.ErrorLines.{status_line}
use Rattle.alg_core.specs.declared.place.Place.TheVariants.{Byte, Line}
use Rattle.finvar_text.proofs.ProblemLaws.{problem_unique, place_unique, input_unique, input_no_problem, input_no_place}
use Rattle.certificate_io.proofs.CertificateParts.{certificates_are_one}
use Rattle.invring_app.proofs.CertificateTexts.{refused-once, text-not-refused}
use Rattle.invring_app.specs.declared.fault.Fault.{Fault}
use Rattle.invring_app.specs.declared.fault.Fault.TheVariants as faults
use Rattle.invring_app.specs.declared.reading.Kind.{Kind}
use Rattle.invring_app.specs.declared.reading.Kind.TheVariants.{Nothing, Script, Certificate}
use Rattle.invring_app.specs.declared.status.Status.{Status}
use Rattle.invring_app.specs.declared.status.Status.TheVariants as ends
use Rattle.invring_app.specs.declared.words.Request.{Request}
use Rattle.invring_app.specs.Commands.{reads}
use Rattle.invring_app.specs.Words.{IsRequest}
use Rattle.invring_app.proofs.CommandLaws.{IsRequest-unique}
use Rattle.invring_app.specs.Answers.{Ends, ending_of, IsAnswer, IsFault}
use Rattle.invring_app.specs.Endings.{Ending, StopsAt, Rejects, Answers}
use Rattle.invring_app.specs.Inputs.{Input, NoInput, OfScript, OfCertificate, Refusal, NoText, Faulty, IsReading, most_bytes, ReadsAs, IsRefused, Takes, IsLeft}
use Rattle.invring_app.specs.Outcomes.{status_after, status_of_fault, status_with, EndsAt, Writing, Completes, IsCommandOf, told_by, error_line}

-- bytes are read as one input, or refused in one way

pub input-one : (kind : Kind) (bytes : List ℕ) (i j : Input) → ReadsAs kind bytes i → ReadsAs kind bytes j → i ≡ j
input-one Nothing bytes NoInput NoInput h k = refl
input-one Nothing bytes NoInput (OfScript r) h k = absurd k
input-one Nothing bytes NoInput (OfCertificate c) h k = absurd k
input-one Nothing bytes (OfScript q) j h k = absurd h
input-one Nothing bytes (OfCertificate c) j h k = absurd h
input-one Script bytes NoInput j h k = absurd h
input-one Script bytes (OfScript q) NoInput h k = absurd k
input-one Script bytes (OfScript q) (OfScript r) h k = ap OfScript (problem_unique bytes q r h k)
input-one Script bytes (OfScript q) (OfCertificate c) h k = absurd k
input-one Script bytes (OfCertificate c) j h k = absurd h
input-one Certificate bytes NoInput j h k = absurd h
input-one Certificate bytes (OfScript q) j h k = absurd h
input-one Certificate bytes (OfCertificate c) NoInput h k = absurd k
input-one Certificate bytes (OfCertificate c) (OfScript q) h k = absurd k
input-one Certificate bytes (OfCertificate c) (OfCertificate d) h k = ap OfCertificate (certificates_are_one c d h.certificate k.certificate (h.is ∙ sym k.is))

pub refusal-one : (kind : Kind) (bytes : List ℕ) (x y : Refusal) → IsRefused kind bytes x → IsRefused kind bytes y → x ≡ y
refusal-one Nothing bytes x y h k = absurd h
refusal-one Script bytes (NoText (Byte m)) (NoText (Byte n)) h k = ap (λ (p : ℕ). NoText (Byte p)) (place_unique bytes m n h.1 k.1)
refusal-one Script bytes (NoText (Byte m)) (NoText (Line n)) h k = absurd k
refusal-one Script bytes (NoText (Byte m)) (Faulty g) h k = absurd (input_no_place bytes g m h.0 k h.1)
refusal-one Script bytes (NoText (Line m)) y h k = absurd h
refusal-one Script bytes (Faulty f) (NoText (Byte n)) h k = absurd (input_no_place bytes f n k.0 h k.1)
refusal-one Script bytes (Faulty f) (NoText (Line n)) h k = absurd k
refusal-one Script bytes (Faulty f) (Faulty g) h k = ap Faulty (input_unique bytes f g h k)
refusal-one Certificate bytes x y h k = refused-once bytes x y h k

pub input-not-refused : (kind : Kind) (bytes : List ℕ) (i : Input) (x : Refusal) → ReadsAs kind bytes i → IsRefused kind bytes x → ⊥
input-not-refused Nothing bytes i x h k = k
input-not-refused Script bytes NoInput x h k = h
input-not-refused Script bytes (OfScript q) (NoText (Byte n)) h k = k.1.none h.tree h.text
input-not-refused Script bytes (OfScript q) (NoText (Line n)) h k = k
input-not-refused Script bytes (OfScript q) (Faulty f) h k = input_no_problem bytes f q k h
input-not-refused Script bytes (OfCertificate c) x h k = h
input-not-refused Certificate bytes NoInput x h k = h
input-not-refused Certificate bytes (OfScript q) x h k = h
input-not-refused Certificate bytes (OfCertificate c) x h k = text-not-refused bytes c x h k

-- what a source had left is what it gave

short : (kind : Kind) (bytes : List ℕ) (i : Input) → ReadsAs kind bytes i → length bytes ≤ most_bytes kind
short Nothing bytes NoInput h = subst (λ (b : List ℕ). length b ≤ 0) (sym h) (omega arith)
short Nothing bytes (OfScript q) h = absurd h
short Nothing bytes (OfCertificate c) h = absurd h
short Script bytes NoInput h = absurd h
short Script bytes (OfScript q) h = h.short
short Script bytes (OfCertificate c) h = absurd h
short Certificate bytes NoInput h = absurd h
short Certificate bytes (OfScript q) h = absurd h
short Certificate bytes (OfCertificate c) h = h.short

all-gave : (kind : Kind) (whole bytes : List ℕ) (left' : Option (List ℕ)) → IsReading kind → length whole ≤ most_bytes kind → Takes kind (Some whole) bytes left' → whole ≡ bytes
all-gave kind whole bytes None reading within takes = absurd takes.gave
all-gave kind whole bytes (Some rest) reading within takes =
    let long : length whole ≡ length bytes + length rest = ap length takes.gave ∙ length-append bytes rest in
    let nothing : rest ≡ [] = takes.end reading (omega (arith, within)) in
    takes.gave ∙ ap (λ t. bytes ++ t) nothing ∙ append-nil bytes

pub left-read : (kind : Kind) (left left' : Option (List ℕ)) (bytes : List ℕ) (i : Input) → Takes kind left bytes left' → IsLeft kind left i → ReadsAs kind bytes i
left-read Nothing left left' bytes i takes is = subst (λ (b : List ℕ). ReadsAs Nothing b i) (sym (takes.none (λ x. x))) is
left-read Script None left' bytes i takes is = absurd is
left-read Script (Some whole) left' bytes i takes is = subst (λ (b : List ℕ). ReadsAs Script b i) (all-gave Script whole bytes left' tt (short Script whole i is) takes) is
left-read Certificate None left' bytes i takes is = absurd is
left-read Certificate (Some whole) left' bytes i takes is = subst (λ (b : List ℕ). ReadsAs Certificate b i) (all-gave Certificate whole bytes left' tt (short Certificate whole i is) takes) is

-- the status of an error
pub after-error : {T : Type 0} (result : Result T Status) (s : Status) → IsErrAnd result (λ x. x ≡ s) → status_after result ≡ s
after-error (Ok x) s h = absurd h
after-error (Err x) s h = h

took-nothing : (t : Option (List ℕ)) → Took t [] t
took-nothing None = tt
took-nothing (Some t) = sym (append-nil t)

-- what a request's status says
module _ (r : Request) (left left' : Option (List ℕ)) (f f' : ℕ) where
  -- the ending of what was read
  ending-at : (bytes : List ℕ) (e : Ending) → Takes (reads r.command) left bytes left' → IsAnswer r.command r.limits bytes e → EndsAt r left left' e
  ending-at bytes e takes is = record { bytes = bytes; input = is.0; takes = takes; read = is.1; ends = is.2 }

  ending-left : (bytes : List ℕ) (e : Ending) (i : Input) → Takes (reads r.command) left bytes left' → IsAnswer r.command r.limits bytes e → IsLeft (reads r.command) left i → Ends r i e
  ending-left bytes e i takes is left-is =
      subst (λ (j : Input). Ends r j e) (input-one (reads r.command) bytes is.0 i is.1 (left-read (reads r.command) left left' bytes i takes left-is)) is.2

  module _ (taken : Option (List ℕ)) (g : ℕ) where
    pub fault-writing : (e : Fault) (bytes : List ℕ) → Takes (reads r.command) left bytes left' → IsFault r.command r.limits bytes e → Writing r (status_of_fault e) left left' taken taken g g
    fault-writing (faults.Syntax p) bytes takes is = record { ended = λ x. absurd x; cut = λ is. absurd cc; fault = λ is. absurd cc }
    fault-writing (faults.Input i) bytes takes is = record { ended = λ x. absurd x; cut = λ is. absurd cc; fault = λ is. absurd cc }
    fault-writing (faults.Bound b) bytes takes is = record {
      ended = λ x. (StopsAt b, refl, ending-at bytes (StopsAt b) takes is, took-nothing taken);
      cut = λ is. absurd cc;
      fault = λ is. absurd cc;
    }
    fault-writing faults.Memory bytes takes is = record { ended = λ x. absurd x; cut = λ is. absurd cc; fault = λ is. absurd cc }

  pub fault-complete : (e : Fault) (bytes : List ℕ) (g g' : ℕ) → Takes (reads r.command) left bytes left' → IsFault r.command r.limits bytes e → Completes r (status_of_fault e) left f f' g g'
  fault-complete (faults.Syntax p) bytes g g' takes is = λ i left-is kept kept'. absurd (input-not-refused (reads r.command) bytes i (NoText p) (left-read (reads r.command) left left' bytes i takes left-is) is)
  fault-complete (faults.Input x) bytes g g' takes is = λ i left-is kept kept'. absurd (input-not-refused (reads r.command) bytes i (Faulty x) (left-read (reads r.command) left left' bytes i takes left-is) is)
  fault-complete (faults.Bound b) bytes g g' takes is = λ i left-is kept kept'. inl (StopsAt b, refl, ending-left bytes (StopsAt b) i takes is left-is)
  fault-complete faults.Memory bytes g g' takes is = λ i left-is kept kept'. inr refl

  -- the text of an answer was written
  pub answered-writing : (v : Verdict) (bytes text : List ℕ) (taken taken' : Option (List ℕ)) (g g' : ℕ) → Takes (reads r.command) left bytes left'
      → IsAnswer r.command r.limits bytes (ending_of v text) → Took taken text taken' → Writing r (status_with v) left left' taken taken' g g'
  answered-writing Accepted bytes text taken taken' g g' takes is took = record {
    ended = λ x. (Answers text, refl, ending-at bytes (Answers text) takes is, took);
    cut = λ is. absurd cc;
    fault = λ is. absurd cc;
  }
  answered-writing (Rejected condition item) bytes text taken taken' g g' takes is took = record {
    ended = λ x. (Rejects condition item text, refl, ending-at bytes (Rejects condition item text) takes is, took);
    cut = λ is. absurd cc;
    fault = λ is. absurd cc;
  }

  pub answered-complete : (v : Verdict) (bytes text : List ℕ) (g g' : ℕ) → Takes (reads r.command) left bytes left' → IsAnswer r.command r.limits bytes (ending_of v text)
      → Completes r (status_with v) left f f' g g'
  answered-complete Accepted bytes text g g' takes is = λ i left-is kept kept'. inl (Answers text, refl, ending-left bytes (Answers text) i takes is left-is)
  answered-complete (Rejected condition item) bytes text g g' takes is =
      λ i left-is kept kept'. inl (Rejects condition item text, refl, ending-left bytes (Rejects condition item text) i takes is left-is)

  -- a front of it was written
  pub cut-writing : (v : Verdict) (bytes text : List ℕ) (taken taken' : Option (List ℕ)) (g g' : ℕ) → Takes (reads r.command) left bytes left'
      → IsAnswer r.command r.limits bytes (ending_of v text) → (k : ℕ) × (k < length text) × Took taken (take k text) taken' → Rose g g'
      → Writing r ends.WriteFault left left' taken taken' g g'
  cut-writing Accepted bytes text taken taken' g g' takes is front rose = record {
    ended = λ x. absurd x;
    cut = λ e. (Answers text, front.0, ending-at bytes (Answers text) takes is, front.1, front.2);
    fault = λ e. rose;
  }
  cut-writing (Rejected condition item) bytes text taken taken' g g' takes is front rose = record {
    ended = λ x. absurd x;
    cut = λ e. (Rejects condition item text, front.0, ending-at bytes (Rejects condition item text) takes is, front.1, front.2);
    fault = λ e. rose;
  }

-- what the error stream gets of a run

pub usage-line : (words : List (List ℕ)) (c : Option Command) → IsCommandOf words c → ((r : Request) → ¬ IsRequest words r) → error_line c ends.Usage ≡ status_line ends.Usage
usage-line words None is none = refl
usage-line words (Some d) is none = absurd (none is.0 is.1)

pub command-line : (words : List (List ℕ)) (r : Request) → IsRequest words r → (c : Option Command) → IsCommandOf words c → (s : Status) → error_line c s ≡ told_by r.command s
command-line words r asks None is s = absurd (is r asks)
command-line words r asks (Some d) is s =
    let same : d ≡ r.command = sym is.2 ∙ ap (λ (q : Request). q.command) (IsRequest-unique words is.0 r is.1 asks) in
    ap (λ (d : Command). told_by d s) same

pub all-told : {T E : Type 0} (r : Result T E) (P Q : Type 0) → OnOk r P → (IsErr r → Q) → ¬ Q → P
all-told (Ok x) P Q ok cause none = ok
all-told (Err e) P Q ok cause none = absurd (none (cause refl))

-- what holds of the request that was read and of a status holds of each request that the words make, and of the same status
pub asked : (P : Request → Status → Type 0) (words : List (List ℕ)) (r : Request) (s t : Status) → IsRequest words r → s ≡ t → P r t → (q : Request) → IsRequest words q → P q s
asked P words r s t is same h q also = subst (λ (x : Request). P x s) (IsRequest-unique words r q is also) (subst (λ (x : Status). P r x) (sym same) h)
