-- A check ends in one way, over whatever matrices with the cells of the certificate.
use Rattle.std.proofs.Common.{◌≡◌, ◌∙◌, ℕ, zero, suc, ◌+◌, List, [], ◌∷◌, length, map, Some, refl, sym, ap, subst, arith}
use Rattle.std.specs.Prelude.{slice_get, slice_index_or}
use Rattle.std.proofs.lemmas.Option.{same_Some}
use Rattle.alg_core.specs.Binomials.{monomials_of_degree}
use Rattle.alg_core.specs.Fields.{FieldOn, scalars}
use Rattle.alg_core.specs.declared.limits.Limits.{Limits}
use Rattle.lin_algebra.specs.Matrices.{cut, HasInverse}
use Rattle.lin_algebra.specs.Vectors.{vector}
use Rattle.lin_algebra.specs.declared.matrix.Matrix.{Matrix}
use Rattle.matrix_group.specs.Groups.{cells_of, IsNonsingular, IsOrder, IsOverOrder}
use Rattle.secondary_gens.specs.Forms.{degree_of}
use Rattle.certificate_io.specs.Certificates.{CertificateOf, EvidenceOf, Averages, Members, MatrixOf, matrix_of}
use Rattle.certificate_io.specs.declared.evidence.Image.{Image}
use Rattle.certificate_io.specs.declared.evidence.Line.{Line}
use Rattle.cert_check.specs.Conditions.{Condition, Group, Primaries, Lifts, Powers, LiftBasis, Rank, Secondaries, Evidence, Redundance, Words, Reducibility, number, K1, MeetsAverages, MeetsKernel, MeetsEvidence, Meets}
use Rattle.cert_check.specs.Ends.{End, Accepts, Fails, Stops, IsEnd}
use Rattle.cert_check.specs.Parts.{At, size, primaries, degrees, members}
use Rattle.cert_check.specs.WellFormed.{IsWellFormed}
use Rattle.cert_check.specs.Work.{IsBefore, Stop, GroupStop, RankStop, TermStop, stop_point, Keeps, Exceeds, IsAccepted, IsRejectedAt, IsStoppedAt, IsTermStop}
use Rattle.cert_check.specs.declared.verdict.Verdict.TheVariants.{Accepted, Rejected}
use Rattle.cert_check.proofs.EndsOnce.{ends_once}
use Rattle.invring_app.specs.declared.status.BoundFault.{BoundFault}
use Rattle.invring_app.specs.declared.status.BoundFault.TheVariants.{TermBound, GroupBound, NoPrimary, BasisBound, RankBound, TextBound}
use Rattle.invring_app.specs.Commands.Checks.{IsRejection, IsCheckBound, verdict_line, IsCheckRejected, IsCheckAnswer, shown_text, IsShowRejected, IsShowAnswer}
use Rattle.invring_app.specs.Endings.{Ending, StopsAt, Rejects, Answers, AreAlike, AtCertificate}
use Rattle.invring_app.specs.ErrorLines.{bound_pieces}
use Rattle.invring_app.specs.Inputs.{OfCertificate}
use Rattle.invring_app.proofs.EndingLaws.{Shape, shape, same-fixed, field-one}
use Rattle.invring_app.proofs.SameCells.{same-cells, same-average}
use Rattle.invring_app.proofs.SameKernels.{same-count, same-kernel}

shape-of : MatrixOf ℕ → Shape
shape-of m = (m.rows, m.cols, m.cells)

shapes-of : (ms : List (Matrix ℕ)) → map shape ms ≡ map shape-of (map matrix_of ms)
unfolding shape-of
shapes-of [] = refl
shapes-of (m ∷ ms) = ap (λ (ss : List Shape). shape m ∷ ss) (shapes-of ms)

same-shapes : (ms os : List (Matrix ℕ)) → map matrix_of ms ≡ map matrix_of os → map shape ms ≡ map shape os
same-shapes ms os e = shapes-of ms ∙ ap (map shape-of) e ∙ sym (shapes-of os)

same-inverse : (k : FieldOn ℕ) (m o : Matrix ℕ) → shape m ≡ shape o → IsNonsingular k m → IsNonsingular k o
same-inverse k m o e h = subst (λ (s : Shape). HasInverse (scalars k) s.0 (λ i. vector k (slice_index_or (cut s.0 s.1 s.2) i []))) e h

-- a matrix at a place, and that of the other list there
at-place : (ms os : List (Matrix ℕ)) (j : ℕ) (o : Matrix ℕ) → map shape ms ≡ map shape os → slice_get os j ≡ Some o → (m : Matrix ℕ) × (slice_get ms j ≡ Some m) × (shape m ≡ shape o)
at-place [] [] j o e at = absurd cc
at-place [] (x ∷ os) j o e at = absurd cc
at-place (m ∷ ms) [] j o e at = absurd cc
at-place (m ∷ ms) (x ∷ os) zero o e at =
    let first : shape m ≡ shape x = cc in
    let same : x ≡ o = cc in
    (m, refl, first ∙ ap shape same)
at-place (m ∷ ms) (x ∷ os) (suc j) o e at = let rest : map shape ms ≡ map shape os = cc in at-place ms os j o rest at

module _ (k : FieldOn ℕ) (c : CertificateOf ℕ) (l : Limits) (ms os : List (Matrix ℕ)) (e : map shape ms ≡ map shape os) where
  count : length ms ≡ length os
  count = same-count ms os e

  order-by : (N : ℕ) → IsOrder k (size c) (cells_of ms) N → IsOrder k (size c) (cells_of os) N
  order-by N = subst (λ (gs : List (List ℕ)). IsOrder k (size c) gs N) (same-cells ms os e)

  matrix-by : (i : ℕ) → K1 k ms c i → (o : Matrix ℕ) → At os i o → IsNonsingular k o
  matrix-by i h o at =
      let m = at-place ms os at.0 o e at.2 in
      same-inverse k m.0 o m.2 (h.matrix m.0 (at.0, at.1, m.1))

  averages-by : (xs : List (Image ℕ)) (i : ℕ) → MeetsAverages k ms c xs i → MeetsAverages k os c xs i
  averages-by xs i h = record { whole = h.whole; line = λ x at. same-average ms os e k _ _ (h.line x at) }

  kernel-by : (ls : List (Line ℕ)) (i : ℕ) → MeetsKernel k ms c ls i → MeetsKernel k os c ls i
  kernel-by ls i h = record {
    whole = λ first. let w = h.whole first in (w.0, w.1, same-kernel ms os e k (size c) (degrees c) (primaries k c) w.0 (members ls) w.2);
    line = h.line;
  }

  evidence-by : (v : EvidenceOf ℕ) (i : ℕ) → MeetsEvidence k ms c v i → MeetsEvidence k os c v i
  evidence-by (Averages xs) i h = averages-by xs i h
  evidence-by (Members ls) i h = kernel-by ls i h

  meets-by : (a : Condition) (i : ℕ) → Meets k ms c a i → Meets k os c a i
  meets-by Group i h = record { matrix = matrix-by i h; order = λ last. order-by c.order (h.order (last ∙ ap (λ n. n + 1) (sym count))) }
  meets-by Primaries i h = λ f at. let p = h f at in (p.0, same-fixed k ms os f e p.1)
  meets-by Lifts i h = h
  meets-by Powers i h = h
  meets-by LiftBasis i h = λ whole. let b = h whole in record { basis = b.basis; leads = b.leads }
  meets-by Rank i h = record { lead = h.lead; rank = h.rank }
  meets-by Secondaries i h = λ f at. let p = h f at in (p.0, same-fixed k ms os f e p.1)
  meets-by Evidence i h = evidence-by c.evidence i h
  meets-by Redundance i h = h
  meets-by Words i h = record { generator = h.generator; word = h.word }
  meets-by Reducibility i h = h

  keeps-by : (s : Stop) → Keeps k ms c l s → Keeps k os c l s
  keeps-by GroupStop h = (h.0, order-by h.0 h.1, h.2)
  keeps-by RankStop h = h
  keeps-by TermStop h = h

  exceeds-by : (s : Stop) → Exceeds k ms c l s → Exceeds k os c l s
  exceeds-by GroupStop h = subst (λ (gs : List (List ℕ)). IsOverOrder k (size c) gs l.max_order) (same-cells ms os e) h
  exceeds-by RankStop h = h
  exceeds-by TermStop h = h

  point-by : (s : Stop) → stop_point os c s ≡ stop_point ms c s
  point-by GroupStop = ap (λ n. (Group, n + 1)) (sym count)
  point-by RankStop = refl
  point-by TermStop = refl

module _ (k : FieldOn ℕ) (c : CertificateOf ℕ) (l : Limits) (ms os : List (Matrix ℕ)) (e : map shape ms ≡ map shape os) where
  end-by : (x : End) → IsEnd k ms c l x → IsEnd k os c l x
  end-by Accepts h = record { holds = λ a i. meets-by k c l ms os e a i (h.holds a i); kept = λ s. keeps-by k c l ms os e s (h.kept s) }
  end-by (Fails a i) h = record {
    met = λ b j before. meets-by k c l ms os e b j (h.met b j before);
    kept = λ s before. keeps-by k c l ms os e s (h.kept s (subst (λ p. IsBefore p (a, i + 1)) (point-by k c l ms os e s) before));
    fails = λ m. h.fails (meets-by k c l os ms (sym e) a i m);
  }
  end-by (Stops s) h = record {
    met = λ b j before. meets-by k c l ms os e b j (h.met b j (subst (λ p. IsBefore (b, j) p) (point-by k c l ms os e s) before));
    kept = λ t before. keeps-by k c l ms os e t (h.kept t (subst (λ p. IsBefore p (stop_point ms c s)) (point-by k c l ms os e t) (subst (λ p. IsBefore (stop_point os c t) p) (point-by k c l ms os e s) before)));
    exceeded = exceeds-by k c l ms os e s h.exceeded;
  }

-- an end of the check, over some field and matrices
record Ended (c : CertificateOf ℕ) (l : Limits) (x : End) : Type 0 where
  field : FieldOn ℕ
  matrices : List (Matrix ℕ)
  well_formed : IsWellFormed field c matrices
  end : IsEnd field matrices c l x

module _ (c : CertificateOf ℕ) (l : Limits) where
  one-end : (x y : End) → Ended c l x → Ended c l y → x ≡ y
  one-end x y h g =
      let fields = field-one c.characteristic g.field h.field g.well_formed.field h.well_formed.field in
      let shapes = same-shapes g.matrices h.matrices (g.well_formed.generators ∙ sym h.well_formed.generators) in
      ends_once h.field h.matrices c l x y h.end
      (end-by h.field c l g.matrices h.matrices shapes y (subst (λ (k : FieldOn ℕ). IsEnd k g.matrices c l y) fields g.end))

  accepted-end : IsAccepted c l → Ended c l Accepts
  accepted-end h = record { field = h.field; matrices = h.matrices; well_formed = h.well_formed; end = h.passes }

  rejected-end : (a : Condition) (i : ℕ) → IsRejectedAt c l a i → Ended c l (Fails a i)
  rejected-end a i h = record { field = h.field; matrices = h.matrices; well_formed = h.well_formed; end = h.fails }

  stopped-end : (s : Stop) → IsStoppedAt c l s → Ended c l (Stops s)
  stopped-end s h = record { field = h.field; matrices = h.matrices; well_formed = h.well_formed; end = h.stops }

  -- the stop of a bound
  record Bounded (f : BoundFault) : Type 0 where
    stop : Stop
    ended : Ended c l (Stops stop)

  bounded : (f : BoundFault) → IsCheckBound l c f → Bounded f
  bounded (TermBound degree counted) h = record { stop = TermStop; ended = stopped-end TermStop h.stop }
  bounded (GroupBound counted) h = record { stop = GroupStop; ended = stopped-end GroupStop h.1 }
  bounded (NoPrimary found degree) h = absurd h
  bounded (BasisBound which vector degree) h = absurd h
  bounded (RankBound counted) h = record { stop = RankStop; ended = stopped-end RankStop h.1 }
  bounded (TextBound bytes) h = absurd h

  is-stop : End → Stop
  is-stop Accepts = GroupStop
  is-stop (Fails a i) = GroupStop
  is-stop (Stops s) = s

  stops-one : (s t : Stop) → IsStoppedAt c l s → IsStoppedAt c l t → s ≡ t
  unfolding is-stop
  stops-one s t h g = ap is-stop (one-end (Stops s) (Stops t) (stopped-end s h) (stopped-end t g))

  -- the first secondary invariant past the limit has one degree
  term-one : (d m e n : ℕ) → IsTermStop c l d m → IsTermStop c l e n → (d ≡ e) × (m ≡ n)
  term-one d m e n h g =
      let up = h.first.first g.first.place g.first.past in
      let down = g.first.first h.first.place h.first.past in
      let places : h.first.place ≡ g.first.place = omega (arith, up, down) in
      let first = h.first.past.member in
      let second = g.first.past.member in
      let polynomials : h.first.past.polynomial ≡ g.first.past.polynomial =
      same_Some _ _ (sym first ∙ ap (slice_get c.secondaries) places ∙ second) in
      let degrees : d ≡ e = h.first.degree ∙ ap degree_of polynomials ∙ sym g.first.degree in
      (degrees, h.count ∙ ap (monomials_of_degree (size c)) degrees ∙ sym g.count)

  -- bounds with one stop are alike
  bounds-one : (f g : BoundFault) → IsCheckBound l c f → IsCheckBound l c g → bound_pieces f ≡ bound_pieces g
  bounds-one (NoPrimary found degree) g h k = absurd h
  bounds-one (BasisBound which vector degree) g h k = absurd h
  bounds-one (TextBound bytes) g h k = absurd h
  bounds-one (TermBound d m) (TermBound e n) h k =
      let same = term-one d m e n h k in
      ap (λ (x : ℕ). bound_pieces (TermBound x m)) same.0 ∙ ap (λ (x : ℕ). bound_pieces (TermBound e x)) same.1
  bounds-one (TermBound d m) (GroupBound n) h k = let same = stops-one TermStop GroupStop h.stop k.1 in absurd cc
  bounds-one (TermBound d m) (RankBound n) h k = let same = stops-one TermStop RankStop h.stop k.1 in absurd cc
  bounds-one (TermBound d m) (NoPrimary found degree) h k = absurd k
  bounds-one (TermBound d m) (BasisBound which vector degree) h k = absurd k
  bounds-one (TermBound d m) (TextBound bytes) h k = absurd k
  bounds-one (GroupBound m) (TermBound e n) h k = let same = stops-one GroupStop TermStop h.1 k.stop in absurd cc
  bounds-one (GroupBound m) (GroupBound n) h k = ap (λ (x : ℕ). bound_pieces (GroupBound x)) (h.0 ∙ sym k.0)
  bounds-one (GroupBound m) (RankBound n) h k = let same = stops-one GroupStop RankStop h.1 k.1 in absurd cc
  bounds-one (GroupBound m) (NoPrimary found degree) h k = absurd k
  bounds-one (GroupBound m) (BasisBound which vector degree) h k = absurd k
  bounds-one (GroupBound m) (TextBound bytes) h k = absurd k
  bounds-one (RankBound m) (TermBound e n) h k = let same = stops-one RankStop TermStop h.1 k.stop in absurd cc
  bounds-one (RankBound m) (GroupBound n) h k = let same = stops-one RankStop GroupStop h.1 k.1 in absurd cc
  bounds-one (RankBound m) (RankBound n) h k = ap (λ (x : ℕ). bound_pieces (RankBound x)) (h.0 ∙ sym k.0)
  bounds-one (RankBound m) (NoPrimary found degree) h k = absurd k
  bounds-one (RankBound m) (BasisBound which vector degree) h k = absurd k
  bounds-one (RankBound m) (TextBound bytes) h k = absurd k

  -- a command that writes one text where it rejects at an item, and one where it accepts
  module _ (refusal : ℕ → ℕ → List ℕ) (answer : List ℕ) where
    abbrev EndsThere : Ending → Type 0
    EndsThere e = AtCertificate (IsCheckBound l) (λ d a i text. IsRejection l d a i × (text ≡ refusal a i)) (λ d text. IsAccepted d l × (text ≡ answer)) (OfCertificate c) e

    -- the condition and the item of a refusal
    item-of : End → ℕ × ℕ
    item-of Accepts = (0, 0)
    item-of (Fails a i) = (number a, i)
    item-of (Stops s) = (0, 0)

    rejections-one : (a i b j : ℕ) → IsRejection l c a i → IsRejection l c b j → (a ≡ b) × (i ≡ j)
    unfolding item-of
    rejections-one a i b j h k =
        let same = one-end (Fails h.0 i) (Fails k.0 j) (rejected-end h.0 i h.2) (rejected-end k.0 j k.2) in
        let items : item-of (Fails h.0 i) ≡ item-of (Fails k.0 j) = ap item-of same in
        (h.1 ∙ ap (λ (p : ℕ × ℕ). p.0) items ∙ sym k.1, ap (λ (p : ℕ × ℕ). p.1) items)

    stop-no-refusal : (f : BoundFault) (a i : ℕ) → IsCheckBound l c f → IsRejection l c a i → ⊥
    stop-no-refusal f a i h k =
        let b = bounded f h in
        let same = one-end (Stops b.stop) (Fails k.0 i) b.ended (rejected-end k.0 i k.2) in
        absurd cc

    stop-no-answer : (f : BoundFault) → IsCheckBound l c f → IsAccepted c l → ⊥
    stop-no-answer f h k =
        let b = bounded f h in
        let same = one-end (Stops b.stop) Accepts b.ended (accepted-end k) in
        absurd cc

    refusal-no-answer : (a i : ℕ) → IsRejection l c a i → IsAccepted c l → ⊥
    refusal-no-answer a i h k =
        let same = one-end (Fails h.0 i) Accepts (rejected-end h.0 i h.2) (accepted-end k) in
        absurd cc

    ends-alike : (e f : Ending) → EndsThere e → EndsThere f → AreAlike e f
    ends-alike (StopsAt x) (StopsAt y) h k = bounds-one x y h k
    ends-alike (StopsAt x) (Rejects a i text) h k = absurd (stop-no-refusal x a i h k.0)
    ends-alike (StopsAt x) (Answers text) h k = absurd (stop-no-answer x h k.0)
    ends-alike (Rejects a i text) (StopsAt y) h k = absurd (stop-no-refusal y a i k h.0)
    ends-alike (Rejects a i text) (Rejects b j other) h k =
        let same = rejections-one a i b j h.0 k.0 in
        (same.0, same.1, h.1 ∙ ap (λ (x : ℕ). refusal x i) same.0 ∙ ap (refusal b) same.1 ∙ sym k.1)
    ends-alike (Rejects a i text) (Answers other) h k = absurd (refusal-no-answer a i h.0 k.0)
    ends-alike (Answers text) (StopsAt y) h k = absurd (stop-no-answer y k h.0)
    ends-alike (Answers text) (Rejects b j other) h k = absurd (refusal-no-answer b j k.0 h.0)
    ends-alike (Answers text) (Answers other) h k = h.1 ∙ sym k.1

  pub check-one : (e f : Ending) → AtCertificate (IsCheckBound l) (IsCheckRejected l) (IsCheckAnswer l) (OfCertificate c) e
      → AtCertificate (IsCheckBound l) (IsCheckRejected l) (IsCheckAnswer l) (OfCertificate c) f → AreAlike e f
  check-one = ends-alike (λ a i. verdict_line (Rejected a i)) (verdict_line Accepted)

  pub show-one : (e f : Ending) → AtCertificate (IsCheckBound l) (IsShowRejected l) (IsShowAnswer l) (OfCertificate c) e
      → AtCertificate (IsCheckBound l) (IsShowRejected l) (IsShowAnswer l) (OfCertificate c) f → AreAlike e f
  show-one = ends-alike (λ a i. []) (shown_text c)
