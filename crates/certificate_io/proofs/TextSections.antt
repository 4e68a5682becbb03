-- The lines of a text stand in sections, which give its parts.
use Rattle.std.proofs.Common.{◌≡◌, ◌≢◌, ◌∙◌, ℕ, zero, suc, ◌<◌, ◌⊎◌, inl, inr, List, [], ◌∷◌, ◌++◌, Some, None, length, map, refl, sym, ap, ap₂, subst, arith}
use Rattle.std.specs.Prelude.{All, slice_index_or}
use Rattle.std.specs.List.{Contains}
use Rattle.std.proofs.lemmas.List.Elements.{All-nil, All-cons, All-head, All-tail}
use Rattle.certificate_io.specs.Parts.{EvidenceTree, Images, Kernel, TextParts, AreParts, IsSomeOf, IsPowerTree, IsImageTree, IsMemberTree, IsEvidenceTree, power_line, image_line, member_line, evidence_lines, lines_in}
use Rattle.certificate_io.specs.Syntax.{LineTree, VersionLine, FieldLine, NamesLine, MatrixLine, OrderLine, PrimaryLine, LiftLine, PowerLine, RankLine, SecondaryLine, ReynoldsLine, KernelLine, ImageLine, MovedLine, FixedLine, IrreducibleLine, WordLine, EndLine, IsBetween, IsCell, IsLine, IsPolynomial, IsShaped, AreInOrder, kind_of, last_kind, successors_of}
use Rattle.certificate_io.specs.declared.line_kind.LineKind.{LineKind}
use Rattle.certificate_io.specs.declared.line_kind.LineKind.TheVariants as kinds
use Rattle.alg_core.specs.Names.{is_name}
use Rattle.std.specs.Prelude.{IsTrue}

-- the lines from l on, up to the end
pub record AreFrom (l : LineTree) (ls : List LineTree) : Type 0 where
  pub line : IsLine l
  pub others : All IsLine ls
  pub order : AreInOrder (Some (kind_of l)) (map kind_of ls)
  pub last : last_kind (Some (kind_of l)) (map kind_of ls) ≡ Some kinds.End

from_next : (l m : LineTree) (ls : List LineTree) → AreFrom l (m ∷ ls) → AreFrom m ls
from_next l m ls h = record { line = All-head IsLine m ls h.others; others = All-tail IsLine m ls h.others; order = h.order.1; last = h.last }

-- what a list of kinds has
only_one : (a x : LineKind) → Contains (a ∷ []) x → x ≡ a
only_one a x h = go h.0 h.1 h.2
  where
    go : (k : ℕ) → k < 1 → slice_index_or (a ∷ []) k x ≡ x → x ≡ a
    go zero low e = sym e
    go (suc k) low e = absurd (omega (arith, low))

first_or : (a : LineKind) (others : List LineKind) (x : LineKind) → Contains (a ∷ others) x → (x ≡ a) ⊎ Contains others x
first_or a others x h = go h.0 h.1 h.2
  where
    go : (k : ℕ) → k < length (a ∷ others) → slice_index_or (a ∷ others) k x ≡ x → (x ≡ a) ⊎ Contains others x
    go zero low e = inl (sym e)
    go (suc k) low e = inr (k, omega (arith, low), e)

nothing_in : (x : LineKind) → ¬ Contains [] x
nothing_in x h = let low = h.1 in omega (arith, low)

-- a line of a part
pub record IsMade {A : Type 0} (C : A → LineTree) (P : A → Type 0) (l : LineTree) : Type 0 where
  pub part : A
  pub is : P part
  pub whole : C part ≡ l

made_version : (l : LineTree) → kind_of l ≡ kinds.Version → VersionLine ≡ l
made_version VersionLine e = refl
made_version l e = absurd cc

made_field : (l : LineTree) → IsLine l → kind_of l ≡ kinds.Field → IsMade FieldLine (IsBetween 99999) l
made_field (FieldLine p) is e = record { part = p; is = is; whole = refl }
made_field l is e = absurd cc

made_names : (l : LineTree) → IsLine l → kind_of l ≡ kinds.Names → IsMade NamesLine (IsSomeOf (λ w. IsTrue (is_name w))) l
made_names (NamesLine ns) is e = record { part = ns; is = is; whole = refl }
made_names l is e = absurd cc

made_matrix : (l : LineTree) → IsLine l → kind_of l ≡ kinds.Matrix → IsMade MatrixLine (IsSomeOf IsCell) l
made_matrix (MatrixLine cs) is e = record { part = cs; is = is; whole = refl }
made_matrix l is e = absurd cc

made_order : (l : LineTree) → IsLine l → kind_of l ≡ kinds.Order → IsMade OrderLine (IsBetween 999999999999999999) l
made_order (OrderLine n) is e = record { part = n; is = is; whole = refl }
made_order l is e = absurd cc

made_primary : (l : LineTree) → IsLine l → kind_of l ≡ kinds.Primary → IsMade PrimaryLine IsPolynomial l
made_primary (PrimaryLine ts) is e = record { part = ts; is = is; whole = refl }
made_primary l is e = absurd cc

made_lift : (l : LineTree) → IsLine l → kind_of l ≡ kinds.Lift → IsMade LiftLine IsPolynomial l
made_lift (LiftLine ts) is e = record { part = ts; is = is; whole = refl }
made_lift l is e = absurd cc

made_power : (l : LineTree) → IsLine l → kind_of l ≡ kinds.Power → IsMade power_line IsPowerTree l
made_power (PowerLine w n ts) is e = record { part = record { name = w; exponent = n; form = ts }; is = record { name = is.0; exponent = is.1; form = is.2 }; whole = refl }
made_power l is e = absurd cc

made_rank : (l : LineTree) → IsLine l → kind_of l ≡ kinds.Rank → IsMade RankLine (IsBetween 999999999999999999) l
made_rank (RankLine n) is e = record { part = n; is = is; whole = refl }
made_rank l is e = absurd cc

made_secondary : (l : LineTree) → IsLine l → kind_of l ≡ kinds.Secondary → IsMade SecondaryLine IsPolynomial l
made_secondary (SecondaryLine ts) is e = record { part = ts; is = is; whole = refl }
made_secondary l is e = absurd cc

made_reynolds : (l : LineTree) → kind_of l ≡ kinds.Reynolds → ReynoldsLine ≡ l
made_reynolds ReynoldsLine e = refl
made_reynolds l e = absurd cc

made_kernel : (l : LineTree) → kind_of l ≡ kinds.Kernel → KernelLine ≡ l
made_kernel KernelLine e = refl
made_kernel l e = absurd cc

made_image : (l : LineTree) → IsLine l → kind_of l ≡ kinds.Image → IsMade image_line IsImageTree l
made_image (ImageLine fs ts) is e = record { part = record { monomial = fs; combination = ts }; is = record { monomial = is.0; combination = is.1 }; whole = refl }
made_image l is e = absurd cc

made_moved : (l : LineTree) → IsLine l → kind_of l ≡ kinds.Moved → IsMade member_line IsMemberTree l
made_moved (MovedLine ts) is e = record { part = record { polynomial = ts; combination = None }; is = record { polynomial = is; combination = tt }; whole = refl }
made_moved l is e = absurd cc

made_fixed : (l : LineTree) → IsLine l → kind_of l ≡ kinds.Fixed → IsMade member_line IsMemberTree l
made_fixed (FixedLine ts us) is e = record { part = record { polynomial = ts; combination = Some us }; is = record { polynomial = is.0; combination = is.1 }; whole = refl }
made_fixed l is e = absurd cc

made_irreducible : (l : LineTree) → IsLine l → kind_of l ≡ kinds.Irreducible → IsMade IrreducibleLine IsPolynomial l
made_irreducible (IrreducibleLine ts) is e = record { part = ts; is = is; whole = refl }
made_irreducible l is e = absurd cc

made_word : (l : LineTree) → IsLine l → kind_of l ≡ kinds.Word → IsMade WordLine IsPolynomial l
made_word (WordLine ts) is e = record { part = ts; is = is; whole = refl }
made_word l is e = absurd cc

made_end : (l : LineTree) → kind_of l ≡ kinds.End → EndLine ≡ l
made_end EndLine e = refl
made_end l e = absurd cc

-- the lines of parts, each by C, and the rest
pub record Section {A : Type 0} (C : A → LineTree) (P : List A → Type 0) (After : List LineTree → Type 0) (ls : List LineTree) : Type 0 where
  pub parts : List A
  pub rest : List LineTree
  pub are : P parts
  pub after : After rest
  pub whole : map C parts ++ rest ≡ ls

-- the line of one part, and the rest
pub record Single {A : Type 0} (C : A → LineTree) (P : A → Type 0) (After : List LineTree → Type 0) (ls : List LineTree) : Type 0 where
  pub part : A
  pub rest : List LineTree
  pub is : P part
  pub after : After rest
  pub whole : C part ∷ rest ≡ ls

-- lines of the kinds S, after which lines of the kinds N stand
module _ {A : Type 0} (C : A → LineTree) (P : A → Type 0) (S : LineKind → Type 0) (N : LineKind → Type 0) (After : List LineTree → Type 0)
    (step : (k : LineKind) (l : LineTree) → S k → IsLine l → Contains (successors_of k) (kind_of l) → (IsMade C P l × S (kind_of l)) ⊎ N (kind_of l))
    (goes_on : ¬ S kinds.End)
    (next : (l : LineTree) (ls : List LineTree) → AreFrom l ls → N (kind_of l) → After (l ∷ ls)) where
  after_line : (l : LineTree) (ls : List LineTree) → S (kind_of l) → AreFrom l ls → Section C (All P) After ls
  after_line l [] s h = absurd (goes_on (subst S (let e : Some (kind_of l) ≡ Some kinds.End = h.last in cc) s))
  after_line l (m ∷ ls) s h = go (step (kind_of l) m s (All-head IsLine m ls h.others) h.order.0) (λ t. after_line m ls t (from_next l m ls h))
    where
      go : (IsMade C P m × S (kind_of m)) ⊎ N (kind_of m) → (S (kind_of m) → Section C (All P) After ls) → Section C (All P) After (m ∷ ls)
      go (inl made) more =
          let others = more made.1 in
          let one = made.0 in
          record {
            parts = one.part ∷ others.parts;
            rest = others.rest;
            are = All-cons P one.part others.parts one.is others.are;
            after = others.after;
            whole = ap₂ (λ x xs. x ∷ xs) one.whole others.whole;
          }
      go (inr n) more = record { parts = []; rest = m ∷ ls; are = All-nil P; after = next m ls (from_next l m ls h) n; whole = refl }

  section_of : (l : LineTree) (ls : List LineTree) → IsMade C P l → S (kind_of l) → AreFrom l ls → Section C (IsSomeOf P) After (l ∷ ls)
  section_of l ls one s h =
      let others = after_line l ls s h in
      record {
        parts = one.part ∷ others.parts;
        rest = others.rest;
        are = (omega arith, All-cons P one.part others.parts one.is others.are);
        after = others.after;
        whole = ap₂ (λ x xs. x ∷ xs) one.whole others.whole;
      }

-- lines of the kind K, after which lines of the kinds Ns stand
module _ {A : Type 0} (C : A → LineTree) (P : A → Type 0) (K : LineKind) (Ns : List LineKind) (After : List LineTree → Type 0)
    (made : (l : LineTree) → IsLine l → kind_of l ≡ K → IsMade C P l)
    (follow : successors_of K ≡ K ∷ Ns)
    (goes_on : K ≢ kinds.End)
    (next : (l : LineTree) (ls : List LineTree) → AreFrom l ls → Contains Ns (kind_of l) → After (l ∷ ls)) where
  step : (k : LineKind) (l : LineTree) → k ≡ K → IsLine l → Contains (successors_of k) (kind_of l) → (IsMade C P l × (kind_of l ≡ K)) ⊎ Contains Ns (kind_of l)
  step k l at is h = go (first_or K Ns (kind_of l) (subst (λ js. Contains js (kind_of l)) (ap successors_of at ∙ follow) h))
    where
      go : (kind_of l ≡ K) ⊎ Contains Ns (kind_of l) → (IsMade C P l × (kind_of l ≡ K)) ⊎ Contains Ns (kind_of l)
      go (inl e) = inl (made l is e, e)
      go (inr c) = inr c

  run_of : (l : LineTree) (ls : List LineTree) → kind_of l ≡ K → AreFrom l ls → Section C (IsSomeOf P) After (l ∷ ls)
  run_of l ls e h = section_of C P (λ k. k ≡ K) (λ k. Contains Ns k) After step (λ e. goes_on (sym e)) next l ls (made l h.line e) e h

-- a line of the kind K, after which one of the kinds Ns stands
module _ {A : Type 0} (C : A → LineTree) (P : A → Type 0) (K : LineKind) (Ns : List LineKind) (After : List LineTree → Type 0)
    (made : (l : LineTree) → IsLine l → kind_of l ≡ K → IsMade C P l)
    (follow : successors_of K ≡ Ns)
    (goes_on : K ≢ kinds.End)
    (next : (l : LineTree) (ls : List LineTree) → AreFrom l ls → Contains Ns (kind_of l) → After (l ∷ ls)) where
  one_of : (l : LineTree) (ls : List LineTree) → kind_of l ≡ K → AreFrom l ls → Single C P After (l ∷ ls)
  one_of l [] e h = absurd (goes_on (let last : Some (kind_of l) ≡ Some kinds.End = h.last in sym e ∙ cc))
  one_of l (m ∷ ls) e h =
      let one = made l h.line e in
      record {
        part = one.part;
        rest = m ∷ ls;
        is = one.is;
        after = next m ls (from_next l m ls h) (subst (λ js. Contains js (kind_of m)) (ap successors_of e ∙ follow) h.order.0);
        whole = ap (λ x. x ∷ m ∷ ls) one.whole;
      }

-- the sections from the last one on
abbrev pub Words : List LineTree → Type 0
Words = Section WordLine (IsSomeOf IsPolynomial) (λ ls. EndLine ∷ [] ≡ ls)

abbrev pub Irreducibles : List LineTree → Type 0
Irreducibles = Section IrreducibleLine (All IsPolynomial) Words

pub record Evidence (ls : List LineTree) : Type 0 where
  pub part : EvidenceTree
  pub rest : List LineTree
  pub is : IsEvidenceTree part
  pub after : Irreducibles rest
  pub whole : evidence_lines part ++ rest ≡ ls

abbrev pub Secondaries : List LineTree → Type 0
Secondaries = Section SecondaryLine (IsSomeOf IsPolynomial) Evidence

abbrev pub Rank : List LineTree → Type 0
Rank = Single RankLine (IsBetween 999999999999999999) Secondaries

abbrev pub Powers : List LineTree → Type 0
Powers = Section power_line (IsSomeOf IsPowerTree) Rank

abbrev pub Lifts : List LineTree → Type 0
Lifts = Section LiftLine (IsSomeOf IsPolynomial) Powers

abbrev pub Primaries : List LineTree → Type 0
Primaries = Section PrimaryLine (IsSomeOf IsPolynomial) Lifts

abbrev pub Order : List LineTree → Type 0
Order = Single OrderLine (IsBetween 999999999999999999) Primaries

abbrev pub Matrices : List LineTree → Type 0
Matrices = Section MatrixLine (IsSomeOf (IsSomeOf IsCell)) Order

abbrev pub Names : List LineTree → Type 0
Names = Single NamesLine (IsSomeOf (λ w. IsTrue (is_name w))) Matrices

abbrev pub Field : List LineTree → Type 0
Field = Single FieldLine (IsBetween 99999) Names

end_from : (l : LineTree) (ls : List LineTree) → AreFrom l ls → Contains (kinds.End ∷ []) (kind_of l) → EndLine ∷ [] ≡ l ∷ ls
end_from l [] h c = ap (λ x. x ∷ []) (made_end l (only_one kinds.End (kind_of l) c))
end_from l (m ∷ ls) h c = absurd (nothing_in (kind_of m) (subst (λ k. Contains (successors_of k) (kind_of m)) (only_one kinds.End (kind_of l) c) h.order.0))

words_from : (l : LineTree) (ls : List LineTree) → AreFrom l ls → Contains (kinds.Word ∷ []) (kind_of l) → Words (l ∷ ls)
words_from l ls h c =
    run_of WordLine IsPolynomial kinds.Word (kinds.End ∷ []) (λ ls. EndLine ∷ [] ≡ ls) made_word refl (λ e. absurd cc) end_from l ls (only_one kinds.Word (kind_of l) c) h

irreducibles_from : (l : LineTree) (ls : List LineTree) → AreFrom l ls → Contains (kinds.Irreducible ∷ kinds.Word ∷ []) (kind_of l) → Irreducibles (l ∷ ls)
irreducibles_from l ls h c = go (first_or kinds.Irreducible (kinds.Word ∷ []) (kind_of l) c)
  where
    go : (kind_of l ≡ kinds.Irreducible) ⊎ Contains (kinds.Word ∷ []) (kind_of l) → Irreducibles (l ∷ ls)
    go (inl e) =
        let some = run_of IrreducibleLine IsPolynomial kinds.Irreducible (kinds.Word ∷ []) Words made_irreducible refl (λ e. absurd cc) words_from l ls e h in
        record { parts = some.parts; rest = some.rest; are = some.are.1; after = some.after; whole = some.whole }
    go (inr c) = record { parts = []; rest = l ∷ ls; are = All-nil IsPolynomial; after = words_from l ls h c; whole = refl }

images_from : (l : LineTree) (ls : List LineTree) → AreFrom l ls → Contains (kinds.Image ∷ []) (kind_of l) → Section image_line (IsSomeOf IsImageTree) Irreducibles (l ∷ ls)
images_from l ls h c =
    run_of image_line IsImageTree kinds.Image (kinds.Irreducible ∷ kinds.Word ∷ []) Irreducibles made_image refl (λ e. absurd cc) irreducibles_from l ls (only_one kinds.Image (kind_of l) c) h

-- lines of members, moved or fixed
abbrev IsOfMember : LineKind → Type 0
IsOfMember k = (k ≡ kinds.Moved) ⊎ (k ≡ kinds.Fixed)

member_step : (k : LineKind) (l : LineTree) → IsOfMember k → IsLine l → Contains (successors_of k) (kind_of l) → (IsMade member_line IsMemberTree l × IsOfMember (kind_of l)) ⊎ Contains (kinds.Irreducible ∷ kinds.Word ∷ []) (kind_of l)
member_step k l at is h = first (first_or kinds.Moved (kinds.Fixed ∷ kinds.Irreducible ∷ kinds.Word ∷ []) (kind_of l) (members at))
  where
    members : IsOfMember k → Contains (kinds.Moved ∷ kinds.Fixed ∷ kinds.Irreducible ∷ kinds.Word ∷ []) (kind_of l)
    members (inl e) = subst (λ j. Contains (successors_of j) (kind_of l)) e h
    members (inr e) = subst (λ j. Contains (successors_of j) (kind_of l)) e h

    second : (kind_of l ≡ kinds.Fixed) ⊎ Contains (kinds.Irreducible ∷ kinds.Word ∷ []) (kind_of l) → (IsMade member_line IsMemberTree l × IsOfMember (kind_of l)) ⊎ Contains (kinds.Irreducible ∷ kinds.Word ∷ []) (kind_of l)
    second (inl e) = inl (made_fixed l is e, inr e)
    second (inr c) = inr c

    first : (kind_of l ≡ kinds.Moved) ⊎ Contains (kinds.Fixed ∷ kinds.Irreducible ∷ kinds.Word ∷ []) (kind_of l) → (IsMade member_line IsMemberTree l × IsOfMember (kind_of l)) ⊎ Contains (kinds.Irreducible ∷ kinds.Word ∷ []) (kind_of l)
    first (inl e) = inl (made_moved l is e, inl e)
    first (inr c) = second (first_or kinds.Fixed (kinds.Irreducible ∷ kinds.Word ∷ []) (kind_of l) c)

no_member : ¬ IsOfMember kinds.End
no_member (inl e) = absurd cc
no_member (inr e) = absurd cc

members_from : (l : LineTree) (ls : List LineTree) → AreFrom l ls → Contains (kinds.Moved ∷ kinds.Fixed ∷ []) (kind_of l) → Section member_line (IsSomeOf IsMemberTree) Irreducibles (l ∷ ls)
members_from l ls h c = go (first_or kinds.Moved (kinds.Fixed ∷ []) (kind_of l) c)
  where
    all : IsMade member_line IsMemberTree l → IsOfMember (kind_of l) → Section member_line (IsSomeOf IsMemberTree) Irreducibles (l ∷ ls)
    all made s = section_of member_line IsMemberTree IsOfMember (λ k. Contains (kinds.Irreducible ∷ kinds.Word ∷ []) k) Irreducibles member_step no_member irreducibles_from l ls made s h

    go : (kind_of l ≡ kinds.Moved) ⊎ Contains (kinds.Fixed ∷ []) (kind_of l) → Section member_line (IsSomeOf IsMemberTree) Irreducibles (l ∷ ls)
    go (inl e) = all (made_moved l h.line e) (inl e)
    go (inr c) = let e = only_one kinds.Fixed (kind_of l) c in all (made_fixed l h.line e) (inr e)

evidence_from : (l : LineTree) (ls : List LineTree) → AreFrom l ls → Contains (kinds.Reynolds ∷ kinds.Kernel ∷ []) (kind_of l) → Evidence (l ∷ ls)
evidence_from l [] h c = absurd (go (first_or kinds.Reynolds (kinds.Kernel ∷ []) (kind_of l) c))
  where
    last : kind_of l ≡ kinds.End
    last = let e : Some (kind_of l) ≡ Some kinds.End = h.last in cc

    go : (kind_of l ≡ kinds.Reynolds) ⊎ Contains (kinds.Kernel ∷ []) (kind_of l) → ⊥
    go (inl e) = let bad : kinds.Reynolds ≡ kinds.End = sym e ∙ last in absurd cc
    go (inr c) = let bad : kinds.Kernel ≡ kinds.End = sym (only_one kinds.Kernel (kind_of l) c) ∙ last in absurd cc
evidence_from l (m ∷ ls) h c = go (first_or kinds.Reynolds (kinds.Kernel ∷ []) (kind_of l) c)
  where
    go : (kind_of l ≡ kinds.Reynolds) ⊎ Contains (kinds.Kernel ∷ []) (kind_of l) → Evidence (l ∷ m ∷ ls)
    go (inl e) =
        let some = images_from m ls (from_next l m ls h) (subst (λ k. Contains (successors_of k) (kind_of m)) e h.order.0) in
        record { part = Images some.parts; rest = some.rest; is = some.are; after = some.after; whole = ap₂ (λ x xs. x ∷ xs) (made_reynolds l e) some.whole }
    go (inr c) =
        let e = only_one kinds.Kernel (kind_of l) c in
        let some = members_from m ls (from_next l m ls h) (subst (λ k. Contains (successors_of k) (kind_of m)) e h.order.0) in
        record { part = Kernel some.parts; rest = some.rest; is = some.are; after = some.after; whole = ap₂ (λ x xs. x ∷ xs) (made_kernel l e) some.whole }

secondaries_from : (l : LineTree) (ls : List LineTree) → AreFrom l ls → Contains (kinds.Secondary ∷ []) (kind_of l) → Secondaries (l ∷ ls)
secondaries_from l ls h c =
    run_of SecondaryLine IsPolynomial kinds.Secondary (kinds.Reynolds ∷ kinds.Kernel ∷ []) Evidence made_secondary refl (λ e. absurd cc) evidence_from l ls (only_one kinds.Secondary (kind_of l) c) h

rank_from : (l : LineTree) (ls : List LineTree) → AreFrom l ls → Contains (kinds.Rank ∷ []) (kind_of l) → Rank (l ∷ ls)
rank_from l ls h c =
    one_of RankLine (IsBetween 999999999999999999) kinds.Rank (kinds.Secondary ∷ []) Secondaries made_rank refl (λ e. absurd cc) secondaries_from l ls (only_one kinds.Rank (kind_of l) c) h

powers_from : (l : LineTree) (ls : List LineTree) → AreFrom l ls → Contains (kinds.Power ∷ []) (kind_of l) → Powers (l ∷ ls)
powers_from l ls h c = run_of power_line IsPowerTree kinds.Power (kinds.Rank ∷ []) Rank made_power refl (λ e. absurd cc) rank_from l ls (only_one kinds.Power (kind_of l) c) h

lifts_from : (l : LineTree) (ls : List LineTree) → AreFrom l ls → Contains (kinds.Lift ∷ []) (kind_of l) → Lifts (l ∷ ls)
lifts_from l ls h c = run_of LiftLine IsPolynomial kinds.Lift (kinds.Power ∷ []) Powers made_lift refl (λ e. absurd cc) powers_from l ls (only_one kinds.Lift (kind_of l) c) h

primaries_from : (l : LineTree) (ls : List LineTree) → AreFrom l ls → Contains (kinds.Primary ∷ []) (kind_of l) → Primaries (l ∷ ls)
primaries_from l ls h c = run_of PrimaryLine IsPolynomial kinds.Primary (kinds.Lift ∷ []) Lifts made_primary refl (λ e. absurd cc) lifts_from l ls (only_one kinds.Primary (kind_of l) c) h

order_from : (l : LineTree) (ls : List LineTree) → AreFrom l ls → Contains (kinds.Order ∷ []) (kind_of l) → Order (l ∷ ls)
order_from l ls h c =
    one_of OrderLine (IsBetween 999999999999999999) kinds.Order (kinds.Primary ∷ []) Primaries made_order refl (λ e. absurd cc) primaries_from l ls (only_one kinds.Order (kind_of l) c) h

matrices_from : (l : LineTree) (ls : List LineTree) → AreFrom l ls → Contains (kinds.Matrix ∷ []) (kind_of l) → Matrices (l ∷ ls)
matrices_from l ls h c = run_of MatrixLine (IsSomeOf IsCell) kinds.Matrix (kinds.Order ∷ []) Order made_matrix refl (λ e. absurd cc) order_from l ls (only_one kinds.Matrix (kind_of l) c) h

names_from : (l : LineTree) (ls : List LineTree) → AreFrom l ls → Contains (kinds.Names ∷ []) (kind_of l) → Names (l ∷ ls)
names_from l ls h c =
    one_of NamesLine (IsSomeOf (λ w. IsTrue (is_name w))) kinds.Names (kinds.Matrix ∷ []) Matrices made_names refl (λ e. absurd cc) matrices_from l ls (only_one kinds.Names (kind_of l) c) h

field_from : (l : LineTree) (ls : List LineTree) → AreFrom l ls → Contains (kinds.Field ∷ []) (kind_of l) → Field (l ∷ ls)
field_from l ls h c = one_of FieldLine (IsBetween 99999) kinds.Field (kinds.Names ∷ []) Names made_field refl (λ e. absurd cc) names_from l ls (only_one kinds.Field (kind_of l) c) h

-- the parts of the lines of a text
pub record HasParts (ls : List LineTree) : Type 0 where
  pub parts : TextParts
  pub are : AreParts parts
  pub whole : lines_in parts ≡ ls

parts_from : (rest : List LineTree) → Field rest → HasParts (VersionLine ∷ rest)
unfolding lines_in
parts_from rest f =
    let n = f.after in
    let g = n.after in
    let o = g.after in
    let p = o.after in
    let l = p.after in
    let w = l.after in
    let r = w.after in
    let s = r.after in
    let e = s.after in
    let i = e.after in
    let d = i.after in
    let words : map WordLine d.parts ++ (EndLine ∷ []) ≡ i.rest = ap (λ x. map WordLine d.parts ++ x) d.after ∙ d.whole in
    let irreducibles = ap (λ x. map IrreducibleLine i.parts ++ x) words ∙ i.whole in
    let evidence = ap (λ x. evidence_lines e.part ++ x) irreducibles ∙ e.whole in
    let secondaries = ap (λ x. map SecondaryLine s.parts ++ x) evidence ∙ s.whole in
    let rank = ap (λ x. RankLine r.part ∷ x) secondaries ∙ r.whole in
    let powers = ap (λ x. map power_line w.parts ++ x) rank ∙ w.whole in
    let lifts = ap (λ x. map LiftLine l.parts ++ x) powers ∙ l.whole in
    let primaries = ap (λ x. map PrimaryLine p.parts ++ x) lifts ∙ p.whole in
    let order = ap (λ x. OrderLine o.part ∷ x) primaries ∙ o.whole in
    let matrices = ap (λ x. map MatrixLine g.parts ++ x) order ∙ g.whole in
    let names = ap (λ x. NamesLine n.part ∷ x) matrices ∙ n.whole in
    let field = ap (λ x. FieldLine f.part ∷ x) names ∙ f.whole in
    record {
      parts = record {
        characteristic = f.part;
        names = n.part;
        matrices = g.parts;
        order = o.part;
        primaries = p.parts;
        lifts = l.parts;
        powers = w.parts;
        rank = r.part;
        secondaries = s.parts;
        evidence = e.part;
        irreducibles = i.parts;
        words = d.parts;
      };
      are = record {
        characteristic = f.is;
        names = n.is;
        matrices = g.are;
        order = o.is;
        primaries = p.are;
        lifts = l.are;
        powers = w.are;
        rank = r.is;
        secondaries = s.are;
        evidence = e.is;
        irreducibles = i.are;
        words = d.are;
      };
      whole = ap (λ x. VersionLine ∷ x) field;
    }

-- the lines of a text are those of some parts
pub parts_of_shape : (ls : List LineTree) → IsShaped ls → HasParts ls
parts_of_shape [] h = absurd (let e = h.last in cc)
parts_of_shape (l ∷ []) h =
    let version = only_one kinds.Version (kind_of l) h.order.0 in
    let last : Some (kind_of l) ≡ Some kinds.End = h.last in
    absurd (let bad : kinds.Version ≡ kinds.End = sym version ∙ cc in cc)
parts_of_shape (l ∷ m ∷ ls) h =
    let version = only_one kinds.Version (kind_of l) h.order.0 in
    let all : AreFrom l (m ∷ ls) = record { line = All-head IsLine l (m ∷ ls) h.lines; others = All-tail IsLine l (m ∷ ls) h.lines; order = h.order.1; last = h.last } in
    let field = field_from m ls (from_next l m ls all) (subst (λ k. Contains (successors_of k) (kind_of m)) version all.order.0) in
    let found = parts_from (m ∷ ls) field in
    record { parts = found.parts; are = found.are; whole = found.whole ∙ ap (λ x. x ∷ m ∷ ls) (made_version l version) }
