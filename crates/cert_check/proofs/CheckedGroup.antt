-- The group of the matrices of a certificate, as a check finds it.
use Rattle.std.proofs.Common.{◌≡◌, ◌∙◌, ◌⊎◌, ℕ, Bool, ◌+◌, ◌<◌, ◌≤◌, List, [], ◌∷◌, length, get_or, inl, inr, refl, sym, subst, arith}
use Rattle.std.specs.Prelude.{◌↔◌, All, Result, Ok, Err, IfErr, IsErrAnd, Option, Some, None, IfNone, IfSome, IsTrue, is_some}
use Rattle.std.proofs.lemmas.Bool.{cases_lt}
use Rattle.std.proofs.lemmas.List.{length-map}
use Rattle.std.proofs.lemmas.List.Elements.{All-weaker}
use Rattle.std.proofs.lemmas.Option.{slice_get-get_or}
use Rattle.alg_core.specs.Fields.{FieldOn, Scalar, scalars}
use Rattle.alg_core.specs.Spaces.{SpaceOver}
use Rattle.alg_core.specs.declared.limits.Limits.{Limits}
use Rattle.lin_algebra.specs.Matrices.{IsInverse, entries}
use Rattle.lin_algebra.specs.declared.matrix.Matrix.{Matrix}
use Rattle.matrix_group.specs.Actions.{IsSquare}
use Rattle.matrix_group.specs.Groups.{size as rows, cells_of, AreElements, IsGroup, IsNonsingular, IsOrder, IsOverOrder}
use Rattle.matrix_group.specs.declared.fault.GroupFault.{GroupFault}
use Rattle.matrix_group.specs.declared.fault.GroupFault.TheVariants as groups
use Rattle.matrix_group.proofs.OrderLaws.{order_unique}
use Rattle.certificate_io.specs.Certificates.{CertificateOf}
use Rattle.cert_check.specs.Conditions.{Group, Primaries, number, Meets, K1}
use Rattle.cert_check.specs.Endings.{IsGiven, IsGroupOf, IsFirstFailing, IsTold, ending_of_group}
use Rattle.cert_check.specs.Parts.{At, size}
use Rattle.cert_check.specs.Work.{Reached, Fails, Stop, GroupStop, RankStop, TermStop, Keeps, KeepsBefore, MeetsBefore, stop_point}
use Rattle.cert_check.specs.declared.ending.Ending.{Ending}
use Rattle.cert_check.specs.declared.ending.Ending.TheVariants.{Rejected}
use Rattle.cert_check.proofs.GivenParts.{given_well, given_square, given_some}
use Rattle.cert_check.proofs.MadePlaces.{place_within}
use Rattle.cert_check.proofs.WorkSteps.{one_number, at_start, group_passed, matrix_fails, order_fails}

-- what holds of the error that it becomes
pub fault_told : {X : Type 0} (c : CertificateOf ℕ) (l : Limits) (result : Result X Ending) (e : Ending) → IsErrAnd result (λ x. x ≡ e) → IsTold c l e
    → IfErr result (IsTold c l)
fault_told c l (Ok x) e told h = absurd told
fault_told c l (Err x) e told h = subst (IsTold c l) (sym told) h

-- all hold where none fails
pub none_fails : (P : ℕ → Type 0) (o : Option ℕ) → ((i : ℕ) → ¬ (o ≡ Some i)) → IsFirstFailing P o → (j : ℕ) → P j
none_fails P None not h = h
none_fails P (Some i) not h = absurd (not i refl)

-- where an inverse is found there is one, and where none is found there is none
pub invertible_exact : {E : Type 0} (k : FieldOn E) (m : Matrix E) (o : Option (Matrix E))
    → IfNone o ((b : ℕ → ℕ → Scalar k) → ¬ IsInverse (scalars k) m.rows (entries k m) b) → IfSome o (λ b. IsInverse (scalars k) m.rows (entries k m) (entries k b))
    → IsTrue (is_some o) ↔ IsNonsingular k m
invertible_exact k m None none some = (λ t. absurd cc, λ i. absurd (none i.0 i.1))
invertible_exact k m (Some b) none some = (λ t. (entries k b, some), λ i. refl)

pub no_inverse : {E : Type 0} (k : FieldOn E) (m : Matrix E) (b : Bool) → ¬ IsTrue b → IsTrue b ↔ IsNonsingular k m → ¬ IsNonsingular k m
no_inverse k m b not exact h = not (exact.1 h)

-- the matrices as they are asked for
module _ {E : Type 0} (k : FieldOn E) (n : ℕ) where
  pub own_square : (m : Matrix E) → IsSquare k n m → IsSquare k m.rows m
  own_square m h = record { matrix = h.matrix; rows = refl; cols = h.cols ∙ sym h.rows }

  pub own_squares : (gens : List (Matrix E)) → All (IsSquare k n) gens → All (λ m. IsSquare k m.rows m) gens
  own_squares = All-weaker (IsSquare k n) (λ m. IsSquare k m.rows m) own_square

  pub rows_are : (gens : List (Matrix E)) → 0 < length gens → All (IsSquare k n) gens → rows gens ≡ n
  rows_are [] some h = absurd (omega arith)
  rows_are (m ∷ gens) some h = (h 0 m (omega arith)).rows

  pub each_invertible : (gens : List (Matrix E)) → ((i : ℕ) (m : Matrix E) → At gens i m → IsNonsingular k m) → All (IsNonsingular k) gens
  each_invertible gens h i d l = h (i + 1) (get_or gens i d) (i, refl, slice_get-get_or gens i d l)

module _ (S : SpaceOver ℕ) (gens : List (Matrix ℕ)) (c : CertificateOf ℕ) (l : Limits) (given : IsGiven S gens c) where
  abbrev k : FieldOn ℕ
  k = S.field

  rejected : (i : ℕ) → Fails S.field gens c l Group i → IsTold c l (Rejected 1 i)
  rejected i fails = (Group, refl, record { field = S.field; matrices = gens; well_formed = given_well S gens c given; fails = fails })

  pub size_is : rows gens ≡ size c
  size_is = rows_are k (size c) gens (given_some S gens c given) (given_square S gens c given)

  pub squares_given : All (IsSquare S.field (rows gens)) gens
  squares_given = subst (λ n. All (IsSquare k n) gens) (sym size_is) (given_square S gens c given)

  abbrev Invertible : ℕ → Type 0
  Invertible i = (m : Matrix ℕ) → At gens i m → IsNonsingular k m

  -- an item of a matrix is no item of the order
  matrix-item : (i : ℕ) → i ≤ length gens → Invertible i → K1 k gens c i
  matrix-item i within h = record { matrix = h; order = λ e. absurd (omega (arith, e, within)) }

  -- there is no matrix past the last
  matrix-within : (i : ℕ) → ¬ Invertible i → i ≤ length gens
  matrix-within i fails = go (cases_lt (length gens) i)
    where
      go : (length gens < i) ⊎ (i ≤ length gens) → i ≤ length gens
      go (inl past) = absurd (fails (λ m at. let e = at.1 in let w = place_within gens at.0 m at.2 in absurd (omega (arith, e, w, past))))
      go (inr h) = h

  -- the first matrix with no inverse
  pub singular_told : (i : ℕ) → IsFirstFailing (λ j. (m : Matrix ℕ) → At gens j m → IsNonsingular S.field m) (Some i) → IsTold c l (Rejected 1 i)
  singular_told i h =
      let within = matrix-within i h.1 in
      rejected i (matrix_fails k gens c l i within (λ j b. matrix-item j (omega (arith, b, within)) (h.0 j b)) (λ met. h.1 met.matrix))

  module _ (each : (i : ℕ) (m : Matrix ℕ) → At gens i m → IsNonsingular S.field m) where
    before-order : (i : ℕ) → i < length gens + 1 → K1 k gens c i
    before-order i h = matrix-item i (omega (arith, h)) (each i)

    -- the group has too many elements
    pub over_told : (e : GroupFault)
        → ((counted : ℕ) → e ≡ groups.GroupBound counted → (counted ≡ l.max_order + 1) × IsOverOrder S.field (rows gens) (cells_of gens) l.max_order)
        → IsTold c l (ending_of_group e)
    over_told (groups.GroupBound counted) told =
        let met = told counted refl in (
          met.0,
          record {
            field = S.field;
            matrices = gens;
            well_formed = given_well S gens c given;
            stops = record {
              met = met-before;
              kept = kept-before;
              exceeded = subst (λ n. IsOverOrder k n (cells_of gens) l.max_order) size_is met.1;
            };
          },
        )
      where
        met-before : MeetsBefore k gens c (Group, length gens + 1)
        met-before a i (inl h) = (at_start k gens c l).met a i (inl h)
        met-before a i (inr (e, h)) = subst (λ x. Meets k gens c x i) (sym (one_number a Group e)) (before-order i h)

        kept-within : (s : Stop) → number (stop_point gens c s).0 ≡ 1 → (stop_point gens c s).1 < length gens + 1 → Keeps k gens c l s
        kept-within GroupStop e h = absurd (omega (arith, h))
        kept-within RankStop e h = absurd (omega (arith, e))
        kept-within TermStop e h = absurd (omega (arith, e))

        kept-before : KeepsBefore k gens c l (Group, length gens + 1)
        kept-before s (inl h) = (at_start k gens c l).kept s (inl h)
        kept-before s (inr (e, h)) = kept-within s e h
    over_told groups.Memory told = tt

    module _ (gs : List (Matrix ℕ)) (elements : AreElements S.field (rows gens) (cells_of gens) (cells_of gs)) (within : length gs ≤ l.max_order) (N : ℕ) (is : N ≡ length gs) where
      order-is : IsOrder k (size c) (cells_of gens) N
      order-is = (cells_of gs, subst (λ n. AreElements k n (cells_of gens) (cells_of gs)) size_is elements, length-map gs (λ m. m.cells.items) ∙ sym is)

      kept : Keeps k gens c l GroupStop
      kept = (N, order-is, omega (arith, within, is))

      pub order_told : ¬ (N ≡ c.order) → IsTold c l (Rejected 1 (length gens + 1))
      order_told other =
          rejected (length gens + 1) (order_fails k gens c l (length gens + 1) kept before-order
          (λ met. other (order_unique k (size c) (cells_of gens) N c.order order-is (met.order refl))))

      pub group_holds : N ≡ c.order → Reached S.field gens c l (Primaries, 0)
      group_holds same = group_passed k gens c l kept
          (λ i. record { matrix = each i; order = λ e. subst (IsOrder k (size c) (cells_of gens)) same order-is })

  pub group_of : (gs : List (Matrix ℕ)) → All (IsSquare S.field (rows gens)) gs → rows gs ≡ rows gens
      → AreElements S.field (rows gens) (cells_of gens) (cells_of gs) → IsGroup S.field (rows gens) (cells_of gs) → IsGroupOf S.field (size c) gens gs
  group_of gs square same elements group = record {
    square = subst (λ n. All (IsSquare k n) gs) size_is square;
    size = same ∙ size_is;
    elements = subst (λ n. AreElements k n (cells_of gens) (cells_of gs)) size_is elements;
    group = subst (λ n. IsGroup k n (cells_of gs)) size_is group;
  }
