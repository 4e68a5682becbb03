use Rattle.std.proofs.Common.{◌≡◌, ◌≢◌, ◌∙◌, ◌≤◌, ℕ, None, List, length, sym, ap, subst, rules}
use Rattle.std.specs.Prelude.{AllPairs}
use Rattle.std.specs.Option.{option_or}
use Rattle.prime_field.specs.ListedPrimes.{is_listed}
use Rattle.prime_field.specs.PrimeFields.{IsPrimeField}
use Rattle.lin_algebra.specs.declared.matrix.Matrix.{Matrix}
use Rattle.alg_core.specs.declared.value_kind.ValueKind.TheVariants as kinds
use Rattle.certificate_io.specs.Certificates.{matrix_of}
use Rattle.certificate_io.specs.Conditions.{IsSquare}
use Rattle.poly_text.proofs.EntrySteps.{field_of}
use Rattle.certificate_io.specs.Readings.{AreReadBy, matrix_cells, matrix_kind, on_line, run_fault}
use Rattle.certificate_io.specs.Values.{checked, names_fault, nothing_seen}
use Rattle.certificate_io.proofs.FaultChains.{chain_next, names_pass, pairs_distinct}
use Rattle.certificate_io.proofs.SpaceReadings.{numbers_moved}
use Rattle.certificate_io.proofs.values.read_heading.Goals as goal

pub returns-clause-ready : goal.returns-clause-ready
returns-clause-ready c =
    let items = c.as_slice.ensures.value in
    record {
      few = subst (λ (l : List (List ℕ)). length l ≤ 8) items c.in_ok-names_fault.ensures.few;
      distinct = subst (AllPairs (λ v w. v ≢ w)) items (pairs_distinct c.as_slice.result.now (names_pass c.as_slice.result.now c.in_ok-names_fault.ensures.is.0));
    }

pub returns-clause-is : goal.returns-clause-is
returns-clause-is c = λ t are lines.
    let p = c.characteristic_of-characteristic.ensures.is t.characteristic (are.characteristic, sym lines.field) in
    let ns = c.in_ok-names.ensures.is t.names are.names (sym lines.names) in
    let many : c.len.result ≡ length c.in_ok-names.names.items = search rules in
    let field = subst (λ q. (on_line 2 (checked kinds.Field (is_listed q)) ≡ None) × IsPrimeField q (field_of c.in_ok-field.field)) p c.in_ok-field.ensures.is in
    let named = subst (λ l. on_line 3 (names_fault nothing_seen l) ≡ None) (c.as_slice.ensures.value ∙ ns) c.in_ok-names_fault.ensures.is.0 in
    let Rows : ℕ → ℕ → ℕ → Type 0 = λ q n i. (run_fault (λ _ cs. matrix_kind q n cs) i 0 t.matrices ≡ None)
    × AreReadBy (λ (m : Matrix ℕ). IsSquare q n (matrix_of m)) (λ m. matrix_cells q (matrix_of m)) (λ x. x) t.matrices c.in_ok-matrices.matrices.items in
    let rows = numbers_moved Rows _ _ _ _ _ _ p (many ∙ ap length ns) lines.matrices.number (c.in_ok-matrices.ensures.is t.matrices are.matrices.1 lines.matrices.tails) in
    let matrices = run_fault (λ _ cs. matrix_kind t.characteristic (length t.names) cs) 4 0 t.matrices in
    let after = option_or (on_line 3 (names_fault nothing_seen t.names)) matrices in (
      chain_next (on_line 2 (checked kinds.Field (is_listed t.characteristic))) after field.0 ∙ chain_next (on_line 3 (names_fault nothing_seen t.names)) matrices named ∙ rows.0,
      record { field = field.1; characteristic = p; names = ns; matrices = rows.1; order = c.number_of.ensures.is t.order (are.order, sym lines.order) },
    )
