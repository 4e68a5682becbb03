use Rattle.std.proofs.Common.{◌≡◌, ◌∙◌, ℕ, ◌+◌, ◌<◌, ◌≤◌, Some, length, map, sym, ap, subst, rules}
use Rattle.std.specs.Prelude.{All}
use Rattle.alg_core.specs.declared.value_kind.ValueKind.TheVariants as kinds
use Rattle.certificate_io.specs.Conditions.{degree_of}
use Rattle.certificate_io.specs.LineReadings.{power_parts, power_said}
use Rattle.certificate_io.specs.PartFaults.{heading_end, marked_of, module_faults}
use Rattle.certificate_io.specs.ReadParts.{HasSmallTerms, IsModule}
use Rattle.certificate_io.specs.Spaces.{marked_names}
use Rattle.certificate_io.proofs.DegreeSteps.{small_read, told_degrees}
use Rattle.certificate_io.proofs.FaultChains.{primaries_fail, lifts_fail, powers_fail, rank_fails, module_passes}
use Rattle.certificate_io.proofs.ReadingRuns.{error_answers}
use Rattle.certificate_io.proofs.SectionsRead.{read_length}
use Rattle.certificate_io.proofs.values.read_module.Goals as goal

pub degrees-requires : goal.degrees-requires
degrees-requires c =
    let x = c.requires.text in
    let t = x.0 in
    let read = c.in_ok-primaries.ensures.is t x.2 (heading_end t + 1) t.primaries x.1.primaries.1 x.3.primaries in
    record { small = subst (All HasSmallTerms) (sym c.as_slice.ensures.value) (small_read t t.primaries c.in_ok-primaries.primaries.items read.1) }

pub returns-in_err-primaries : goal.returns-in_err-primaries
returns-in_err-primaries c = record {
  is = λ t are is lines.
      let e = c.in_err-primaries.field-0.0 in
      error_answers c.from_residual.result e (module_faults t) (IsModule t) c.from_residual.ensures.1 (primaries_fail t e (c.in_err-primaries.ensures.is t is (heading_end t + 1) t.primaries are.primaries.1 lines.primaries));
}

pub returns-in_err-lifts : goal.returns-in_err-lifts
returns-in_err-lifts c = record {
  is = λ t are is lines.
      let read = c.in_ok-primaries.ensures.is t is (heading_end t + 1) t.primaries are.primaries.1 lines.primaries in
      let degrees = c.in_ok-degrees.ensures.is ∙ ap (map degree_of) c.as_slice.ensures.value ∙ told_degrees t c.args.heading.now are is c.requires.ready t.primaries c.in_ok-primaries.primaries.items read.1 in
      let told = c.in_err-lifts.ensures.is t is (c.as_slice-2.ensures.value ∙ degrees) (heading_end t + length t.primaries + 1) t.lifts are.lifts.1 lines.lifts in
      error_answers c.from_residual-in_err-lifts.result c.in_err-lifts.field-0.0 (module_faults t) (IsModule t) c.from_residual-in_err-lifts.ensures.1 (lifts_fail t read.0 c.in_err-lifts.field-0.0 told);
}

pub returns-in_err-powers : goal.returns-in_err-powers
returns-in_err-powers c = record {
  is = λ t are is lines.
      let read = c.in_ok-primaries.ensures.is t is (heading_end t + 1) t.primaries are.primaries.1 lines.primaries in
      let degrees = c.in_ok-degrees.ensures.is ∙ ap (map degree_of) c.as_slice.ensures.value ∙ told_degrees t c.args.heading.now are is c.requires.ready t.primaries c.in_ok-primaries.primaries.items read.1 in
      let lifts = c.in_ok-lifts.ensures.is t is (c.as_slice-2.ensures.value ∙ degrees) (heading_end t + length t.primaries + 1) t.lifts are.lifts.1 lines.lifts in
      let told = c.in_err-powers.ensures.is t is (c.as_slice-3.ensures.value ∙ degrees) (heading_end t + length t.primaries + length t.lifts + 1) t.powers are.powers.1 lines.powers in
      error_answers c.from_residual-in_err-powers.result c.in_err-powers.field-0.0 (module_faults t) (IsModule t) c.from_residual-in_err-powers.ensures.1 (powers_fail t read.0 lifts.0 c.in_err-powers.field-0.0 told);
}

pub returns-then-len : goal.returns-then-len
returns-then-len c = record {
  is = λ t are is lines.
      let read = c.in_ok-primaries.ensures.is t is (heading_end t + 1) t.primaries are.primaries.1 lines.primaries in
      let degrees = c.in_ok-degrees.ensures.is ∙ ap (map degree_of) c.as_slice.ensures.value ∙ told_degrees t c.args.heading.now are is c.requires.ready t.primaries c.in_ok-primaries.primaries.items read.1 in
      let lifts = c.in_ok-lifts.ensures.is t is (c.as_slice-2.ensures.value ∙ degrees) (heading_end t + length t.primaries + 1) t.lifts are.lifts.1 lines.lifts in
      let powers = c.in_ok-powers.ensures.is t is (c.as_slice-3.ensures.value ∙ degrees) (heading_end t + length t.primaries + length t.lifts + 1) t.powers are.powers.1 lines.powers in
      let many : c.len.result ≡ length c.in_ok-powers.powers.items = search rules in
      let named : c.len-2.result ≡ length c.args.heading.now.names.items = search rules in
      let left = many ∙ read_length (power_parts (marked_of t) (marked_names t.names (length t.primaries))) power_said c.in_ok-powers.powers.items t.powers powers.1.1 in
      let right = named ∙ ap length is.names in
      rank_fails t read.0 lifts.0 powers.0 (subst (λ (n : ℕ). length t.powers < n) right (subst (λ (n : ℕ). n < c.len-2.result) left c.if-len.true)) ∙ ap (λ n. Some (n, kinds.Count)) (sym lines.rank_line);
}

pub returns : goal.returns
returns c = record {
  is = λ t are is lines.
      let read = c.in_ok-primaries.ensures.is t is (heading_end t + 1) t.primaries are.primaries.1 lines.primaries in
      let degrees = c.in_ok-degrees.ensures.is ∙ ap (map degree_of) c.as_slice.ensures.value ∙ told_degrees t c.args.heading.now are is c.requires.ready t.primaries c.in_ok-primaries.primaries.items read.1 in
      let lifts = c.in_ok-lifts.ensures.is t is (c.as_slice-2.ensures.value ∙ degrees) (heading_end t + length t.primaries + 1) t.lifts are.lifts.1 lines.lifts in
      let powers = c.in_ok-powers.ensures.is t is (c.as_slice-3.ensures.value ∙ degrees) (heading_end t + length t.primaries + length t.lifts + 1) t.powers are.powers.1 lines.powers in
      let many : c.len.result ≡ length c.in_ok-powers.powers.items = search rules in
      let named : c.len-2.result ≡ length c.args.heading.now.names.items = search rules in
      let left = many ∙ read_length (power_parts (marked_of t) (marked_names t.names (length t.primaries))) power_said c.in_ok-powers.powers.items t.powers powers.1.1 in
      let right = named ∙ ap length is.names in (
        module_passes t read.0 lifts.0 powers.0 (subst (λ (n : ℕ). n ≤ length t.powers) right (subst (λ (n : ℕ). c.len-2.result ≤ n) left c.if-len.false)),
        record { primaries = read.1; degrees = degrees; lifts = lifts.1; powers = powers.1; rank = c.number_of.ensures.is t.rank (are.rank, sym lines.rank) },
      );
}
