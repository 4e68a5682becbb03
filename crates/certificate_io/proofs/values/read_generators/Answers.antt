use Rattle.std.proofs.Common.{◌≡◌, ◌∙◌, ◌+◌, Some, length, map, sym, ap, subst, rules}
use Rattle.std.specs.Prelude.{All}
use Rattle.alg_core.specs.declared.value_kind.ValueKind.TheVariants as kinds
use Rattle.certificate_io.specs.Conditions.{degree_of}
use Rattle.certificate_io.specs.PartFaults.{plain_of, worded_of, module_end, evidence_begin, evidence_end, words_begin, generator_faults}
use Rattle.certificate_io.specs.ReadParts.{HasSmallTerms, AreGenerators}
use Rattle.certificate_io.specs.Readings.{poly_tree}
use Rattle.certificate_io.specs.Spaces.{plain_names, word_names}
use Rattle.certificate_io.proofs.DegreeSteps.{small_read, told_degrees}
use Rattle.certificate_io.proofs.FaultChains.{secondaries_fail, evidence_fails, irreducibles_fail, words_fail, end_fails, generators_pass}
use Rattle.certificate_io.proofs.ReadingRuns.{error_answers}
use Rattle.certificate_io.proofs.SectionsRead.{read_length}
use Rattle.certificate_io.proofs.values.read_generators.Goals as goal

pub degrees-requires : goal.degrees-requires
degrees-requires c =
    let x = c.requires.text in
    let t = x.0 in
    let read = c.in_ok-secondaries.ensures.is t x.2 (module_end t + 1) t.secondaries x.1.secondaries.1 x.3.secondaries in
    record { small = subst (All HasSmallTerms) (sym c.as_slice.ensures.value) (small_read t t.secondaries c.in_ok-secondaries.secondaries.items read.1) }

pub degrees-requires-2 : goal.degrees-requires-2
degrees-requires-2 c =
    let x = c.requires.text in
    let t = x.0 in
    let read = c.in_ok-irreducibles.ensures.is t x.2 (evidence_end t + 1) t.irreducibles x.1.irreducibles x.3.irreducibles in
    record { small = subst (All HasSmallTerms) (sym c.as_slice-3.ensures.value) (small_read t t.irreducibles c.in_ok-irreducibles.irreducibles.items read.1) }

pub returns-in_err-secondaries : goal.returns-in_err-secondaries
returns-in_err-secondaries c = record {
  is = λ t are is marks lines.
      let e = c.in_err-secondaries.field-0.0 in
      error_answers c.from_residual.result e (generator_faults t) (AreGenerators t) c.from_residual.ensures.1 (secondaries_fail t e (c.in_err-secondaries.ensures.is t is (module_end t + 1) t.secondaries are.secondaries.1 lines.secondaries));
}

pub returns-in_err-evidence : goal.returns-in_err-evidence
returns-in_err-evidence c = record {
  is = λ t are is marks lines.
      let read = c.in_ok-secondaries.ensures.is t is (module_end t + 1) t.secondaries are.secondaries.1 lines.secondaries in
      let shifts = c.as_slice-2.ensures.value ∙ c.in_ok-shifts.ensures.is ∙ ap (map degree_of) c.as_slice.ensures.value ∙ told_degrees t c.args.heading.now are is c.requires.ready t.secondaries c.in_ok-secondaries.secondaries.items read.1 in
      let told = c.in_err-evidence.ensures.is t is marks shifts (evidence_begin t + 1) t.evidence are.evidence lines.evidence in
      error_answers c.from_residual-in_err-evidence.result c.in_err-evidence.field-0.0 (generator_faults t) (AreGenerators t) c.from_residual-in_err-evidence.ensures.1 (evidence_fails t read.0 c.in_err-evidence.field-0.0 told);
}

pub returns-in_err-irreducibles : goal.returns-in_err-irreducibles
returns-in_err-irreducibles c = record {
  is = λ t are is marks lines.
      let read = c.in_ok-secondaries.ensures.is t is (module_end t + 1) t.secondaries are.secondaries.1 lines.secondaries in
      let shifts = c.as_slice-2.ensures.value ∙ c.in_ok-shifts.ensures.is ∙ ap (map degree_of) c.as_slice.ensures.value ∙ told_degrees t c.args.heading.now are is c.requires.ready t.secondaries c.in_ok-secondaries.secondaries.items read.1 in
      let evidence = c.in_ok-evidence.ensures.is t is marks shifts (evidence_begin t + 1) t.evidence are.evidence lines.evidence in
      let told = c.in_err-irreducibles.ensures.is t is (evidence_end t + 1) t.irreducibles are.irreducibles lines.irreducibles in
      error_answers c.from_residual-in_err-irreducibles.result c.in_err-irreducibles.field-0.0 (generator_faults t) (AreGenerators t) c.from_residual-in_err-irreducibles.ensures.1 (irreducibles_fail t read.0 evidence.0 c.in_err-irreducibles.field-0.0 told);
}

pub returns-in_err-words : goal.returns-in_err-words
returns-in_err-words c = record {
  is = λ t are is marks lines.
      let read = c.in_ok-secondaries.ensures.is t is (module_end t + 1) t.secondaries are.secondaries.1 lines.secondaries in
      let shifts = c.as_slice-2.ensures.value ∙ c.in_ok-shifts.ensures.is ∙ ap (map degree_of) c.as_slice.ensures.value ∙ told_degrees t c.args.heading.now are is c.requires.ready t.secondaries c.in_ok-secondaries.secondaries.items read.1 in
      let evidence = c.in_ok-evidence.ensures.is t is marks shifts (evidence_begin t + 1) t.evidence are.evidence lines.evidence in
      let others = c.in_ok-irreducibles.ensures.is t is (evidence_end t + 1) t.irreducibles are.irreducibles lines.irreducibles in
      let degrees = c.as_slice-4.ensures.value ∙ c.in_ok-others.ensures.is ∙ ap (map degree_of) c.as_slice-3.ensures.value ∙ told_degrees t c.args.heading.now are is c.requires.ready t.irreducibles c.in_ok-irreducibles.irreducibles.items others.1 in
      let told = c.in_err-words.ensures.is t is marks degrees (words_begin t + 1) t.words are.words.1 lines.words in
      error_answers c.from_residual-in_err-words.result c.in_err-words.field-0.0 (generator_faults t) (AreGenerators t) c.from_residual-in_err-words.ensures.1 (words_fail t read.0 evidence.0 others.0 c.in_err-words.field-0.0 told);
}

pub returns-then-len : goal.returns-then-len
returns-then-len c = record {
  is = λ t are is marks lines.
      let read = c.in_ok-secondaries.ensures.is t is (module_end t + 1) t.secondaries are.secondaries.1 lines.secondaries in
      let shifts = c.as_slice-2.ensures.value ∙ c.in_ok-shifts.ensures.is ∙ ap (map degree_of) c.as_slice.ensures.value ∙ told_degrees t c.args.heading.now are is c.requires.ready t.secondaries c.in_ok-secondaries.secondaries.items read.1 in
      let evidence = c.in_ok-evidence.ensures.is t is marks shifts (evidence_begin t + 1) t.evidence are.evidence lines.evidence in
      let others = c.in_ok-irreducibles.ensures.is t is (evidence_end t + 1) t.irreducibles are.irreducibles lines.irreducibles in
      let degrees = c.as_slice-4.ensures.value ∙ c.in_ok-others.ensures.is ∙ ap (map degree_of) c.as_slice-3.ensures.value ∙ told_degrees t c.args.heading.now are is c.requires.ready t.irreducibles c.in_ok-irreducibles.irreducibles.items others.1 in
      let words = c.in_ok-words.ensures.is t is marks degrees (words_begin t + 1) t.words are.words.1 lines.words in
      let worded : c.len.result ≡ length c.in_ok-words.words.items = search rules in
      let many : c.len-2.result ≡ length c.in_ok-secondaries.secondaries.items = search rules in
      let left = worded ∙ read_length (poly_tree (worded_of t) (word_names (length t.primaries) (length t.irreducibles))) (λ x. x) c.in_ok-words.words.items t.words words.1.1 in
      let right = many ∙ read_length (poly_tree (plain_of t) (plain_names t.names)) (λ x. x) c.in_ok-secondaries.secondaries.items t.secondaries read.1.1 in
      end_fails t read.0 evidence.0 others.0 words.0 (λ e. c.if-len.true (left ∙ e ∙ sym right)) ∙ ap (λ n. Some (n, kinds.Count)) (sym lines.end_line);
}

pub returns : goal.returns
returns c = record {
  is = λ t are is marks lines.
      let read = c.in_ok-secondaries.ensures.is t is (module_end t + 1) t.secondaries are.secondaries.1 lines.secondaries in
      let shifts = c.as_slice-2.ensures.value ∙ c.in_ok-shifts.ensures.is ∙ ap (map degree_of) c.as_slice.ensures.value ∙ told_degrees t c.args.heading.now are is c.requires.ready t.secondaries c.in_ok-secondaries.secondaries.items read.1 in
      let evidence = c.in_ok-evidence.ensures.is t is marks shifts (evidence_begin t + 1) t.evidence are.evidence lines.evidence in
      let others = c.in_ok-irreducibles.ensures.is t is (evidence_end t + 1) t.irreducibles are.irreducibles lines.irreducibles in
      let degrees = c.as_slice-4.ensures.value ∙ c.in_ok-others.ensures.is ∙ ap (map degree_of) c.as_slice-3.ensures.value ∙ told_degrees t c.args.heading.now are is c.requires.ready t.irreducibles c.in_ok-irreducibles.irreducibles.items others.1 in
      let words = c.in_ok-words.ensures.is t is marks degrees (words_begin t + 1) t.words are.words.1 lines.words in
      let worded : c.len.result ≡ length c.in_ok-words.words.items = search rules in
      let many : c.len-2.result ≡ length c.in_ok-secondaries.secondaries.items = search rules in
      let left = worded ∙ read_length (poly_tree (worded_of t) (word_names (length t.primaries) (length t.irreducibles))) (λ x. x) c.in_ok-words.words.items t.words words.1.1 in
      let right = many ∙ read_length (poly_tree (plain_of t) (plain_names t.names)) (λ x. x) c.in_ok-secondaries.secondaries.items t.secondaries read.1.1 in (
        generators_pass t read.0 evidence.0 others.0 words.0 (sym left ∙ c.if-len.false ∙ right),
        record { secondaries = read.1; evidence = evidence.1; irreducibles = others.1; words = words.1 },
      );
}
