use Rattle.std.proofs.Common.{◌≡◌, ap₂}
use Rattle.alg_core.specs.Spaces.{over}
use Rattle.poly_text.proofs.EntrySteps.{field_of}
use Rattle.certificate_io.specs.Lines.{bytes_at}
use Rattle.certificate_io.specs.LineReadings.{member_kind, comb_kind_of, member_tree, IsMemberIn}
use Rattle.certificate_io.specs.Readings.{on_line, poly_kind}
use Rattle.certificate_io.proofs.PartReadings.{first_of_two, second_of_two, both_pass, member_split, member_of}
use Rattle.certificate_io.proofs.ReadingRuns.{error_answers}
use Rattle.certificate_io.proofs.polynomials.member.Goals as goal

pub returns-in_err-u : goal.returns-in_err-u
returns-in_err-u g c = record {
  is = λ x is text.
      let S = over field_of g.O.TermOrder.order c.args.marked.now in
      let T = over field_of g.P.TermOrder.order c.args.combined.now in
      let parts = member_split c.args.text.now c.split.result.0.now (bytes_at c.split.result.1) x c.split.ensures.is is text in
      error_answers c.from_residual.result c.in_err-u.field-0.0 (on_line c.args.line (member_kind S T c.args.names.now x)) (λ y. IsMemberIn S T c.args.names.now y × (member_tree S T c.args.names.now y ≡ x)) c.from_residual.ensures.1
      (first_of_two c.in_err-u.field-0.0 c.args.line (poly_kind S c.args.names.now x.polynomial) (comb_kind_of T x.combination) (c.in_err-u.ensures.is x.polynomial parts.0));
}

pub returns-in_err-comb : goal.returns-in_err-comb
returns-in_err-comb g c = record {
  is = λ x is text.
      let S = over field_of g.O.TermOrder.order c.args.marked.now in
      let T = over field_of g.P.TermOrder.order c.args.combined.now in
      let parts = member_split c.args.text.now c.split.result.0.now (bytes_at c.split.result.1) x c.split.ensures.is is text in
      let told = c.in_ok-u.ensures.is x.polynomial parts.0 in
      error_answers c.from_residual-in_err-comb.result c.in_err-comb.field-0.0 (on_line c.args.line (member_kind S T c.args.names.now x)) (λ y. IsMemberIn S T c.args.names.now y × (member_tree S T c.args.names.now y ≡ x)) c.from_residual-in_err-comb.ensures.1
      (second_of_two c.in_err-comb.field-0.0 c.args.line (poly_kind S c.args.names.now x.polynomial) (comb_kind_of T x.combination) told.0 (c.in_err-comb.ensures.is x.combination is.combination parts.1));
}

pub returns : goal.returns
returns g c = record {
  is = λ x is text.
      let S = over field_of g.O.TermOrder.order c.args.marked.now in
      let T = over field_of g.P.TermOrder.order c.args.combined.now in
      let parts = member_split c.args.text.now c.split.result.0.now (bytes_at c.split.result.1) x c.split.ensures.is is text in
      let told = c.in_ok-u.ensures.is x.polynomial parts.0 in
      let after = c.in_ok-comb.ensures.is x.combination is.combination parts.1 in (
        both_pass c.args.line (poly_kind S c.args.names.now x.polynomial) (comb_kind_of T x.combination) told.0 after.0,
        (record { polynomial = told.1.0; combination = after.1.0 }, ap₂ (λ u v. member_of u v) told.1.1 after.1.1),
      );
}
