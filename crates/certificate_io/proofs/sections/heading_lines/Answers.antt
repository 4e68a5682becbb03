use Rattle.std.proofs.Common.{◌∙◌, ◌+◌, ◌∷◌, ◌++◌, length, map, refl, append-nil, arith}
use Rattle.std.specs.Prelude.{decimal}
use Rattle.certificate_io.specs.PartFaults.{heading_end}
use Rattle.certificate_io.specs.Parts.{lines_in}
use Rattle.certificate_io.specs.Readings.{matrix_text}
use Rattle.certificate_io.specs.Sections.{module_trees}
use Rattle.certificate_io.specs.Syntax.{VersionLine, FieldLine, NamesLine, MatrixLine, OrderLine}
use Rattle.certificate_io.specs.declared.line_kind.LineKind.TheVariants as kinds
use Rattle.certificate_io.proofs.SectionRuns.{in_run, run_of, after_run, renumbered}
use Rattle.certificate_io.proofs.sections.heading_lines.Goals as goal

pub returns-clause-is : goal.returns-clause-is
unfolding lines_in
returns-clause-is c = λ t s.
    let others = OrderLine t.order ∷ module_trees t in
    let v = c.split_line.ensures.is 1 VersionLine (FieldLine t.characteristic ∷ NamesLine t.names ∷ (map MatrixLine t.matrices ++ others)) s in
    let f = c.split_line-2.ensures.is 2 (FieldLine t.characteristic) (NamesLine t.names ∷ (map MatrixLine t.matrices ++ others)) v.1 in
    let n = c.split_line-3.ensures.is 3 (NamesLine t.names) (map MatrixLine t.matrices ++ others) f.1 in
    let m = c.split_run.ensures.is 4 (map MatrixLine t.matrices) others n.1 (in_run MatrixLine kinds.Matrix (λ x. refl) t.matrices) (λ e. absurd cc) in
    let o = c.split_line-4.ensures.is (4 + length t.matrices) (OrderLine t.order) (module_trees t) (after_run MatrixLine 4 t.matrices others c.split_run.result.1 m.1) in (
      record {
        field = f.0 ∙ append-nil (decimal t.characteristic);
        names = n.0;
        matrices = run_of MatrixLine matrix_text (λ x. refl) 4 t.matrices c.split_run.result.0 m.0;
        order = o.0 ∙ append-nil (decimal t.order);
      },
      renumbered (4 + length t.matrices + 1) (heading_end t + 1) (module_trees t) c.split_line-4.result.1 (omega arith) o.1,
    )
