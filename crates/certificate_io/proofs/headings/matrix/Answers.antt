use Rattle.std.proofs.Common.{◌∙◌, ℕ, map, sym, ap}
use Rattle.std.specs.Option.{option_map}
use Rattle.std.specs.Global.{Vec}
use Rattle.certificate_io.specs.Syntax.{cell_text}
use Rattle.certificate_io.proofs.ClassRuns.{size_fault, class_fault, matrix_read, entries_free, entries_counted}
use Rattle.certificate_io.proofs.headings.matrix.Goals as goal

pub returns-then-word_count-n : goal.returns-then-word_count-n
returns-then-word_count-n c = record {
  is = λ cs is same.
      let counted = entries_counted cs c.word_count.result (c.word_count.ensures.is (map cell_text cs) (entries_free cs is) same) in
      sym (size_fault c.args.p c.args.n c.args.line cs (λ e. c.if-word_count-n.true (counted ∙ e)));
}

pub returns-in_default : goal.returns-in_default
returns-in_default c = record {
  is = λ cs is same.
      let counted = entries_counted cs c.word_count.result (c.word_count.ensures.is (map cell_text cs) (entries_free cs is) same) in
      sym (class_fault c.args.p c.args.n c.args.line cs (sym counted ∙ c.if-word_count-n.false)
      (sym (ap (option_map (λ (v : Vec ℕ). v.items)) c.in_default.is) ∙ c.in_ok-cells.ensures.is cs is same));
}

pub returns : goal.returns
returns c = record {
  is = λ cs is same.
      let counted = entries_counted cs c.word_count.result (c.word_count.ensures.is (map cell_text cs) (entries_free cs is) same) in
      matrix_read c.args.p c.args.n c.args.line cs (sym counted ∙ c.if-word_count-n.false) c.in-Some.cells.items is.1
      (sym (ap (option_map (λ (v : Vec ℕ). v.items)) c.in-Some.is) ∙ c.in_ok-cells.ensures.is cs is same);
}
