use Rattle.std.proofs.Common.{Some, sym, ap, subst}
use Rattle.certificate_io.specs.Lines.{bytes_at}
use Rattle.certificate_io.proofs.ClassRuns.{CellsLeft, cells_begin, no_entry, entry_stops, entry_more, entries_end}
use Rattle.certificate_io.proofs.headings.classes_of.Goals as goal

pub loop-rest-init : goal.loop-rest-init
loop-rest-init c = λ cs is same. subst (λ l. CellsLeft c.args.p cs l (Some c.args.text.now)) (sym c.new-classes.ensures.items) (cells_begin c.args.p cs c.args.text.now is same)

pub returns-in_default-cell_of : goal.returns-in_default-cell_of
returns-in_default-cell_of c = record {
  is = λ cs is same.
      let before = subst (CellsLeft c.args.p cs c.loop-rest.classes.items) (ap bytes_at c.in-Some.is) (c.loop-rest.invariant cs is same) in
      absurd (no_entry c.args.p cs c.loop-rest.classes.items c.in-Some.words.now c.split.result.0.now (bytes_at c.split.result.1) before c.split.ensures.is c.in_default-cell_of.ensures.is);
}

pub returns-in_default-class : goal.returns-in_default-class
returns-in_default-class c = record {
  is = λ cs is same.
      let before = subst (CellsLeft c.args.p cs c.loop-rest.classes.items) (ap bytes_at c.in-Some.is) (c.loop-rest.invariant cs is same) in
      entry_stops c.args.p cs c.loop-rest.classes.items c.in-Some.words.now c.split.result.0.now (bytes_at c.split.result.1) before c.split.ensures.is c.in-Some-cell_of.read c.in-Some-cell_of.ensures.is c.in_default-class.ensures.is;
}

pub loop-rest-preserved : goal.loop-rest-preserved
loop-rest-preserved c = λ cs is same.
    let before = subst (CellsLeft c.args.p cs c.loop-rest.classes.items) (ap bytes_at c.in-Some.is) (c.loop-rest.invariant cs is same) in
    subst (λ l. CellsLeft c.args.p cs l (bytes_at c.split.result.1)) (sym c.in_ok-push.ensures.items)
    (entry_more c.args.p cs c.loop-rest.classes.items c.in-Some.words.now c.split.result.0.now (bytes_at c.split.result.1) before c.split.ensures.is c.in-Some-cell_of.read c.in-Some-cell_of.ensures.is c.in-Some-class.value c.in-Some-class.ensures.is)

pub returns : goal.returns
returns c = record {
  is = λ cs is same. entries_end c.args.p cs c.loop-rest.classes.items (subst (CellsLeft c.args.p cs c.loop-rest.classes.items) (ap bytes_at c.in_default.is) (c.loop-rest.invariant cs is same));
}
